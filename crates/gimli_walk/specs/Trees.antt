-- The answers of a list of steps of a tree, and their text (DWARF 5, 2.3).
use Rattle.std.specs.Prelude.{ℕ, ℤ, pos, Bool, true, false, if◌then◌else◌, ◌++◌, List, [], ◌∷◌, map}
use Rattle.std.specs.Prelude.{codes, unwrap_or, Option, None, Result, Ok, Err}
use Rattle.std.specs.List.{list_any}
use Rattle.gimli_base.specs.declared.error.Error.{Error}
use Rattle.gimli_base.specs.Offset.{answer_of}
use Rattle.gimli_base.specs.Refusal.{number_of}
use Rattle.gimli_base.specs.View.{View}
use Rattle.gimli_base.specs.Abbreviations.{Map}
use Rattle.gimli_units.specs.Entry.{entry_of}
use Rattle.gimli_units.specs.Rows.{Ahead}
use Rattle.gimli_units.specs.Unit.{UnitView, whole_length, header_size, range_from}
use Rattle.gimli_units.specs.TreePlace.{TreePlace, StepAnswer, a_node, list_end, has_entered, has_left}
use Rattle.gimli_units.specs.TreePlace.{no_node, a_fault, TreeMoved, to_root, to_next, to_enter}
use Rattle.gimli_units.specs.TreePlace.{to_leave}
use Rattle.gimli_walk.specs.declared.tree.TreeAnswer.{TreeAnswer}
use Rattle.gimli_walk.specs.declared.tree.TreeAnswer.TheVariants.{Node as NodeAnswer, End, Entered}
use Rattle.gimli_walk.specs.declared.tree.TreeAnswer.TheVariants.{Left, NoNode, Fault}
use Rattle.gimli_walk.specs.declared.tree.TreeStep.{TreeStep}
use Rattle.gimli_walk.specs.declared.tree.TreeStep.TheVariants.{Root, Next, Enter, Leave}
use Rattle.gimli_units.specs.UnitRows.{unit_rows_at}
use Rattle.gimli_walk.specs.Lines.{Text, row_line, end_line, error_line, one_line}

-- an answer that code holds, by what its readers and offsets stand for
abbrev pub step_answer_by : {R A O : Type 0} → (R → View) → (O → ℕ) → TreeAnswer R A O → StepAnswer
step_answer_by f g (NodeAnswer e) =
    a_node (record { entry = entry_of f g e; offset = g e.offset.0; depth = e.depth })
step_answer_by f g End = list_end
step_answer_by f g Entered = has_entered
step_answer_by f g Left = has_left
step_answer_by f g NoNode = no_node
step_answer_by f g (Fault e) = a_fault e

abbrev pub step_answers_by : {R A O : Type 0} → (R → View) → (O → ℕ)
    → List (TreeAnswer R A O) → List StepAnswer
step_answers_by f g answers = map (step_answer_by f g) answers

-- one step; `end` is the offset of the end of the bytes, and `rows` are all of the tree's
abbrev pub tree_step : ℕ → Ahead → TreeStep → TreePlace → TreeMoved
tree_step end rows Root p = to_root end rows
tree_step end rows Next p = to_next end p
tree_step end rows Enter p = to_enter p
tree_step end rows Leave p = to_leave p

-- the answers to these steps, in their order, from a place
abbrev pub tree_answers : ℕ → Ahead → List TreeStep → TreePlace → List StepAnswer
tree_answers end rows [] p = []
tree_answers end rows (s ∷ rest) p =
    (tree_step end rows s p).answer ∷ tree_answers end rows rest (tree_step end rows s p).place

-- before the first step there is no node and no list
abbrev pub before_steps : Ahead → TreePlace
before_steps rows = record { ahead = rows; node = None; lists = [] }

-- the answers of a run over these steps, in a tree whose entries are those from a view on
abbrev pub tree_answers_at : ℕ → UnitView → Map → List TreeStep → View → List StepAnswer
tree_answers_at limit u declared steps v =
    let rows : Ahead = unit_rows_at limit u declared (pos 0) v in
    tree_answers (whole_length u) rows steps (before_steps rows)

-- the bytes of a tree's entries: from an offset on, or from the first; refused where there is none
abbrev pub tree_view : UnitView → Option ℕ → Result View Error
tree_view u start = range_from u (unwrap_or start (header_size u))

-- the answers of a run from a start, which may be refused
abbrev pub run_tree_answers : ℕ → UnitView → Map → Option ℕ → List TreeStep
    → Result (List StepAnswer) Error
run_tree_answers limit u declared start steps =
    answer_of (tree_answers_at limit u declared steps) (tree_view u start)

-- the line of a node
unfoldable pub node_line : ℕ → ℤ → ℕ → Bool → List ℕ
node_line offset depth tag has_children = codes "node " ++ row_line offset depth tag has_children

-- the line of an answer
unfoldable pub step_answer_line : StepAnswer → List ℕ
step_answer_line (a_node n) = node_line n.offset n.depth n.entry.tag.0 n.entry.has_children
step_answer_line list_end = end_line
step_answer_line has_entered = codes "entered\n"
step_answer_line has_left = codes "left\n"
step_answer_line no_node = codes "nonode\n"
step_answer_line (a_fault e) = error_line (number_of e)

abbrev pub is_fault : StepAnswer → Bool
is_fault (a_fault e) = true
is_fault answer = false

-- a line an answer; the status is 1 where one is a refusal
abbrev pub step_answers_text : List StepAnswer → Text
step_answers_text all =
    record { lines = map step_answer_line all; status = if list_any is_fault all then 1 else 0 }

-- the text of a run, which may be refused
abbrev pub run_text_of : Result (List StepAnswer) Error → Text
run_text_of (Ok all) = step_answers_text all
run_text_of (Err e) = one_line (error_line (number_of e)) 1
