-- The answers of a list of steps of a cursor, and their text (DWARF 5, 2.3).
use Rattle.std.specs.Prelude.{◌≡◌, ℕ, ◌<◌, ℤ, pos, Bool, true, false, ◌||◌, if◌then◌else◌, ◌++◌}
use Rattle.std.specs.Prelude.{List, [], ◌∷◌, map, codes, Option, Some, None, IfSome, Result, Ok}
use Rattle.std.specs.Prelude.{Err, ◌⊎◌}
use Rattle.std.specs.Fmt.{decimal}
use Rattle.std.specs.List.{list_any}
use Rattle.std.specs.Result.{is_err}
use Rattle.std.specs.Option.{option_map}
use Rattle.gimli_base.specs.declared.error.Error.{Error}
use Rattle.gimli_base.specs.Offset.{answer_of}
use Rattle.gimli_base.specs.Refusal.{number_of}
use Rattle.gimli_base.specs.View.{View}
use Rattle.gimli_base.specs.Abbreviations.{Map}
use Rattle.gimli_units.specs.Entry.{Entry, entry_of}
use Rattle.gimli_units.specs.Rows.{Ahead}
use Rattle.gimli_units.specs.Unit.{UnitView, whole_length}
use Rattle.gimli_units.specs.UnitRows.{unit_rows_at, start_view}
use Rattle.gimli_units.specs.CursorPlace.{Place, Moved, next_row, next_in_depth_first_order}
use Rattle.gimli_units.specs.CursorPlace.{next_of_depth, next_offset, next_depth}
use Rattle.gimli_walk.specs.declared.cursor.CursorAnswer.{CursorAnswer}
use Rattle.gimli_walk.specs.declared.cursor.CursorStep.{CursorStep}
use Rattle.gimli_walk.specs.declared.cursor.CursorStep.TheVariants.{NextEntry, NextDfs, NextSibling}
use Rattle.gimli_walk.specs.Lines.{Text, row_line}

-- what a step answers, and where the cursor then stands; the pair is that of the current entry,
-- where there is one
pub record Answer : Type 0 where
  pub outcome : Result Bool Error
  pub current : Option Entry
  pub offset : ℕ
  pub depth : ℤ
  pub next_offset : ℕ
  pub next_depth : ℤ

-- an answer that code holds, by what its readers and offsets stand for
abbrev pub answer_held : {R A O : Type 0} → (R → View) → (O → ℕ) → CursorAnswer R A O → Answer
answer_held f g a = record {
  outcome = a.outcome;
  current = option_map (entry_of f g) a.current;
  offset = g a.offset.0;
  depth = a.depth;
  next_offset = g a.next_offset.0;
  next_depth = a.next_depth;
}

-- the entry of an answer, if there is one, has the answer's own offset and depth
abbrev pub IsPaired : {R A O : Type 0} → (O → ℕ) → CursorAnswer R A O → Type 0
IsPaired g a = IfSome a.current (λ e. (g e.offset.0 ≡ g a.offset.0) × (e.depth ≡ a.depth))

abbrev pub step_of : ℕ → CursorStep → Place → Moved
step_of end NextEntry p = next_row end p
step_of end NextDfs p = next_in_depth_first_order end p
step_of end NextSibling p = next_of_depth end p

abbrev pub answer_of_move : Moved → Answer
answer_of_move m = record {
  outcome = m.outcome;
  current = m.place.current;
  offset = m.place.offset;
  depth = m.place.depth;
  next_offset = next_offset m.place.ahead;
  next_depth = next_depth m.place.ahead;
}

-- the answers of these steps, in their order, from a place; `end` is the offset of the end of the
-- bytes
abbrev pub answers : ℕ → List CursorStep → Place → List Answer
answers end [] p = []
answers end (s ∷ rest) p = answer_of_move (step_of end s p) ∷ answers end rest
    (step_of end s p).place

-- where a cursor stands before its first step
abbrev pub start_of : Ahead → Place
start_of a = record { ahead = a; current = None; offset = 0; depth = pos 0 }

-- the answers of a run over these steps from a view on
abbrev pub answers_at : ℕ → UnitView → Map → List CursorStep → View → List Answer
answers_at limit u declared steps v =
    answers (whole_length u) steps (start_of (unit_rows_at limit u declared (pos 0) v))

-- this holds of the bytes from a start on, which is not refused
abbrev pub HoldsFrom : Result View Error → (View → Type 0) → Type 0
HoldsFrom (Ok v) P = P v
HoldsFrom (Err e) P = ⊥

-- the answers of a run from a start, which may be refused
abbrev pub run_answers : ℕ → UnitView → Map → Option ℕ → List CursorStep
    → Result (List Answer) Error
run_answers limit u declared start steps =
    answer_of (answers_at limit u declared steps) (start_view u start)

abbrev pub is_sibling : CursorStep → Bool
is_sibling NextEntry = false
is_sibling NextDfs = false
is_sibling NextSibling = true

-- whether a step among these looks for a sibling
abbrev pub any_sibling : List CursorStep → Bool
any_sibling [] = false
any_sibling (s ∷ rest) = is_sibling s || any_sibling rest

-- a run was stopped before its last answer, or has an answer to each step
abbrev pub IsStopped : Bool → ℕ → ℕ → Type 0
IsStopped true count steps = count < steps
IsStopped false count steps = count ≡ steps

-- the lines of a run that was stopped before its last answer, or before any, or of one that was not
abbrev pub IsCut : Bool → ℕ → ℕ → Type 0
IsCut true count steps = (count < steps) ⊎ (count ≡ 0)
IsCut false count steps = count ≡ steps

-- what a step answered, before the row that it ended on
unfoldable pub outcome_text : Result Bool Error → List ℕ
outcome_text (Ok true) = codes "yes "
outcome_text (Ok false) = codes "no "
outcome_text (Err e) = codes "error " ++ (decimal (number_of e) ++ (32 ∷ []))

abbrev pub tag_of : Option Entry → ℕ
tag_of None = 0
tag_of (Some e) = e.tag.0

abbrev pub children_flag_of : Option Entry → Bool
children_flag_of None = false
children_flag_of (Some e) = e.has_children

-- the outcome, and the pair with the tag and the children flag of the current entry, both 0 where
-- there is none
abbrev pub answer_line : Answer → List ℕ
answer_line a = outcome_text a.outcome
    ++ row_line a.offset a.depth (tag_of a.current) (children_flag_of a.current)

-- 1 where one of these answers is a refusal
abbrev pub status_of : List Answer → ℕ
status_of all = if list_any (λ a. is_err a.outcome) all then 1 else 0

-- a line an answer; the status is 1 where one is a refusal
abbrev pub answers_text : List Answer → Text
answers_text all = record { lines = map answer_line all; status = status_of all }
