-- What holds of the answers of a tree's run, whatever the references (DWARF 5, 2.3).
use Rattle.std.specs.Prelude.{◌≡◌, ℕ, ◌<◌, ◌≤◌, ℤ, pos, Bool, true, false, if◌then◌else◌, List, []}
use Rattle.std.specs.Prelude.{◌∷◌, length, Option, Some, None, Result, Ok, Err}
use Rattle.gimli_base.specs.declared.error.Error.{Error}
use Rattle.gimli_base.specs.View.{View}
use Rattle.gimli_base.specs.Abbreviations.{Map}
use Rattle.gimli_units.specs.Entry.{Entry, is_null}
use Rattle.gimli_units.specs.RawPlace.{depth_after}
use Rattle.gimli_units.specs.Rows.{Ahead, offset_of_view}
use Rattle.gimli_units.specs.Unit.{UnitView, whole_length, in_bounds, unit_read_at, unit_entry_at}
use Rattle.gimli_units.specs.Unit.{IsUnreadAt}
use Rattle.gimli_units.specs.Honest.{usable_target}
use Rattle.gimli_units.specs.CursorPlace.{first_of_rows, next_offset}
use Rattle.gimli_units.specs.TreePlace.{Node, Lists, TreePlace, StepAnswer, a_node, list_end, has_entered}
use Rattle.gimli_units.specs.TreePlace.{has_left, no_node, a_fault, to_root, to_next, found_in}
use Rattle.gimli_walk.specs.declared.tree.TreeStep.{TreeStep}
use Rattle.gimli_walk.specs.declared.tree.TreeStep.TheVariants.{Root, Next, Enter, Leave}
use Rattle.gimli_walk.specs.Runs.{RunAnswers, IsRunOf}
use Rattle.gimli_units.specs.UnitRows.{unit_rows_at, unit_rows_from, IsHonestAt}
use Rattle.gimli_walk.specs.Cursors.{IsStopped}
use Rattle.gimli_walk.specs.TrueAnswers.{IsHonestAhead}
use Rattle.gimli_walk.specs.Trees.{tree_step, before_steps, tree_answers_at}

-- An answer is one that its step can give, and true whatever the references: a node's entry is what
-- the unit has at its offset; what is refused stands in the bounds of the unit; a null is refused
-- as a root alone.
abbrev pub IsTrueStepAnswer : ℕ → UnitView → Map → TreeStep → StepAnswer → Type 0
IsTrueStepAnswer limit u declared Root (a_node n) =
    unit_entry_at limit u declared n.offset ≡ Ok n.entry
IsTrueStepAnswer limit u declared Root (a_fault e) =
    (offset : ℕ) × (in_bounds u offset ≡ true) × (unit_entry_at limit u declared offset ≡ Err e)
IsTrueStepAnswer limit u declared Root answer = ⊥
IsTrueStepAnswer limit u declared Next (a_node n) =
    unit_entry_at limit u declared n.offset ≡ Ok n.entry
IsTrueStepAnswer limit u declared Next (a_fault e) =
    (offset : ℕ) × IsUnreadAt limit u declared offset e
IsTrueStepAnswer limit u declared Next list_end = Unit {0}
IsTrueStepAnswer limit u declared Next no_node = Unit {0}
IsTrueStepAnswer limit u declared Next answer = ⊥
IsTrueStepAnswer limit u declared Enter has_entered = Unit {0}
IsTrueStepAnswer limit u declared Enter no_node = Unit {0}
IsTrueStepAnswer limit u declared Enter answer = ⊥
IsTrueStepAnswer limit u declared Leave has_left = Unit {0}
IsTrueStepAnswer limit u declared Leave no_node = Unit {0}
IsTrueStepAnswer limit u declared Leave answer = ⊥

-- each answer is
abbrev pub AreTrueStepAnswers : ℕ → UnitView → Map → List TreeStep → List StepAnswer → Type 0
AreTrueStepAnswers limit u declared steps [] = Unit {0}
AreTrueStepAnswers limit u declared [] (a ∷ rest) = ⊥
AreTrueStepAnswers limit u declared (s ∷ steps) (a ∷ rest) =
    IsTrueStepAnswer limit u declared s a × AreTrueStepAnswers limit u declared steps rest

abbrev pub is_root : TreeStep → Bool
is_root Root = true
is_root Next = false
is_root Enter = false
is_root Leave = false

abbrev pub is_next : TreeStep → Bool
is_next Root = false
is_next Next = true
is_next Enter = false
is_next Leave = false

-- Each Root answers the root.
abbrev pub AreRoots : StepAnswer → List TreeStep → List StepAnswer → Type 0
AreRoots root steps [] = Unit {0}
AreRoots root [] (a ∷ rest) = Unit {0}
AreRoots root (s ∷ steps) (a ∷ rest) = (is_root s ≡ true → a ≡ root) × AreRoots root steps rest

-- the root of a tree, which begins at a view
abbrev pub root_at : ℕ → UnitView → Map → View → StepAnswer
root_at limit u declared v =
    (to_root (whole_length u) (unit_rows_at limit u declared (pos 0) v)).answer

-- the offset of the last node since the last root
abbrev pub last_node : Option ℕ → TreeStep → StepAnswer → Option ℕ
last_node last s (a_node n) = Some n.offset
last_node last s answer = if is_root s then None else last

-- a node lies past the last one, but for a root
abbrev pub IsPast : ℕ → StepAnswer → Type 0
IsPast last (a_node n) = last < n.offset
IsPast last answer = Unit {0}

abbrev pub IsPastLast : Option ℕ → TreeStep → StepAnswer → Type 0
IsPastLast last s a =
    elim last [ None ↦ Unit {0} | Some offset ↦ is_root s ≡ false → IsPast offset a ]

-- From a root to the next the offsets of nodes strictly grow; `last` is that of the last node.
abbrev pub AreGrowing : Option ℕ → List TreeStep → List StepAnswer → Type 0
AreGrowing last [] all = Unit {0}
AreGrowing last (s ∷ steps) [] = Unit {0}
AreGrowing last (s ∷ steps) (a ∷ all) =
    IsPastLast last s a × AreGrowing (last_node last s a) steps all

-- A node that Next gave, and the answer of the Next straight after it: where the entry that stands
-- at its offset has a reference that can be followed, it is followed, and what stands there is
-- answered, at the node's depth.
abbrev pub IsTakenFrom : ℕ → UnitView → Map → StepAnswer → StepAnswer → Type 0
IsTakenFrom limit u declared (a_node n) b =
    (e : Entry) (w : View) (t : ℕ) → Ok (e, w) ≡ unit_read_at limit u declared n.offset
    → usable_target (whole_length u)
    (record {
      offset = n.offset;
      next = offset_of_view (whole_length u) w;
      depth = n.depth;
      entry = e;
    }) ≡ Some t
    → b
    ≡ (found_in n.depth []
    (first_of_rows (whole_length u) n.depth n.offset
    (unit_rows_from limit u declared t n.depth))).answer
IsTakenFrom limit u declared answer b = Unit {0}

-- `before` is the answer of the step before, if that was Next
abbrev pub IsTakenAfter : ℕ → UnitView → Map → Option StepAnswer → TreeStep → StepAnswer → Type 0
IsTakenAfter limit u declared before s b =
    elim before [ None ↦ Unit {0} | Some a ↦ is_next s ≡ true → IsTakenFrom limit u declared a b ]

-- references are followed, from each Next to the Next straight after it
abbrev pub AreTakenAfter : ℕ → UnitView → Map → Option StepAnswer → List TreeStep
    → List StepAnswer → Type 0
AreTakenAfter limit u declared before [] all = Unit {0}
AreTakenAfter limit u declared before (s ∷ steps) [] = Unit {0}
AreTakenAfter limit u declared before (s ∷ steps) (a ∷ all) =
    IsTakenAfter limit u declared before s a
    × AreTakenAfter limit u declared (if is_next s then Some a else None) steps all

-- Where a run stands: its place, and the entry that was read last; none after a null, the end of a
-- list or a refusal.
pub record Reached : Type 0 where
  pub place : TreePlace
  pub last : Option Node

-- before the first step nothing was read
abbrev pub before_all : Ahead → Reached
before_all rows = record { place = before_steps rows; last = None }

-- An open list of this depth, in lists around it, was asked for its next node, whatever the
-- references: a node is an entry of that depth that stands ahead, and what is read next is after
-- it; the list ends with a null of that depth that stands ahead, or where nothing is left; what is
-- refused stands ahead, and nothing is left after it.
pub data IsListFound (limit : ℕ) (u : UnitView) (declared : Map) (depth : ℤ) (outer : Lists)
    (old : Reached) (answer : StepAnswer) (new : Reached) : Type 0 where
  true_node : (n : Node) (rest : View) → answer ≡ a_node n → next_offset old.place.ahead ≤ n.offset
      → n.depth ≡ depth → is_null n.entry ≡ false
      → Ok (n.entry, rest) ≡ unit_read_at limit u declared n.offset
      → new
      ≡ record {
        place =
            record {
              ahead = unit_rows_at limit u declared (depth_after n.entry n.depth) rest;
              node = Some n;
              lists = Some depth ∷ outer;
            };
        last = Some n;
      }
      → IsListFound limit u declared depth outer old answer new
  true_null : (e : Entry) (offset : ℕ) (rest : View) → answer ≡ list_end
      → next_offset old.place.ahead ≤ offset → is_null e ≡ true
      → Ok (e, rest) ≡ unit_read_at limit u declared offset
      → new
      ≡ record {
        place =
            record {
              ahead = unit_rows_at limit u declared (depth_after e depth) rest;
              node = None;
              lists = None ∷ outer;
            };
        last = None;
      }
      → IsListFound limit u declared depth outer old answer new
  true_end : (deep : ℤ) → answer ≡ list_end
      → new
      ≡ record {
        place =
            record {
              ahead = unit_rows_from limit u declared (whole_length u) deep;
              node = None;
              lists = None ∷ outer;
            };
        last = None;
      }
      → IsListFound limit u declared depth outer old answer new
  true_fault : (e : Error) (offset : ℕ) (deep : ℤ) → answer ≡ a_fault e
      → next_offset old.place.ahead ≤ offset → IsUnreadAt limit u declared offset e
      → new
      ≡ record {
        place =
            record {
              ahead = unit_rows_from limit u declared (whole_length u) deep;
              node = None;
              lists = Some depth ∷ outer;
            };
        last = None;
      }
      → IsListFound limit u declared depth outer old answer new

-- An open list was asked for its next node: where the references are honest, that is the
-- definition's; and where the entry that was read last has the list's depth and a reference that
-- can be followed, what stands there.
pub record IsListNext (limit : ℕ) (u : UnitView) (declared : Map) (depth : ℤ) (outer : Lists)
    (old : Reached) (answer : StepAnswer) (new : Reached) : Type 0 where
  pub is : IsHonestAhead (whole_length u) depth old.last old.place.ahead
      → record { answer = answer; place = new.place } ≡ to_next (whole_length u) old.place
  pub there : (n : Node) → old.last ≡ Some n → n.depth ≡ depth → (t : ℕ)
      → usable_target (whole_length u)
      (record {
        offset = n.offset;
        next = next_offset old.place.ahead;
        depth = n.depth;
        entry = n.entry;
      }) ≡ Some t
      → record { answer = answer; place = new.place }
      ≡ found_in depth outer
      (first_of_rows (whole_length u) depth n.offset (unit_rows_from limit u declared t depth))
  pub found : IsListFound limit u declared depth outer old answer new

-- a step that is the definition's whatever the references, after which this was read last
abbrev pub IsMoved : UnitView → Ahead → TreeStep → Reached → StepAnswer → Reached → Option Node
    → Type 0
IsMoved u rows s old answer new last =
    (record { answer = answer; place = new.place } ≡ tree_step (whole_length u) rows s old.place)
    × (new.last ≡ last)

-- A step: the next node of an open list as above, and each other as the definition says.
abbrev pub IsTurned : ℕ → UnitView → Map → Ahead → TreeStep → Reached → StepAnswer → Reached
    → Type 0
IsTurned limit u declared rows Root old answer new =
    (record { answer = answer; place = new.place } ≡ tree_step (whole_length u) rows Root old.place)
    × ((n : Node) → answer ≡ a_node n → new.last ≡ Some n)
IsTurned limit u declared rows Next old answer new = elim old.place.lists [
  | [] ↦ IsMoved u rows Next old answer new old.last
  | list ∷ outer ↦ elim list [
    | None ↦ IsMoved u rows Next old answer new old.last
    | Some depth ↦ IsListNext limit u declared depth outer old answer new
  ]
]
IsTurned limit u declared rows Enter old answer new = IsMoved u rows Enter old answer new old.last
IsTurned limit u declared rows Leave old answer new = IsMoved u rows Leave old answer new old.last

-- The answers of these steps: each leads from where the one before stood to where the next begins.
abbrev pub AreTurned : ℕ → UnitView → Map → Ahead → Reached → List TreeStep → List StepAnswer
    → Type 0
AreTurned limit u declared rows r [] all = Unit {0}
AreTurned limit u declared rows r (s ∷ steps) [] = Unit {0}
AreTurned limit u declared rows r (s ∷ steps) (a ∷ all) =
    (new : Reached) × IsTurned limit u declared rows s r a new
    × AreTurned limit u declared rows new steps all

-- the same of a tree that begins at a view
abbrev pub AreTurnedFrom : ℕ → UnitView → Map → View → List TreeStep → List StepAnswer → Type 0
AreTurnedFrom limit u declared v steps all =
    let rows : Ahead = unit_rows_at limit u declared (pos 0) v in
    AreTurned limit u declared rows (before_all rows) steps all

-- What a run of these steps in a tree whose entries are those from a view on tells. They are the
-- definition's answers where the rows are honest; and whatever the references each is true, and
-- that of its step.
pub record HasTreeRunOver (limit : ℕ) (u : UnitView) (declared : Map) (steps : List TreeStep)
    (v : View) (run : RunAnswers StepAnswer) : Type 0 where
  pub answers : IsHonestAt limit u declared v
      → IsRunOf run (tree_answers_at limit u declared steps v)
  pub are_true : AreTrueStepAnswers limit u declared steps run.answers
  pub are_roots : AreRoots (root_at limit u declared v) steps run.answers
  pub are_turned : AreTurnedFrom limit u declared v steps run.answers
  pub are_growing : AreGrowing None steps run.answers
  pub are_taken : AreTakenAfter limit u declared None steps run.answers
  pub stopped : IsStopped run.stopped (length run.answers) (length steps)

-- the same from a start, which may be refused
abbrev pub IsTreeRunFrom : ℕ → UnitView → Map → List TreeStep → Result View Error
    → Result (RunAnswers StepAnswer) Error → Type 0
IsTreeRunFrom limit u declared steps (Ok v) (Ok run) = HasTreeRunOver limit u declared steps v run
IsTreeRunFrom limit u declared steps (Ok v) (Err x) = ⊥
IsTreeRunFrom limit u declared steps (Err e) (Ok run) = ⊥
IsTreeRunFrom limit u declared steps (Err e) (Err x) = x ≡ e
