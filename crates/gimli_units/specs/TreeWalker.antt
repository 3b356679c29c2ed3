-- Where a walker over a tree stands, and what its steps do to it (DWARF 5, 2.3).
use Rattle.std.specs.Prelude.{◌≡◌, ℕ, ◌<◌, ◌^◌, ℤ, unsigned_abs, Bool, true, false, [], ◌∷◌, Option}
use Rattle.std.specs.Prelude.{Some, None, Result, Ok, Err}
use Rattle.gimli_base.specs.declared.error.Error.{Error}
use Rattle.gimli_base.specs.View.{View}
use Rattle.gimli_units.specs.declared.entry.DebuggingInformationEntry.{DebuggingInformationEntry}
use Rattle.gimli_units.specs.Entry.{entry_of, is_null}
use Rattle.gimli_units.specs.TreePlace.{Node, Lists, TreePlace, StepAnswer, a_node, list_end, has_entered}
use Rattle.gimli_units.specs.TreePlace.{has_left, no_node, a_fault, TreeMoved, children_of}
use Rattle.gimli_units.specs.CursorModel.{IsHonestFor}
use Rattle.gimli_units.specs.TreeMoves.{TreeView, node_at, on_node, in_lists, IsTree, HasGoneOn}

-- Where a walker stands: its tree, whether that stands on a node, and the lists that were entered,
-- the innermost first.
pub record Standing : Type 0 where
  pub tree : TreeView
  pub is_on : Bool
  pub lists : Lists

abbrev pub at_node : TreeView → Lists → Standing
at_node t lists = record { tree = t; is_on = true; lists = lists }

abbrev pub at_none : TreeView → Lists → Standing
at_none t lists = record { tree = t; is_on = false; lists = lists }

-- its place
abbrev pub standing_place : ℕ → Standing → TreePlace
standing_place limit s =
    elim s.is_on [ true ↦ on_node limit s.tree s.lists | false ↦ in_lists limit s.tree s.lists ]

-- the node that it stands on
abbrev pub standing_node : Standing → Option Node
standing_node s = elim s.is_on [ true ↦ Some (node_at s.tree) | false ↦ None ]

-- an entry that code holds, as a node
abbrev pub node_held : {R A O : Type 0} → (R → View) → (O → ℕ) → DebuggingInformationEntry R A O
    → Node
node_held f g e = record { entry = entry_of f g e; offset = g e.offset.0; depth = e.depth }

-- the depth of a list that is open is not the least of its type
abbrev pub IsShallow : Option ℤ → Type 0
IsShallow None = Unit {0}
IsShallow (Some depth) = unsigned_abs depth < 2 ^ 63

abbrev pub AreShallow : Lists → Type 0
AreShallow [] = Unit {0}
AreShallow (list ∷ outer) = IsShallow list × AreShallow outer

-- what holds of every walker: of its tree, of its lists, and that the node it stands on is no null
pub record IsWalker (s : Standing) : Type 0 where
  pub tree : IsTree s.tree
  pub shallow : AreShallow s.lists
  pub node : s.is_on ≡ true → is_null s.tree.cursor.entry ≡ false

-- Root: what is answered, and where the walker then stands
abbrev pub begun_answer : Result (Unit {0}) Error → TreeView → StepAnswer
begun_answer (Ok u) t = a_node (node_at t)
begun_answer (Err e) t = a_fault e

abbrev pub after_begun : Result (Unit {0}) Error → TreeView → Standing
after_begun (Ok u) t = at_node t []
after_begun (Err e) t = at_none t []

-- Next: one list was asked for its next node
abbrev pub WasAsked : ℕ → Option ℤ → TreeView → Result Bool Error → TreeView → Type 0
WasAsked limit None old outcome new = (outcome ≡ Ok false) × (new ≡ old)
WasAsked limit (Some depth) old outcome new = HasGoneOn limit depth old outcome new

-- what it answered, and where the walker then stands
abbrev pub asked_answer : Result Bool Error → TreeView → StepAnswer
asked_answer (Ok true) t = a_node (node_at t)
asked_answer (Ok false) t = list_end
asked_answer (Err e) t = a_fault e

abbrev pub after_asked : Option ℤ → Lists → Result Bool Error → TreeView → Standing
after_asked list outer (Ok true) t = at_node t (list ∷ outer)
after_asked list outer (Ok false) t = at_none t (None ∷ outer)
after_asked list outer (Err e) t = at_none t (list ∷ outer)

-- The innermost of these lists was asked for its next node; where there is none, nothing moved.
abbrev pub HasAskedOne : ℕ → Lists → Standing → Result Bool Error → Standing → Type 0
HasAskedOne limit [] old outcome new = (outcome ≡ Ok false) × (new ≡ old)
HasAskedOne limit (list ∷ outer) old outcome new =
    WasAsked limit list old.tree outcome new.tree × (new ≡ after_asked list outer outcome new.tree)

-- what that answered
abbrev pub walker_answer : Lists → Result Bool Error → TreeView → StepAnswer
walker_answer [] outcome t = no_node
walker_answer (list ∷ outer) outcome t = asked_answer outcome t

-- what is asked of the references where the innermost list is asked
abbrev pub IsHonestIn : ℕ → Lists → TreeView → Type 0
IsHonestIn limit [] t = Unit {0}
IsHonestIn limit (None ∷ outer) t = Unit {0}
IsHonestIn limit (Some depth ∷ outer) t = IsHonestFor limit depth t.cursor

-- Enter: the list of the node's children is the innermost
abbrev pub entered_from : Standing → Standing
entered_from s = elim s.is_on
    [ true ↦ at_none s.tree (children_of (node_at s.tree) ∷ s.lists) | false ↦ s ]

-- Leave: the innermost list is dropped
abbrev pub left_from : Lists → Standing → Standing
left_from [] s = s
left_from (list ∷ outer) s = at_none s.tree outer

abbrev pub are_some : Lists → Bool
are_some [] = false
are_some (list ∷ outer) = true

-- what a step answers, and where it leads
abbrev pub moved_to : ℕ → StepAnswer → Standing → TreeMoved
moved_to limit answer s = record { answer = answer; place = standing_place limit s }

abbrev pub entered_answer : Bool → StepAnswer
entered_answer true = has_entered
entered_answer false = no_node

abbrev pub left_answer : Bool → StepAnswer
left_answer true = has_left
left_answer false = no_node
