-- A place in the tree of a unit's entries, and the answer of each step (DWARF 5, 2.3).
use Rattle.std.specs.Prelude.{ℕ, ℤ, pos, ◌+ℤ◌, if◌then◌else◌, List, [], ◌∷◌, Option, Some, None, Ok}
use Rattle.std.specs.Prelude.{Err}
use Rattle.gimli_base.specs.declared.error.Error.{Error}
use Rattle.gimli_base.specs.declared.error.Error.TheVariants.{NoEntryAtGivenOffset}
use Rattle.gimli_units.specs.Entry.{Entry}
use Rattle.gimli_units.specs.Rows.{Ahead}
use Rattle.gimli_units.specs.CursorPlace.{Place, Moved, seek, first_of_rows}

-- an entry, with its offset and its depth below the root
pub record Node : Type 0 where
  pub entry : Entry
  pub offset : ℕ
  pub depth : ℤ

-- the lists of children that were entered, the innermost first: the depth of the list's rows while
-- it is open, and none when it is closed
abbrev pub Lists : Type 0
Lists = List (Option ℤ)

-- A place: the rows that are ahead of the last one that was read, the node, if there is one, and
-- the lists.
pub record TreePlace : Type 0 where
  pub ahead : Ahead
  pub node : Option Node
  pub lists : Lists

-- what a step answers
pub data StepAnswer : Type 0 where
  a_node : Node → StepAnswer
  list_end : StepAnswer
  has_entered : StepAnswer
  has_left : StepAnswer
  no_node : StepAnswer
  a_fault : Error → StepAnswer

-- what a step answers, and where it leads
pub record TreeMoved : Type 0 where
  pub answer : StepAnswer
  pub place : TreePlace

-- the node where a search over the rows ended, if it ended on an entry
abbrev pub node_of : Place → Option Node
node_of p = elim p.current [
  | None ↦ None
  | Some e ↦ Some (record { entry = e; offset = p.offset; depth = p.depth })
]

-- the first row was looked at: it is the root; a null is refused, and so is what can't be read
abbrev pub at_root : Moved → TreeMoved
at_root m = elim m.outcome [
  | Err e ↦
      record {
        answer = a_fault e;
        place = record { ahead = m.place.ahead; node = None; lists = [] };
      }
  | Ok b ↦ elim (node_of m.place) [
    | None ↦
        record {
          answer = a_fault (NoEntryAtGivenOffset m.place.offset);
          place = record { ahead = m.place.ahead; node = None; lists = [] };
        }
    | Some n ↦
        record {
          answer = a_node n;
          place = record { ahead = m.place.ahead; node = Some n; lists = [] };
        }
  ]
]

-- Root: the first of a unit's rows, and no list. `end` is the offset of the end of the bytes.
unfoldable pub to_root : ℕ → Ahead → TreeMoved
to_root end rows = at_root (first_of_rows end (pos 0) 0 rows)

-- A row of an open list's depth was sought: an entry is the node, and a null, or the end of the
-- bytes, closes the list. After a refusal no row is ahead, so that every list ends.
abbrev pub found_in : ℤ → Lists → Moved → TreeMoved
found_in depth outer m = elim m.outcome [
  | Err e ↦
      record {
        answer = a_fault e;
        place = record { ahead = m.place.ahead; node = None; lists = Some depth ∷ outer };
      }
  | Ok b ↦ elim (node_of m.place) [
    | None ↦
        record {
          answer = list_end;
          place = record { ahead = m.place.ahead; node = None; lists = None ∷ outer };
        }
    | Some n ↦
        record {
          answer = a_node n;
          place = record { ahead = m.place.ahead; node = Some n; lists = Some depth ∷ outer };
        }
  ]
]

-- Next: in an open list the first row ahead of its depth
unfoldable pub to_next : ℕ → TreePlace → TreeMoved
to_next end p = elim p.lists [
  | [] ↦ record { answer = no_node; place = p }
  | list ∷ outer ↦ elim list [
    | None ↦
        record {
          answer = list_end;
          place = record { ahead = p.ahead; node = None; lists = None ∷ outer };
        }
    | Some depth ↦ found_in depth outer (seek end depth 0 p.ahead)
  ]
]

-- the list of a node's children, which is closed at once where none follow
abbrev pub children_of : Node → Option ℤ
children_of n = if n.entry.has_children then Some (n.depth +ℤ pos 1) else None

-- Enter: the node's list
unfoldable pub to_enter : TreePlace → TreeMoved
to_enter p = elim p.node [
  | None ↦ record { answer = no_node; place = p }
  | Some n ↦
      record {
        answer = has_entered;
        place = record { ahead = p.ahead; node = None; lists = children_of n ∷ p.lists };
      }
]

-- Leave: the innermost list is dropped
unfoldable pub to_leave : TreePlace → TreeMoved
to_leave p = elim p.lists [
  | [] ↦ record { answer = no_node; place = p }
  | list ∷ outer ↦
      record { answer = has_left; place = record { ahead = p.ahead; node = None; lists = outer } }
]
