-- Where a tree stands, and what its steps do to it (DWARF 5, 2.3).
use Rattle.std.specs.Prelude.{◌≡◌, ℕ, ◌+◌, ◌<◌, ◌≤◌, ◌^◌, ℤ, pos, ◌≤ℤ◌, unsigned_abs, Bool, true}
use Rattle.std.specs.Prelude.{false, [], ◌∷◌, length, Option, Some, None, Result, Ok, Err}
use Rattle.gimli_base.specs.declared.error.Error.{Error}
use Rattle.gimli_base.specs.declared.error.Error.TheVariants.{OutOfMemory}
use Rattle.gimli_base.specs.Offset.{answer_of}
use Rattle.gimli_base.specs.Reading.{UnlessMemory}
use Rattle.gimli_base.specs.Table.{Table}
use Rattle.gimli_base.specs.View.{IsLater}
use Rattle.gimli_units.specs.Entry.{is_null}
use Rattle.gimli_units.specs.RawPlace.{RawPlace, next_offset_of}
use Rattle.gimli_units.specs.Unit.{UnitView, entries_from, some_entry}
use Rattle.gimli_units.specs.CursorModel.{CursorView, next_of, rows_of, takes_memory_at, place_of}
use Rattle.gimli_units.specs.CursorModel.{followed_to, view_from, one_if_left, AreFewReads}
use Rattle.gimli_units.specs.CursorModel.{IsAheadOf, IsHonestFor, IsTrueEntry}
use Rattle.gimli_units.specs.CursorModel.{IsSameUnit, IsFurther, IsSound}
use Rattle.gimli_units.specs.CursorPlace.{has_depth, first_of_rows}
use Rattle.gimli_units.specs.SearchSteps.{HasSought, after_refusal}
use Rattle.gimli_units.specs.CursorStart.{before_first}
use Rattle.gimli_units.specs.TreePlace.{Node, Lists, TreePlace, StepAnswer, a_node, list_end, a_fault}
use Rattle.gimli_units.specs.TreePlace.{TreeMoved, to_root, to_next}

-- A tree: where its entries begin, and a cursor that stands where the last read left it.
pub record TreeView : Type 0 where
  pub start : RawPlace
  pub cursor : CursorView

-- before the root is asked for nothing was read
abbrev pub before_root : RawPlace → TreeView
before_root p = record { start = p; cursor = before_first true p }

-- a tree over the entries of a unit from an offset on, or from the first
abbrev pub tree_from : UnitView → Table → Option ℕ → Result TreeView Error
tree_from u abbreviations offset = answer_of before_root (entries_from u abbreviations offset)

-- What holds of every tree: it begins with a byte, its cursor follows references in the same unit
-- and has read no more entries than there are bytes.
pub record IsTree (t : TreeView) : Type 0 where
  pub some : 0 < length t.start.rest.bytes
  pub small : length t.start.rest.bytes < 2 ^ 63
  pub fits : length t.start.rest.bytes ≤ t.start.end
  pub depth : t.start.depth ≡ pos 0
  pub encoding : t.cursor.raw.encoding ≡ t.start.encoding
  pub abbreviations : t.cursor.raw.abbreviations ≡ t.start.abbreviations
  pub end : t.cursor.raw.end ≡ t.start.end
  pub follows : t.cursor.follows ≡ true
  pub further : IsLater 0 t.start.rest t.cursor.raw.rest
  pub few : t.cursor.reads + length t.cursor.raw.rest.bytes ≤ length t.start.rest.bytes
  pub sound : IsSound t.cursor

-- the entry that was read last, as a node
abbrev pub node_at : TreeView → Node
node_at t = record { entry = t.cursor.entry; offset = t.cursor.offset; depth = t.cursor.depth }

-- a list of children, which is open or closed, and their depth
abbrev pub list_of : Bool → ℤ → Option ℤ
list_of true depth = Some depth
list_of false depth = None

-- where a tree stands on a node, below these lists
abbrev pub on_node : ℕ → TreeView → Lists → TreePlace
on_node limit t lists =
    record { ahead = rows_of limit t.cursor.raw; node = Some (node_at t); lists = lists }

-- where it stands on none, in these lists
abbrev pub in_lists : ℕ → TreeView → Lists → TreePlace
in_lists limit t lists = record { ahead = rows_of limit t.cursor.raw; node = None; lists = lists }

-- the root was asked for
abbrev pub root_moved : ℕ → Result (Unit {0}) Error → TreeView → TreeMoved
root_moved limit (Ok u) t = record { answer = a_node (node_at t); place = on_node limit t [] }
root_moved limit (Err e) t = record { answer = a_fault e; place = in_lists limit t [] }

-- the next node of an open list was asked for
abbrev pub gone_on : ℕ → ℤ → Lists → Result Bool Error → TreeView → TreeMoved
gone_on limit depth outer (Ok true) t =
    record { answer = a_node (node_at t); place = on_node limit t (Some depth ∷ outer) }
gone_on limit depth outer (Ok false) t =
    record { answer = list_end; place = in_lists limit t (None ∷ outer) }
gone_on limit depth outer (Err e) t =
    record { answer = a_fault e; place = in_lists limit t (Some depth ∷ outer) }

-- what the root that is lent, or the next node of a list, answers
abbrev pub root_answer : Result TreeView Error → StepAnswer
root_answer (Ok t) = a_node (node_at t)
root_answer (Err e) = a_fault e

abbrev pub next_answer : Result (Option TreeView) Error → StepAnswer
next_answer (Ok (Some t)) = a_node (node_at t)
next_answer (Ok None) = list_end
next_answer (Err e) = a_fault e

-- The root is refused as the entry at the tree's start is, a null too; memory is refused only where
-- reading it takes some.
pub record IsNoRoot (limit : ℕ) (p : RawPlace) (e : Error) : Type 0 where
  pub is : (e ≡ OutOfMemory → ⊥) → some_entry (next_offset_of p) (next_of limit p p.rest) ≡ Err e
  pub memory : e ≡ OutOfMemory → takes_memory_at p (next_offset_of p) ≡ true
  pub before : next_offset_of p < p.end

-- The root was asked for: whatever came before, the first row was read, and nothing else, and the
-- tree stands as the definition says.
pub record HasBegun (limit : ℕ) (old : TreeView) (outcome : Result (Unit {0}) Error)
    (new : TreeView) : Type 0 where
  pub start : new.start ≡ old.start
  pub unit : IsSameUnit (before_first true old.start) new.cursor
  pub further : IsFurther (before_first true old.start) new.cursor
  pub first : UnlessMemory outcome
      ((b : Result Bool Error)
      × (record { outcome = b; place = place_of limit new.cursor }
      ≡ first_of_rows old.start.end (pos 0) 0 (rows_of limit old.start)))
  pub goes : UnlessMemory outcome
      (root_moved limit outcome new ≡ to_root old.start.end (rows_of limit old.start))
  pub yes : outcome ≡ Ok tt
      → IsTrueEntry limit (before_first true old.start) new.cursor
      × (is_null new.cursor.entry ≡ false)
  pub place : outcome ≡ Ok tt
      → (new.cursor.offset ≡ next_offset_of old.start) × (new.cursor.depth ≡ pos 0)
  pub refused : (e : Error) → outcome ≡ Err e → IsNoRoot limit old.start e
  pub memory : outcome ≡ Err OutOfMemory → new.cursor ≡ after_refusal (before_first true old.start)
  pub reads : new.cursor.reads ≡ 1

-- The tree stands inside a list of this depth: what is read next is no less deep.
pub record IsInside (depth : ℤ) (t : TreeView) : Type 0 where
  pub low : depth ≤ℤ t.cursor.raw.depth
  pub shallow : unsigned_abs depth < 2 ^ 63

-- what was refused while a row of this depth was sought: where the rows are honest, a row that is
-- passed or taken, and where a reference of the last entry leads on from that depth, what stands
-- there
abbrev pub IsRefusedWithin : ℕ → ℤ → CursorView → CursorView → Type 0
IsRefusedWithin limit depth old last =
    (IsHonestFor limit depth old → IsAheadOf limit (has_depth depth) old last)
    × ((t : ℕ) → followed_to old ≡ Some t → old.depth ≡ depth
    → (last.offset ≡ t) × (last.depth ≡ depth))

-- The next node of a list of this depth was asked for: where the rows are honest, the tree stands
-- as the definition says. What was read, and what is true of it whatever the references, is what
-- holds of a search for that depth.
pub record HasGoneOn (limit : ℕ) (depth : ℤ) (old : TreeView) (outcome : Result Bool Error)
    (new : TreeView) : Type 0 where
  pub start : new.start ≡ old.start
  pub goes : IsHonestFor limit depth old.cursor → (outer : Lists)
      → UnlessMemory outcome
      (gone_on limit depth outer outcome new
      ≡ to_next old.start.end (in_lists limit old (Some depth ∷ outer)))
  pub sought : HasSought limit depth old.cursor.offset old.cursor outcome new.cursor
  pub past : outcome ≡ Ok true → is_null old.cursor.entry ≡ false
      → old.cursor.offset < new.cursor.offset
  pub inside : outcome ≡ Ok true → depth ≤ℤ new.cursor.raw.depth

-- A child was found by a list of children. Whatever the references, it is what decoding at its
-- offset gives, no null, of the list's depth, and stands after the entry before it; where the rows
-- are honest, the tree stands on it as the definition says.
pub record IsChild (limit : ℕ) (is_open : Bool) (depth : ℤ) (old : TreeView) (new : TreeView)
    : Type 0 where
  pub true_entry : IsTrueEntry limit old.cursor new.cursor
  pub no_null : is_null new.cursor.entry ≡ false
  pub deep : new.cursor.depth ≡ depth
  pub past : is_null old.cursor.entry ≡ false → old.cursor.offset < new.cursor.offset
  pub inside : unsigned_abs depth < 2 ^ 63 → IsInside depth new
  pub place : IsHonestFor limit depth old.cursor
      → on_node limit new (list_of is_open depth ∷ [])
      ≡ (to_next old.start.end (in_lists limit old (list_of is_open depth ∷ []))).place
  pub gone_on : HasGoneOn limit depth old (Ok true) new
  pub few : AreFewReads old.cursor new.cursor
  pub one_read : old.cursor.depth ≡ depth → (t : ℕ) → followed_to old.cursor ≡ Some t
      → new.cursor.reads ≡ old.cursor.reads + one_if_left (view_from old.cursor.raw t)
