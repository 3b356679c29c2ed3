-- What a row says of its entry, and an entry that was read past (DWARF 5, 7.5.2).
use Rattle.std.specs.Prelude.{◌+◌, ◌<◌, ◌≤◌, length, unsigned_abs, ◌≡◌, ◌≢◌, ℕ, List, []}
use Rattle.std.specs.Prelude.{map, cond, Some, Result, Ok, Err, ◌==◌, not, if◌then◌else◌, ℤ, pos}
use Rattle.std.specs.Prelude.{◌-ℤ◌}
use Rattle.gimli_base.specs.declared.common.Encoding.{Encoding}
use Rattle.gimli_base.specs.declared.error.Error.{Error}
use Rattle.gimli_base.specs.Offset.{answer_of}
use Rattle.gimli_base.specs.View.{View}
use Rattle.gimli_base.specs.Reading.{Reads}
use Rattle.gimli_base.specs.Abbreviations.{Specification, Declaration}
use Rattle.gimli_base.specs.Table.{Table, codes_of}
use Rattle.gimli_units.specs.Entry.{Attr, Entry, attributes_at, entry_at}
use Rattle.gimli_units.specs.RawPlace.{RawPlace, below_flag, depth_after}
use Rattle.gimli_units.specs.Unit.{UnitView, entries_from}
use Rattle.gimli_c.specs.declared.attrs.GimliAttr.{GimliAttr}
use Rattle.gimli_c.specs.declared.reading.Head.{Head}
use Rattle.gimli_c.specs.declared.table.GimliSpecification.{GimliSpecification}
use Rattle.gimli_c.specs.Attrs.{attr_of}

abbrev pub null_head : Head
null_head = record { tag = 0; has_children = 0 }

abbrev pub declared_head : Declaration → Head
declared_head d = record { tag = d.tag.0; has_children = cond d.has_children 1 0 }

abbrev pub head_in_c : Entry → Head
head_in_c e = record { tag = e.tag.0; has_children = cond e.has_children 1 0 }

-- the head of the entries of a declaration in a caller's table; they are nulls where its tag is 0
abbrev pub table_head : Declaration → Head
table_head d = if d.tag.0 == 0 then null_head else declared_head d

-- the depth after an entry with this head
abbrev pub depth_after_head : Head → ℤ → ℤ
depth_after_head h depth =
    if h.tag == 0 then depth -ℤ pos 1 else below_flag (not (h.has_children == 0)) depth

-- where a reader stands after an entry with this head
abbrev pub place_after : RawPlace → View → Head → RawPlace
place_after p rest h = record p { rest = rest; depth = depth_after_head h p.depth }

-- where a reader of entries by a caller's table stands, and the attributes of its table
pub record PlaceBy : Type 0 where
  pub place : RawPlace
  pub specifications : List GimliSpecification

-- the attributes of these specifications can be read at v, and end at w
pub record AreRead (limit : ℕ) (e : Encoding) (ss : List Specification) (v w : View) : Type 0 where
  pub attributes : List Attr
  pub are : ◌≡◌ {A = Reads (List Attr)} (Ok (attributes, w)) (attributes_at limit e ss v)

-- the next entry was read: the head is its own, and the reader stands after it
pub record IsReadPast (limit : ℕ) (before : RawPlace) (head : Head) (after : RawPlace)
    : Type 0 where
  pub entry : Entry
  pub is : ◌≡◌ {A = Reads Entry} (Ok (entry, after.rest))
      (entry_at limit before.encoding (codes_of before.abbreviations) before.rest)
  pub head_is : head ≡ head_in_c entry
  pub moved : after
      ≡ record before { rest = after.rest; depth = depth_after entry before.depth }

-- fewer bytes are left, and the depth is from 0 by at most one more
pub record GoesOn (before after : RawPlace) : Type 0 where
  pub shorter : length after.rest.bytes < length before.rest.bytes
  pub near : unsigned_abs after.depth ≤ unsigned_abs before.depth + 1
  pub same : after ≡ record before { rest = after.rest; depth = after.depth }

-- the same, and these are its attributes
pub record IsReadWith (limit : ℕ) (before : RawPlace) (head : Head) (numbers : List GimliAttr)
    (after : RawPlace) : Type 0 where
  pub past : IsReadPast limit before head after
  pub numbers_are : numbers ≡ map attr_of past.entry.attributes

-- reading an entry asks for memory only for its attributes; where it is refused, so is the entry
abbrev pub AsksMemory : Reads Entry → Type 0
AsksMemory (Ok p) = p.0.attributes ≢ []
AsksMemory (Err e) = Unit {0}

-- a reader of the entries of a unit by a table is opened at an offset, or the offset is refused
abbrev pub IsOpened : {T : Type 0} → (T → RawPlace) → UnitView → Table → ℕ → Result T Error → Type 0
IsOpened place u t offset r = answer_of place r ≡ entries_from u t (Some offset)
