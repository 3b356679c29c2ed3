-- Where a cursor stands, and what its steps do to it (DWARF 5, 2.3).
use Rattle.std.specs.Prelude.{◌≡◌, ◌⊎◌, ℕ, ◌+◌, ◌-◌, ◌≤◌, ◌<◌, ◌^◌, ◌==◌, unsigned_abs, ℤ, Bool}
use Rattle.std.specs.Prelude.{true, false, if◌then◌else◌, length, int_le, Option, Some, None}
use Rattle.std.specs.Prelude.{Result, Ok, Err}
use Rattle.gimli_base.specs.declared.error.Error.{Error}
use Rattle.gimli_base.specs.declared.error.Error.TheVariants.{OutOfMemory}
use Rattle.gimli_base.specs.Offset.{answer_of}
use Rattle.gimli_base.specs.View.{View, cut}
use Rattle.gimli_base.specs.Reading.{Reads}
use Rattle.gimli_base.specs.Table.{codes_of}
use Rattle.gimli_base.specs.View.{IsLater}
use Rattle.gimli_units.specs.declared.entry.DebuggingInformationEntry.{DebuggingInformationEntry}
use Rattle.gimli_units.specs.Entry.{Entry, entry_of, entry_at, abbreviation_at, takes_memory}
use Rattle.gimli_units.specs.Entry.{null_entry, is_null}
use Rattle.gimli_units.specs.RawPlace.{RawPlace, next_offset_of, depth_after}
use Rattle.gimli_units.specs.Rows.{Row, Ahead, ahead_at}
use Rattle.gimli_units.specs.Honest.{usable_target, IsHonest, AreHonest, AreHonestUntil}
use Rattle.gimli_units.specs.CursorPlace.{Place, Moved, some_of, IsPlaceUntil}

-- A cursor: where its reader stands, the entry that it read last (a null, where there is no current
-- entry) with its offset and depth, whether it follows references, and how many entries it has
-- read.
pub record CursorView : Type 0 where
  pub raw : RawPlace
  pub entry : Entry
  pub offset : ℕ
  pub depth : ℤ
  pub follows : Bool
  pub reads : ℕ

-- a cursor that code holds: its reader, the entry that was read last, whether it follows
-- references, and its reads
abbrev pub cursor_held : {R A O : Type 0} → (R → View) → (O → ℕ) → RawPlace
    → DebuggingInformationEntry R A O → Bool → ℕ → CursorView
cursor_held f g raw e follows reads =
    record {
      raw = raw;
      entry = entry_of f g e;
      offset = g e.offset.0;
      depth = e.depth;
      follows = follows;
      reads = reads;
    }

-- the next entry of a reader's unit
abbrev pub next_of : ℕ → RawPlace → View → Reads Entry
next_of limit p = entry_at limit p.encoding (codes_of p.abbreviations)

-- the rows ahead of a reader
abbrev pub rows_of : ℕ → RawPlace → Ahead
rows_of limit p = ahead_at (next_of limit p) p.end p.depth p.rest

-- the place of a cursor
abbrev pub place_of : ℕ → CursorView → Place
place_of limit c =
    record {
      ahead = rows_of limit c.raw;
      current = some_of c.entry;
      offset = c.offset;
      depth = c.depth;
    }

-- the row of the entry that was read last
abbrev pub last_row : CursorView → Row
last_row c =
    record { offset = c.offset; next = next_offset_of c.raw; depth = c.depth; entry = c.entry }

-- a step's answer and place are those of a move
abbrev pub Goes : ℕ → (Place → Moved) → CursorView → Result Bool Error → CursorView → Type 0
Goes limit move old outcome new =
    record { outcome = outcome; place = place_of limit new } ≡ move (place_of limit old)

-- What is asked where a row of this depth is sought with references followed: that the current row
-- is honest, if it is at least so deep, and so are the rows ahead that are, before the first of
-- that depth.
pub record IsHonestFor (limit : ℕ) (sought : ℤ) (c : CursorView) : Type 0 where
  pub current : int_le sought c.depth ≡ true
      → IsHonest c.raw.end (last_row c) (rows_of limit c.raw).rows
  pub ahead : AreHonestUntil c.raw.end sought (rows_of limit c.raw).rows

-- what is asked of a whole walk: the current row is honest, and so are all rows ahead
pub record IsHonestCursor (limit : ℕ) (c : CursorView) : Type 0 where
  pub ahead : AreHonest c.raw.end (rows_of limit c.raw).rows
  pub current : IsHonest c.raw.end (last_row c) (rows_of limit c.raw).rows

-- where the reference of the current entry leads, if it is followed
abbrev pub followed_to : CursorView → Option ℕ
followed_to c = if c.follows then usable_target c.raw.end (last_row c) else None

-- the bytes from an offset on, which is not before what a reader reads next
abbrev pub view_from : RawPlace → ℕ → View
view_from p offset = cut (offset - next_offset_of p) p.rest

-- the rows from an offset on, whose place has this depth
abbrev pub rows_from : ℕ → RawPlace → ℕ → ℤ → Ahead
rows_from limit p offset depth = ahead_at (next_of limit p) p.end depth (view_from p offset)

-- what stands at an offset: an entry, or a refusal
abbrev pub what_at : ℕ → RawPlace → ℕ → Result Entry Error
what_at limit p offset =
    answer_of (λ (x : Entry × View). x.0) (next_of limit p (view_from p offset))

-- whether reading what stands at an offset takes memory
abbrev pub takes_memory_at : RawPlace → ℕ → Bool
takes_memory_at p offset =
    takes_memory (abbreviation_at (codes_of p.abbreviations) (view_from p offset))

-- the same unit, read in the same way
pub record IsSameUnit (old new : CursorView) : Type 0 where
  pub encoding : new.raw.encoding ≡ old.raw.encoding
  pub abbreviations : new.raw.abbreviations ≡ old.raw.abbreviations
  pub end : new.raw.end ≡ old.raw.end
  pub follows : new.follows ≡ old.follows

-- The entry that a step answered is the one that stands at its offset, which is not before what
-- stood next before the step; and the reader is just after it, at the depth that it makes.
pub record IsTrueEntry (limit : ℕ) (old new : CursorView) : Type 0 where
  pub is : Ok (new.entry, new.raw.rest) ≡ next_of limit old.raw (view_from old.raw new.offset)
  pub depth : new.raw.depth ≡ depth_after new.entry new.depth
  pub after : next_offset_of old.raw ≤ new.offset
  pub before : new.offset < next_offset_of new.raw

-- nothing is left to read
abbrev pub IsOver : CursorView → Type 0
IsOver c = length c.raw.rest.bytes ≡ 0

-- A refusal of bytes is what stands at the pair's offset, which is not before what stood next
-- before the step, and before the end; the walk is over, with no current entry, and the next depth
-- is the pair's.
pub record IsRefused (limit : ℕ) (old : CursorView) (e : Error) (new : CursorView) : Type 0 where
  pub is : (e ≡ OutOfMemory → ⊥) → what_at limit old.raw new.offset ≡ Err e
  pub memory : e ≡ OutOfMemory → takes_memory_at old.raw new.offset ≡ true
  pub after : next_offset_of old.raw ≤ new.offset
  pub before : new.offset < old.raw.end
  pub none : new.entry ≡ null_entry
  pub over : IsOver new
  pub depth : new.raw.depth ≡ new.depth

-- a pair of offset and depth is that of the first row ahead that passes a test, or of one before
-- it, or of the place after the last, where none does
abbrev pub IsPlaceAhead : ℕ → (Row → Bool) → RawPlace → ℕ → ℤ → Type 0
IsPlaceAhead limit test p offset depth =
    IsPlaceUntil test (rows_of limit p).stop (rows_of limit p).stop_depth offset depth
    (rows_of limit p).rows

-- the pair is that of a row that is passed or taken, where the first that passes a test is, or of
-- the place after the last
abbrev pub IsAheadOf : ℕ → (Row → Bool) → CursorView → CursorView → Type 0
IsAheadOf limit test old new = IsPlaceAhead limit test old.raw new.offset new.depth

-- An entry of this depth was not found, whatever the references: a null of it stands at the pair's
-- offset; or nothing is left, and the pair is that of the entry from which it was sought.
abbrev pub IsNotFound : ℕ → ℤ → ℕ → CursorView → CursorView → Type 0
IsNotFound limit depth offset old new =
    (is_null new.entry ≡ true) × (new.depth ≡ depth)
    × (IsTrueEntry limit old new ⊎ (IsOver new × (new.offset ≡ offset)))

-- what is left of the bytes is some of what was left
abbrev pub IsFurther : CursorView → CursorView → Type 0
IsFurther old new = IsLater 0 old.raw.rest new.raw.rest

-- reads and bytes left together never rise
abbrev pub AreFewReads : CursorView → CursorView → Type 0
AreFewReads old new = new.reads + length new.raw.rest.bytes ≤ old.reads + length old.raw.rest.bytes

-- the number of entries that are read where bytes are left
abbrev pub one_if_left : View → ℕ
one_if_left v = if length v.bytes == 0 then 0 else 1

-- the number of entries that can be read ahead: a row each, and the one that is refused
abbrev pub reads_ahead : Ahead → ℕ
reads_ahead a = length a.rows + elim a.refusal [ None ↦ 0 | Some e ↦ 1 ]

-- each entry that was passed was read once
abbrev pub IsReadOnce : ℕ → CursorView → CursorView → Type 0
IsReadOnce limit old new =
    new.reads + reads_ahead (rows_of limit new.raw)
    ≡ old.reads + reads_ahead (rows_of limit old.raw)

-- each entry before the one that was refused was read once, and so was that one
abbrev pub IsReadUpTo : ℕ → CursorView → CursorView → Type 0
IsReadUpTo limit old new =
    new.reads + reads_ahead (rows_from limit old.raw new.offset new.depth)
    ≡ old.reads + reads_ahead (rows_of limit old.raw) + 1

-- after a current entry the reader has the depth that the entry makes
abbrev pub StandsAfter : CursorView → Type 0
StandsAfter c = is_null c.entry ≡ false → c.raw.depth ≡ depth_after c.entry c.depth

-- What holds of every cursor: the reads and the depths are few beside the bytes that are left, and
-- it stands after its entry, past the offset where that begins.
pub record IsSound (c : CursorView) : Type 0 where
  pub few : c.reads + length c.raw.rest.bytes < 2 ^ 63
  pub shallow : unsigned_abs c.depth + length c.raw.rest.bytes < 2 ^ 63
  pub fits : length c.raw.rest.bytes ≤ c.raw.end
  pub next_shallow : unsigned_abs c.raw.depth + length c.raw.rest.bytes < 2 ^ 63
  pub after : StandsAfter c
  pub past : is_null c.entry ≡ false → c.offset < next_offset_of c.raw
