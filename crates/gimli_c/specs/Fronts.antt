-- The rows that a call writes, of those ahead of a place (DWARF 5, 2.3).
use Rattle.std.specs.Prelude.{◌≡◌, ℕ, ◌+◌, ◌-◌, ◌<◌, ◌≤◌, ◌^◌, ◌==◌, nat_lt, min, ℤ, ◌+ℤ◌}
use Rattle.std.specs.Prelude.{unsigned_abs, cond, if◌then◌else◌, List, [], ◌∷◌, ◌++◌, map, take}
use Rattle.std.specs.Prelude.{drop, length, Option, Some, None, Result, Ok, Err}
use Rattle.gimli_base.specs.declared.error.Error.{Error}
use Rattle.gimli_base.specs.declared.error.Error.TheVariants.{OffsetOutOfBounds}
use Rattle.gimli_base.specs.View.{View}
use Rattle.gimli_base.specs.Abbreviations.{Map, map_at}
use Rattle.gimli_base.specs.Table.{codes_of}
use Rattle.gimli_units.specs.UnitRows.{unit_rows_from}
use Rattle.gimli_units.specs.Entry.{entry_at}
use Rattle.gimli_units.specs.RawPlace.{RawPlace, next_offset_of}
use Rattle.gimli_units.specs.Rows.{Row, Ahead, ahead_at}
use Rattle.gimli_units.specs.Unit.{UnitView, whole_length, in_bounds}
use Rattle.gimli_c.specs.declared.rows.GimliRow.{GimliRow}
use Rattle.gimli_c.specs.declared.sections.GimliSections.{GimliSections}
use Rattle.gimli_c.specs.declared.sections.UnitSections.{UnitSections}
use Rattle.gimli_c.specs.declared.rows.GimliPlace.{GimliPlace}
use Rattle.gimli_c.specs.Units.{abbreviations_view, section_unit, unit_of, declarations_of}
use Rattle.gimli_c.specs.Status.{more, end, too_deep, refusal_status, row_refused, memory_refused}

abbrev pub row_in_c : Row → GimliRow
row_in_c r = record {
  offset = r.offset;
  depth = r.depth;
  tag = r.entry.tag.0;
  has_children =
      cond r.entry.has_children 1 0;
}

abbrev pub at : ℕ → ℤ → GimliPlace
at offset depth = record { offset = offset; depth = depth }

-- the rows ahead of a reader of entries, whose depths are counted from `base`
abbrev pub ahead_of : ℕ → ℤ → RawPlace → Ahead
ahead_of limit base p = ahead_at (entry_at limit p.encoding (codes_of p.abbreviations)) p.end
    (base +ℤ p.depth) p.rest

-- the rows of a unit from a place on, or the status of a call that reads none
abbrev pub unit_ahead : ℕ → UnitView → Map → GimliPlace → Result Ahead ℕ
unit_ahead limit u declared place =
    if place.offset == whole_length u
    then Ok (unit_rows_from limit u declared place.offset place.depth)
    else if in_bounds u place.offset then
    (if nat_lt (unsigned_abs place.depth + (whole_length u - place.offset)) (2 ^ 63) then Ok
    (unit_rows_from limit u declared place.offset place.depth) else Err too_deep)
    else Err (refusal_status (OffsetOutOfBounds place.offset))

abbrev pub declared_ahead : ℕ → UnitView → Result Map Error → GimliPlace → Result Ahead ℕ
declared_ahead limit u (Ok declared) place = unit_ahead limit u declared place
declared_ahead limit u (Err e) place = Err (refusal_status e)

abbrev pub read_ahead : ℕ → Result UnitView Error → View → GimliPlace → Result Ahead ℕ
read_ahead limit (Ok u) declarations place =
    declared_ahead limit u (map_at u.abbreviations declarations) place
read_ahead limit (Err e) declarations place = Err (refusal_status e)

-- the rows from a place on, of the unit at an offset of opened sections
abbrev pub unit_rows_of : {R : Type 0} → ℕ → (R → View) → UnitSections R → ℕ → GimliPlace
    → Result Ahead ℕ
unit_rows_of limit view s unit place =
    read_ahead limit (unit_of limit view s unit) (declarations_of view s) place

-- the rows from a place on, of the unit at an offset of a caller's units
abbrev pub section_rows : GimliSections → ℕ → GimliPlace → Result Ahead ℕ
section_rows s unit place =
    read_ahead (2 ^ 64) (section_unit s unit) (abbreviations_view s) place

-- what is ahead after so many rows
abbrev pub ahead_after : ℕ → Ahead → Ahead
ahead_after count a = record {
  rows = drop count a.rows;
  refusal = a.refusal;
  stop = a.stop;
  stop_depth = a.stop_depth;
}

-- the place of the first row, or where the rows stop
abbrev pub first_place : List Row → ℕ → ℤ → GimliPlace
first_place [] stop stop_depth = record { offset = stop; depth = stop_depth }
first_place (r ∷ rs) stop stop_depth = record { offset = r.offset; depth = r.depth }

-- the status where so many rows are ahead, with how they end, and there is room for so many
abbrev pub status_at : ℕ → ℕ → Option Error → ℕ
status_at room count None = if nat_lt room count then more else end
status_at room count (Some e) = if nat_lt count room then row_refused e else more

-- Rows from the front of those ahead are written, the rest stays as it was, and the place is after
-- them. They are all, or as many as there is room for; where memory was refused for the table there
-- is none.
pub record Filled (ahead : Ahead) (old : List GimliRow) (place : GimliPlace) (new : List GimliRow)
    (count status : ℕ) : Type 0 where
  pub rows : new ≡ map row_in_c (take count ahead.rows) ++ drop count old
  pub after : place ≡ first_place (drop count ahead.rows) ahead.stop ahead.stop_depth
  pub fits : count ≤ min (length old) (length ahead.rows)
  pub none : status ≡ memory_refused → count ≡ 0
  pub whole : (status ≡ memory_refused → ⊥)
      → (count ≡ min (length old) (length ahead.rows))
      × (status ≡ status_at (length old) (length ahead.rows) ahead.refusal)

-- only the first so many rows are written
pub record WritesFirst (old new : List GimliRow) (count : ℕ) : Type 0 where
  pub fits : count ≤ length old
  pub rest : drop count new ≡ drop count old
  pub long : length new ≡ length old

-- no row is written, and the place stays
pub record Stopped (stop : ℕ) (from : GimliPlace) (old : List GimliRow) (place : GimliPlace)
    (new : List GimliRow) (count status : ℕ) : Type 0 where
  pub rows : new ≡ old
  pub none : count ≡ 0
  pub place_stays : place ≡ from
  pub whole : (status ≡ memory_refused → ⊥) → status ≡ stop

-- A call reads no row from a place on. Where there are rows ahead, memory was refused for their
-- table; else the unit ends there, or the status says why none is read.
pub record IsIdleAt (ahead : Ahead) (place : GimliPlace) (status : ℕ) : Type 0 where
  pub starts : place ≡ first_place ahead.rows ahead.stop ahead.stop_depth
  pub ends : (status ≡ memory_refused → ⊥)
      → (ahead.rows ≡ []) × (ahead.refusal ≡ None) × (status ≡ end)

abbrev pub IsIdle : Result Ahead ℕ → GimliPlace → ℕ → Type 0
IsIdle (Ok ahead) place status = IsIdleAt ahead place status
IsIdle (Err stop) place status = (status ≡ memory_refused → ⊥) → status ≡ stop

-- a reader of entries stands at a place, and the depths from there on are in range
pub record StandsAt (place : GimliPlace) (p : RawPlace) : Type 0 where
  pub offset : next_offset_of p ≡ place.offset
  pub within : length p.rest.bytes ≤ p.end
  pub fits : unsigned_abs place.depth + unsigned_abs p.depth + length p.rest.bytes < 2 ^ 63

-- what a call does
abbrev pub IsRowsOutcome : Result Ahead ℕ → GimliPlace → List GimliRow → GimliPlace
    → List GimliRow → ℕ → ℕ → Type 0
IsRowsOutcome (Ok ahead) from old place new count status =
    Filled ahead old place new count status
IsRowsOutcome (Err stop) from old place new count status =
    Stopped stop from old place new count status

-- the same, where of the rows nothing is said without a premise
abbrev pub IsRowsOutcomeIf : Type 0 → Result Ahead ℕ → GimliPlace → List GimliRow → GimliPlace
    → List GimliRow → ℕ → ℕ → Type 0
IsRowsOutcomeIf P (Ok ahead) from old place new count status =
    P → Filled ahead old place new count status
IsRowsOutcomeIf P (Err stop) from old place new count status =
    Stopped stop from old place new count status

-- from the place after so many rows the next call goes on with the others
abbrev pub Resumes : Result Ahead ℕ → ℕ → Result Ahead ℕ → Type 0
Resumes (Ok ahead) count next = next ≡ Ok (ahead_after count ahead)
Resumes (Err stop) count next = next ≡ Err stop
