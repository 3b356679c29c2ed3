-- Where a call may say that memory was refused, for a table or for a row (DWARF 5, 7.5.2, 7.5.3).
use Rattle.std.specs.Prelude.{◌≡◌, ◌⊎◌, ℕ, ◌<◌, ◌≤◌, true, None, Result, Ok, Err, All}
use Rattle.gimli_base.specs.declared.error.Error.{Error}
use Rattle.gimli_base.specs.View.{View}
use Rattle.gimli_base.specs.Abbreviations.{Map, map_at, table_takes_memory_at}
use Rattle.gimli_units.specs.Honest.{usable_target}
use Rattle.gimli_units.specs.RawPlace.{RawPlace, next_offset_of}
use Rattle.gimli_units.specs.CursorModel.{takes_memory_at}
use Rattle.gimli_units.specs.Unit.{UnitView, whole_length, in_bounds, range_from, takes_memory_in}
use Rattle.gimli_units.specs.UnitRows.{unit_rows}
use Rattle.gimli_c.specs.Status.{refusal_status, memory_refused}

-- the status says that memory was refused for the table only where reading it takes memory; a
-- refusal of the unit has its own status
abbrev pub TableMemory : Result UnitView Error → View → ℕ → Type 0
TableMemory (Ok u) declarations status =
    status ≡ memory_refused → table_takes_memory_at u.abbreviations declarations ≡ true
TableMemory (Err e) declarations status = status ≡ refusal_status e

-- reading what stands at an offset of a unit takes memory; the offset is one of the unit, and the
-- table was not refused
abbrev pub DeclaredTakesMemory : UnitView → Result Map Error → ℕ → Type 0
DeclaredTakesMemory u (Ok declared) offset = takes_memory_in declared (range_from u offset) ≡ true
DeclaredTakesMemory u (Err e) offset = ⊥

-- the same by the unit's own table; and the unit was not refused
abbrev pub RowTakesMemory : Result UnitView Error → View → ℕ → Type 0
RowTakesMemory (Ok u) declarations offset =
    DeclaredTakesMemory u (map_at u.abbreviations declarations) offset
RowTakesMemory (Err e) declarations offset = ⊥

-- the same by a caller's table
abbrev pub RowTakesMemoryBy : Result UnitView Error → Map → ℕ → Type 0
RowTakesMemoryBy (Ok u) declared offset = DeclaredTakesMemory u (Ok declared) offset
RowTakesMemoryBy (Err e) declared offset = ⊥

-- reading what stands at an offset or at a later one takes memory; both are of the unit
abbrev pub DeclaredTakesMemoryFrom : UnitView → Result Map Error → ℕ → Type 0
DeclaredTakesMemoryFrom u declared offset =
    (in_bounds u offset ≡ true)
    × ((at : ℕ) × (offset ≤ at) × DeclaredTakesMemory u declared at)

-- the same by the unit's own table
abbrev pub RowsTakeMemory : Result UnitView Error → View → ℕ → Type 0
RowsTakeMemory (Ok u) declarations offset =
    DeclaredTakesMemoryFrom u (map_at u.abbreviations declarations) offset
RowsTakeMemory (Err e) declarations offset = ⊥

-- a reference of the unit's rows can be followed
abbrev pub HasReference : ℕ → UnitView → Result Map Error → Type 0
HasReference limit u (Ok declared) =
    All (λ r. usable_target (whole_length u) r ≡ None) (unit_rows limit u declared) → ⊥
HasReference limit u (Err e) = ⊥

-- the status says that memory was refused for the check of references only where reading the table
-- takes memory, or a reference can be followed; a refusal of the unit has its own status
abbrev pub CheckMemory : ℕ → Result UnitView Error → View → ℕ → Type 0
CheckMemory limit (Ok u) declarations status =
    status ≡ memory_refused
    → (table_takes_memory_at u.abbreviations declarations ≡ true)
    ⊎ HasReference limit u (map_at u.abbreviations declarations)
CheckMemory limit (Err e) declarations status = status ≡ refusal_status e

-- what a reader of entries would read at an offset, which is ahead of it in its unit, takes memory
pub record TakesMemoryAhead (p : RawPlace) (offset : ℕ) : Type 0 where
  pub after : next_offset_of p ≤ offset
  pub before : offset < p.end
  pub takes : takes_memory_at p offset ≡ true
