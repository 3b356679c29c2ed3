-- The rows of a unit from a start on, and when they are honest (DWARF 5, 2.3).
use Rattle.std.specs.Prelude.{◌≡◌, ◌⊎◌, ℕ, ℤ, pos, ◌-◌, List, [], ◌∷◌, Option, Some, None, Result}
use Rattle.std.specs.Prelude.{Ok, Err}
use Rattle.gimli_base.specs.declared.error.Error.{Error}
use Rattle.gimli_base.specs.View.{View, cut}
use Rattle.gimli_base.specs.Abbreviations.{Map}
use Rattle.gimli_units.specs.Entry.{entry_at}
use Rattle.gimli_units.specs.Rows.{Row, Ahead, ahead_at}
use Rattle.gimli_units.specs.Unit.{UnitView, whole_length, header_size, range_from}
use Rattle.gimli_units.specs.Honest.{AreHonest}

-- the rows of a unit from a view of its bytes on, whose place has this depth
abbrev pub unit_rows_at : ℕ → UnitView → Map → ℤ → View → Ahead
unit_rows_at limit u declared depth v =
    ahead_at (entry_at limit u.encoding declared) (whole_length u) depth v

-- the rows of a unit from an offset on, whose place has this depth
abbrev pub unit_rows_from : ℕ → UnitView → Map → ℕ → ℤ → Ahead
unit_rows_from limit u declared offset depth =
    unit_rows_at limit u declared depth (cut (offset - header_size u) u.entries)

-- the bytes from a start on: an offset, or the first entry
abbrev pub start_view : UnitView → Option ℕ → Result View Error
start_view u None = Ok u.entries
start_view u (Some offset) = range_from u offset

-- the rows of a unit from a view on are honest
abbrev pub IsHonestAt : ℕ → UnitView → Map → View → Type 0
IsHonestAt limit u declared v =
    AreHonest (whole_length u) (unit_rows_at limit u declared (pos 0) v).rows

-- the rows of a unit from a start on are honest
abbrev pub IsHonestFrom : ℕ → UnitView → Map → Result View Error → Type 0
IsHonestFrom limit u declared (Ok v) = IsHonestAt limit u declared v
IsHonestFrom limit u declared (Err e) = Unit {0}

-- all the rows of a unit, from its root on
abbrev pub unit_rows : ℕ → UnitView → Map → List Row
unit_rows limit u declared = (unit_rows_at limit u declared (pos 0) u.entries).rows

-- one of these rows stands at an offset
abbrev pub StandsAt : ℕ → List Row → Type 0
StandsAt offset [] = ⊥
StandsAt offset (r ∷ rest) = (r.offset ≡ offset) ⊎ StandsAt offset rest
