-- The unit that holds an offset of its section (DWARF 5, 7.5.1).
use Rattle.std.specs.Prelude.{ℕ, ◌+◌, nat_le, nat_lt, ◌&&◌, find, Bool, List, Option, Some, None}
use Rattle.std.specs.Prelude.{Result, Ok, Err}
use Rattle.gimli_base.specs.declared.common.SectionId.{SectionId}
use Rattle.gimli_base.specs.declared.error.Error.{Error}
use Rattle.gimli_base.specs.View.{View}
use Rattle.gimli_units.specs.Unit.{UnitView, whole_length}
use Rattle.gimli_headers.specs.Units.{Units, units_of}

-- whether an offset of the section lies in a unit, its header included
abbrev pub holds : ℕ → UnitView → Bool
holds offset u = nat_le u.offset offset && nat_lt offset (u.offset + whole_length u)

-- a unit that was found, or else how the units end
abbrev pub found_or_ending : Option UnitView → Option Error → Result (Option UnitView) Error
found_or_ending (Some u) ending = Ok (Some u)
found_or_ending None None = Ok None
found_or_ending None (Some e) = Err e

-- the first of these units that holds the offset, or else how they end
abbrev pub unit_in : ℕ → Units → Result (Option UnitView) Error
unit_in offset us = found_or_ending (find (holds offset) us.items) us.ending

-- the unit of a section that holds an offset
abbrev pub unit_holding : ℕ → SectionId → ℕ → View → Result (Option UnitView) Error
unit_holding limit section offset v = unit_in offset (units_of limit section v)
