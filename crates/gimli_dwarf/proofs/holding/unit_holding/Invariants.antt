use Rattle.std.proofs.Common.{◌≡◌, length}
use Rattle.gimli_base.specs.declared.common.SectionId.TheVariants.{DebugInfo}
use Rattle.gimli_headers.specs.Units.{units_ahead}
use Rattle.gimli_dwarf.specs.Holding.{unit_in}
use Rattle.gimli_dwarf.proofs.holding.unit_holding.Given as goal

-- no unit before those that are left holds the offset
abbrev pub invariant-units : goal.invariant-units
invariant-units g l =
    let limit = g.R.Offset.ReaderOffset.limit in
    let offset = g.R.Offset.ReaderOffset.number l.offset.0 in
    unit_in offset (units_ahead limit DebugInfo l.initial.units)
    ≡ unit_in offset (units_ahead limit DebugInfo l.units)

abbrev pub decreases-units : goal.decreases-units
decreases-units g l = length l.units.rest.bytes
