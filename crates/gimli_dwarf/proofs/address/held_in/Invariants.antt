use Rattle.std.proofs.Common.{◌≡◌, length}
use Rattle.gimli_lists.specs.Ranges.{ranges_ahead}
use Rattle.gimli_dwarf.specs.Addresses.{held_in}
use Rattle.gimli_dwarf.proofs.address.held_in.Given as goal

-- no range before those that are left holds the address
abbrev pub invariant-each : goal.invariant-each
invariant-each g l =
    let limit = g.R.Offset.ReaderOffset.limit in
    held_in l.address (ranges_ahead limit l.initial.ranges)
    ≡ held_in l.address (ranges_ahead limit l.ranges)

abbrev pub decreases-each : goal.decreases-each
decreases-each g l = length l.ranges.raw.rest.bytes
