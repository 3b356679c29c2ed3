use Rattle.std.proofs.Common.{◌≡◌, length}
use Rattle.gimli_lists.specs.ArangeSets.{sets_ahead}
use Rattle.gimli_dwarf.specs.Addresses.{sets_say}
use Rattle.gimli_dwarf.proofs.Sets.{said_after}
use Rattle.gimli_dwarf.proofs.address.sets_hold.Given as goal

-- no set before those that are left holds the address
abbrev pub invariant-sets : goal.invariant-sets
invariant-sets g l =
    let limit = g.R.Offset.ReaderOffset.limit in
    let unit = g.R.Offset.ReaderOffset.number l.unit.0 in
    sets_say unit l.address (sets_ahead limit l.initial.sets)
    ≡ said_after l.is_named (sets_say unit l.address (sets_ahead limit l.sets))

abbrev pub decreases-sets : goal.decreases-sets
decreases-sets g l = length l.sets.rest.bytes
