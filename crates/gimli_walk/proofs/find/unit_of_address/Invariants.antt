use Rattle.std.proofs.Common.{◌≡◌, length}
use Rattle.gimli_lists.specs.ArangeSets.{sets_ahead}
use Rattle.gimli_walk.specs.UnitOfAddress.{unit_among}
use Rattle.gimli_walk.proofs.find.unit_of_address.Given as goal

-- no set before those that are left holds the address
abbrev pub invariant-sets : goal.invariant-sets
invariant-sets g l =
    let limit = g.R.Offset.ReaderOffset.limit in
    unit_among l.address (sets_ahead limit l.initial.headers)
    ≡ unit_among l.address (sets_ahead limit l.headers)

abbrev pub decreases-sets : goal.decreases-sets
decreases-sets g l = length l.headers.rest.bytes
