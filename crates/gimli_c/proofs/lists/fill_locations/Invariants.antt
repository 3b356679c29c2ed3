use Rattle.std.proofs.Common.{◌+◌, ◌≤◌, length}
use Rattle.gimli_lists.specs.Locations.{locations_ahead}
use Rattle.gimli_c.specs.Lists.{location_row}
use Rattle.gimli_c.proofs.ListFront.{ListFront}
use Rattle.gimli_c.proofs.lists.fill_locations.Given as goal

abbrev pub invariant-found : goal.invariant-found
invariant-found g l =
    let limit = g.R.Offset.ReaderOffset.limit in
    record {
      front : ListFront location_row (locations_ahead limit l.initial.list)
          (locations_ahead limit l.list)
          l.initial.locations l.locations l.count;
      fits : l.count + length l.list.raw.rest.bytes ≤ length l.initial.list.raw.rest.bytes;
    }

abbrev pub decreases-found : goal.decreases-found
decreases-found g l = length l.list.raw.rest.bytes
