use Rattle.std.proofs.Common.{◌+◌, ◌≤◌, length}
use Rattle.gimli_lists.specs.Ranges.{ranges_ahead}
use Rattle.gimli_c.specs.Lists.{range_row}
use Rattle.gimli_c.proofs.ListFront.{ListFront}
use Rattle.gimli_c.proofs.lists.fill_ranges.Given as goal

abbrev pub invariant-found : goal.invariant-found
invariant-found g l =
    let limit = g.R.Offset.ReaderOffset.limit in
    record {
      front : ListFront range_row (ranges_ahead limit l.initial.list) (ranges_ahead limit l.list)
          l.initial.ranges l.ranges l.count;
      fits : l.count + length l.list.raw.rest.bytes ≤ length l.initial.list.raw.rest.bytes;
    }

abbrev pub decreases-found : goal.decreases-found
decreases-found g l = length l.list.raw.rest.bytes
