use Rattle.std.proofs.Common.{length, ◌≡◌, ◌+◌, ◌-◌, ◌<◌, ◌≤◌, ◌^◌, unsigned_abs}
use Rattle.gimli_c.specs.Fronts.{WritesFirst}
use Rattle.gimli_c.proofs.Front.{Front}
use Rattle.gimli_c.proofs.rows.fill_rows.Given as goal

abbrev pub invariant-rows : goal.invariant-rows
invariant-rows g l =
    let start = g.T.ReadEntries.place l.initial.entries in
    let now = g.T.ReadEntries.place l.entries in
    let limit = g.R.Offset.ReaderOffset.limit in
    let given = g.T.ReadEntries.has_steps l.initial.entries in
    record {
      front : given → Front limit l.fn.base start now l.initial.rows l.rows l.count;
      steps : given → g.T.ReadEntries.has_steps l.entries;
      first : WritesFirst l.initial.rows l.rows l.count;
      end : now.end ≡ start.end;
      left : length now.rest.bytes ≤ length start.rest.bytes;
      further : 0 < l.count → length now.rest.bytes < length start.rest.bytes;
      fits : unsigned_abs l.fn.base + unsigned_abs now.depth + length now.rest.bytes < 2 ^ 63;
    }

abbrev pub decreases-rows : goal.decreases-rows
decreases-rows g l = length l.initial.rows - l.count
