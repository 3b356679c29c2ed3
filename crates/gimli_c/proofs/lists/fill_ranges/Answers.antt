use Rattle.std.proofs.Common.{◌<◌, ◌≤◌, length, refl, arith}
use Rattle.gimli_lists.specs.Ranges.{resolved_of, ranges_ahead}
use Rattle.gimli_c.specs.Lists.{range_row}
use Rattle.gimli_c.proofs.ListFront.{front_written, front_counted, list_ended, list_refused}
use Rattle.gimli_c.proofs.lists.fill_ranges.Goals.{then-count-ranges, else-count-ranges}
use Rattle.gimli_c.proofs.lists.fill_ranges.Goals.{in-Ok-None, in-Err}
use Rattle.gimli_c.proofs.lists.fill_ranges.Goals as goal

pub found-preserved : goal.found-preserved
found-preserved g c =
    let start = ranges_ahead g.R.Offset.ReaderOffset.limit c.args.list.now in
    let now = ranges_ahead g.R.Offset.ReaderOffset.limit c.found.list in
    let rest = ranges_ahead g.R.Offset.ReaderOffset.limit c.next.new.self in
    let old = c.args.ranges.now in
    let p = c.found.invariant in
    let x = resolved_of c.in-Ok-Some.range in
    let ahead = rw c.in-Ok-Some.field-0-is at c.in-Ok-Some.ensures.ahead in
    let takes = rw c.in-Ok-Some.field-0-is at c.in-Ok-Some.ensures.takes in
    record {
      front = elim c.if-count-ranges.branch [
        | then-count-ranges w ↦
            let room : c.found.count < length old =
            omega (arith, w.if-count-ranges.true, c.found.auto.ranges) in
            rw w.ranges-is
            (front_written range_row start now rest old c.found.ranges c.found.count x (range_row x)
            p.front ahead room refl)
        | else-count-ranges w ↦
            let full : length old ≤ c.found.count =
            omega (arith, w.if-count-ranges.false, c.found.auto.ranges) in
            rw w.ranges-is
            (front_counted range_row start now rest old c.found.ranges c.found.count x p.front ahead
            full)
      ];
      fits = omega (arith, p.fits, takes);
    }

pub returns : goal.returns
returns g c =
    let start = ranges_ahead g.R.Offset.ReaderOffset.limit c.args.list.now in
    let now = ranges_ahead g.R.Offset.ReaderOffset.limit c.found.list in
    let rest = ranges_ahead g.R.Offset.ReaderOffset.limit c.next.new.self in
    let front = c.found.invariant.front in
    rw (c.list_outcome.ensures, c.found.auto.ranges) (elim c.match-next.branch [
      | in-Ok-None w ↦
          rw w.last-is
          (list_ended range_row start now c.args.ranges.now c.found.ranges c.found.count front
          (rw w.in-Ok-None.field-0-is at w.in-Ok-None.ensures.ahead))
      | in-Err w ↦
          rw (w.last-is, w.row_refused-last.ensures)
          (list_refused range_row start now c.args.ranges.now c.found.ranges c.found.count front
          w.in-Err.error rest w.in-Err.ensures.ahead)
    ])
