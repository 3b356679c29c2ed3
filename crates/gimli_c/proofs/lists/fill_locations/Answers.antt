use Rattle.std.proofs.Common.{◌≡◌, ◌<◌, ◌≤◌, length, refl, arith, rules}
use Rattle.gimli_lists.specs.Locations.{location_of, locations_ahead}
use Rattle.gimli_c.specs.Lists.{location_row}
use Rattle.gimli_c.proofs.ListFront.{front_written, front_counted, list_ended, list_refused}
use Rattle.gimli_c.proofs.lists.fill_locations.Goals.{then-count-locations, else-count-locations}
use Rattle.gimli_c.proofs.lists.fill_locations.Goals.{in-Ok-None, in-Err}
use Rattle.gimli_c.proofs.lists.fill_locations.Goals as goal

pub found-preserved : goal.found-preserved
found-preserved g c =
    let view = g.R.Reader.view in
    let start = locations_ahead g.R.Offset.ReaderOffset.limit c.args.list.now in
    let now = locations_ahead g.R.Offset.ReaderOffset.limit c.found.list in
    let rest = locations_ahead g.R.Offset.ReaderOffset.limit c.next.new.self in
    let old = c.args.locations.now in
    let p = c.found.invariant in
    let x = location_of view c.in-Ok-Some.location in
    let ahead = rw c.in-Ok-Some.field-0-is at c.in-Ok-Some.ensures.ahead in
    let takes = rw c.in-Ok-Some.field-0-is at c.in-Ok-Some.ensures.takes in
    record {
      front = elim c.if-count-locations.branch [
        | then-count-locations w ↦
            let room : c.found.count < length old =
            omega (arith, w.if-count-locations.true, c.found.auto.locations) in
            let place : w.offset_id.result.0 ≡ (view c.in-Ok-Some.location.expr.0).place =
            search rules in
            let size : w.into_u64.result ≡ length (view c.in-Ok-Some.location.expr.0).bytes =
            search rules in
            rw (w.locations-is, place, size)
            (front_written location_row start now rest old c.found.locations c.found.count x
            (location_row x) p.front ahead room refl)
        | else-count-locations w ↦
            let full : length old ≤ c.found.count =
            omega (arith, w.if-count-locations.false, c.found.auto.locations) in
            rw w.locations-is
            (front_counted location_row start now rest old c.found.locations c.found.count x p.front
            ahead full)
      ];
      fits = omega (arith, p.fits, takes);
    }

pub returns : goal.returns
returns g c =
    let start = locations_ahead g.R.Offset.ReaderOffset.limit c.args.list.now in
    let now = locations_ahead g.R.Offset.ReaderOffset.limit c.found.list in
    let rest = locations_ahead g.R.Offset.ReaderOffset.limit c.next.new.self in
    let front = c.found.invariant.front in
    rw (c.list_outcome.ensures, c.found.auto.locations) (elim c.match-next.branch [
      | in-Ok-None w ↦
          rw w.last-is
          (list_ended location_row start now c.args.locations.now c.found.locations c.found.count front
          (rw w.in-Ok-None.field-0-is at w.in-Ok-None.ensures.ahead))
      | in-Err w ↦
          rw (w.last-is, w.row_refused-last.ensures)
          (list_refused location_row start now c.args.locations.now c.found.locations c.found.count front
          w.in-Err.error rest w.in-Err.ensures.ahead)
    ])
