use Rattle.std.proofs.Common.{◌≡◌, arith, w64, Some}
use Rattle.std.proofs.lemmas.Int.{to_z-of_z}
use Rattle.gimli_base.specs.Offset.{difference_of}
use Rattle.gimli_units.proofs.Jumps.{difference, skipped, stands_there, stands_here}
use Rattle.gimli_units.proofs.raw.EntriesRaw.go_to.Goals as goal

pub invariant_of-self : goal.invariant_of-self
invariant_of-self g c =
    let n = g.R.Offset.ReaderOffset.number in
    let fewer = skipped (n c.in-Some.count) (g.R.Reader.view c.self.inside.input)
    (g.R.Reader.view c.skip.new.self) c.in-Ok.ensures.value in
    rw (to_z-of_z w64 c.args.new_depth c.ranges.new_depth) (
      omega (arith, fewer, c.self.invariant),
      omega (arith, fewer, rw (← c.self.view_is) at c.requires),
    )

pub returns-in-Ok : goal.returns-in-Ok
returns-in-Ok g c =
    let n = g.R.Offset.ReaderOffset.number in
    let taken : Some (n c.in-Some.count)
    ≡ difference_of (n c.args.offset.0) (n c.next_offset.result.0) = c.in-Some.ensures in
    let apart = difference (n c.args.offset.0) (n c.next_offset.result.0) (n c.in-Some.count)
    taken in
    let low = rw (c.next_offset.ensures, ← c.self.view_is) at apart.0 in
    let skip = rw (apart.1, c.next_offset.ensures, ← c.self.view_is) at
    c.in-Ok.ensures.value in
    rw (to_z-of_z w64 c.args.new_depth c.ranges.new_depth, ← c.self.view_is)
    (stands_there _ (n c.args.offset.0) c.args.new_depth (g.R.Reader.view c.skip.new.self)
    c.self.invariant.0 low skip)

pub returns-in-Err : goal.returns-in-Err
returns-in-Err g c =
    let n = g.R.Offset.ReaderOffset.number in
    let taken : Some (n c.in-Some.count)
    ≡ difference_of (n c.args.offset.0) (n c.next_offset.result.0) = c.in-Some.ensures in
    let apart = difference (n c.args.offset.0) (n c.next_offset.result.0) (n c.in-Some.count)
    taken in
    let low = rw (c.next_offset.ensures, ← c.self.view_is) at apart.0 in
    let skip = rw (apart.1, c.next_offset.ensures, ← c.self.view_is) at
    c.in-Err.ensures.value in
    rw (c.in-Err.ensures.kept, ← c.self.view_is)
    (stands_here _ (n c.args.offset.0) c.args.new_depth c.in-Err.field-0 c.self.invariant.0 low
    skip)
