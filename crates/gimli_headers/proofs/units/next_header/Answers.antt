use Rattle.std.proofs.Common.{rules, arith, ◌+◌, ◌<◌, length, ◌≡◌, ap}
use Rattle.gimli_base.specs.View.{View}
use Rattle.gimli_headers.proofs.UnitReads.{unit_at-left, unit_at-shorter}
use Rattle.gimli_headers.proofs.units.next_header.Goals as goal

pub unwrap-after-requires : goal.unwrap-after-requires
unwrap-after-requires g c =
    let left = unit_at-left _ _ _ _ _ _ c.in-Ok.ensures.value in
    let same = ap (λ (v : View). length v.bytes) c.copy-rest.ensures in
    let number = g.R.Offset.ReaderOffset.number in
    let fits : number c.args.offset.now.0 + number c.length_including_self-whole_length.result
    < g.R.Offset.ReaderOffset.limit =
    omega (arith, left, same, c.length_including_self-whole_length.ensures) in
    search rules

pub returns-in-Ok-clause-fits : goal.returns-in-Ok-clause-fits
returns-in-Ok-clause-fits g c =
    let left = unit_at-left _ _ _ _ _ _ c.in-Ok.ensures.value in
    let same = ap (λ (v : View). length v.bytes) c.copy-rest.ensures in
    let number = g.R.Offset.ReaderOffset.number in
    let sum : number c.unwrap-after.result
    ≡ number c.args.offset.now.0 + number c.length_including_self-whole_length.result =
    search rules in
    omega (arith, left, same, sum, c.length_including_self-whole_length.ensures)

pub returns-in-Ok-clause-takes : goal.returns-in-Ok-clause-takes
returns-in-Ok-clause-takes g c =
    let shorter = unit_at-shorter _ _ _ _ _ _ c.in-Ok.ensures.value in
    let same = ap (λ (v : View). length v.bytes) c.copy-rest.ensures in
    omega (arith, shorter, same)
