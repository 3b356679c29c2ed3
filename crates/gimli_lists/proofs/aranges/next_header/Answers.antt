use Rattle.std.proofs.Common.{rules, arith, ◌+◌, ◌<◌, length, ◌≡◌, ap}
use Rattle.gimli_base.specs.View.{View}
use Rattle.gimli_lists.proofs.SetReads.{set_at-left, set_at-shorter}
use Rattle.gimli_lists.proofs.aranges.next_header.Goals as goal

pub unwrap-whole_length-requires : goal.unwrap-whole_length-requires
unwrap-whole_length-requires g c =
    let left = set_at-left _ _ _ _ _ c.in-Ok.ensures in
    let same = ap (λ (v : View). length v.bytes) c.copy-rest.ensures in
    let number = g.R.Offset.ReaderOffset.number in
    let fits : number c.from_u8-field.result + number c.in-Ok.header.length
    < g.R.Offset.ReaderOffset.limit =
    omega (arith, left, same, c.from_u8-field.ensures, c.initial_length_size.ensures) in
    search rules

pub unwrap-after-requires : goal.unwrap-after-requires
unwrap-after-requires g c =
    let left = set_at-left _ _ _ _ _ c.in-Ok.ensures in
    let same = ap (λ (v : View). length v.bytes) c.copy-rest.ensures in
    let number = g.R.Offset.ReaderOffset.number in
    let whole : number c.unwrap-whole_length.result
    ≡ number c.from_u8-field.result + number c.in-Ok.header.length = search rules in
    let fits : number c.args.offset.now.0 + number c.unwrap-whole_length.result
    < g.R.Offset.ReaderOffset.limit =
    omega (arith, left, same, whole, c.from_u8-field.ensures, c.initial_length_size.ensures) in
    search rules

pub returns-in-Ok-clause-fits : goal.returns-in-Ok-clause-fits
returns-in-Ok-clause-fits g c =
    let left = set_at-left _ _ _ _ _ c.in-Ok.ensures in
    let same = ap (λ (v : View). length v.bytes) c.copy-rest.ensures in
    let number = g.R.Offset.ReaderOffset.number in
    let whole : number c.unwrap-whole_length.result
    ≡ number c.from_u8-field.result + number c.in-Ok.header.length = search rules in
    let sum : number c.unwrap-after.result
    ≡ number c.args.offset.now.0 + number c.unwrap-whole_length.result = search rules in
    omega (arith, left, same, whole, sum, c.from_u8-field.ensures, c.initial_length_size.ensures)

pub returns-in-Ok-clause-takes : goal.returns-in-Ok-clause-takes
returns-in-Ok-clause-takes g c =
    let shorter = set_at-shorter _ _ _ _ _ c.in-Ok.ensures in
    let same = ap (λ (v : View). length v.bytes) c.copy-rest.ensures in
    omega (arith, shorter, same)
