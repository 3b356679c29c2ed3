use Rattle.std.proofs.Common.{arith}
use Rattle.std.proofs.lemmas.Int.{ints}
use Rattle.gimli_base.specs.Reading.{sleb_at}
use Rattle.gimli_base.proofs.SlebTurns.{sleb_two, signed_range}
use Rattle.gimli_base.proofs.reader.Reader.read_sleb128.Goals as goal

pub returns-then-high-lt128-clause-value : goal.returns-then-high-lt128-clause-value
unfolding sleb_at
returns-then-high-lt128-clause-value g c =
    let bits = c.signed_bits-then-high-lt128.ensures in
    let range = signed_range _ _ c.if-high-lt128.true bits.low bits.high in
    rw (← c.copy-rest.ensures)
    (sleb_two _ _ c.if-high-lt128.true bits.low bits.high _ _ _ _ _ c.in_ok-low.ensures.value
    c.if-low-lt128.false c.in_ok-high.ensures.value (omega (arith, ints)))
