use Rattle.std.proofs.Common.{rules, ◌+◌, arith, refl}
use Rattle.std.proofs.lemmas.Int.{ints}
use Rattle.gimli_base.specs.Reading.{sleb_at}
use Rattle.gimli_base.proofs.LebTurns.{scale_more, scale_fits, small_more}
use Rattle.gimli_base.proofs.SlebTurns.{sleb_first, signed_range, product_fits, sum_fits, sum_is}
use Rattle.gimli_base.proofs.SlebTurns.{sleb_turn_ended, sleb_turn_last, sleb_turn_more}
use Rattle.gimli_base.proofs.SlebTurns.{sleb_turn_zero, sleb_turn_ones, sleb_turn_over}
use Rattle.gimli_base.proofs.leb128.long_sleb128.Goals as goal

pub returns-in_err-byte : goal.returns-in_err-byte
unfolding sleb_at
returns-in_err-byte g c =
    let ended = sleb_turn_ended _ _ _ _ _ c.loop-i.invariant.same _ c.in_err-byte.ensures.value in
    search rules

pub overflow_cast-result : goal.overflow_cast-result
overflow_cast-result g c = omega (arith, ints, scale_fits c.loop-i.i 8 (omega arith))

pub overflow_cast-result-then-byte-lt128 : goal.overflow_cast-result-then-byte-lt128
overflow_cast-result-then-byte-lt128 g c =
    omega (arith, ints, scale_fits c.loop-i.i 8 (omega arith))

pub overflow_mul-result : goal.overflow_mul-result
overflow_mul-result g c =
    let bits = c.signed_bits.ensures in
    product_fits c.loop-i.i c.loop-i.value c.loop-i.scale _ c.loop-i-test.true
    c.loop-i.invariant.scale (omega arith)
    (signed_range _ _ c.if-byte-lt128.true bits.low bits.high)

pub overflow_add-result : goal.overflow_add-result
overflow_add-result g c =
    let bits = c.signed_bits.ensures in
    sum_fits c.loop-i.i c.loop-i.value c.loop-i.scale _ c.loop-i-test.true c.loop-i.invariant.scale
    (omega arith) (signed_range _ _ c.if-byte-lt128.true bits.low bits.high)

pub returns-then-byte-lt128 : goal.returns-then-byte-lt128
unfolding sleb_at
returns-then-byte-lt128 g c =
    let bits = c.signed_bits.ensures in
    let sum = sum_is c.loop-i.i c.loop-i.value c.loop-i.scale _ c.loop-i-test.true
    c.loop-i.invariant.scale (omega arith)
    (signed_range _ _ c.if-byte-lt128.true bits.low bits.high) in
    sleb_turn_last _ _ _ _ _ c.loop-i.invariant.same _ _ _ _ c.if-byte-lt128.true bits.low bits.high
    c.loop-i-test.true c.in_ok-byte.ensures.value sum

pub overflow_mul-value : goal.overflow_mul-value
overflow_mul-value g c =
    omega (
      arith,
      scale_fits c.loop-i.i 8 (omega arith),
      scale_more c.loop-i.i,
      small_more c.loop-i.value c.from.result c.loop-i.scale (omega arith) (omega arith),
    )

pub overflow_add-value : goal.overflow_add-value
overflow_add-value g c =
    omega (
      arith,
      scale_fits c.loop-i.i 8 (omega arith),
      scale_more c.loop-i.i,
      small_more c.loop-i.value c.from.result c.loop-i.scale (omega arith) (omega arith),
    )

pub overflow_mul-scale : goal.overflow_mul-scale
overflow_mul-scale g c =
    omega (arith, scale_fits (c.loop-i.i + 1) 9 (omega arith), scale_more c.loop-i.i)

pub loop-i-init : goal.loop-i-init
loop-i-init g c = record { scale = refl; small = omega arith; same = sleb_first _ }

pub loop-i-preserved : goal.loop-i-preserved
loop-i-preserved g c = record {
  scale = omega (arith, scale_more c.loop-i.i);
  small =
      omega (
        arith,
        scale_more c.loop-i.i,
        small_more c.loop-i.value c.from.result c.loop-i.scale (omega arith) (omega arith),
      );
  same = sleb_turn_more _ _ _ _ _ c.loop-i.invariant.same _ _ _ c.loop-i-test.true c.from.ensures
      c.in_ok-byte.ensures.value c.if-byte-lt128.false;
}

pub returns-in_err-read_u8 : goal.returns-in_err-read_u8
unfolding sleb_at
returns-in_err-read_u8 g c =
    let ended = sleb_turn_ended _ _ _ _ _ c.loop-i.invariant.same _
    c.in_err-read_u8.ensures.value in
    search rules

pub returns-in-0 : goal.returns-in-0
unfolding sleb_at
returns-in-0 g c =
    let fits = scale_fits c.loop-i.i 9 (omega arith) in
    sleb_turn_zero _ _ _ _ _ c.loop-i.invariant.same _ _ _ c.loop-i-test.false
    c.in_ok-read_u8.ensures.value c.in-0.is (omega (arith, ints))

pub returns-in-127 : goal.returns-in-127
unfolding sleb_at
returns-in-127 g c =
    let least = scale_fits 9 c.loop-i.i c.loop-i-test.false in
    let most = scale_fits c.loop-i.i 9 (omega arith) in
    sleb_turn_ones _ _ _ _ _ c.loop-i.invariant.same _ _ _ c.loop-i-test.false
    c.in_ok-read_u8.ensures.value c.in-127.is (omega (arith, ints))

pub returns-in_default : goal.returns-in_default
unfolding sleb_at
returns-in_default g c =
    sleb_turn_over _ _ _ _ _ c.loop-i.invariant.same _ _ c.loop-i-test.false
    c.in_ok-read_u8.ensures.value (search rules) (search rules)
