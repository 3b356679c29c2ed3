use Rattle.std.proofs.Common.{rules, ◌+◌, ◌-◌, arith, refl}
use Rattle.gimli_base.specs.Reading.{uleb_at}
use Rattle.gimli_base.proofs.LebTurns.{scale_more, scale_fits, small_more}
use Rattle.gimli_base.proofs.UlebTurns.{uleb_first, uleb_turn_ended, uleb_turn_last, uleb_turn_more}
use Rattle.gimli_base.proofs.UlebTurns.{uleb_turn_tenth, uleb_turn_over}
use Rattle.gimli_base.proofs.leb128.long_uleb128.Goals as goal

pub returns-in_err-read_u8 : goal.returns-in_err-read_u8
unfolding uleb_at
returns-in_err-read_u8 g c =
    let ended = uleb_turn_ended _ _ _ _ _ c.loop-i.invariant.same _
    c.in_err-read_u8.ensures.value in
    search rules

pub overflow_mul-result : goal.overflow_mul-result
overflow_mul-result g c =
    omega (
      arith,
      scale_fits c.loop-i.i 8 (omega arith),
      scale_more c.loop-i.i,
      small_more c.loop-i.value c.from-byte.result c.loop-i.scale (omega arith) (omega arith),
    )

pub overflow_add-result : goal.overflow_add-result
overflow_add-result g c =
    omega (
      arith,
      scale_fits c.loop-i.i 8 (omega arith),
      scale_more c.loop-i.i,
      small_more c.loop-i.value c.from-byte.result c.loop-i.scale (omega arith) (omega arith),
    )

pub returns-then-byte-lt128 : goal.returns-then-byte-lt128
unfolding uleb_at
returns-then-byte-lt128 g c =
    uleb_turn_last _ _ _ _ _ c.loop-i.invariant.same _ _ _ c.loop-i-test.true c.from-byte.ensures
    c.in_ok-read_u8.ensures.value c.if-byte-lt128.true

pub overflow_mul-value : goal.overflow_mul-value
overflow_mul-value g c =
    omega (
      arith,
      scale_fits c.loop-i.i 8 (omega arith),
      scale_more c.loop-i.i,
      small_more c.loop-i.value (c.from-byte.result - 128) c.loop-i.scale (omega arith) (omega arith),
    )

pub overflow_add-value : goal.overflow_add-value
overflow_add-value g c =
    omega (
      arith,
      scale_fits c.loop-i.i 8 (omega arith),
      scale_more c.loop-i.i,
      small_more c.loop-i.value (c.from-byte.result - 128) c.loop-i.scale (omega arith) (omega arith),
    )

pub overflow_mul-scale : goal.overflow_mul-scale
overflow_mul-scale g c =
    omega (arith, scale_fits (c.loop-i.i + 1) 9 (omega arith), scale_more c.loop-i.i)

pub loop-i-init : goal.loop-i-init
loop-i-init g c = record { scale = refl; small = omega arith; same = uleb_first _ }

pub loop-i-preserved : goal.loop-i-preserved
loop-i-preserved g c = record {
  scale = omega (arith, scale_more c.loop-i.i);
  small =
      omega (
        arith,
        scale_more c.loop-i.i,
        small_more c.loop-i.value (c.from-byte.result - 128) c.loop-i.scale (omega arith)
            (omega arith),
      );
  same = uleb_turn_more _ _ _ _ _ c.loop-i.invariant.same _ _ _ c.loop-i-test.true
      c.from-byte.ensures c.in_ok-read_u8.ensures.value c.if-byte-lt128.false;
}

pub returns-in_err-read_u8-2 : goal.returns-in_err-read_u8-2
unfolding uleb_at
returns-in_err-read_u8-2 g c =
    let ended = uleb_turn_ended _ _ _ _ _ c.loop-i.invariant.same _
    c.in_err-read_u8-2.ensures.value in
    search rules

pub returns-then-byte-gt1 : goal.returns-then-byte-gt1
unfolding uleb_at
returns-then-byte-gt1 g c =
    uleb_turn_over _ _ _ _ _ c.loop-i.invariant.same _ _ _ c.loop-i-test.false c.from-byte-2.ensures
    c.in_ok-read_u8-2.ensures.value c.if-byte-gt1.true

pub returns : goal.returns
unfolding uleb_at
returns g c =
    uleb_turn_tenth _ _ _ _ _ c.loop-i.invariant.same _ _ _ c.loop-i-test.false
    c.from-byte-2.ensures c.in_ok-read_u8-2.ensures.value c.if-byte-gt1.false
