use Rattle.std.proofs.Common.{rules, ◌≡◌, Err}
use Rattle.gimli_units.proofs.SkipTurns.{turn_known, turn_refused, turn_passed, turn_end, begin}
use Rattle.gimli_units.proofs.SkipTurns.{sum_is, flush_place, value_place, end_place}
use Rattle.gimli_units.proofs.skip.skip_all.Goals as goal

pub specifications-init : goal.specifications-init
specifications-init g c = begin _ _ _ _ _ c.from_u8-pending.ensures

pub specifications-preserved-in-specifications : goal.specifications-preserved-in-specifications
specifications-preserved-in-specifications g c =
    turn_known _ _ _ _ _ _ _ c.specifications.invariant _ _ _ c.specifications-test.true
    c.specification-item.is c.in-Some.ensures
    (sum_is _ _ _ _ _ c.in-Some-checked_add.ensures c.from_u8.ensures)

pub returns-in_err-skip_value-clause-value : goal.returns-in_err-skip_value-clause-value
returns-in_err-skip_value-clause-value g c =
    let refused = rw c.form.ensures at c.in_err-skip_value.ensures in
    let r = turn_refused _ _ _ _ _ _ _ c.specifications.invariant _ _ _ _ c.specifications-test.true
    c.specification-item.is c.in_ok-skip.ensures.value refused in
    search rules

pub returns-in_err-skip_value-clause-place : goal.returns-in_err-skip_value-clause-place
returns-in_err-skip_value-clause-place g c =
    let r : c.from_residual-in_err-skip_value.result
    ≡ Err c.in_err-skip_value.field-0.0 = search rules in
    rw r
    (value_place _ _ _ _ _ _ _ c.specifications.invariant _ _ _ _ c.in_ok-skip.ensures.value
    c.in_err-skip_value.ensures)

pub returns-in_err-skip-clause-place : goal.returns-in_err-skip-clause-place
returns-in_err-skip-clause-place g c =
    let r : c.from_residual.result ≡ Err c.in_err-skip.field-0.0 = search rules in
    rw r (flush_place _ _ _ _ _ _ _ c.specifications.invariant _ c.in_err-skip.ensures.value)

pub specifications-preserved : goal.specifications-preserved
specifications-preserved g c =
    let passed = rw c.form.ensures at c.in_ok-skip_value.ensures in
    turn_passed _ _ _ _ _ _ _ c.specifications.invariant _ _ _ _ _ c.specifications-test.true
    c.specification-item.is c.in_ok-skip.ensures.value passed _
    c.from_u8-pending-in-specifications.ensures

pub returns-clause-value : goal.returns-clause-value
returns-clause-value g c =
    turn_end _ _ _ _ _ _ _ c.specifications.invariant _ _ c.specifications-test.false
    c.skip-2.ensures.value

pub returns-clause-place : goal.returns-clause-place
returns-clause-place g c =
    end_place _ _ _ _ _ _ _ c.specifications.invariant _ _ c.skip-2.ensures.value
