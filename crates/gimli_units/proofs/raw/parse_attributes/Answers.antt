use Rattle.std.proofs.Common.{◌≡◌, ℕ, rules, arith, ap, Err}
use Rattle.gimli_units.proofs.AttributeTurns.{turn_not, turn_onto, turn_end}
use Rattle.gimli_units.proofs.raw.parse_attributes.Goals as goal

pub returns-in_err-read_form-clause-value : goal.returns-in_err-read_form-clause-value
returns-in_err-read_form-clause-value g c =
    let r : c.from_residual-in_err-read_form.result
    ≡ Err c.in_err-read_form.field-0.0 = search rules in
    rw r
    (λ _. turn_not _ _ _ _ _ _ _ c.loop-specification.invariant.same _ _
    c.loop-specification-test.true c.specification-item.is _ c.in_err-read_form.ensures.value)

pub loop-specification-preserved : goal.loop-specification-preserved
loop-specification-preserved g c =
    let onto = turn_onto _ _ _ _ _ _ _ c.loop-specification.invariant.same _ _
    c.loop-specification-test.true c.specification-item.is _ _ _ c.in_ok-read_form.ensures.value in
    let count = ap (λ (p : ℕ × ℕ). p.0) onto.1 in
    let room = ap (λ (p : ℕ × ℕ). p.1) onto.1 in
    record { same = onto.0; room = omega (arith, count, room) }

pub returns-clause-value : goal.returns-clause-value
returns-clause-value g c =
    turn_end _ _ _ _ _ _ _ c.loop-specification.invariant.same c.loop-specification-test.false
