use Rattle.std.proofs.Common.{◌≡◌, ◌≤◌, ◌∙◌, rules, arith, refl, Err, length}
use Rattle.std.proofs.lemmas.List.{nil_from_length}
use Rattle.gimli_c.proofs.Shorter.{passed_leave, one_leaves, bytes_leave, all_never, one_never}
use Rattle.gimli_c.proofs.StepTurns.{none_left, steps_end, value_refused, value_passed, more_has}
use Rattle.gimli_c.proofs.by_table.pass_steps_by.Goals.{then-left-count-via-then-left-count}
use Rattle.gimli_c.proofs.by_table.pass_steps_by.Goals.{then-left-count-via-else-left-count+then-not-pass_step}
use Rattle.gimli_c.proofs.by_table.pass_steps_by.Goals as goal

pub returns-then-left-count-clause-shorter : goal.returns-then-left-count-clause-shorter
returns-then-left-count-clause-shorter g c =
    let inv = c.steps.invariant in
    let stays : c.then-left-count.input ≡ c.steps.input = elim c.then-left-count.branch [
      | then-left-count-via-then-left-count w ↦ w.input-is
      | then-left-count-via-else-left-count+then-not-pass_step w ↦
          w.input-is ∙ w.pass_step.ensures.kept w.if-not-pass_step.true
    ] in
    passed_leave _ _ _ _ _ _ c.pass_values_by.result inv.shorter (rw stays at c.pass_values_by.ensures)

pub returns-in_default-split_first-clause-passed : goal.returns-in_default-split_first-clause-passed
returns-in_default-split_first-clause-passed g c = λ given.
    let inv = c.steps.invariant in
    let count = c.from-count.ensures in
    let did = c.pass_step.ensures.passed c.if-not-pass_step.false in
    let fits : c.in-Some.first.now.step.values ≤ length c.steps.left.now =
    omega (arith, c.if-left-count.false, count) in
    let none = rw count at (nil_from_length _ c.in_default-split_first.ensures.cases) in
    steps_end _ _ _ _ _ _ (inv.passed given) (inv.has given) _ _ c.in-Some.ensures.cases.0 fits _
    did _ refl none

pub returns-in_default-split_first-clause-shorter :
    goal.returns-in_default-split_first-clause-shorter
returns-in_default-split_first-clause-shorter g c =
    let less = bytes_leave _ _ _ (c.pass_step.ensures.bytes c.if-not-pass_step.false) in
    omega (arith, c.steps.invariant.shorter, less)

pub returns-in_err-pass_value_by-clause-passed : goal.returns-in_err-pass_value_by-clause-passed
returns-in_err-pass_value_by-clause-passed g c = λ given.
    let inv = c.steps.invariant in
    let count = c.from-count.ensures in
    let did = c.pass_step.ensures.passed c.if-not-pass_step.false in
    let fits : c.in-Some.first.now.step.values ≤ length c.steps.left.now =
    omega (arith, c.if-left-count.false, count) in
    let there = rw count at c.in-Some-split_first.ensures.cases.0 in
    let r : c.from_residual.result ≡ Err c.in_err-pass_value_by.field-0.0 = search rules in
    rw r (value_refused _ _ _ _ _ _ (inv.passed given) (inv.has given) _ _
    c.in-Some.ensures.cases.0 fits _ did _ there _ _ refl _ c.in_err-pass_value_by.ensures)

pub steps-preserved : goal.steps-preserved
steps-preserved g c =
    let inv = c.steps.invariant in
    let count = c.from-count.ensures in
    let did = c.pass_step.ensures.passed c.if-not-pass_step.false in
    let fits : c.in-Some.first.now.step.values ≤ length c.steps.left.now =
    omega (arith, c.if-left-count.false, count) in
    let there = rw count at c.in-Some-split_first.ensures.cases.0 in
    let less = bytes_leave _ _ _ (c.pass_step.ensures.bytes c.if-not-pass_step.false) in
    let one = one_leaves _ _ _ _ _ c.in_ok-pass_value_by.ensures in
    record {
      passed = λ given. value_passed _ _ _ _ _ _ (inv.passed given) (inv.has given) _ _
          c.in-Some.ensures.cases.0 fits _ did _ there _ _ refl _ c.in_ok-pass_value_by.ensures;
      has = λ given. more_has _ _ _ _ _ _ (inv.passed given) (inv.has given) _ _
          c.in-Some.ensures.cases.0 fits _ did _ there _ _ refl;
      shorter = omega (arith, inv.shorter, less, one);
    }

pub returns-clause-passed : goal.returns-clause-passed
returns-clause-passed g c = λ given.
    let none = nil_from_length _ c.in_default.ensures.cases in
    none_left _ _ _ _ _ _ (c.steps.invariant.passed given) none

pub returns-then-left-count-clause-memory : goal.returns-then-left-count-clause-memory
returns-then-left-count-clause-memory g c =
    all_never _ _ _ _ _ c.pass_values_by.result c.pass_values_by.ensures

pub returns-in_err-pass_value_by-clause-memory : goal.returns-in_err-pass_value_by-clause-memory
returns-in_err-pass_value_by-clause-memory g c =
    let r : c.from_residual.result ≡ Err c.in_err-pass_value_by.field-0.0 = search rules in
    rw r (one_never _ _ _ _ _ c.in_err-pass_value_by.ensures)
