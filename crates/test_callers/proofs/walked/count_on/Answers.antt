use Rattle.std.proofs.Common.{rules, ◌≡◌, refl, sym, ap, ◌∙◌, arith, Ok, Err}
use Rattle.test_callers.proofs.Below.{step_in, step_out, step_fault, none_left}
use Rattle.test_callers.proofs.walked.count_on.Goals as goal

pub returns-in_err-next : goal.returns-in_err-next
returns-in_err-next g c =
    let r : c.from_residual.result ≡ Err c.in_err-next.field-0.0 = search rules in
    let sound = c.walk.invariant.0.tree.sound in
    rw r (record {
      counted = λ fine. sym (c.walk.invariant.3
          ∙ step_fault g.R.Offset.ReaderOffset.limit c.walk.walker c.next.new.self sound
          c.walk.walker.lists c.walk.count _ (rw c.in_err-next.was at c.next.ensures.asked)
          c.walk.invariant.1 fine);
    })

pub walk-smaller-in_ok-enter : goal.walk-smaller-in_ok-enter
walk-smaller-in_ok-enter g c =
    let yes = c.in_ok-next.was ∙ ap Ok c.if-branch.true in
    let sound = c.walk.invariant.0.tree.sound in
    let gone = step_in g.R.Offset.ReaderOffset.limit c.walk.walker c.next.new.self sound
    c.walk.walker.lists c.walk.count c.enter.new.self (rw yes at c.next.ensures.asked)
    c.walk.invariant.1 c.in_ok-enter.ensures.entered.1 in
    let fewer = gone.fewer in
    let deeper = gone.deeper in
    omega (arith, fewer, deeper)

pub walk-preserved-in_ok-enter : goal.walk-preserved-in_ok-enter
walk-preserved-in_ok-enter g c =
    let yes = c.in_ok-next.was ∙ ap Ok c.if-branch.true in
    let sound = c.walk.invariant.0.tree.sound in
    let gone = step_in g.R.Offset.ReaderOffset.limit c.walk.walker c.next.new.self sound
    c.walk.walker.lists c.walk.count c.enter.new.self (rw yes at c.next.ensures.asked)
    c.walk.invariant.1 c.in_ok-enter.ensures.entered.1 in
    let fewer = gone.fewer in
    let few = c.walk.invariant.2 in (
      c.in_ok-enter.ensures.sound,
      gone.ready,
      omega (arith, fewer, few),
      c.walk.invariant.3
          ∙ gone.count,
    )

pub walk-smaller : goal.walk-smaller
walk-smaller g c =
    let no = c.in_ok-next.was ∙ ap Ok c.if-branch.false in
    let sound = c.walk.invariant.0.tree.sound in
    let some = rw c.list_count.ensures at c.walk-test.true in
    let gone = step_out g.R.Offset.ReaderOffset.limit c.walk.walker c.next.new.self sound
    c.walk.walker.lists c.walk.count c.leave.new.self (rw no at c.next.ensures.asked)
    c.walk.invariant.1 some c.leave.ensures.left.1 in
    let fewer = gone.fewer in
    let higher = gone.higher in
    omega (arith, fewer, higher)

pub walk-preserved : goal.walk-preserved
walk-preserved g c =
    let no = c.in_ok-next.was ∙ ap Ok c.if-branch.false in
    let sound = c.walk.invariant.0.tree.sound in
    let some = rw c.list_count.ensures at c.walk-test.true in
    let gone = step_out g.R.Offset.ReaderOffset.limit c.walk.walker c.next.new.self sound
    c.walk.walker.lists c.walk.count c.leave.new.self (rw no at c.next.ensures.asked)
    c.walk.invariant.1 some c.leave.ensures.left.1 in
    let fewer = gone.fewer in
    let few = c.walk.invariant.2 in
    (c.leave.ensures.sound, gone.ready, omega (arith, fewer, few), c.walk.invariant.3 ∙ gone.count)

pub returns : goal.returns
returns g c =
    let least = c.walk-test.false in
    let none : c.list_count.result ≡ 0 = omega (arith, least) in
    record {
      counted = sym
          (c.walk.invariant.3
          ∙ none_left g.R.Offset.ReaderOffset.limit c.walk.walker c.walk.walker.lists c.walk.count
          refl (sym c.list_count.ensures ∙ none));
    }
