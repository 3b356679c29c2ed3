use Rattle.std.proofs.Common.{arith, ◌≡◌, ◌+◌, ◌-◌}
use Rattle.gimli_c.proofs.TableSteps.{put_longer, put_other}
use Rattle.gimli_c.proofs.table.put_steps.Goals.{then-not-push, else-not-push}
use Rattle.gimli_c.proofs.table.put_steps.Goals as goal

pub each-preserved : goal.each-preserved
each-preserved c =
    let next : c.each.index ≡ c.each.index - 1 + 1 = omega (arith, c.each-test.true) in
    let old = c.args.specifications.now in
    let so_far = c.each.invariant in
    let item = c.specification-specification.ensures in
    elim c.if-not-push.branch [
      | then-not-push w ↦
          let pushed = rw (item, w.new-step-then-not-push.ensures) at
          w.push-then-not-push.ensures.pushed in
          let kept = rw w.new-step-then-not-push.ensures at w.push-then-not-push.ensures.kept in
          rw w.step-is (put_other old _ _ _ _ so_far next _ _ _ pushed kept)
      | else-not-push w ↦
          rw w.step-is (put_longer old _ _ _ _ so_far next _ _
          (rw item at (c.push.ensures.pushed w.if-not-push.false)))
    ]
