use Rattle.std.proofs.Common.{rules, ◌≡◌, refl, sym, ap, ◌∙◌, arith, true, Ok, Err}
use Rattle.test_callers.proofs.Counts.{counts, stays_honest, fewer_left, was_open, ended, failed}
use Rattle.test_callers.proofs.count.count.Goals as goal

pub returns-in_err-advance : goal.returns-in_err-advance
returns-in_err-advance g c =
    let r : c.from_residual.result ≡ Err c.in_err-advance.field-0.0 = search rules in
    let e = c.advance.ensures in
    rw r (record {
      counted = λ honest fine.
          let k = c.steps.invariant.2 honest in
          sym (k.1
          ∙ failed g.R.Offset.ReaderOffset.limit _ _ _ c.advance.new.self.tree.now _ _
          (λ o. rw c.in_err-advance.was at e.gone_on o (c.steps.invariant.0 o))
          (λ o. sym c.in_err-advance.was ∙ (e.closed o).0) k.0 fine);
    })

pub steps-preserved : goal.steps-preserved
steps-preserved g c =
    let e = c.advance.ensures in
    let yes = c.in_ok-advance.was ∙ ap Ok c.if-branch.true in
    let was = was_open c.steps.children.is_open c.advance.result (λ k. (e.closed k).0) yes in
    let gone = rw yes at e.gone_on was (c.steps.invariant.0 was) in
    let fewer = fewer_left g.R.Offset.ReaderOffset.limit _ _ _ gone in
    let few = c.steps.invariant.1 in (
      (λ o. rw e.depth (c.steps.invariant.0 was)),
      omega (arith, fewer, few),
      (λ honest.
          let k = c.steps.invariant.2 honest in (
            stays_honest g.R.Offset.ReaderOffset.limit _ _ _ _ gone k.0 true refl,
            k.1
                ∙ rw (was, e.opened yes, e.depth)
                (counts g.R.Offset.ReaderOffset.limit _ _ _ _ gone k.0 c.steps.count),
          )),
    )

pub returns : goal.returns
returns g c =
    let e = c.advance.ensures in
    let no = c.in_ok-advance.was ∙ ap Ok c.if-branch.false in
    record {
      counted = λ honest.
          let k = c.steps.invariant.2 honest in
          sym (k.1
          ∙ ended g.R.Offset.ReaderOffset.limit _ _ _ c.advance.new.self.tree.now _
          (λ o. rw no at e.gone_on o (c.steps.invariant.0 o)) k.0);
    }
