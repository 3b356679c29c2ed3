use Rattle.std.proofs.Common.{rules, ◌≡◌, refl, sym, ap, ◌∙◌, arith, Ok, Err}
use Rattle.test_callers.proofs.NodeCounts.{node_counts, node_fewer, end_counts, fault_counts}
use Rattle.test_callers.proofs.walked.count_nodes.Goals as goal

pub nodes-init : goal.nodes-init
nodes-init g c =
    let few = c.requires.sound.tree.sound.few in (omega (arith, few), λ honest. (honest, refl))

pub returns-in_err-next : goal.returns-in_err-next
returns-in_err-next g c =
    let r : c.from_residual.result ≡ Err c.in_err-next.field-0.0 = search rules in
    rw r (record {
      counted = λ honest fine.
          let k = c.nodes.invariant.1 honest in
          sym (k.1
          ∙ fault_counts g.R.Offset.ReaderOffset.limit _ _ _ _ _
          (rw c.in_err-next.was at c.next.ensures.asked) k.0 fine);
    })

pub nodes-preserved : goal.nodes-preserved
nodes-preserved g c =
    let yes = c.in_ok-next.was ∙ ap Ok c.if-branch.true in
    let asked = rw yes at c.next.ensures.asked in
    let fewer = node_fewer g.R.Offset.ReaderOffset.limit _ _ _ asked in
    let few = c.nodes.invariant.0 in (
      omega (arith, fewer, few),
      λ honest.
          let k = c.nodes.invariant.1 honest in
          let n = node_counts g.R.Offset.ReaderOffset.limit _ _ _ c.nodes.count asked k.0 in
          (n.0, k.1 ∙ n.1),
    )

pub returns : goal.returns
returns g c =
    let no = c.in_ok-next.was ∙ ap Ok c.if-branch.false in
    record {
      counted = λ honest.
          let k = c.nodes.invariant.1 honest in
          sym (k.1
          ∙ end_counts g.R.Offset.ReaderOffset.limit _ _ _ _ (rw no at c.next.ensures.asked)
          k.0);
    }
