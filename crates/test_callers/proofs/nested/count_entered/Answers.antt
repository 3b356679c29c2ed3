use Rattle.std.proofs.Common.{rules, ◌≡◌, refl, sym, ap, ◌∙◌, arith, Ok, Err}
use Rattle.test_callers.proofs.NodeCounts.{end_counts, fault_counts}
use Rattle.test_callers.proofs.InnerCounts.{node_on, inner_counts, inner_fewer, inner_fails}
use Rattle.test_callers.proofs.nested.count_entered.Goals as goal

pub nodes-init : goal.nodes-init
nodes-init g c =
    let few = c.requires.sound.tree.sound.few in (omega (arith, few), λ honest. (honest, refl))

pub has_child-requires-clause-node : goal.has_child-requires-clause-node
has_child-requires-clause-node g c =
    node_on g.R.Offset.ReaderOffset.limit _ _ c.next.new.self _
    (rw (c.in_ok-next.was ∙ ap Ok c.if-branch.true) at c.next.ensures.asked)

pub returns-in_err-next : goal.returns-in_err-next
returns-in_err-next g c =
    let r : c.from_residual.result ≡ Err c.in_err-next.field-0.0 = search rules in
    rw r (record {
      counted = λ honest fine.
          let k = c.nodes.invariant.1 honest in
          sym (k.1
          ∙ fault_counts g.R.Offset.ReaderOffset.limit _ _ _ _ _
          (rw c.in_err-next.was at c.next.ensures.asked) k.0 fine);
    })

pub returns-in_err-has_child : goal.returns-in_err-has_child
returns-in_err-has_child g c =
    let r : c.from_residual-in_err-has_child.result
    ≡ Err c.in_err-has_child.field-0.0 = search rules in
    rw r (record {
      counted = λ honest fine.
          let k = c.nodes.invariant.1 honest in
          sym (k.1
          ∙ inner_fails g.R.Offset.ReaderOffset.limit _ _ c.has_child.new.walker _ _ _
          (rw (c.in_ok-next.was ∙ ap Ok c.if-branch.true) at c.next.ensures.asked)
          (c.in_err-has_child.ensures.err fine) fine k.0);
    })

pub nodes-smaller : goal.nodes-smaller
nodes-smaller g c =
    let fewer = inner_fewer g.R.Offset.ReaderOffset.limit _ _ c.has_child.new.walker _ _
    (rw (c.in_ok-next.was ∙ ap Ok c.if-branch.true) at c.next.ensures.asked)
    c.in_ok-has_child.ensures.ok in
    omega (arith, fewer)

pub nodes-preserved : goal.nodes-preserved
nodes-preserved g c =
    let asked = rw (c.in_ok-next.was ∙ ap Ok c.if-branch.true) at c.next.ensures.asked in
    let inner = c.in_ok-has_child.ensures.ok in
    let fewer = inner_fewer g.R.Offset.ReaderOffset.limit _ _ c.has_child.new.walker _ _ asked inner
    in
    let few = c.nodes.invariant.0 in (
      omega (arith, fewer, few),
      λ honest.
          let k = c.nodes.invariant.1 honest in
          let n = inner_counts g.R.Offset.ReaderOffset.limit _ _ c.has_child.new.walker _
          c.nodes.count _ asked inner c.in_ok-has_child.ensures.lists k.0 in
          (n.0, k.1 ∙ n.1),
    )

pub returns : goal.returns
returns g c =
    let no = c.in_ok-next.was ∙ ap Ok c.if-branch.false in
    record {
      counted = λ honest.
          let k = c.nodes.invariant.1 honest in
          sym (k.1
          ∙ end_counts g.R.Offset.ReaderOffset.limit _ _ _ _ (rw no at c.next.ensures.asked)
          k.0);
    }
