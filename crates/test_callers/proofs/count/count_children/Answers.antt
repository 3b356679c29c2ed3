use Rattle.std.proofs.Common.{refl}
use Rattle.test_callers.proofs.Counts.{root_honest, root_counted}
use Rattle.test_callers.proofs.count.count_children.Goals as goal

pub count-requires-clause-few : goal.count-requires-clause-few
count-requires-clause-few g c = c.children-children.ensures.tree.sound.few

pub returns : goal.returns
returns g c =
    let begun = c.in_ok-root.ensures.begun in
    let e = c.children-children.ensures in
    let entry = (begun.yes refl).1 in
    let list = e.children entry in
    record {
      counted = λ honest.
          rw (root_counted g.R.Offset.ReaderOffset.limit _ _ begun honest, ← list, ← e.same_tree)
          (c.count.ensures.counted
          (rw e.same_tree (root_honest g.R.Offset.ReaderOffset.limit _ _ begun honest)));
    }
