use Rattle.test_callers.proofs.Counts.{root_honest, root_counted}
use Rattle.test_callers.proofs.Below.{root_entered}
use Rattle.test_callers.proofs.walked.count_root_children.Goals as goal

pub returns : goal.returns
returns g c =
    let limit = g.R.Offset.ReaderOffset.limit in
    let begun = c.in_ok-root.ensures.begun in
    let is = root_entered limit _ _ _ begun c.in_ok-root.ensures.stands
    c.in_ok-enter.ensures.entered.1 in
    let counted = rw is at c.count_nodes.ensures.counted in
    record {
      counted = λ honest. rw (root_counted limit _ _ begun honest)
          (counted (root_honest limit _ _ begun honest));
    }
