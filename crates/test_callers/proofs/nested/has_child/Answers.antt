use Rattle.std.proofs.Common.{Ok}
use Rattle.test_callers.proofs.InnerCounts.{was_entered, was_left}
use Rattle.test_callers.proofs.nested.has_child.Goals as goal

pub returns-clause-ok : goal.returns-clause-ok
returns-clause-ok g c =
    let asked = c.in_ok-found.ensures.asked in
    let left = was_left g.R.Offset.ReaderOffset.limit c.args.walker.now _ _ c.requires.sound
    c.requires.node c.in_ok-enter.ensures.entered.1 c.in_ok-found.found _ asked
    c.leave.ensures.left.1 in
    rw left.0
    (was_entered g.R.Offset.ReaderOffset.limit c.args.walker.now _ _ c.requires.sound
    c.requires.node c.in_ok-enter.ensures.entered.1 (Ok c.in_ok-found.found) asked)

pub returns-clause-lists : goal.returns-clause-lists
returns-clause-lists g c =
    (was_left g.R.Offset.ReaderOffset.limit c.args.walker.now _ _ c.requires.sound c.requires.node
    c.in_ok-enter.ensures.entered.1 c.in_ok-found.found _ c.in_ok-found.ensures.asked
    c.leave.ensures.left.1).1
