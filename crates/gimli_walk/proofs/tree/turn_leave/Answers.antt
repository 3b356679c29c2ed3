use Rattle.std.proofs.Common.{sym, ◌∙◌, true, false}
use Rattle.gimli_units.specs.TreePlace.{has_left, no_node}
use Rattle.gimli_walk.proofs.TreeRuns.{on_ok, leave_turned}
use Rattle.gimli_walk.proofs.tree.turn_leave.Goals as goal

pub returns-then-leave-clause-turned : goal.returns-then-leave-clause-turned
returns-then-leave-clause-turned g c =
    let s = c.args.walker.now in
    let left = c.leave.ensures.left in
    let turned = leave_turned g.R.Offset.ReaderOffset.limit s.tree _ s.is_on true s.lists
    (sym c.if-leave.true ∙ left.0) left.1 in
    on_ok c.tell.result (λ answer. (has_left, turned, answer)) c.tell.ensures.answer

pub returns-else-leave-clause-turned : goal.returns-else-leave-clause-turned
returns-else-leave-clause-turned g c =
    let s = c.args.walker.now in
    let left = c.leave.ensures.left in
    let turned = leave_turned g.R.Offset.ReaderOffset.limit s.tree _ s.is_on false s.lists
    (sym c.if-leave.false ∙ left.0) left.1 in
    on_ok c.tell-else-leave.result (λ answer. (no_node, turned, answer))
    c.tell-else-leave.ensures.answer
