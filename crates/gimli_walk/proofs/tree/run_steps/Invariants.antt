use Rattle.std.proofs.Common.{drop}
use Rattle.gimli_walk.specs.TreeTurns.{HasTreeRun}
use Rattle.gimli_walk.proofs.Telling.{AnsweredSoFar}
use Rattle.gimli_walk.proofs.tree.run_steps.Given as goal

abbrev pub invariant-steps : goal.invariant-steps
invariant-steps g l =
    let limit = g.R.Offset.ReaderOffset.limit in
    AnsweredSoFar (HasTreeRun limit l.initial.walker l.steps)
    (HasTreeRun limit l.walker (drop l.step-index l.steps))
    (λ all. g.S.TreeSink.has_received l.initial.sink all l.sink) l.step-index
