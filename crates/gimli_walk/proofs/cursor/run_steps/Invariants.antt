use Rattle.std.proofs.Common.{drop}
use Rattle.gimli_walk.specs.CursorTurns.{HasRun}
use Rattle.gimli_walk.proofs.Telling.{AnsweredSoFar}
use Rattle.gimli_walk.proofs.cursor.run_steps.Given as goal

abbrev pub invariant-steps : goal.invariant-steps
invariant-steps g l =
    let limit = g.R.Offset.ReaderOffset.limit in
    AnsweredSoFar (HasRun limit l.initial.cursor l.steps)
    (HasRun limit l.cursor (drop l.step-index l.steps))
    (λ all. g.S.Sink.has_received l.initial.sink all l.sink) l.step-index
