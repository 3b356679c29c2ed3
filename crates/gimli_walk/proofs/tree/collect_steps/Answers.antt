use Rattle.gimli_walk.specs.Trees.{step_answer_by}
use Rattle.gimli_walk.proofs.Telling.{collected_all}
use Rattle.gimli_walk.proofs.tree.collect_steps.Goals as goal

pub returns : goal.returns
returns g c =
    let all = collected_all (step_answer_by g.R.Reader.view g.R.Offset.ReaderOffset.number) (λ x. Unit {0})
    _ _ c.new.result.items c.run_steps.new.sink.answers.items c.is_err-stopped.result
    c.run_steps.result c.new.ensures.items c.is_err-stopped.ensures.value c.run_steps.ensures in
    record { run = all.0; stopped = all.2 }
