use Rattle.gimli_walk.specs.Cursors.{answer_held, IsPaired}
use Rattle.gimli_walk.proofs.Telling.{collected_all}
use Rattle.gimli_walk.proofs.cursor.collect_steps.Goals as goal

pub returns : goal.returns
returns g c =
    let number = g.R.Offset.ReaderOffset.number in
    let all = collected_all (answer_held g.R.Reader.view number) (IsPaired number) _ _
    c.new.result.items
    c.run_steps.new.sink.answers.items c.is_err-stopped.result c.run_steps.result
    c.new.ensures.items c.is_err-stopped.ensures.value c.run_steps.ensures in
    record { run = all.0; paired = all.1; stopped = λ s. rw s at all.2; whole = λ s. rw s at all.2 }
