use Rattle.gimli_walk.specs.Trees.{step_answer_by}
use Rattle.gimli_walk.specs.SinkLaws.{collected_none}
use Rattle.gimli_walk.proofs.tree.CollectedTreeSink.tell.Goals as goal

pub returns-in-Err-clause-kept : goal.returns-in-Err-clause-kept
returns-in-Err-clause-kept g c =
    λ m. rw c.in-Err.ensures.items
    (collected_none (step_answer_by g.R.Reader.view g.R.Offset.ReaderOffset.number) (λ x. Unit {0})
    c.args.self.now.answers.items)
