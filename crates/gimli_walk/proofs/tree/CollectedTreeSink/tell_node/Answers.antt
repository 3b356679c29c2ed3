use Rattle.std.proofs.Common.{refl}
use Rattle.gimli_walk.specs.Trees.{step_answer_by}
use Rattle.gimli_walk.specs.SinkLaws.{collected_none}
use Rattle.gimli_walk.proofs.Telling.{collected_one}
use Rattle.gimli_walk.proofs.tree.CollectedTreeSink.tell_node.Goals as goal

pub returns-in_default-clause-kept : goal.returns-in_default-clause-kept
returns-in_default-clause-kept g c =
    λ m. collected_none (step_answer_by g.R.Reader.view g.R.Offset.ReaderOffset.number) (λ x. Unit {0})
    c.args.self.now.answers.items

pub returns-in-Err-clause-kept : goal.returns-in-Err-clause-kept
returns-in-Err-clause-kept g c =
    λ m. rw c.in-Err.ensures.items
    (collected_none (step_answer_by g.R.Reader.view g.R.Offset.ReaderOffset.number) (λ x. Unit {0})
    c.args.self.now.answers.items)

pub returns-clause-answer : goal.returns-clause-answer
returns-clause-answer g c =
    collected_one (step_answer_by g.R.Reader.view g.R.Offset.ReaderOffset.number) (λ x. Unit {0})
    c.args.self.now.answers.items c.push.new.self.items _ _ c.in-Ok-push.ensures.items
    (rw (c.in-Ok.ensures.value, c.in-Ok.ensures.offset, c.in-Ok.ensures.depth) refl) tt
