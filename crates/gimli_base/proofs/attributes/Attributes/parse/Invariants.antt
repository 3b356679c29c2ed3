use Rattle.std.proofs.Common.{length}
use Rattle.gimli_base.specs.Items.{items_at, ItemsSoFar}
use Rattle.gimli_base.specs.Abbreviations.{specification_at}
use Rattle.gimli_base.proofs.StepTurns.{StepsSoFar}
use Rattle.gimli_base.proofs.attributes.Attributes.parse.Given as goal

abbrev pub invariant-loop-specification : goal.invariant-loop-specification
invariant-loop-specification g l =
    record {
      read : ItemsSoFar specification_at
          (items_at specification_at (g.R.Reader.view l.initial.input)) l.self.specifications
          (g.R.Reader.view l.input);
      steps : StepsSoFar l.self.steps l.run l.is_seen l.self.specifications;
    }

abbrev pub decreases-loop-specification : goal.decreases-loop-specification
decreases-loop-specification g l = length (g.R.Reader.view l.input).bytes
