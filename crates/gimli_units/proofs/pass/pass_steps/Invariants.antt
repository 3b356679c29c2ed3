use Rattle.std.proofs.Common.{length}
use Rattle.gimli_units.specs.Sized.{found_numbers}
use Rattle.gimli_units.proofs.StepReads.{StepsLeft}
use Rattle.gimli_units.proofs.pass.pass_steps.Given as goal

abbrev pub invariant-steps : goal.invariant-steps
invariant-steps g l =
    StepsLeft g.R.Offset.ReaderOffset.limit l.fn.encoding l.fn.declared.attributes
    (found_numbers g.R.Offset.ReaderOffset.number l.fn.found) (g.R.Reader.view l.fn.input)
    l.steps l.left (found_numbers g.R.Offset.ReaderOffset.number l.found)
    (g.R.Reader.view l.input)

abbrev pub decreases-steps : goal.decreases-steps
decreases-steps g l = length l.left
