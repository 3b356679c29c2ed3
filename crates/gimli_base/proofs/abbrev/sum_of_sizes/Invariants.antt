use Rattle.std.proofs.Common.{length}
use Rattle.gimli_base.proofs.StepTurns.{SizesLeft}
use Rattle.gimli_base.proofs.abbrev.sum_of_sizes.Given as goal

abbrev pub invariant-sizes : goal.invariant-sizes
invariant-sizes l = SizesLeft l.encoding l.fn.specifications l.left l.sum

abbrev pub decreases-sizes : goal.decreases-sizes
decreases-sizes l = length l.left
