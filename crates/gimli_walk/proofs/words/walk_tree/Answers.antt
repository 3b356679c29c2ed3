use Rattle.std.proofs.Common.{◌∙◌}
use Rattle.gimli_walk.specs.Words.{by_steps}
use Rattle.gimli_walk.proofs.WordLines.{OfTwoFiles-less, says_tree}
use Rattle.gimli_walk.proofs.words.walk_tree.Goals as goal

pub returns : goal.returns
returns g c = by_steps (c.are_steps.ensures.0 c.if-not-are_steps.false)
    (OfTwoFiles-less _ _ _ _ _ _ _ _ _ _
    (λ i t s. says_tree _ _ i t s c.deref.result _ (c.deref.ensures.value ∙ c.in-Ok.ensures))
    c.walk_files.ensures)
