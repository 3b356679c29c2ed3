use Rattle.std.proofs.Common.{◌∙◌}
use Rattle.gimli_walk.specs.Words.{by_steps}
use Rattle.gimli_walk.proofs.WordLines.{OfTwoFiles-less, says_cursor, says_plain}
use Rattle.gimli_walk.proofs.words.walk_cursor.Goals as goal
use Rattle.gimli_walk.proofs.words.walk_cursor.Goals.{then-follows, else-follows}

pub returns : goal.returns
returns g c = by_steps (c.are_steps.ensures.0 c.if-not-are_steps.false)
    (OfTwoFiles-less _ _ _ _ _ _ _ _ _ _ (λ i t s. elim c.if-follows.branch [
      | then-follows w ↦ says_cursor _ _ i t s _ w.deref.result _ _ w.mode-is
          (w.deref.ensures.value ∙ c.in-Ok.ensures) w.if-follows.true
      | else-follows w ↦ says_plain _ _ i t s _ w.deref-else-follows.result _ _ w.mode-is
          (w.deref-else-follows.ensures.value ∙ c.in-Ok.ensures) w.if-follows.false
    ]) c.walk_files.ensures)
