use Rattle.gimli_walk.proofs.WordLines.{OfTwoFiles-less, rows_honest, check_honest}
use Rattle.gimli_walk.proofs.WordLines.{says_plain_walk}
use Rattle.gimli_walk.proofs.words.run_words.Goals as goal

pub returns-in-rows-clause-rows : goal.returns-in-rows-clause-rows
returns-in-rows-clause-rows g c =
    λ asks. OfTwoFiles-less _ _ _ _ _ _ _ _ _ _ (λ i t s. says_plain_walk _ _ _ i t s (rows_honest _ _ _))
    c.walk_files.ensures

pub returns-in-check-clause-check : goal.returns-in-check-clause-check
returns-in-check-clause-check g c =
    λ asks. OfTwoFiles-less _ _ _ _ _ _ _ _ _ _ (λ i t s. says_plain_walk _ _ _ i t s (check_honest _ _ _))
    c.walk_files-in-check.ensures
