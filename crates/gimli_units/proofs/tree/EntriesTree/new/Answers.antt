use Rattle.gimli_units.proofs.TreeSteps.{new_tree}
use Rattle.gimli_units.proofs.tree.EntriesTree.new.Goals as goal

pub invariant_of-result : goal.invariant_of-result
invariant_of-result g c =
    rw (c.new-cursor.ensures, c.copy.ensures)
    (new_tree c.args.start c.requires.some c.requires.small c.requires.fits c.requires.depth)
