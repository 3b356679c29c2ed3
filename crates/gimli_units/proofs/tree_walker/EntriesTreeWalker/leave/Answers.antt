use Rattle.gimli_units.proofs.WalkerSteps.{left_goes}
use Rattle.gimli_units.proofs.tree_walker.EntriesTreeWalker.leave.Goals as goal

pub returns-clause-goes : goal.returns-clause-goes
returns-clause-goes g c =
    left_goes g.R.Offset.ReaderOffset.limit c.args.self.now _ _ c.close.ensures.left
