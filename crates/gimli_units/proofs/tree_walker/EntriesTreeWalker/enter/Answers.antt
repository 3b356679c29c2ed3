use Rattle.gimli_units.proofs.WalkerSteps.{entered_goes, if_ok}
use Rattle.gimli_units.proofs.tree_walker.EntriesTreeWalker.enter.Goals as goal

pub returns-clause-goes : goal.returns-clause-goes
returns-clause-goes g c =
    if_ok c.open.result c.open.ensures.opened
    (entered_goes g.R.Offset.ReaderOffset.limit c.args.self.now _)
