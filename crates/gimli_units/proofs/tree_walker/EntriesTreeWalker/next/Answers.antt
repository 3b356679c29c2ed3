use Rattle.gimli_units.proofs.WalkerSteps.{asked_goes, asked_over}
use Rattle.gimli_units.proofs.tree_walker.EntriesTreeWalker.next.Goals as goal

pub returns-clause-goes : goal.returns-clause-goes
returns-clause-goes g c =
    asked_goes g.R.Offset.ReaderOffset.limit c.args.self.now _ _ c.ask.ensures.asked

pub returns-clause-over : goal.returns-clause-over
returns-clause-over g c =
    asked_over g.R.Offset.ReaderOffset.limit c.args.self.now _ _ c.ask.ensures.asked
