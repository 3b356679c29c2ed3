use Rattle.gimli_lists.proofs.ListSteps.{address_at-sized}
use Rattle.gimli_lists.proofs.rnglists.entry.RawRange.parse.Goals as goal

pub returns-clause-size : goal.returns-clause-size
returns-clause-size g c = address_at-sized _ _ _ c.in_ok-begin.ensures.value
