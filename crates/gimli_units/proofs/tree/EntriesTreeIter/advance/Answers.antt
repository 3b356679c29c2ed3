use Rattle.std.proofs.Common.{rules, ◌≡◌, Err, w64, FitsSigned}
use Rattle.std.proofs.lemmas.Int.{to_z-of_z}
use Rattle.gimli_units.proofs.tree.EntriesTreeIter.advance.Goals as goal

pub returns-in_err-found-clause-gone_on : goal.returns-in_err-found-clause-gone_on
returns-in_err-found-clause-gone_on g c o near =
    let r : c.from_residual.result ≡ Err c.in_err-found.field-0.0 = search rules in
    let signed : FitsSigned w64 c.args.self.now.depth = search rules in
    rw r (rw (to_z-of_z w64 c.args.self.now.depth signed) at c.in_err-found.ensures.gone_on)
