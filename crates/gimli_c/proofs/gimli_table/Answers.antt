use Rattle.std.proofs.Common.{sym}
use Rattle.gimli_c.specs.Units.{abbreviations_view}
use Rattle.gimli_c.specs.Tables.{IsTableAt}
use Rattle.gimli_c.proofs.TableLaw.{serves, as_little, as_big}
use Rattle.gimli_c.proofs.gimli_table.Goals.{then-sections-eq0, else-sections-eq0}
use Rattle.gimli_c.proofs.gimli_table.Goals as goal

pub returns-clause-serves : goal.returns-clause-serves
returns-clause-serves c =
    let own = c.args.sections.now in
    let outcome : IsTableAt c.args.offset (abbreviations_view own) c.args.declarations.now
    c.args.specifications.now c.if-sections-eq0.declarations c.if-sections-eq0.specifications
    c.if-sections-eq0.outcome.counted c.if-sections-eq0.outcome.status =
    elim c.if-sections-eq0.branch [
      | then-sections-eq0 w ↦ rw (w.outcome-is, w.declarations-is, w.specifications-is)
          (rw (as_little own w.if-sections-eq0.true) at w.read_table.ensures)
      | else-sections-eq0 w ↦ rw (w.outcome-is, w.declarations-is, w.specifications-is)
          (rw (as_big own w.if-sections-eq0.false) at w.read_table-else-sections-eq0.ensures)
    ] in
    λ is s same unit has.
    serves s unit c.args.offset c.args.declarations.now c.if-sections-eq0.declarations
    c.args.specifications.now c.if-sections-eq0.specifications c.if-sections-eq0.outcome.counted
    c.if-sections-eq0.outcome.status (rw (sym same) at outcome) is has
