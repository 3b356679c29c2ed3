use Rattle.std.proofs.Common.{rules, ◌≡◌, ◌∙◌, sym, ap}
use Rattle.gimli_base.specs.declared.common.SectionId.TheVariants.{DebugTypes as TypesSection}
use Rattle.gimli_headers.specs.Units.{UnitsPlace, units_ahead}
use Rattle.gimli_headers.proofs.UnitSteps.{ahead_after}
use Rattle.gimli_headers.proofs.debug_types.DebugTypesUnitHeadersIter.next.Goals as goal

pub returns-clause-ahead : goal.returns-clause-ahead
returns-clause-ahead g c =
    let place : UnitsPlace =
    record {
      rest = g.R.Reader.view c.self.inside.input;
      offset = g.R.Offset.ReaderOffset.number c.self.inside.offset.0;
    } in
    let same : place ≡ c.args.self.now = search rules in
    ap (units_ahead g.R.Offset.ReaderOffset.limit TypesSection) (sym same)
    ∙ ahead_after _ _ _ _ _ c.next_header.ensures.value
