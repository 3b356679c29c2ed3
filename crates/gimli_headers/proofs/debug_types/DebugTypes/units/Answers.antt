use Rattle.gimli_base.specs.declared.common.SectionId.TheVariants.{DebugTypes as TypesSection}
use Rattle.gimli_headers.proofs.UnitSteps.{units-tile, units-found}
use Rattle.gimli_headers.proofs.debug_types.DebugTypes.units.Goals as goal

pub returns-clause-tiles : goal.returns-clause-tiles
returns-clause-tiles g c =
    units-tile g.R.Offset.ReaderOffset.limit TypesSection (g.R.Reader.view c.args.self.now.section)

pub returns-clause-found : goal.returns-clause-found
returns-clause-found g c =
    units-found g.R.Offset.ReaderOffset.limit TypesSection (g.R.Reader.view c.args.self.now.section)
