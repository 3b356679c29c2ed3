use Rattle.std.proofs.Common.{◌≡◌, false, sym, ap, ◌∙◌}
use Rattle.gimli_base.specs.declared.common.SectionId.TheVariants.{DebugInfo}
use Rattle.gimli_base.specs.Offset.{answer_of}
use Rattle.gimli_units.specs.UnitHeld.{unit_view}
use Rattle.gimli_c.specs.Units.{at_offset}
use Rattle.gimli_c.proofs.TypeUnits.{header_placed, made_twice}
use Rattle.gimli_c.proofs.sections.UnitSections.header.Goals as goal

pub returns-else-self : goal.returns-else-self
returns-else-self g c =
    let limit = g.R.Offset.ReaderOffset.limit in
    let n = g.R.Offset.ReaderOffset.number c.args.offset in
    let v = g.R.Reader.view c.args.self.now.units in
    let info : c.args.self.now.types ≡ false = c.if-self.false in
    let read = rw (c.from.ensures, c.copy.ensures) at c.header_from_offset.ensures.value in
    rw info (made_twice unit_view (at_offset n) c.header_from_offset.result
    ∙ ap (answer_of (at_offset n)) read ∙ sym (header_placed limit DebugInfo n v))
