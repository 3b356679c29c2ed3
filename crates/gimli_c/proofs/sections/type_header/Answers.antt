use Rattle.std.proofs.Common.{Some, None, Ok, Err}
use Rattle.gimli_base.specs.declared.common.SectionId.TheVariants.{DebugTypes}
use Rattle.gimli_units.specs.UnitHeld.{unit_view}
use Rattle.gimli_c.proofs.TypeUnits.{next_is, not_there}
use Rattle.gimli_c.proofs.sections.type_header.Goals as goal

pub returns-in-Err : goal.returns-in-Err
returns-in-Err g c =
    not_there g.R.Offset.ReaderOffset.limit DebugTypes
    (g.R.Offset.ReaderOffset.number c.args.offset) (g.R.Reader.view c.args.units.now) c.in-Err.error
    (rw c.copy-rest.ensures at c.in-Err.ensures.value)

pub returns-in-Ok-Some : goal.returns-in-Ok-Some
returns-in-Ok-Some g c =
    let there = rw c.copy-rest.ensures at c.in-Ok.ensures.value in
    let next = rw (
      c.units.ensures.begin,
      c.from.ensures,
      c.in-Ok-Some.field-0-is,
    ) at c.in-Ok-Some.ensures.value in
    next_is g.R.Offset.ReaderOffset.limit DebugTypes (g.R.Offset.ReaderOffset.number c.args.offset)
    (g.R.Reader.view c.args.units.now) (g.R.Reader.view c.skip.new.self)
    (Ok (Some (unit_view c.in-Ok-Some.header))) c.next.new.self there next

pub returns-in-Ok-None : goal.returns-in-Ok-None
returns-in-Ok-None g c =
    let there = rw c.copy-rest.ensures at c.in-Ok.ensures.value in
    let next = rw (
      c.units.ensures.begin,
      c.from.ensures,
      c.in-Ok-None.field-0-is,
    ) at c.in-Ok-None.ensures.value in
    rw c.offset_id-place.ensures (next_is g.R.Offset.ReaderOffset.limit DebugTypes
    (g.R.Offset.ReaderOffset.number c.args.offset) (g.R.Reader.view c.args.units.now)
    (g.R.Reader.view c.skip.new.self) (Ok None) c.next.new.self there next)

pub returns : goal.returns
returns g c =
    let there = rw c.copy-rest.ensures at c.in-Ok.ensures.value in
    let next = rw (c.units.ensures.begin, c.from.ensures) at c.in-Err-next.ensures.value in
    next_is g.R.Offset.ReaderOffset.limit DebugTypes (g.R.Offset.ReaderOffset.number c.args.offset)
    (g.R.Reader.view c.args.units.now) (g.R.Reader.view c.skip.new.self) (Err c.in-Err-next.error)
    c.next.new.self there next
