use Rattle.std.proofs.Common.{◌≡◌, ◌∙◌, ap, sym}
use Rattle.gimli_base.proofs.Memory.{map_at-never}
use Rattle.gimli_units.specs.UnitHeld.{unit_view}
use Rattle.gimli_walk.specs.Dump.{type_number}
use Rattle.gimli_walk.proofs.Dumps.{unit_rows, unit_memory}
use Rattle.gimli_walk.proofs.dump.dump_unit.Goals as goal

pub returns-in-Ok-clause-text : goal.returns-in-Ok-clause-text
returns-in-Ok-clause-text g c =
    let u = unit_view c.args.unit.now in
    let offset : c.into_u64-offset.result
    ≡ u.offset = c.into_u64-offset.ensures.value ∙ c.offset.ensures in
    let kind : c.number_of-type_number.result
    ≡ type_number u.kind = c.number_of-type_number.ensures ∙ ap type_number c.type_.ensures in
    let line = rw (offset, c.version.ensures, kind) at c.in_ok-write_unit_line.ensures in
    unit_rows g.R.Offset.ReaderOffset.limit u (g.W.Write.contents c.args.out.now)
    (g.W.Write.contents c.write_unit_line.new.out) (g.W.Write.contents c.write_rows-written.new.out) _ _
    _ c.write_rows-written.result line c.in-Ok.ensures.table c.write_rows-written.ensures.text

pub returns-in-Err-OutOfMemory-clause-text : goal.returns-in-Err-OutOfMemory-clause-text
returns-in-Err-OutOfMemory-clause-text g c =
    let u = unit_view c.args.unit.now in
    let offset : c.into_u64-offset.result
    ≡ u.offset = c.into_u64-offset.ensures.value ∙ c.offset.ensures in
    let kind : c.number_of-type_number.result
    ≡ type_number u.kind = c.number_of-type_number.ensures ∙ ap type_number c.type_.ensures in
    let line = rw (offset, c.version.ensures, kind) at c.in_ok-write_unit_line.ensures in
    unit_memory g.R.Offset.ReaderOffset.limit u (g.W.Write.contents c.args.out.now)
    (g.W.Write.contents c.write_unit_line.new.out) _ _ line

pub returns-in-Err-OutOfMemory-clause-without_memory : goal.returns-in-Err-OutOfMemory-clause-without_memory
returns-in-Err-OutOfMemory-clause-without_memory g c = λ none is.
    map_at-never _ _
    (sym (rw c.in-Err-OutOfMemory.field-0-is at (c.in-Err-OutOfMemory.ensures.without_memory none)))
