use Rattle.std.proofs.Common.{◌≡◌, w64, to_z, of_z}
use Rattle.std.proofs.lemmas.Int.{to_z-of_z}
use Rattle.gimli_base.specs.Table.{codes_of}
use Rattle.gimli_units.specs.Unit.{range_from}
use Rattle.gimli_units.specs.UnitHeld.{unit_view}
use Rattle.gimli_c.specs.Fronts.{at, unit_ahead}
use Rattle.gimli_c.specs.Tables.{table_in}
use Rattle.gimli_c.proofs.Memory.{refusal_no_row}
use Rattle.gimli_c.proofs.Resume.{unit_resumes, moved_entries}
use Rattle.gimli_c.proofs.entries.read_entries_by.Goals as goal

pub returns-in-Ok-clause-resumes : goal.returns-in-Ok-clause-resumes
returns-in-Ok-clause-resumes g c =
    let back : to_z w64 (of_z w64 c.args.depth) ≡ c.args.depth = to_z-of_z w64 _ c.ranges.depth in
    let number = g.R.Offset.ReaderOffset.number c.args.offset in
    let limit = g.R.Offset.ReaderOffset.limit in
    let u = unit_view c.in-Ok.header in
    let codes = codes_of (table_in c.args.table) in
    let outcome = rw back at c.unit_entries.ensures.outcome (table_in c.args.table)
    c.entries_by-opened.ensures.opened in
    rw (← c.in-Ok.ensures)
    (unit_resumes limit u codes c.in-Ok.header.entries_fit (at number c.args.depth)
    c.unit_entries.result.place c.unit_entries.result.filled.rows
    (moved_entries (unit_ahead limit u codes (at number c.args.depth)) (at number c.args.depth)
    c.args.rows.now c.args.attrs.now c.unit_entries.result.place c.unit_entries.new.rows
    c.unit_entries.new.attrs c.unit_entries.result.filled
    c.unit_entries.result.status outcome))

pub returns-in-Ok-clause-row_memory : goal.returns-in-Ok-clause-row_memory
unfolding range_from
returns-in-Ok-clause-row_memory g c =
    rw (← c.in-Ok.ensures)
    (c.unit_entries.ensures.row_memory (table_in c.args.table) c.entries_by-opened.ensures.opened)

pub returns-in-Err-clause-row_memory : goal.returns-in-Err-clause-row_memory
returns-in-Err-clause-row_memory g c =
    rw (c.no_entries.ensures, c.refusal_status.ensures)
    (λ outcome. absurd (refusal_no_row c.in-Err.error outcome))
