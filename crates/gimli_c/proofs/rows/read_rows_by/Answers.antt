use Rattle.std.proofs.Common.{◌≡◌, w64, to_z, of_z}
use Rattle.std.proofs.lemmas.Int.{to_z-of_z}
use Rattle.gimli_base.specs.Table.{codes_of}
use Rattle.gimli_units.specs.UnitHeld.{unit_view}
use Rattle.gimli_c.specs.Fronts.{at, unit_ahead}
use Rattle.gimli_c.specs.Tables.{table_in}
use Rattle.gimli_c.proofs.Bounds.{outcome_given, outcome_under}
use Rattle.gimli_c.proofs.Resume.{unit_resumes, moved_rows}
use Rattle.gimli_c.proofs.rows.read_rows_by.Goals as goal

pub returns-in-Ok-clause-resumes : goal.returns-in-Ok-clause-resumes
returns-in-Ok-clause-resumes g c = λ given.
    let back : to_z w64 (of_z w64 c.args.depth) ≡ c.args.depth = to_z-of_z w64 _ c.ranges.depth in
    let number = g.R.Offset.ReaderOffset.number c.args.offset in
    let limit = g.R.Offset.ReaderOffset.limit in
    let u = unit_view c.in-Ok.header in
    let codes = codes_of (table_in c.args.table) in
    let outcome = outcome_given _ _ _ _ _ _ _ _
    (rw back at c.unit_rows.ensures.outcome (table_in c.args.table) c.entries_by-opened.ensures.opened)
    (c.entries_by-opened.ensures.steps given) in
    rw (← c.in-Ok.ensures)
    (unit_resumes limit u codes c.in-Ok.header.entries_fit (at number c.args.depth)
    c.unit_rows.result.place c.unit_rows.result.count
    (moved_rows (unit_ahead limit u codes (at number c.args.depth)) (at number c.args.depth)
    c.args.rows.now c.unit_rows.result.place c.unit_rows.new.rows c.unit_rows.result.count
    c.unit_rows.result.status outcome))

pub returns-in-Ok-clause-outcome : goal.returns-in-Ok-clause-outcome
returns-in-Ok-clause-outcome g c =
    let back : to_z w64 (of_z w64 c.args.depth) ≡ c.args.depth = to_z-of_z w64 _ c.ranges.depth in
    rw (← c.in-Ok.ensures)
    (outcome_under _ _ _ _ _ _ _ _ _
    (rw back at c.unit_rows.ensures.outcome (table_in c.args.table) c.entries_by-opened.ensures.opened)
    c.entries_by-opened.ensures.steps)
