use Rattle.std.proofs.Common.{◌≡◌, w64, to_z, of_z}
use Rattle.std.proofs.lemmas.Int.{to_z-of_z}
use Rattle.gimli_base.specs.Abbreviations.{map_at}
use Rattle.gimli_units.specs.Unit.{range_from}
use Rattle.gimli_units.specs.UnitHeld.{unit_view}
use Rattle.gimli_c.specs.Fronts.{at, unit_ahead}
use Rattle.gimli_base.specs.Table.{codes_of}
use Rattle.gimli_c.proofs.Bounds.{idle_undeclared}
use Rattle.gimli_c.proofs.EntryFront.{idle_entries}
use Rattle.gimli_c.proofs.Heads.{same_answer}
use Rattle.gimli_c.proofs.Memory.{table_takes, refusal_no_row}
use Rattle.gimli_c.proofs.Resume.{unit_resumes, moved_entries}
use Rattle.gimli_c.proofs.entries.read_entries.Goals as goal

pub returns-clause-outcome : goal.returns-clause-outcome
returns-clause-outcome g c =
    let back : to_z w64 (of_z w64 c.args.depth) ≡ c.args.depth = to_z-of_z w64 _ c.ranges.depth in
    let number = g.R.Offset.ReaderOffset.number c.args.offset in
    let u = unit_view c.in-Ok.header in
    rw (
      c.no_entries-in-Err-abbreviations.ensures,
      c.refusal_status-in-Err-abbreviations.ensures,
      back,
      ← c.in-Ok.ensures,
    )
    (idle_entries _ _ _ _ _
    (idle_undeclared g.R.Offset.ReaderOffset.limit u (at number c.args.depth)
    c.in-Ok.header.entries_fit c.in-Err-abbreviations.error
    (map_at u.abbreviations (g.R.Reader.view c.args.sections.now.abbreviations.section))
    c.in-Err-abbreviations.ensures.value)
    (refusal_no_row c.in-Err-abbreviations.error))

pub returns-in-Ok-abbreviations-clause-resumes : goal.returns-in-Ok-abbreviations-clause-resumes
returns-in-Ok-abbreviations-clause-resumes g c =
    let back : to_z w64 (of_z w64 c.args.depth) ≡ c.args.depth = to_z-of_z w64 _ c.ranges.depth in
    let number = g.R.Offset.ReaderOffset.number c.args.offset in
    let table = c.in-Ok-abbreviations.table in
    let outcome = rw back at c.unit_entries.ensures.outcome table (same_answer c.entries_raw-opened.ensures) in
    rw (← c.in-Ok.ensures, ← c.in-Ok-abbreviations.ensures.value)
    (unit_resumes g.R.Offset.ReaderOffset.limit (unit_view c.in-Ok.header)
    (codes_of c.in-Ok-abbreviations.table) c.in-Ok.header.entries_fit (at number c.args.depth)
    c.unit_entries.result.place c.unit_entries.result.filled.rows
    (moved_entries (unit_ahead g.R.Offset.ReaderOffset.limit (unit_view c.in-Ok.header)
    (codes_of c.in-Ok-abbreviations.table) (at number c.args.depth)) (at number c.args.depth)
    c.args.rows.now c.args.attrs.now c.unit_entries.result.place c.unit_entries.new.rows
    c.unit_entries.new.attrs c.unit_entries.result.filled c.unit_entries.result.status outcome))

pub returns-in-Ok-abbreviations-clause-outcome : goal.returns-in-Ok-abbreviations-clause-outcome
returns-in-Ok-abbreviations-clause-outcome g c =
    let back : to_z w64 (of_z w64 c.args.depth) ≡ c.args.depth = to_z-of_z w64 _ c.ranges.depth in
    let table = c.in-Ok-abbreviations.table in
    rw (← c.in-Ok.ensures, ← c.in-Ok-abbreviations.ensures.value)
    (rw back at c.unit_entries.ensures.outcome table (same_answer c.entries_raw-opened.ensures))

pub returns-clause-memory : goal.returns-clause-memory
returns-clause-memory g c =
    rw (
      c.no_entries-in-Err-abbreviations.ensures,
      c.refusal_status-in-Err-abbreviations.ensures,
      ← c.in-Ok.ensures,
    )
    (table_takes c.in-Err-abbreviations.error (unit_view c.in-Ok.header).abbreviations
    (g.R.Reader.view c.args.sections.now.abbreviations.section)
    c.in-Err-abbreviations.ensures.without_memory)

pub returns-in-Ok-abbreviations-clause-memory : goal.returns-in-Ok-abbreviations-clause-memory
returns-in-Ok-abbreviations-clause-memory g c =
    rw (← c.in-Ok.ensures) (λ outcome. absurd (c.unit_entries.ensures.memory outcome))

pub returns-in-Err-clause-row_memory : goal.returns-in-Err-clause-row_memory
returns-in-Err-clause-row_memory g c =
    rw (c.no_entries.ensures, c.refusal_status.ensures)
    (λ outcome. absurd (refusal_no_row c.in-Err.error outcome))

pub returns-clause-row_memory : goal.returns-clause-row_memory
returns-clause-row_memory g c =
    rw (
      c.no_entries-in-Err-abbreviations.ensures,
      c.refusal_status-in-Err-abbreviations.ensures,
    )
    (λ outcome. absurd (refusal_no_row c.in-Err-abbreviations.error outcome))

pub returns-in-Ok-abbreviations-clause-row_memory : goal.returns-in-Ok-abbreviations-clause-row_memory
unfolding range_from
returns-in-Ok-abbreviations-clause-row_memory g c =
    rw (← c.in-Ok.ensures, ← c.in-Ok-abbreviations.ensures.value)
    (c.unit_entries.ensures.row_memory c.in-Ok-abbreviations.table
    (same_answer c.entries_raw-opened.ensures))
