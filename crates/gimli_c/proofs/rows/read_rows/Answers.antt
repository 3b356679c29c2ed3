use Rattle.std.proofs.Common.{◌≡◌, w64, to_z, of_z}
use Rattle.std.proofs.lemmas.Int.{to_z-of_z}
use Rattle.gimli_base.specs.Abbreviations.{map_at}
use Rattle.gimli_units.specs.UnitHeld.{unit_view}
use Rattle.gimli_c.specs.Fronts.{at, unit_ahead}
use Rattle.gimli_base.specs.Table.{codes_of}
use Rattle.gimli_c.proofs.Bounds.{idle_rows, idle_undeclared, outcome_given}
use Rattle.gimli_c.proofs.Heads.{same_answer}
use Rattle.gimli_c.proofs.Shorter.{no_steps}
use Rattle.gimli_c.proofs.Memory.{table_takes}
use Rattle.gimli_c.proofs.Resume.{unit_resumes, moved_rows}
use Rattle.gimli_c.proofs.rows.read_rows.Goals as goal

pub returns-clause-outcome : goal.returns-clause-outcome
returns-clause-outcome g c =
    let back : to_z w64 (of_z w64 c.args.depth) ≡ c.args.depth = to_z-of_z w64 _ c.ranges.depth in
    let number = g.R.Offset.ReaderOffset.number c.args.offset in
    let u = unit_view c.in-Ok.header in
    rw (
      c.no_rows-in-Err-abbreviations.ensures,
      c.refusal_status-in-Err-abbreviations.ensures,
      back,
      ← c.in-Ok.ensures,
    )
    (idle_rows _ _ _ _
    (idle_undeclared g.R.Offset.ReaderOffset.limit u (at number c.args.depth)
    c.in-Ok.header.entries_fit c.in-Err-abbreviations.error
    (map_at u.abbreviations (g.R.Reader.view c.args.sections.now.abbreviations.section))
    c.in-Err-abbreviations.ensures.value))

pub returns-in-Ok-abbreviations-clause-resumes : goal.returns-in-Ok-abbreviations-clause-resumes
returns-in-Ok-abbreviations-clause-resumes g c =
    let back : to_z w64 (of_z w64 c.args.depth) ≡ c.args.depth = to_z-of_z w64 _ c.ranges.depth in
    let number = g.R.Offset.ReaderOffset.number c.args.offset in
    let table = c.in-Ok-abbreviations.table in
    let outcome = outcome_given _ _ _ _ _ _ _ _
    (rw back at c.unit_rows.ensures.outcome table (same_answer c.entries_raw-opened.ensures))
    (no_steps c.entries_raw-opened.result) in
    rw (← c.in-Ok.ensures, ← c.in-Ok-abbreviations.ensures.value)
    (unit_resumes g.R.Offset.ReaderOffset.limit (unit_view c.in-Ok.header)
    (codes_of c.in-Ok-abbreviations.table) c.in-Ok.header.entries_fit (at number c.args.depth)
    c.unit_rows.result.place c.unit_rows.result.count
    (moved_rows (unit_ahead g.R.Offset.ReaderOffset.limit (unit_view c.in-Ok.header)
    (codes_of c.in-Ok-abbreviations.table) (at number c.args.depth)) (at number c.args.depth)
    c.args.rows.now c.unit_rows.result.place c.unit_rows.new.rows c.unit_rows.result.count
    c.unit_rows.result.status outcome))

pub returns-in-Ok-abbreviations-clause-outcome : goal.returns-in-Ok-abbreviations-clause-outcome
returns-in-Ok-abbreviations-clause-outcome g c =
    let back : to_z w64 (of_z w64 c.args.depth) ≡ c.args.depth = to_z-of_z w64 _ c.ranges.depth in
    let table = c.in-Ok-abbreviations.table in
    rw (← c.in-Ok.ensures, ← c.in-Ok-abbreviations.ensures.value)
    (outcome_given _ _ _ _ _ _ _ _
    (rw back at c.unit_rows.ensures.outcome table (same_answer c.entries_raw-opened.ensures))
    (no_steps c.entries_raw-opened.result))

pub returns-clause-memory : goal.returns-clause-memory
returns-clause-memory g c =
    rw (
      c.no_rows-in-Err-abbreviations.ensures,
      c.refusal_status-in-Err-abbreviations.ensures,
      ← c.in-Ok.ensures,
    )
    (table_takes c.in-Err-abbreviations.error (unit_view c.in-Ok.header).abbreviations
    (g.R.Reader.view c.args.sections.now.abbreviations.section)
    c.in-Err-abbreviations.ensures.without_memory)

pub returns-in-Ok-abbreviations-clause-memory : goal.returns-in-Ok-abbreviations-clause-memory
returns-in-Ok-abbreviations-clause-memory g c =
    rw (← c.in-Ok.ensures) (λ outcome. absurd (c.unit_rows.ensures.memory outcome))
