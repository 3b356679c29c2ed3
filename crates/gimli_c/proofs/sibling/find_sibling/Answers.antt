use Rattle.std.proofs.Common.{◌≡◌, w64, to_z, of_z}
use Rattle.std.proofs.lemmas.Int.{to_z-of_z}
use Rattle.gimli_units.specs.Unit.{range_from}
use Rattle.gimli_units.specs.UnitHeld.{unit_view}
use Rattle.gimli_c.proofs.Memory.{table_takes, refusal_no_row}
use Rattle.gimli_c.proofs.sibling.find_sibling.Goals as goal

pub returns-in-Ok-abbreviations-clause-outcome : goal.returns-in-Ok-abbreviations-clause-outcome
unfolding range_from
returns-in-Ok-abbreviations-clause-outcome g c =
    let back : to_z w64 (of_z w64 c.args.depth) ≡ c.args.depth = to_z-of_z w64 _ c.ranges.depth in
    rw (← c.in-Ok.ensures, ← c.in-Ok-abbreviations.ensures.value) (rw back at c.find_in_unit.ensures.outcome)

pub returns-in-Ok-abbreviations-clause-memory : goal.returns-in-Ok-abbreviations-clause-memory
returns-in-Ok-abbreviations-clause-memory g c =
    rw (← c.in-Ok.ensures) (λ outcome. absurd (c.find_in_unit.ensures.memory outcome))

pub returns-in-Ok-abbreviations-clause-row_memory : goal.returns-in-Ok-abbreviations-clause-row_memory
unfolding range_from
returns-in-Ok-abbreviations-clause-row_memory g c =
    rw (← c.in-Ok.ensures, ← c.in-Ok-abbreviations.ensures.value) c.find_in_unit.ensures.row_memory

pub returns-clause-memory : goal.returns-clause-memory
returns-clause-memory g c =
    rw (c.refusal_status-in-Err-abbreviations.ensures, ← c.in-Ok.ensures)
    (table_takes c.in-Err-abbreviations.error (unit_view c.in-Ok.header).abbreviations
    (g.R.Reader.view c.args.sections.now.abbreviations.section)
    c.in-Err-abbreviations.ensures.without_memory)

pub returns-clause-row_memory : goal.returns-clause-row_memory
returns-clause-row_memory g c =
    rw c.refusal_status-in-Err-abbreviations.ensures
    (λ outcome. absurd (refusal_no_row c.in-Err-abbreviations.error outcome))

pub returns-in-Err-clause-row_memory : goal.returns-in-Err-clause-row_memory
returns-in-Err-clause-row_memory g c =
    rw c.refusal_status.ensures (λ outcome. absurd (refusal_no_row c.in-Err.error outcome))
