use Rattle.std.proofs.Common.{inl, Ok, ap}
use Rattle.gimli_units.specs.Unit.{range_from}
use Rattle.gimli_units.specs.UnitHeld.{unit_view}
use Rattle.gimli_c.proofs.Memory.{table_takes}
use Rattle.gimli_c.proofs.first_false.find_false.Goals as goal

pub returns-in-Ok-None-clause-starts : goal.returns-in-Ok-None-clause-starts
unfolding range_from
returns-in-Ok-None-clause-starts g c = λ _.
    rw (← c.in-Ok.ensures, ← c.in-Ok-abbreviations.ensures.value)
    (c.in-Ok-None.ensures.starts (ap Ok c.in-Ok-None.field-0-is))

pub returns-in-Err-abbreviations-clause-memory : goal.returns-in-Err-abbreviations-clause-memory
returns-in-Err-abbreviations-clause-memory g c =
    rw (c.refusal_status-in-Err-abbreviations.ensures, ← c.in-Ok.ensures)
    (λ outcome. inl
    (table_takes c.in-Err-abbreviations.error (unit_view c.in-Ok.header).abbreviations
    (g.R.Reader.view c.args.sections.now.abbreviations.section)
    c.in-Err-abbreviations.ensures.without_memory outcome))
