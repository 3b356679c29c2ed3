use Rattle.gimli_units.specs.Unit.{range_from, unit_entry_at}
use Rattle.gimli_c.proofs.bases.bases_of_unit.Goals as goal

-- (the offset of a unit says nothing of its entries)
pub returns-clause-value : goal.returns-clause-value
unfolding range_from unit_entry_at
returns-clause-value g c =
    rw (← c.in_ok-header.ensures, ← c.in_ok-table.ensures.value) c.bases_by.ensures.value

pub returns-clause-without_memory : goal.returns-clause-without_memory
unfolding range_from unit_entry_at
returns-clause-without_memory g c =
    rw (← c.in_ok-header.ensures, ← c.in_ok-table.ensures.value)
    (λ none. c.bases_by.ensures.without_memory none.1)
