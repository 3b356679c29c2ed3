use Rattle.gimli_dwarf.proofs.Roots.{unless_given}
use Rattle.gimli_dwarf.proofs.bases.UnitBases.of.Goals as goal

pub returns-clause-value : goal.returns-clause-value
returns-clause-value g c =
    let read = rw c.root_offset.ensures at c.in_ok-root.ensures.value in
    unless_given c.bases_of.result (rw (← read) (rw c.encoding.ensures at c.bases_of.ensures))

pub returns-clause-without_memory : goal.returns-clause-without_memory
returns-clause-without_memory g c =
    let read = rw c.root_offset.ensures at c.in_ok-root.ensures.value in
    λ _. rw (← read) (rw c.encoding.ensures at c.bases_of.ensures)
