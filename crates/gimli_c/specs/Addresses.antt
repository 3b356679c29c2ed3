-- The unit of an address, as a caller of C gets it (DWARF 5, 6.1.2).
use Rattle.std.specs.Prelude.{ℕ, ◌^◌, Option, Some, None, Result, Ok, Err}
use Rattle.gimli_base.specs.declared.error.Error.{Error}
use Rattle.gimli_walk.specs.UnitOfAddress.{unit_holding}
use Rattle.gimli_c.specs.declared.sections.GimliSections.{GimliSections}
use Rattle.gimli_c.specs.Status.{more, end, refusal_status}
use Rattle.gimli_c.specs.Units.{view_in}

-- the status, and the offset that the caller has then
abbrev pub holding_outcome : Result (Option ℕ) Error → ℕ → ℕ × ℕ
holding_outcome (Ok (Some offset)) old = (more, offset)
holding_outcome (Ok None) old = (end, old)
holding_outcome (Err e) old = (refusal_status e, old)

-- the unit of an address in a caller's sections
abbrev pub section_holding : GimliSections → ℕ → ℕ → ℕ × ℕ
section_holding s address old =
    holding_outcome (unit_holding (2 ^ 64) address (view_in s s.aranges.now)) old
