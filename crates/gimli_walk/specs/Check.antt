-- The text of the check of a unit's sibling references (DWARF 5, 2.3).
use Rattle.std.specs.Prelude.{ℕ, Option, Some, None}
use Rattle.gimli_base.specs.Abbreviations.{Map}
use Rattle.gimli_units.specs.Unit.{UnitView, whole_length}
use Rattle.gimli_units.specs.UnitRows.{unit_rows}
use Rattle.gimli_units.specs.FirstFalse.{first_false}
use Rattle.gimli_walk.specs.Lines.{Text, one_line, honest_line, false_line}

-- what is said of the first entry whose reference is false, if there is one
abbrev pub verdict_text : Option ℕ → Text
verdict_text None = one_line honest_line 0
verdict_text (Some offset) = one_line (false_line offset) 0

-- the text of the check of a unit
abbrev pub check_text : ℕ → UnitView → Map → Text
check_text limit u declared =
    verdict_text (first_false (whole_length u) (unit_rows limit u declared))
