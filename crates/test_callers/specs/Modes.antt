-- That runs of both kinds of cursor tell the same, memory aside (DWARF 5, 2.3).
use Rattle.std.specs.Prelude.{ℕ, List, Option, Some, None}
use Rattle.gimli_units.specs.Rows.{Row}
use Rattle.gimli_units.specs.UnitRows.{StandsAt}
use Rattle.gimli_walk.specs.Runs.{RunAnswers, IsRunOf}

-- a start is the root, or the offset of one of these rows
abbrev pub BeginsAtRow : Option ℕ → List Row → Type 0
BeginsAtRow None rows = Unit {0}
BeginsAtRow (Some offset) rows = StandsAt offset rows

-- two runs told the first of the same answers, and each all of them where it was not stopped
abbrev pub AreSame : {T : Type 0} → RunAnswers T → RunAnswers T → Type 0
AreSame {T} a b = (all : List T) × IsRunOf a all × IsRunOf b all
