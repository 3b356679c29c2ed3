use Rattle.std.proofs.Common.{ℕ, ◌<◌, Option, Some, None, length, arith}
use Rattle.gimli_walk.specs.Check.{verdict_text}
use Rattle.gimli_walk.proofs.StoppedLines.{front_none}
use Rattle.gimli_walk.proofs.check.write_check.Goals as goal

-- a verdict has a line
one_line_of : (o : Option ℕ) → 0 < length (verdict_text o).lines
one_line_of None = omega arith
one_line_of (Some offset) = omega arith

pub returns-in-Err : goal.returns-in-Err
returns-in-Err g c = front_none _ _ (one_line_of _)
