use Rattle.std.proofs.Common.{ℕ, Option, List, Result, length}
use Rattle.gimli_walk.specs.declared.lines.Stop.{Stop}
use Rattle.gimli_walk.specs.Stops.{WroteUntil}
use Rattle.gimli_walk.proofs.RowLines.{place_text}
use Rattle.gimli_walk.proofs.rows.write_rows_left.Given as goal

-- whatever completes the rows that are left completes the whole
abbrev pub invariant-rows : goal.invariant-rows
invariant-rows g l = (final : Option (List ℕ)) (written : Result ℕ Stop)
    → WroteUntil (g.W.Write.contents l.out) final
    (place_text g.R.Offset.ReaderOffset.limit l.entries) written
    → WroteUntil (g.W.Write.contents l.initial.out) final
    (place_text g.R.Offset.ReaderOffset.limit l.initial.entries) written

abbrev pub decreases-rows : goal.decreases-rows
decreases-rows g l = length l.entries.rest.bytes
