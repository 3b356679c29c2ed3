use Rattle.std.proofs.Common.{◌≡◌, false, length}
use Rattle.gimli_base.specs.Abbreviations.{declarations_at, table_takes_memory}
use Rattle.gimli_base.proofs.TableTurns.{TableSoFar}
use Rattle.gimli_base.proofs.abbrev.Abbreviations.parse.Given as goal

abbrev pub invariant-loop-table : goal.invariant-loop-table
invariant-loop-table g l =
    let first = g.R.Reader.view l.initial.input in
    record {
      so_far : TableSoFar (declarations_at first) l.table (g.R.Reader.view l.input);
      idle : table_takes_memory first ≡ false → g.R.Reader.view l.input ≡ first;
    }

abbrev pub decreases-loop-table : goal.decreases-loop-table
decreases-loop-table g l = length (g.R.Reader.view l.input).bytes
