use Rattle.std.proofs.Common.{length}
use Rattle.gimli_units.proofs.Walking.{Walking}
use Rattle.gimli_units.proofs.cursor.EntriesCursor.advance_dfs.Given as goal

abbrev pub invariant-walk : goal.invariant-walk
invariant-walk g l = Walking g.R.Offset.ReaderOffset.limit l.fn.self l.self

abbrev pub decreases-walk : goal.decreases-walk
decreases-walk g l = length l.self.raw.rest.bytes
