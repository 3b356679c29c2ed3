use Rattle.std.proofs.Common.{◌≡◌, ◌<◌, ◌+◌, ◌^◌, length}
use Rattle.gimli_units.specs.TreeWalker.{IsWalker}
use Rattle.test_callers.specs.Subtree.{rest_of, IsReady}
use Rattle.test_callers.proofs.walked.count_on.Given as goal

abbrev pub invariant-walk : goal.invariant-walk
invariant-walk g l =
    IsWalker l.walker
    × IsReady l.walker
    × (l.count + length l.walker.tree.cursor.raw.rest.bytes < 2 ^ 63)
    × (rest_of g.R.Offset.ReaderOffset.limit l.fn.from l.fn.walker
    ≡ rest_of g.R.Offset.ReaderOffset.limit l.count l.walker)

abbrev pub decreases-walk : goal.decreases-walk
decreases-walk g l =
    length l.walker.tree.cursor.raw.rest.bytes + length l.walker.tree.cursor.raw.rest.bytes
    + length l.walker.lists
