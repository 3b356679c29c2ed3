use Rattle.std.proofs.Common.{◌≡◌, ◌<◌, ◌+◌, ◌^◌, length}
use Rattle.gimli_units.specs.CursorModel.{rows_of}
use Rattle.gimli_units.specs.CursorModel.{IsHonestCursor}
use Rattle.test_callers.specs.Subtree.{count_innermost}
use Rattle.test_callers.proofs.walked.count_nodes.Given as goal

abbrev pub invariant-nodes : goal.invariant-nodes
invariant-nodes g l =
    (l.count + length l.walker.tree.cursor.raw.rest.bytes < 2 ^ 63)
    × (IsHonestCursor g.R.Offset.ReaderOffset.limit l.fn.walker.tree.cursor
    → IsHonestCursor g.R.Offset.ReaderOffset.limit l.walker.tree.cursor
    × (count_innermost l.fn.walker.lists 0
    (rows_of g.R.Offset.ReaderOffset.limit l.fn.walker.tree.cursor.raw)
    ≡ count_innermost l.walker.lists l.count
    (rows_of g.R.Offset.ReaderOffset.limit l.walker.tree.cursor.raw)))

abbrev pub decreases-nodes : goal.decreases-nodes
decreases-nodes g l = length l.walker.tree.cursor.raw.rest.bytes
