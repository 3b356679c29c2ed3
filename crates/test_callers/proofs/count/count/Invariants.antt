use Rattle.std.proofs.Common.{◌≡◌, ◌<◌, ◌+◌, ◌^◌, unsigned_abs, length, true}
use Rattle.gimli_units.specs.CursorModel.{rows_of}
use Rattle.gimli_units.specs.CursorModel.{IsHonestCursor}
use Rattle.gimli_units.specs.TreeMoves.{list_of}
use Rattle.test_callers.specs.Children.{count_in}
use Rattle.test_callers.proofs.count.count.Given as goal

abbrev pub invariant-steps : goal.invariant-steps
invariant-steps g l =
    (l.children.is_open ≡ true → unsigned_abs l.children.depth < 2 ^ 63)
    × (l.count + length l.children.tree.now.cursor.raw.rest.bytes < 2 ^ 63)
    × (IsHonestCursor g.R.Offset.ReaderOffset.limit l.fn.children.tree.now.cursor
    → IsHonestCursor g.R.Offset.ReaderOffset.limit l.children.tree.now.cursor
    × (count_in (list_of l.fn.children.is_open l.fn.children.depth) 0
    (rows_of g.R.Offset.ReaderOffset.limit l.fn.children.tree.now.cursor.raw)
    ≡ count_in (list_of l.children.is_open l.children.depth) l.count
    (rows_of g.R.Offset.ReaderOffset.limit l.children.tree.now.cursor.raw)))

abbrev pub decreases-steps : goal.decreases-steps
decreases-steps g l = length l.children.tree.now.cursor.raw.rest.bytes
