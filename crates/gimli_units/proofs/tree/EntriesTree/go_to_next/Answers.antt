use Rattle.std.proofs.Common.{w64}
use Rattle.std.proofs.lemmas.Int.{to_z-of_z}
use Rattle.gimli_units.specs.TreeMoves.{TreeView}
use Rattle.gimli_units.proofs.TreeSteps.{sought_tree, sought_next}
use Rattle.gimli_units.proofs.tree.EntriesTree.go_to_next.Goals as goal

pub invariant_of-self : goal.invariant_of-self
invariant_of-self g c =
    let t : TreeView = record { start = c.self.inside.start; cursor = c.self.inside.cursor } in
    let found = rw (to_z-of_z w64 c.args.depth c.ranges.depth, c.offset-offset.ensures) at
    c.seek-found.ensures in
    sought_tree g.R.Offset.ReaderOffset.limit c.args.depth t c.self.invariant c.seek-found.result
    c.seek-found.new.self found c.last.ensures.sound

pub returns-clause-gone_on : goal.returns-clause-gone_on
returns-clause-gone_on g c =
    let t : TreeView = record { start = c.self.inside.start; cursor = c.self.inside.cursor } in
    let found = rw (to_z-of_z w64 c.args.depth c.ranges.depth, c.offset-offset.ensures) at
    c.seek-found.ensures in
    rw (← c.self.view_is)
    (sought_next g.R.Offset.ReaderOffset.limit c.args.depth t c.self.invariant
    c.seek-found.result c.seek-found.new.self found c.last.ensures.sound)

pub returns-clause-tree : goal.returns-clause-tree
returns-clause-tree g c =
    let t : TreeView = record { start = c.self.inside.start; cursor = c.self.inside.cursor } in
    let found = rw (to_z-of_z w64 c.args.depth c.ranges.depth, c.offset-offset.ensures) at
    c.seek-found.ensures in
    sought_tree g.R.Offset.ReaderOffset.limit c.args.depth t c.self.invariant c.seek-found.result
    c.seek-found.new.self found c.last.ensures.sound
