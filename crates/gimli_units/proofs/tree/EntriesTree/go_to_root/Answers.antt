use Rattle.std.proofs.Common.{rules, ◌≡◌, sym, ap, ◌∙◌, Err}
use Rattle.gimli_units.specs.Entry.{is_null}
use Rattle.gimli_units.specs.TreeMoves.{TreeView}
use Rattle.gimli_units.proofs.TreeSteps.{read_tree, root_read, null_read, fault_read}
use Rattle.gimli_units.proofs.tree.EntriesTree.go_to_root.Goals as goal

pub invariant_of-self : goal.invariant_of-self
invariant_of-self g c =
    let t : TreeView = record { start = c.self.inside.start; cursor = c.self.inside.cursor } in
    let read = rw (c.restart.ensures, c.copy-start.ensures, c.self.invariant.follows) at
    c.read_next.ensures.read in
    read_tree g.R.Offset.ReaderOffset.limit t c.self.invariant c.read_next.result
    c.read_next.new.self read

pub invariant_of-self-2 : goal.invariant_of-self-2
invariant_of-self-2 g c =
    let t : TreeView = record { start = c.self.inside.start; cursor = c.self.inside.cursor } in
    let read = rw (c.restart.ensures, c.copy-start.ensures, c.self.invariant.follows) at
    c.read_next.ensures.read in
    read_tree g.R.Offset.ReaderOffset.limit t c.self.invariant c.read_next.result
    c.read_next.new.self read

pub invariant_of-self-then-is_null : goal.invariant_of-self-then-is_null
invariant_of-self-then-is_null g c =
    let t : TreeView = record { start = c.self.inside.start; cursor = c.self.inside.cursor } in
    let read = rw (c.restart.ensures, c.copy-start.ensures, c.self.invariant.follows) at
    c.read_next.ensures.read in
    read_tree g.R.Offset.ReaderOffset.limit t c.self.invariant c.read_next.result
    c.read_next.new.self read

pub returns-in_err-read_next-clause-begun : goal.returns-in_err-read_next-clause-begun
returns-in_err-read_next-clause-begun g c =
    let t : TreeView = record { start = c.self.inside.start; cursor = c.self.inside.cursor } in
    let read = rw (c.restart.ensures, c.copy-start.ensures, c.self.invariant.follows) at
    c.read_next.ensures.read in
    let r : c.from_residual.result ≡ Err c.in_err-read_next.field-0.0 = search rules in
    rw (r, ← c.self.view_is)
    (fault_read g.R.Offset.ReaderOffset.limit t c.self.invariant c.read_next.result
    c.read_next.new.self c.in_err-read_next.field-0.0 read c.in_err-read_next.was)

pub returns-then-is_null-clause-begun : goal.returns-then-is_null-clause-begun
returns-then-is_null-clause-begun g c =
    let t : TreeView = record { start = c.self.inside.start; cursor = c.self.inside.cursor } in
    let read = rw (c.restart.ensures, c.copy-start.ensures, c.self.invariant.follows) at
    c.read_next.ensures.read in
    let null = sym (ap is_null c.last-entry.ensures.entry) ∙ sym c.is_null.ensures
    ∙ c.if-is_null.true in
    let at = c.into_u64.ensures.value
    ∙ ap (λ o. g.R.Offset.ReaderOffset.number o.0) c.offset.ensures
    ∙ c.last-entry.ensures.offset in
    rw (at, ← c.self.view_is)
    (null_read g.R.Offset.ReaderOffset.limit t c.self.invariant c.read_next.result
    c.read_next.new.self _ read c.in_ok-read_next.was null)

pub returns-clause-begun : goal.returns-clause-begun
returns-clause-begun g c =
    let t : TreeView = record { start = c.self.inside.start; cursor = c.self.inside.cursor } in
    let read = rw (c.restart.ensures, c.copy-start.ensures, c.self.invariant.follows) at
    c.read_next.ensures.read in
    let entry = sym (ap is_null c.last-entry.ensures.entry) ∙ sym c.is_null.ensures
    ∙ c.if-is_null.false in
    rw (← c.self.view_is)
    (root_read g.R.Offset.ReaderOffset.limit t c.self.invariant c.read_next.result
    c.read_next.new.self _ read c.in_ok-read_next.was entry)

pub returns-in_err-read_next-clause-tree : goal.returns-in_err-read_next-clause-tree
returns-in_err-read_next-clause-tree g c =
    let t : TreeView = record { start = c.self.inside.start; cursor = c.self.inside.cursor } in
    let read = rw (c.restart.ensures, c.copy-start.ensures, c.self.invariant.follows) at
    c.read_next.ensures.read in
    read_tree g.R.Offset.ReaderOffset.limit t c.self.invariant c.read_next.result
    c.read_next.new.self read

pub returns-then-is_null-clause-tree : goal.returns-then-is_null-clause-tree
returns-then-is_null-clause-tree g c =
    let t : TreeView = record { start = c.self.inside.start; cursor = c.self.inside.cursor } in
    let read = rw (c.restart.ensures, c.copy-start.ensures, c.self.invariant.follows) at
    c.read_next.ensures.read in
    read_tree g.R.Offset.ReaderOffset.limit t c.self.invariant c.read_next.result
    c.read_next.new.self read

pub returns-clause-tree : goal.returns-clause-tree
returns-clause-tree g c =
    let t : TreeView = record { start = c.self.inside.start; cursor = c.self.inside.cursor } in
    let read = rw (c.restart.ensures, c.copy-start.ensures, c.self.invariant.follows) at
    c.read_next.ensures.read in
    read_tree g.R.Offset.ReaderOffset.limit t c.self.invariant c.read_next.result
    c.read_next.new.self read
