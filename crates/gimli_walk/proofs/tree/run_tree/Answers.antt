use Rattle.std.proofs.Common.{rules, ◌≡◌, sym, Err}
use Rattle.std.proofs.lemmas.List.{length-map}
use Rattle.gimli_walk.specs.Trees.{step_answer_by}
use Rattle.gimli_walk.proofs.TreeTurned.{tree_run_from, tree_refused_from}
use Rattle.gimli_walk.proofs.tree.run_tree.Goals as goal

pub returns : goal.returns
returns g c =
    let answer = step_answer_by g.R.Reader.view g.R.Offset.ReaderOffset.number in
    let all = c.collect_steps.ensures in
    tree_run_from g.R.Offset.ReaderOffset.limit _ _ _ _ _ _ _ _ c.args.unit.now.entries_fit
    c.in_ok-tree.ensures (rw c.walk-walker.ensures at all.run)
    (sym (length-map c.collect_steps.result.answers.items answer)) all.stopped

pub returns-in_err-tree : goal.returns-in_err-tree
returns-in_err-tree g c =
    let r : c.from_residual.result ≡ Err c.in_err-tree.field-0.0 = search rules in
    rw r (tree_refused_from g.R.Offset.ReaderOffset.limit _ _ _ _ _ c.in_err-tree.ensures)
