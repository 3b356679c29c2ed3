use Rattle.std.proofs.Common.{refl, None}
use Rattle.gimli_units.specs.UnitHeld.{unit_view}
use Rattle.gimli_walk.specs.TreeText.{no_tree}
use Rattle.gimli_walk.proofs.TreeTurned.{tree_refused_from}
use Rattle.gimli_walk.proofs.TreeLines.{no_tree_said, no_tree_line, tree_answer_text, tree_answer_true}
use Rattle.gimli_walk.proofs.TreeLines.{tree_stopped_text, tree_stopped_true}
use Rattle.gimli_walk.proofs.tree_lines.write_tree_steps.Goals as goal

pub returns-in-Err-clause-text : goal.returns-in-Err-clause-text
returns-in-Err-clause-text g c = λ honest.
    let limit = g.R.Offset.ReaderOffset.limit in
    let u = unit_view c.args.unit.now in
    let none = no_tree_said limit u _ _ c.in-Err.error
    (tree_refused_from limit u c.args.abbreviations.now None c.args.steps.now c.in-Err.error
    c.in-Err.ensures) in
    no_tree_line limit u _ _ _ _ c.in-Err.error none c.in_ok-write_error-in-Err.ensures

pub returns-in-Err-clause-true_lines : goal.returns-in-Err-clause-true_lines
returns-in-Err-clause-true_lines g c =
    let limit = g.R.Offset.ReaderOffset.limit in
    let u = unit_view c.args.unit.now in
    let none = no_tree_said limit u _ _ c.in-Err.error
    (tree_refused_from limit u c.args.abbreviations.now None c.args.steps.now c.in-Err.error
    c.in-Err.ensures) in
    no_tree c.in-Err.error none c.in_ok-write_error-in-Err.ensures refl

pub returns-in-Ok-write_answers-clause-text : goal.returns-in-Ok-write_answers-clause-text
returns-in-Ok-write_answers-clause-text g c = λ honest.
    tree_answer_text g.R.Offset.ReaderOffset.limit (unit_view c.args.unit.now)
    c.args.abbreviations.now _ _ _ c.in-Ok.tree c.args.unit.now.entries_fit c.in-Ok.ensures
    c.in-Ok-write_answers.status (rw c.walk-walker.ensures at c.in-Ok-write_answers.ensures) honest

pub returns-in-Ok-write_answers-clause-true_lines : goal.returns-in-Ok-write_answers-clause-true_lines
returns-in-Ok-write_answers-clause-true_lines g c =
    tree_answer_true g.R.Offset.ReaderOffset.limit (unit_view c.args.unit.now)
    c.args.abbreviations.now _ _ _ c.in-Ok.tree c.args.unit.now.entries_fit c.in-Ok.ensures
    c.in-Ok-write_answers.status (rw c.walk-walker.ensures at c.in-Ok-write_answers.ensures)

pub returns-in-Err-Memory-clause-text : goal.returns-in-Err-Memory-clause-text
returns-in-Err-Memory-clause-text g c = λ honest.
    tree_stopped_text g.R.Offset.ReaderOffset.limit (unit_view c.args.unit.now)
    c.args.abbreviations.now _ _ (g.W.Write.contents c.write_error-in-Err-Memory.new.out)
    c.in-Ok.tree c.args.unit.now.entries_fit c.in-Ok.ensures
    (g.W.Write.contents c.write_answers.new.out)
    (rw (c.in-Err-Memory.field-0-is, c.walk-walker.ensures) at c.in-Err-Memory.ensures)
    c.in_ok-write_error-in-Err-Memory.ensures honest

pub returns-in-Err-Memory-clause-true_lines : goal.returns-in-Err-Memory-clause-true_lines
returns-in-Err-Memory-clause-true_lines g c =
    tree_stopped_true g.R.Offset.ReaderOffset.limit (unit_view c.args.unit.now)
    c.args.abbreviations.now _ _ (g.W.Write.contents c.write_error-in-Err-Memory.new.out)
    c.in-Ok.tree c.args.unit.now.entries_fit c.in-Ok.ensures
    (g.W.Write.contents c.write_answers.new.out)
    (rw (c.in-Err-Memory.field-0-is, c.walk-walker.ensures) at c.in-Err-Memory.ensures)
    c.in_ok-write_error-in-Err-Memory.ensures
