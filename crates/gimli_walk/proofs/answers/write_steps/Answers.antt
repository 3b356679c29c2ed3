use Rattle.gimli_units.specs.UnitHeld.{unit_view}
use Rattle.gimli_walk.proofs.AnswerLines.{answer_wrote, answer_stopped}
use Rattle.gimli_walk.proofs.answers.write_steps.Goals as goal

pub returns-in-Ok : goal.returns-in-Ok
returns-in-Ok g c =
    answer_wrote g.R.Offset.ReaderOffset.limit (unit_view c.args.unit.now) c.args.follows
    c.args.steps.now (g.W.Write.contents c.args.out.now) _ c.args.abbreviations.now _ _
    c.args.unit.now.entries_fit c.first_cursor-cursor.ensures c.in-Ok.ensures

pub returns-in-Err-Memory : goal.returns-in-Err-Memory
returns-in-Err-Memory g c =
    answer_stopped g.R.Offset.ReaderOffset.limit (unit_view c.args.unit.now) c.args.follows
    c.args.steps.now (g.W.Write.contents c.args.out.now)
    (g.W.Write.contents c.write_error.new.out) c.args.abbreviations.now _
    (g.W.Write.contents c.write_answers.new.out) c.args.unit.now.entries_fit
    c.first_cursor-cursor.ensures (rw c.in-Err-Memory.field-0-is at c.in-Err-Memory.ensures)
    c.in_ok-write_error-in-Err-Memory.ensures
