use Rattle.std.proofs.Common.{rules, ◌≡◌, sym, Err, true}
use Rattle.std.proofs.lemmas.List.{length-map}
use Rattle.gimli_walk.specs.Cursors.{answer_held}
use Rattle.gimli_walk.proofs.CursorTruth.{stopped_is}
use Rattle.gimli_walk.proofs.AnswerTruth.{run_from, refused_from}
use Rattle.gimli_walk.proofs.cursor.run_cursor.Goals as goal

pub returns-clause-run : goal.returns-clause-run
returns-clause-run g c =
    let answer = answer_held g.R.Reader.view g.R.Offset.ReaderOffset.number in
    let all = c.collect_steps.ensures in
    run_from g.R.Offset.ReaderOffset.limit _ _ true _ _ _ _ _ _ c.args.unit.now.entries_fit
    c.in_ok-cursor.ensures all.run (sym (length-map c.collect_steps.result.answers.items answer))
    (stopped_is _ _ _ all.stopped all.whole)

pub returns-in_err-cursor-clause-run : goal.returns-in_err-cursor-clause-run
returns-in_err-cursor-clause-run g c =
    let r : c.from_residual.result ≡ Err c.in_err-cursor.field-0.0 = search rules in
    rw r (refused_from g.R.Offset.ReaderOffset.limit _ _ true _ _ _ c.in_err-cursor.ensures)
