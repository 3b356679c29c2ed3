use Rattle.gimli_walk.proofs.AnswerLines.{steps_text, steps_true}
use Rattle.gimli_walk.proofs.text.walk_declared.Goals as goal

pub returns-in-Rows-clause-text : goal.returns-in-Rows-clause-text
returns-in-Rows-clause-text g c h =
    rw c.in-Rows.is (c.end_lines.ensures.lines _ _ c.write_rows-written.ensures.text)

pub returns-in-Check-clause-text : goal.returns-in-Check-clause-text
returns-in-Check-clause-text g c h =
    rw c.in-Check.is (c.end_lines-in-Check.ensures.lines _ _ c.write_check-written.ensures)

pub returns-in-Cursor-clause-text : goal.returns-in-Cursor-clause-text
returns-in-Cursor-clause-text g c h =
    let honest = rw c.in-Cursor.is at h in
    rw c.in-Cursor.is
    (steps_text g.R.Offset.ReaderOffset.limit _ _ _ _ _ _ c.write_steps.result (λ f. honest)
    c.write_steps.ensures)

pub returns-in-Cursor-clause-true_lines : goal.returns-in-Cursor-clause-true_lines
returns-in-Cursor-clause-true_lines g c =
    rw c.in-Cursor.is
    (steps_true g.R.Offset.ReaderOffset.limit _ _ _ _ _ _ c.write_steps.result
    c.write_steps.ensures)

pub returns-in-Plain-clause-text : goal.returns-in-Plain-clause-text
returns-in-Plain-clause-text g c h =
    rw c.in-Plain.is
    (steps_text g.R.Offset.ReaderOffset.limit _ _ _ _ _ _ c.write_steps-in-Plain.result
    (λ f. absurd (cc)) c.write_steps-in-Plain.ensures)

pub returns-in-Plain-clause-true_lines : goal.returns-in-Plain-clause-true_lines
returns-in-Plain-clause-true_lines g c =
    rw c.in-Plain.is
    (steps_true g.R.Offset.ReaderOffset.limit _ _ _ _ _ _ c.write_steps-in-Plain.result
    c.write_steps-in-Plain.ensures)

pub returns-in-Tree-clause-text : goal.returns-in-Tree-clause-text
returns-in-Tree-clause-text g c h =
    let honest = rw c.in-Tree.is at h in
    rw c.in-Tree.is (c.write_tree_steps.ensures.text honest)

pub returns-in-Tree-clause-true_lines : goal.returns-in-Tree-clause-true_lines
returns-in-Tree-clause-true_lines g c = rw c.in-Tree.is c.write_tree_steps.ensures.true_lines

pub returns-in-Rows-clause-without_memory : goal.returns-in-Rows-clause-without_memory
returns-in-Rows-clause-without_memory g c = λ rows.
    rw c.in-Rows.is
    (c.end_lines.ensures.all c.write_rows-written.ensures.without_memory _ _
    c.write_rows-written.ensures.text)
