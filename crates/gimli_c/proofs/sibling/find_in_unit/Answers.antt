use Rattle.std.proofs.Common.{◌≡◌, ◌∙◌, Some, Ok, Err, sym, w64, to_z, of_z}
use Rattle.std.proofs.lemmas.Int.{to_z-of_z}
use Rattle.gimli_units.specs.CursorStart.{cursor_from}
use Rattle.gimli_units.specs.UnitHeld.{unit_view}
use Rattle.gimli_units.proofs.StartLaw.{honest_cursor}
use Rattle.gimli_c.proofs.Memory.{refusal_no_row, bytes_fit, unit_takes_from, cursor_reader}
use Rattle.gimli_c.proofs.Memory.{cursor_no_memory}
use Rattle.gimli_c.proofs.SiblingLaw.{sibling_from, begins_from, sibling_refused}
use Rattle.gimli_c.proofs.sibling.find_in_unit.Goals.{then-follows, else-follows}
use Rattle.gimli_c.proofs.sibling.find_in_unit.Goals as goal

pub returns-in-Ok-clause-outcome : goal.returns-in-Ok-clause-outcome
returns-in-Ok-clause-outcome g c = λ honest m r.
    let limit = g.R.Offset.ReaderOffset.limit in
    let u = unit_view c.args.unit.now in
    let t = c.args.table.now in
    let n = g.R.Offset.ReaderOffset.number c.args.offset in
    let back : to_z w64 (of_z w64 c.args.depth) ≡ c.args.depth = to_z-of_z w64 _ c.ranges.depth in
    let is : Ok c.in-Ok.cursor ≡ cursor_from u t c.args.follows n = elim c.if-follows.branch [
      | then-follows w ↦
          rw w.if-follows.true
          (sym c.in-Ok.is ∙ w.cursor-is ∙ w.entries_at_offset-cursor.ensures)
      | else-follows w ↦
          rw w.if-follows.false
          (sym c.in-Ok.is ∙ w.cursor-is ∙ w.entries_plain_at_offset-cursor.ensures)
    ] in
    let from = sibling_from limit u t c.args.follows n c.args.depth c.args.row.now c.in-Ok.cursor is
    in
    let outcome = rw back at c.find_after.ensures.outcome in
    outcome (λ f. honest_cursor limit u t c.args.follows (Some n) c.in-Ok.cursor is
    (honest (sym from.0 ∙ f))) m r ∙ from.1

pub returns-in-Ok-clause-after : goal.returns-in-Ok-clause-after
returns-in-Ok-clause-after g c = λ found.
    let limit = g.R.Offset.ReaderOffset.limit in
    let u = unit_view c.args.unit.now in
    let t = c.args.table.now in
    let n = g.R.Offset.ReaderOffset.number c.args.offset in
    let is : Ok c.in-Ok.cursor ≡ cursor_from u t c.args.follows n = elim c.if-follows.branch [
      | then-follows w ↦
          rw w.if-follows.true
          (sym c.in-Ok.is ∙ w.cursor-is ∙ w.entries_at_offset-cursor.ensures)
      | else-follows w ↦
          rw w.if-follows.false
          (sym c.in-Ok.is ∙ w.cursor-is ∙ w.entries_plain_at_offset-cursor.ensures)
    ] in
    rw (begins_from limit u t c.args.follows n c.args.depth c.args.row.now c.in-Ok.cursor is
    c.args.unit.now.entries_fit) at (c.find_after.ensures.after found)

pub returns-in-Err-clause-outcome : goal.returns-in-Err-clause-outcome
returns-in-Err-clause-outcome g c = λ _ _ _.
    let u = unit_view c.args.unit.now in
    let t = c.args.table.now in
    let n = g.R.Offset.ReaderOffset.number c.args.offset in
    let is : Err c.in-Err.error ≡ cursor_from u t c.args.follows n = elim c.if-follows.branch [
      | then-follows w ↦
          rw w.if-follows.true
          (sym c.in-Err.is ∙ w.cursor-is ∙ w.entries_at_offset-cursor.ensures)
      | else-follows w ↦
          rw w.if-follows.false
          (sym c.in-Err.is ∙ w.cursor-is ∙ w.entries_plain_at_offset-cursor.ensures)
    ] in
    rw c.refusal_status.ensures
    (sibling_refused g.R.Offset.ReaderOffset.limit u t c.args.follows n c.args.depth c.args.row.now
    c.in-Err.error is)

pub returns-in-Ok-clause-row_memory : goal.returns-in-Ok-clause-row_memory
returns-in-Ok-clause-row_memory g c = λ outcome.
    let u = unit_view c.args.unit.now in
    let t = c.args.table.now in
    let n = g.R.Offset.ReaderOffset.number c.args.offset in
    let fits = c.args.unit.now.entries_fit in
    let is : Ok c.in-Ok.cursor ≡ cursor_from u t c.args.follows n = elim c.if-follows.branch [
      | then-follows w ↦
          rw w.if-follows.true
          (sym c.in-Ok.is ∙ w.cursor-is ∙ w.entries_at_offset-cursor.ensures)
      | else-follows w ↦
          rw w.if-follows.false
          (sym c.in-Ok.is ∙ w.cursor-is ∙ w.entries_plain_at_offset-cursor.ensures)
    ] in
    let reader = cursor_reader u t c.args.follows n c.in-Ok.cursor is in
    let p = c.in-Ok.cursor.raw in
    unit_takes_from u t n fits p reader
    (c.find_after.ensures.row_memory (bytes_fit u t n fits p reader) outcome)

pub returns-in-Err-clause-row_memory : goal.returns-in-Err-clause-row_memory
returns-in-Err-clause-row_memory g c =
    rw c.refusal_status.ensures (λ outcome. absurd (refusal_no_row c.in-Err.error outcome))

pub returns-in-Err-clause-memory : goal.returns-in-Err-clause-memory
returns-in-Err-clause-memory g c =
    let u = unit_view c.args.unit.now in
    let t = c.args.table.now in
    let n = g.R.Offset.ReaderOffset.number c.args.offset in
    let is : Err c.in-Err.error ≡ cursor_from u t c.args.follows n = elim c.if-follows.branch [
      | then-follows w ↦
          rw w.if-follows.true
          (sym c.in-Err.is ∙ w.cursor-is ∙ w.entries_at_offset-cursor.ensures)
      | else-follows w ↦
          rw w.if-follows.false
          (sym c.in-Err.is ∙ w.cursor-is ∙ w.entries_plain_at_offset-cursor.ensures)
    ] in
    rw c.refusal_status.ensures (cursor_no_memory u t c.args.follows n c.in-Err.error is)
