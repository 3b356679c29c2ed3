use Rattle.std.proofs.Common.{◌≡◌, None, Some, Ok, true, false, sym, ap, ◌∙◌}
use Rattle.gimli_units.specs.UnitHeld.{unit_view}
use Rattle.test_callers.proofs.ModeLaw.{nothing}
use Rattle.test_callers.proofs.Seconds.{sibling_is}
use Rattle.test_callers.proofs.second.sibling_at.Goals as goal

pub returns-then-branch : goal.returns-then-branch
returns-then-branch g c = λ there.
    let limit = g.R.Offset.ReaderOffset.limit in
    let none : c.in_ok-first_false_sibling.field-0
    ≡ None = nothing _ (sym c.is_some.ensures ∙ c.if-is_some.false) in
    let honest = c.in_ok-first_false_sibling.ensures.starts (ap Ok none) _ there in
    let read = rw c.in_ok-next_entry.was at c.next_entry.ensures in
    let steps = rw (c.in_ok-step.was ∙ ap Ok c.if-branch.true) at c.step.ensures in
    ap Some c.offset.ensures
    ∙ sibling_is limit (unit_view c.args.unit.now) c.args.abbreviations.now _
    c.in_ok-cursor.cursor c.next_entry.new.self c.step.new.cursor c.in_ok-next_entry.field-0
    true c.in_ok-cursor.ensures honest read steps

pub returns : goal.returns
returns g c = λ there.
    let limit = g.R.Offset.ReaderOffset.limit in
    let none : c.in_ok-first_false_sibling.field-0
    ≡ None = nothing _ (sym c.is_some.ensures ∙ c.if-is_some.false) in
    let honest = c.in_ok-first_false_sibling.ensures.starts (ap Ok none) _ there in
    let read = rw c.in_ok-next_entry.was at c.next_entry.ensures in
    let steps = rw (c.in_ok-step.was ∙ ap Ok c.if-branch.false) at c.step.ensures in
    sibling_is limit (unit_view c.args.unit.now) c.args.abbreviations.now _ c.in_ok-cursor.cursor
    c.next_entry.new.self c.step.new.cursor c.in_ok-next_entry.field-0 false
    c.in_ok-cursor.ensures honest read steps
