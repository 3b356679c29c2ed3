use Rattle.std.proofs.Common.{◌≡◌, ◌∙◌, Bool, true, false, refl, sym, ap, rules, cond, w64, to_z}
use Rattle.std.proofs.Common.{of_z}
use Rattle.std.proofs.lemmas.Int.{to_z-of_z}
use mir.Val.{bool_byte}
use Rattle.gimli_units.specs.CursorModel.{place_of}
use Rattle.gimli_c.specs.Status.{row_refused}
use Rattle.gimli_c.proofs.Memory.{row_memory, onward_takes, refused_takes}
use Rattle.gimli_c.proofs.SiblingLaw.{at_stop, honest_on, sibling_stopped, sibling_outcome}
use Rattle.gimli_c.proofs.sibling.find_after.Goals as goal

flag_byte : (b : Bool) → bool_byte b ≡ cond b 1 0
flag_byte true = refl
flag_byte false = refl

pub returns-in-Err-step-clause-outcome : goal.returns-in-Err-step-clause-outcome
returns-in-Err-step-clause-outcome g c = λ honest _ other.
    let limit = g.R.Offset.ReaderOffset.limit in
    let from = c.args.cursor.now in
    let on = c.next_entry.new.self in
    let read = c.in-Ok.ensures in
    let stopped = c.in-Err-step.ensures.moves (honest_on limit from on c.in-Ok.field-0 read honest)
    (λ is. other (c.row_refused-in-Err-step.ensures ∙ ap row_refused is)) in
    rw c.row_refused-in-Err-step.ensures
    (sibling_stopped from.raw.end (place_of limit from) (place_of limit on) c.args.depth
    c.args.row.now c.in-Ok.field-0 read.moves (place_of limit c.step.new.cursor) c.in-Err-step.error
    (at_stop on.raw.end from.raw.end (place_of limit on) _ read.unit.end stopped))

pub returns-in-Some-clause-outcome : goal.returns-in-Some-clause-outcome
returns-in-Some-clause-outcome g c = λ honest _ _.
    let limit = g.R.Offset.ReaderOffset.limit in
    let from = c.args.cursor.now in
    let on = c.next_entry.new.self in
    let there = c.step.new.cursor in
    let read = c.in-Ok.ensures in
    let back : to_z w64 (of_z w64 c.args.depth) ≡ c.args.depth = to_z-of_z w64 _ c.ranges.depth in
    let moved = c.in-Ok-step.ensures.moves (honest_on limit from on c.in-Ok.field-0 read honest) in
    let outcome = sibling_outcome from.raw.end (place_of limit from) (place_of limit on) c.args.depth
    c.args.row.now c.in-Ok.field-0 read.moves (place_of limit there) c.in-Ok-step.field-0
    (at_stop on.raw.end from.raw.end (place_of limit on) _ read.unit.end moved) in
    let entry = rw (← c.in-Some.ensures.entry) at outcome in
    let offset : c.into_u64.result ≡ there.offset = search rules in
    let flag = c.from.ensures ∙ flag_byte c.has_children.result in
    rw (back, offset, c.tag.ensures, flag, c.has_children.ensures) entry

pub returns-in-None-clause-outcome : goal.returns-in-None-clause-outcome
returns-in-None-clause-outcome g c = λ honest _ _.
    let limit = g.R.Offset.ReaderOffset.limit in
    let from = c.args.cursor.now in
    let on = c.next_entry.new.self in
    let read = c.in-Ok.ensures in
    let moved = c.in-Ok-step.ensures.moves (honest_on limit from on c.in-Ok.field-0 read honest) in
    let outcome = sibling_outcome from.raw.end (place_of limit from) (place_of limit on) c.args.depth
    c.args.row.now c.in-Ok.field-0 read.moves (place_of limit c.step.new.cursor)
    c.in-Ok-step.field-0 (at_stop on.raw.end from.raw.end (place_of limit on) _ read.unit.end moved)
    in
    rw (← c.in-None.ensures.entry) at outcome

pub returns-in-Err-clause-row_memory : goal.returns-in-Err-clause-row_memory
returns-in-Err-clause-row_memory g c = λ _ outcome.
    let on = c.next_entry.new.self in
    let e = c.in-Err.error in (
      on.offset,
      refused_takes g.R.Offset.ReaderOffset.limit c.args.cursor.now on e
          (c.in-Err.ensures.refused e refl)
          (row_memory e (sym c.row_refused.ensures ∙ outcome)),
    )

pub returns-in-Err-step-clause-row_memory : goal.returns-in-Err-step-clause-row_memory
returns-in-Err-step-clause-row_memory g c = λ fits outcome.
    let from = c.args.cursor.now in
    let on = c.next_entry.new.self in
    let there = c.step.new.cursor in
    let read = c.in-Ok.ensures in
    let e = c.in-Err-step.error in (
      there.offset,
      onward_takes from.raw on.raw
          (record {
            further = read.further;
            end = read.unit.end;
            abbreviations = read.unit.abbreviations;
          })
          fits there.offset
          (refused_takes g.R.Offset.ReaderOffset.limit on there e c.in-Err-step.ensures.refused
          (row_memory e (sym c.row_refused-in-Err-step.ensures ∙ outcome))),
    )
