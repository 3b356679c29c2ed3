use Rattle.std.proofs.Common.{◌≡◌, arith, rules, ap, length, Err}
use Rattle.gimli_base.specs.View.{View}
use Rattle.gimli_units.proofs.Memory.{abbreviation_at-never}
use Rattle.gimli_c.specs.Heads.{PlaceBy}
use Rattle.gimli_c.proofs.Heads.{past_code, past_attribute}
use Rattle.gimli_c.proofs.ByTable.{null_past, entry_past, are_read, are_refused}
use Rattle.gimli_c.proofs.Shorter.{code_leaves, refused_never, head_goes_on}
use Rattle.gimli_c.proofs.TableSteps.{has-take, has-drop}
use Rattle.gimli_c.proofs.by_table.EntriesByReadEntries.pass.Goals as goal

pub returns-in_err-declared-clause-refused : goal.returns-in_err-declared-clause-refused
returns-in_err-declared-clause-refused g c = λ _.
    let r : c.from_residual.result ≡ Err c.in_err-declared.field-0.0 = search rules in
    rw (r, ← c.self.view_is)
    (past_code _ _ _ _ _ (rw c.copy-rest.ensures at c.in_err-declared.ensures))

pub returns-in_err-declared-clause-memory : goal.returns-in_err-declared-clause-memory
returns-in_err-declared-clause-memory g c =
    let r : c.from_residual.result ≡ Err c.in_err-declared.field-0.0 = search rules in
    rw r (refused_never _ _ (abbreviation_at-never _ _) c.in_err-declared.ensures)

pub go_past-requires : goal.go_past-requires
go_past-requires g c =
    let code = code_leaves _ _ _ _ (rw c.in_default.is at c.in_ok-declared.ensures) in
    let same = ap (λ (v : View). length v.bytes) c.copy-rest.ensures in
    let left = ap (λ (e : PlaceBy). length e.place.rest.bytes) c.self.view_is in
    omega (arith, code, same, left)

pub returns-in_default-clause-past : goal.returns-in_default-clause-past
returns-in_default-clause-past g c = λ _.
    let moved = ap (λ (e : PlaceBy). e.place) (rw (← c.self.view_is) at c.go_past.ensures.place) in
    rw (← c.self.view_is, moved, c.go_past.ensures.head, c.null.ensures)
    (null_past _ _ _ (rw (c.copy-rest.ensures, c.in_default.is) at c.in_ok-declared.ensures))

pub returns-in_default-clause-further : goal.returns-in_default-clause-further
returns-in_default-clause-further g c =
    let moved = ap (λ (e : PlaceBy). e.place) c.go_past.ensures.place in
    rw moved (head_goes_on _ _ c.null.result (go_past-requires g c.before))

pub returns-in_err-pass_steps_by-clause-refused : goal.returns-in_err-pass_steps_by-clause-refused
returns-in_err-pass_steps_by-clause-refused g c = λ given.
    let d = c.in-Some.declared.now in
    let r : c.from_residual-in_err-pass_steps_by.result
    ≡ Err c.in_err-pass_steps_by.field-0.0 = search rules in
    let h = rw (c.copy-rest.ensures, c.in-Some.is) at c.in_ok-declared.ensures in
    let own = has-take d.attributes _ (has-drop d.first _ (rw (← c.self.view_is) at given)) in
    let k = rw c.attributes_in-specifications.ensures at c.in_err-pass_steps_by.ensures.passed own in
    rw (r, ← c.self.view_is) (past_attribute _ _ _ _ _ _ _ h (are_refused _ _ _ _ _ k))

pub go_past-requires-2 : goal.go_past-requires-2
go_past-requires-2 g c =
    let code = code_leaves _ _ _ _ (rw c.in-Some.is at c.in_ok-declared.ensures) in
    let same = ap (λ (v : View). length v.bytes) c.copy-rest.ensures in
    let left = ap (λ (e : PlaceBy). length e.place.rest.bytes) c.self.view_is in
    omega (arith, code, c.in_ok-pass_steps_by.ensures.shorter, same, left)

pub returns-clause-past : goal.returns-clause-past
returns-clause-past g c = λ given.
    let d = c.in-Some.declared.now in
    let h = rw (c.copy-rest.ensures, c.in-Some.is) at c.in_ok-declared.ensures in
    let own = has-take d.attributes _ (has-drop d.first _ (rw (← c.self.view_is) at given)) in
    let k = rw c.attributes_in-specifications.ensures at c.in_ok-pass_steps_by.ensures.passed own in
    let moved = ap (λ (e : PlaceBy). e.place) (rw (← c.self.view_is) at c.go_past-2.ensures.place) in
    let head = c.head_by.ensures c.self.inside.table.specifications.now in
    rw (← c.self.view_is, moved, c.go_past-2.ensures.head, head)
    (entry_past _ _ _ _ _ h (are_read _ _ _ _ _ k))

pub returns-clause-further : goal.returns-clause-further
returns-clause-further g c =
    let moved = ap (λ (e : PlaceBy). e.place) c.go_past-2.ensures.place in
    rw moved (head_goes_on _ _ c.head_by.result (go_past-requires-2 g c.before))
