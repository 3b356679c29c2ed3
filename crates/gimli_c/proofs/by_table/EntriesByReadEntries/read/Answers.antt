use Rattle.std.proofs.Common.{◌≡◌, ◌≤◌, ◌==◌, ◌∙◌, true, false, arith, rules, refl, ap, length, Err}
use Rattle.std.proofs.lemmas.Bool.{eq-eqb, ne_eqb}
use Rattle.gimli_base.specs.View.{View}
use Rattle.gimli_c.specs.Heads.{PlaceBy}
use Rattle.gimli_c.specs.Tables.{declaration_in}
use Rattle.gimli_c.proofs.Heads.{past_code, past_attribute, numbers_of, refused_of, asks_refused}
use Rattle.gimli_c.proofs.Heads.{asks_declared}
use Rattle.gimli_c.proofs.Memory.{code_takes, declared_takes, refused_some}
use Rattle.gimli_c.proofs.ByTable.{null_past_with, entry_past_with, are_read, are_refused, none_in}
use Rattle.gimli_c.proofs.Shorter.{code_leaves, all_leave, numbers_leave}
use Rattle.gimli_c.proofs.by_table.EntriesByReadEntries.read.Goals.{
  then-declared-eq0+in_ok-pass_values_by,
  else-declared-eq0+in_ok-push_values_by,
}
use Rattle.gimli_c.proofs.by_table.EntriesByReadEntries.read.Goals as goal

pub returns-in_err-declared-clause-refused : goal.returns-in_err-declared-clause-refused
returns-in_err-declared-clause-refused g c =
    let r : c.from_residual.result ≡ Err c.in_err-declared.field-0.0 = search rules in
    rw (r, ← c.self.view_is)
    (λ _. past_code _ _ _ _ _ (rw c.copy-rest.ensures at c.in_err-declared.ensures))

pub returns-in_err-declared-clause-memory : goal.returns-in_err-declared-clause-memory
returns-in_err-declared-clause-memory g c =
    let r : c.from_residual.result ≡ Err c.in_err-declared.field-0.0 = search rules in
    rw (r, ← c.self.view_is) (asks_refused _ _
    (past_code _ _ _ _ _ (rw c.copy-rest.ensures at c.in_err-declared.ensures)))

pub returns-in_err-declared-clause-takes : goal.returns-in_err-declared-clause-takes
returns-in_err-declared-clause-takes g c =
    let r : c.from_residual.result ≡ Err c.in_err-declared.field-0.0 = search rules in
    rw (r, ← c.self.view_is)
    (code_takes _ _ _ (rw c.copy-rest.ensures at c.in_err-declared.ensures))

pub go_past-requires : goal.go_past-requires
go_past-requires g c =
    let code = code_leaves _ _ _ _ (rw c.in_default.is at c.in_ok-declared.ensures) in
    let same = ap (λ (v : View). length v.bytes) c.copy-rest.ensures in
    let left = ap (λ (e : PlaceBy). length e.place.rest.bytes) c.self.view_is in
    omega (arith, code, same, left)

pub returns-in_default-clause-past : goal.returns-in_default-clause-past
returns-in_default-clause-past g c =
    let moved = ap (λ (e : PlaceBy). e.place) (rw (← c.self.view_is) at c.go_past.ensures.place) in
    rw (← c.self.view_is, moved, c.go_past.ensures.head, c.null.ensures)
    (null_past_with _ _ _ _
    (rw (c.copy-rest.ensures, c.in_default.is) at c.in_ok-declared.ensures)
    c.clear.ensures.items)

pub returns-in_err-pass_values_by-clause-refused : goal.returns-in_err-pass_values_by-clause-refused
returns-in_err-pass_values_by-clause-refused g c =
    let r : c.from_residual-in_err-pass_values_by.result
    ≡ Err c.in_err-pass_values_by.field-0.0 = search rules in
    let h = rw (c.copy-rest.ensures, c.in-Some.is) at c.in_ok-declared.ensures in
    let k = rw c.attributes_in-specifications.ensures at c.in_err-pass_values_by.ensures in
    rw (r, ← c.self.view_is)
    (λ _. past_attribute _ _ _ _ _ _ _ h (are_refused _ _ _ _ _ k))

pub returns-in_err-pass_values_by-clause-memory : goal.returns-in_err-pass_values_by-clause-memory
returns-in_err-pass_values_by-clause-memory g c =
    let r : c.from_residual-in_err-pass_values_by.result
    ≡ Err c.in_err-pass_values_by.field-0.0 = search rules in
    let h = rw (c.copy-rest.ensures, c.in-Some.is) at c.in_ok-declared.ensures in
    let k = rw c.attributes_in-specifications.ensures at c.in_err-pass_values_by.ensures in
    rw (r, ← c.self.view_is)
    (asks_refused _ _ (past_attribute _ _ _ _ _ _ _ h (are_refused _ _ _ _ _ k)))

pub returns-in_err-pass_values_by-clause-takes : goal.returns-in_err-pass_values_by-clause-takes
returns-in_err-pass_values_by-clause-takes g c =
    let r : c.from_residual-in_err-pass_values_by.result
    ≡ Err c.in_err-pass_values_by.field-0.0 = search rules in
    let h = rw (c.copy-rest.ensures, c.in-Some.is) at c.in_ok-declared.ensures in
    let k = rw c.attributes_in-specifications.ensures at c.in_err-pass_values_by.ensures in
    rw (r, ← c.self.view_is)
    (λ _. declared_takes _ _ _ _ h (refused_some _ _ _ _ _ (are_refused _ _ _ _ _ k)))

pub returns-in_err-push_values_by-clause-refused : goal.returns-in_err-push_values_by-clause-refused
returns-in_err-push_values_by-clause-refused g c =
    let r : c.from_residual-in_err-push_values_by.result
    ≡ Err c.in_err-push_values_by.field-0.0 = search rules in
    let h = rw (c.copy-rest.ensures, c.in-Some.is) at c.in_ok-declared.ensures in
    let k = rw c.attributes_in-specifications.ensures at c.in_err-push_values_by.ensures.value in
    rw (r, ← c.self.view_is)
    (λ other. past_attribute _ _ _ _ _ _ _ h (refused_of _ _ _ _ _ (k other)))

pub returns-in_err-push_values_by-clause-memory : goal.returns-in_err-push_values_by-clause-memory
returns-in_err-push_values_by-clause-memory g c =
    let r : c.from_residual-in_err-push_values_by.result
    ≡ Err c.in_err-push_values_by.field-0.0 = search rules in
    let h = rw (c.copy-rest.ensures, c.in-Some.is) at c.in_ok-declared.ensures in
    rw (r, ← c.self.view_is) (asks_declared _ _ _ _ _ _ h c.if-declared-eq0.false
    (λ none. let is_ok = c.in_err-push_values_by.ensures.none
    (c.attributes_in-specifications.ensures ∙ none_in _ none) in cc))

pub returns-in_err-push_values_by-clause-takes : goal.returns-in_err-push_values_by-clause-takes
returns-in_err-push_values_by-clause-takes g c =
    let r : c.from_residual-in_err-push_values_by.result
    ≡ Err c.in_err-push_values_by.field-0.0 = search rules in
    let h = rw (c.copy-rest.ensures, c.in-Some.is) at c.in_ok-declared.ensures in
    rw (r, ← c.self.view_is) (λ _. declared_takes _ _ _ _ h
    (λ none. let is_ok = c.in_err-push_values_by.ensures.none
    (c.attributes_in-specifications.ensures ∙ none_in _ none) in cc))

pub go_past-requires-2 : goal.go_past-requires-2
go_past-requires-2 g c =
    let code = code_leaves _ _ _ _ (rw c.in-Some.is at c.in_ok-declared.ensures) in
    let values : length (g.R.Reader.view c.if-declared-eq0.rest).bytes
    ≤ length (g.R.Reader.view c.next_declared.new.input).bytes = elim c.if-declared-eq0.branch [
      | then-declared-eq0+in_ok-pass_values_by w ↦
          rw w.rest-is (all_leave _ _ _ _ _ w.in_ok-pass_values_by.ensures)
      | else-declared-eq0+in_ok-push_values_by w ↦
          rw w.rest-is (numbers_leave _ _ _ _ _ _ w.in_ok-push_values_by.ensures.value)
    ] in
    let same = ap (λ (v : View). length v.bytes) c.copy-rest.ensures in
    let left = ap (λ (e : PlaceBy). length e.place.rest.bytes) c.self.view_is in
    omega (arith, code, values, same, left)

pub returns-clause-past : goal.returns-clause-past
returns-clause-past g c =
    let ss = c.self.inside.table.specifications.now in
    let d = declaration_in ss c.in-Some.declared.now in
    let h = rw (c.copy-rest.ensures, c.in-Some.is) at c.in_ok-declared.ensures in
    let moved = ap (λ (e : PlaceBy). e.place) (rw (← c.self.view_is) at c.go_past-2.ensures.place) in
    rw (← c.self.view_is, moved, c.go_past-2.ensures.head, c.head_by.ensures ss)
    (elim c.if-declared-eq0.branch [
      | then-declared-eq0+in_ok-pass_values_by w ↦
          let null : (d.tag.0 == 0) ≡ true = eq-eqb _ _ w.if-declared-eq0.true in
          let k = rw c.attributes_in-specifications.ensures at w.in_ok-pass_values_by.ensures in
          rw (w.rest-is, w.numbers-is)
          (entry_past_with _ _ _ _ d h (are_read _ _ _ _ _ k) _
          (c.clear.ensures.items ∙ rw null refl))
      | else-declared-eq0+in_ok-push_values_by w ↦
          let some : (d.tag.0 == 0) ≡ false = ne_eqb _ _ w.if-declared-eq0.false in
          let n = numbers_of _ _ _ _ _ _
          (rw c.attributes_in-specifications.ensures at w.in_ok-push_values_by.ensures.value) in
          rw (w.rest-is, w.numbers-is)
          (entry_past_with _ _ _ _ d h n.0 _ (n.1 ∙ rw some refl))
    ])
