use Rattle.std.proofs.Common.{◌≡◌, ℤ, rules, Err, ap, ◌∙◌}
use Rattle.gimli_units.specs.RawPlace.{RawPlace}
use Rattle.gimli_c.proofs.Heads.{null_with, entry_with, past_code, past_attribute, numbers_of}
use Rattle.gimli_c.proofs.Heads.{refused_of, asks_refused, asks_declared}
use Rattle.gimli_c.proofs.Memory.{code_takes, declared_takes}
use Rattle.gimli_c.proofs.reading.EntriesRawReadEntries.read.Goals as goal

pub returns-in_err-declared-clause-refused : goal.returns-in_err-declared-clause-refused
returns-in_err-declared-clause-refused g c =
    let r : c.from_residual.result ≡ Err c.in_err-declared.field-0.0 = search rules in
    rw r (λ _. past_code _ _ _ _ _ (rw c.copy-rest.ensures at c.in_err-declared.ensures.value))

pub returns-in_err-declared-clause-memory : goal.returns-in_err-declared-clause-memory
returns-in_err-declared-clause-memory g c =
    let r : c.from_residual.result ≡ Err c.in_err-declared.field-0.0 = search rules in
    rw r (asks_refused _ _
    (past_code _ _ _ _ _ (rw c.copy-rest.ensures at c.in_err-declared.ensures.value)))

pub returns-in_default-clause-past : goal.returns-in_default-clause-past
returns-in_default-clause-past g c =
    let p = c.args.self.now in
    let left = c.read_abbreviation.new.self.rest in
    let e = rw (c.copy-rest.ensures, c.in_default.is) at c.in_ok-declared.ensures in
    rw c.null.ensures (null_with _ p c.read_abbreviation.new.self e.value
    (e.advances.same ∙ ap (λ (d : ℤ). record p { rest = left; depth = d }) e.advances.depth) _ (search rules))

pub returns-in_err-push_numbers-clause-refused : goal.returns-in_err-push_numbers-clause-refused
returns-in_err-push_numbers-clause-refused g c =
    let r : c.from_residual-in_err-push_numbers.result
    ≡ Err c.in_err-push_numbers.field-0.0 = search rules in
    let e = rw (c.copy-rest.ensures, c.in-Some.is) at c.in_ok-declared.ensures in
    let encoding = ap (λ (p : RawPlace). p.encoding) e.advances.same in
    rw r (λ other. past_attribute _ _ _ _ _ _ _ e.value
    (refused_of _ _ _ _ _
    (rw (encoding, c.attributes.ensures) at c.in_err-push_numbers.ensures.value other)))

pub returns-in_err-push_numbers-clause-memory : goal.returns-in_err-push_numbers-clause-memory
returns-in_err-push_numbers-clause-memory g c =
    let r : c.from_residual-in_err-push_numbers.result
    ≡ Err c.in_err-push_numbers.field-0.0 = search rules in
    let e = rw (c.copy-rest.ensures, c.in-Some.is) at c.in_ok-declared.ensures in
    rw r (asks_declared _ _ _ _ _ _ e.value c.declared_head-head.ensures.set
    (λ none. let is_ok = c.in_err-push_numbers.ensures.none (c.attributes.ensures ∙ none) in cc))

pub returns-clause-past : goal.returns-clause-past
returns-clause-past g c =
    let p = c.args.self.now in
    let q = c.push_numbers.new.entries in
    let middle = c.read_abbreviation.new.self.rest in
    let e = rw (c.copy-rest.ensures, c.in-Some.is) at c.in_ok-declared.ensures in
    let encoding = ap (λ (p : RawPlace). p.encoding) e.advances.same in
    let moved = e.advances.same ∙ ap (λ (d : ℤ). record p { rest = middle; depth = d }) e.advances.depth in
    let n = numbers_of _ _ _ _ q.rest c.push_numbers.new.numbers.0.items
    (rw (encoding, c.attributes.ensures) at c.in_ok-push_numbers.ensures.value) in
    rw c.declared_head-head.ensures.value
    (entry_with _ p q c.in-Some.declared.now middle e.value n.0 c.declared_head-head.ensures.set
    (c.in_ok-push_numbers.ensures.same ∙ ap (λ (t : RawPlace). record t { rest = q.rest }) moved)
    _ n.1)

pub returns-in_err-declared-clause-takes : goal.returns-in_err-declared-clause-takes
returns-in_err-declared-clause-takes g c =
    let r : c.from_residual.result ≡ Err c.in_err-declared.field-0.0 = search rules in
    rw r (code_takes _ _ _ (rw c.copy-rest.ensures at c.in_err-declared.ensures.value))

pub returns-in_err-push_numbers-clause-takes : goal.returns-in_err-push_numbers-clause-takes
returns-in_err-push_numbers-clause-takes g c =
    let r : c.from_residual-in_err-push_numbers.result
    ≡ Err c.in_err-push_numbers.field-0.0 = search rules in
    let e = rw (c.copy-rest.ensures, c.in-Some.is) at c.in_ok-declared.ensures in
    rw r (λ _. declared_takes _ _ _ _ e.value
    (λ none. let is_ok = c.in_err-push_numbers.ensures.none (c.attributes.ensures ∙ none) in cc))
