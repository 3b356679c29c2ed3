use Rattle.std.proofs.Common.{◌≡◌, ℕ, ℤ, rules, arith, Err, ap, ◌∙◌}
use Rattle.gimli_units.specs.RawPlace.{RawPlace}
use Rattle.gimli_c.proofs.Heads.{numbers_not, numbers_onto, numbers_end}
use Rattle.gimli_c.proofs.reading.push_numbers.Goals as goal

pub returns-in_err-read_attribute_to-clause-value : goal.returns-in_err-read_attribute_to-clause-value
returns-in_err-read_attribute_to-clause-value g c =
    let inv = c.loop-specification.invariant in
    let encoding = ap (λ (p : RawPlace). p.encoding) inv.same in
    let r : c.from_residual-in_err-read_attribute_to.result
    ≡ Err c.in_err-read_attribute_to.field-0.0 = search rules in
    rw r
    (λ _. numbers_not _ _ _ _ _ _ _ inv.read _ _ c.loop-specification-test.true
    c.specification-item.is _ (rw encoding at c.in_err-read_attribute_to.ensures.taken.value))

pub loop-specification-preserved : goal.loop-specification-preserved
loop-specification-preserved g c =
    let inv = c.loop-specification.invariant in
    let encoding = ap (λ (p : RawPlace). p.encoding) inv.same in
    let left = c.read_attribute_to.new.self.rest in
    let onto = numbers_onto _ _ _ _ _ _ _ inv.read _ _ c.loop-specification-test.true
    c.specification-item.is _ _ _ (rw encoding at c.in_ok-read_attribute_to.ensures.taken.value) in
    let count = ap (λ (p : ℕ × ℕ). p.0) onto.1 in
    let room = ap (λ (p : ℕ × ℕ). p.1) onto.1 in
    let stays = c.in_ok-read_attribute_to.ensures.advances in
    record {
      read = onto.0;
      same = stays.same
          ∙ ap (λ (d : ℤ). record c.loop-specification.rest { rest = left; depth = d }) stays.depth
          ∙ ap (λ (p : RawPlace). record p { rest = left }) inv.same;
      room = omega (arith, count, room);
    }

pub returns-clause-value : goal.returns-clause-value
returns-clause-value g c =
    numbers_end _ _ _ _ _ _ _ c.loop-specification.invariant.read c.loop-specification-test.false
