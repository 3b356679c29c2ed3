use Rattle.std.proofs.Common.{◌≡◌, ℕ, rules, arith, Err, ap}
use Rattle.std.proofs.lemmas.List.{length-map}
use Rattle.gimli_c.specs.Tables.{specification_in}
use Rattle.gimli_c.proofs.Heads.{numbers_not, numbers_onto, numbers_end}
use Rattle.gimli_c.proofs.ByTable.{item_in}
use Rattle.gimli_c.proofs.by_table.push_values_by.Goals as goal

pub returns-in_err-read_to-clause-value : goal.returns-in_err-read_to-clause-value
returns-in_err-read_to-clause-value g c =
    let item = item_in _ _ _ _ c.each-test.true c.specification.ensures in
    let r : c.from_residual-in_err-read_to.result ≡ Err c.in_err-read_to.field-0.0 = search rules in
    rw r
    (λ _. numbers_not _ _ _ _ _ _ _ c.each.invariant.read _ _ item.0 item.1 _
    c.in_err-read_to.ensures.taken.value)

pub each-preserved : goal.each-preserved
each-preserved g c =
    let inv = c.each.invariant in
    let item = item_in _ _ _ _ c.each-test.true c.specification.ensures in
    let onto = numbers_onto _ _ _ _ _ _ _ inv.read _ _ item.0 item.1 _ _ _
    c.in_ok-read_to.ensures.taken.value in
    let count = ap (λ (p : ℕ × ℕ). p.0) onto.1 in
    let room = ap (λ (p : ℕ × ℕ). p.1) onto.1 in
    record { read = onto.0; room = omega (arith, count, room, inv.room, c.each-test.true) }

pub returns-clause-value : goal.returns-clause-value
returns-clause-value g c =
    let long = length-map c.args.specifications.now specification_in in
    numbers_end _ _ _ _ _ _ _ c.each.invariant.read (omega (arith, long, c.each-test.false))
