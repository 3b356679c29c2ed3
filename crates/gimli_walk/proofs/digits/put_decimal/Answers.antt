use Rattle.std.proofs.Common.{◌∙◌, ap, arith, rules, ℕ, List, ◌++◌, ◌+◌, ◌-◌, ◌/◌, ◌≤◌, drop}
use Rattle.std.specs.Fmt.{decimal}
use Rattle.gimli_walk.proofs.DigitsOnto.{one_put, last_put, room_of_one, one_fewer}
use Rattle.gimli_walk.proofs.digits.put_decimal.Goals as goal

pub decimals-preserved : goal.decimals-preserved
decimals-preserved c =
    let l = c.decimals in
    let one = c.put_byte-at in
    let end : ℕ = c.args.end in
    let room : ℕ = l.at + 20 - end in
    let two : 2 ≤ room = room_of_one _ l.rest c.decimals-test.true l.invariant.3 in (
      omega arith,
      omega (arith, two),
      search rules,
      one_fewer room (one.result + 20 - end) l.rest (omega (arith, two)) l.invariant.3,
      ap (λ (ys : List ℕ). decimal (l.rest / 10) ++ ys) one.ensures.value
          ∙ one_put l.rest (drop l.at l.line) c.decimals-test.true (omega arith)
          ∙ l.invariant.4,
    )

pub returns-clause-value : goal.returns-clause-value
returns-clause-value c =
    let l = c.decimals in
    c.put_byte.ensures.value
    ∙ last_put l.rest (drop l.at l.line) (omega (arith, c.decimals-test.false))
    ∙ l.invariant.4
