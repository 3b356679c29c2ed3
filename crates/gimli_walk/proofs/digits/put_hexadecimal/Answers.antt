use Rattle.std.proofs.Common.{◌∙◌, ap, arith, rules, ℕ, List, ◌++◌, ◌+◌, ◌-◌, ◌/◌, ◌≤◌, drop, false}
use Rattle.std.specs.Fmt.{digits}
use Rattle.gimli_walk.proofs.DigitsOnto.{two_put, room_of_two, two_fewer}
use Rattle.gimli_walk.proofs.digits.put_hexadecimal.Goals as goal

pub pairs-preserved : goal.pairs-preserved
pairs-preserved c =
    let l = c.pairs in
    let two = c.put_two-at in
    let end : ℕ = c.args.end in
    let room : ℕ = l.at + 16 - end in
    let three : 3 ≤ room = room_of_two _ l.rest c.pairs-test.true l.invariant.3 in (
      omega arith,
      omega (arith, three),
      search rules,
      two_fewer room (two.result + 16 - end) l.rest (omega (arith, three)) l.invariant.3,
      ap (λ (ys : List ℕ). digits 16 false (l.rest / 256) ++ ys) two.ensures.value
          ∙ two_put l.rest (drop l.at l.line) c.pairs-test.true (omega arith)
          ∙ l.invariant.4,
    )
