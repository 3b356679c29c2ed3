use Rattle.std.proofs.Common.{◌∙◌, ap, arith, ℕ, List, ◌++◌, ◌/◌, drop, false}
use Rattle.std.specs.Fmt.{digits}
use Rattle.gimli_walk.proofs.DigitsOnto.{two_put}
use Rattle.gimli_walk.proofs.digits.put_short.Goals as goal

pub returns-else-wide-lt256-clause-value : goal.returns-else-wide-lt256-clause-value
returns-else-wide-lt256-clause-value c =
    let wide : ℕ = c.from-wide.result in
    let after : List ℕ = drop c.args.end c.args.line.now in
    c.put_pair-else-wide-lt256.ensures.value
    ∙ ap (λ (ys : List ℕ). digits 16 false (wide / 256) ++ ys) c.put_two-at.ensures.value
    ∙ two_put wide after c.if-wide-lt256.false (omega (arith, c.from-wide.ensures))
    ∙ ap (λ (n : ℕ). digits 16 false n ++ after) c.from-wide.ensures
