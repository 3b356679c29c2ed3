use Rattle.std.proofs.Common.{refl, ◌≡◌, ◌++◌, ◌∷◌, [], ◌+◌, arith, take, rules}
use Rattle.std.specs.Prelude.{true, nat_le, slice_set}
use Rattle.std.proofs.lemmas.List.{take_more_set}
use Rattle.gimli_base.proofs.attributes.Steps.push.Goals as goal

pub returns-then-self-lt13 : goal.returns-then-self-lt13
returns-then-self-lt13 g c =
    let before : nat_le c.self.inside.count 13 ≡ true = grind arith in
    let after : nat_le (c.self.inside.count + 1) 13 ≡ true = grind arith in
    let pushed : take (c.self.inside.count + 1)
    (slice_set c.self.inside.few c.self.inside.count c.args.step)
    ≡ take c.self.inside.count c.self.inside.few ++ c.args.step ∷ [] =
    take_more_set c.self.inside.few c.self.inside.count c.args.step (search rules) in
    rw (← c.self.view_is, after, before, pushed) refl
