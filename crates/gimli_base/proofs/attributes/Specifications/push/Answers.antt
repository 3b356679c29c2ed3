use Rattle.std.proofs.Common.{refl, ◌≡◌, ◌++◌, ◌∷◌, [], ◌+◌, arith, take, rules}
use Rattle.std.specs.Prelude.{true, nat_le, slice_set}
use Rattle.std.proofs.lemmas.List.{take_more_set}
use Rattle.gimli_base.proofs.attributes.Specifications.push.Goals as goal

pub returns-then-self-lt12 : goal.returns-then-self-lt12
returns-then-self-lt12 g c =
    let before : nat_le c.self.inside.count 12 ≡ true = grind arith in
    let after : nat_le (c.self.inside.count + 1) 12 ≡ true = grind arith in
    let pushed : take (c.self.inside.count + 1)
    (slice_set c.self.inside.few c.self.inside.count c.args.specification)
    ≡ take c.self.inside.count c.self.inside.few ++ c.args.specification ∷ [] =
    take_more_set c.self.inside.few c.self.inside.count c.args.specification (search rules) in
    rw (← c.self.view_is, after, before, pushed) refl
