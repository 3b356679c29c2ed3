use Rattle.std.proofs.Common.{sym, ◌∙◌}
use Rattle.gimli_walk.proofs.Addresses.{parsed}
use Rattle.gimli_walk.proofs.letters.address_in.Goals as goal

pub returns-clause-none : goal.returns-clause-none
returns-clause-none c =
    λ none address. parsed c.args.letters.now c.from_str_radix.result address
    c.from_str_radix.ensures.value (sym c.ok.ensures.value ∙ none)
