use Rattle.std.proofs.Common.{rules, ◌≡◌, []}
use Rattle.gimli_walk.proofs.dump_vec.fill.Goals as goal

pub returns-in-Ok-clause-text : goal.returns-in-Ok-clause-text
returns-in-Ok-clause-text g c =
    let empty : c.replace.result.items ≡ [] = search rules in
    rw empty at c.in-Ok.ensures.text
