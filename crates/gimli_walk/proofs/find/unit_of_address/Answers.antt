use Rattle.std.specs.Prelude.{Ok}
use Rattle.std.proofs.Common.{◌∙◌, sym, ap}
use Rattle.gimli_walk.specs.UnitOfAddress.{unit_among}
use Rattle.gimli_walk.proofs.find.unit_of_address.Goals as goal

pub returns-in-Ok-None : goal.returns-in-Ok-None
returns-in-Ok-None g c =
    let none = c.in-Ok-None.ensures.ended (ap Ok c.in-Ok-None.field-0-is) in
    let all = c.sets.invariant
    ∙ ap (unit_among c.args.address) none in
    sym (ap (unit_among c.args.address) (sym c.headers-headers.ensures.all) ∙ all)
