use Rattle.std.proofs.Common.{◌∙◌, sym}
use Rattle.gimli_lists.proofs.Held.{holds_none}
use Rattle.gimli_lists.proofs.aranges.ArangeHeader+R.holds.Goals as goal

pub returns-in-Ok-None : goal.returns-in-Ok-None
returns-in-Ok-None g c =
    let none = rw c.in-Ok-None.field-0-is at c.in-Ok-None.ensures.value in
    let all = c.entries.invariant ∙ holds_none c.args.address c.entries.entries none in
    rw c.entries-entries.ensures at (sym all)
