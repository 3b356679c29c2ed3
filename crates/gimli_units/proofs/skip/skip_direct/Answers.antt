use Rattle.std.proofs.Common.{Ok, sym, ap, ◌∙◌}
use Rattle.gimli_units.proofs.SkipTurns.{size_passed, unknown_refused}
use Rattle.gimli_units.proofs.skip.skip_direct.Goals as goal

pub returns-in-Some : goal.returns-in-Some
returns-in-Some g c =
    rw c.from_u8.ensures at c.skip.ensures.value
    ∙ size_passed _ c.in-Some.size _ _ _ (sym c.in-Some.ensures)

pub returns-in-None : goal.returns-in-None
returns-in-None g c =
    unknown_refused _ _ c.args.form _ (sym c.size.ensures ∙ c.in_default.is)
    (c.in_ok-skip_variable.ensures.others (ap Ok c.in-None.is))
