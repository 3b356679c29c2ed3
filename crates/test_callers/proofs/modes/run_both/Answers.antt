use Rattle.std.proofs.Common.{◌≡◌, None, sym, ◌∙◌}
use Rattle.gimli_base.specs.Table.{codes_of}
use Rattle.gimli_units.specs.UnitHeld.{unit_view}
use Rattle.test_callers.proofs.ModeLaw.{nothing, honest_begins, same_modes}
use Rattle.test_callers.proofs.modes.run_both.Goals as goal

pub returns : goal.returns
returns g c = λ there.
    let limit = g.R.Offset.ReaderOffset.limit in
    let u = unit_view c.args.unit.now in
    let none : c.in_ok-first_false_sibling.field-0
    ≡ None = nothing _ (sym c.is_some.ensures ∙ c.if-is_some.false) in
    let honest = c.in_ok-first_false_sibling.ensures.honest.0 none in
    let begins = honest_begins limit u (codes_of c.args.abbreviations.now)
    c.args.unit.now.entries_fit
    honest _ there in
    same_modes limit u (codes_of c.args.abbreviations.now) c.args.steps.now _ _ _ begins
    c.in_ok-followed.ensures.run c.in_ok-plain.ensures.run
