use Rattle.std.proofs.Common.{◌≡◌, rules, Err, arith}
use Rattle.gimli_units.specs.UnitHeld.{unit_view}
use Rattle.gimli_c.proofs.ByTable.{ranged, unranged, opened_by}
use Rattle.gimli_c.proofs.by_table.entries_by.Goals as goal

pub returns-in_err-input : goal.returns-in_err-input
returns-in_err-input g c =
    let r : c.from_residual.result ≡ Err c.in_err-input.field-0.0 = search rules in
    rw r (record {
      opened = unranged (unit_view c.args.unit.now) _ _ _ c.in_err-input.ensures;
      steps = λ _. tt;
    })

pub invariant_of-result : goal.invariant_of-result
invariant_of-result g c =
    let within = ranged (unit_view c.args.unit.now) _ _ c.in_ok-input.ensures in
    let fit = c.args.unit.now.entries_fit in
    let end = c.length_including_self.ensures in (
      omega (arith, within, fit, end),
      omega (arith, g.met.R.Reader.length_fits c.in_ok-input.input),
    )

pub returns : goal.returns
returns g c =
    rw (c.encoding.ensures, c.length_including_self.ensures) (record {
      opened = opened_by (unit_view c.args.unit.now) _ _ _ c.in_ok-input.ensures;
      steps = λ given. given;
    })
