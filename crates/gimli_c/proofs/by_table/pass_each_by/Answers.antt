use Rattle.std.proofs.Common.{rules, arith, refl}
use Rattle.std.proofs.lemmas.List.{length-map}
use Rattle.gimli_units.proofs.ReadTurns.{turn_refused, turn_passed, turn_end}
use Rattle.gimli_c.specs.Tables.{specification_in}
use Rattle.gimli_c.proofs.ByTable.{item_in}
use Rattle.gimli_c.proofs.by_table.pass_each_by.Goals as goal

pub returns-in_err-pass_value_by : goal.returns-in_err-pass_value_by
returns-in_err-pass_value_by g c =
    let item = item_in _ _ _ _ c.each-test.true refl in
    let refused = turn_refused _ _ _ _ _ _ c.each.invariant _ _ item.0 item.1
    c.in_err-pass_value_by.ensures in
    search rules

pub each-preserved : goal.each-preserved
each-preserved g c =
    let item = item_in _ _ _ _ c.each-test.true refl in
    turn_passed _ _ _ _ _ _ c.each.invariant _ _ _ item.0 item.1
    c.in_ok-pass_value_by.ensures

pub returns : goal.returns
returns g c =
    let long = length-map c.args.specifications.now specification_in in
    turn_end _ _ _ _ _ _ c.each.invariant (omega (arith, long, c.each-test.false))
