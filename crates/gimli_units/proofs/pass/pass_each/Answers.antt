use Rattle.std.proofs.Common.{rules, ◌≡◌, Err}
use Rattle.gimli_units.specs.Sized.{found_numbers}
use Rattle.gimli_units.proofs.StepReads.{all_passed, one_refused, one_passed, flatten_numbers}
use Rattle.gimli_units.proofs.pass.pass_each.Goals as goal

pub returns-in_err-found : goal.returns-in_err-found
returns-in_err-found g c =
    let r : c.from_residual.result ≡ Err c.in_err-found.field-0.0 = search rules in
    rw r
    (one_refused g.R.Offset.ReaderOffset.limit c.args.encoding c.args.specifications.now
    c.values.left.now (found_numbers g.R.Offset.ReaderOffset.number c.args.found)
    (found_numbers g.R.Offset.ReaderOffset.number c.values.found)
    (g.R.Reader.view c.args.input.now) (g.R.Reader.view c.values.input) c.values.invariant
    c.in-Some.specification.now c.in-Some.others.now c.in-Some.ensures.cases.0 _
    c.in_err-found.ensures)

pub values-preserved : goal.values-preserved
values-preserved g c =
    one_passed g.R.Offset.ReaderOffset.limit c.args.encoding c.args.specifications.now
    c.values.left.now (found_numbers g.R.Offset.ReaderOffset.number c.args.found)
    (found_numbers g.R.Offset.ReaderOffset.number c.values.found)
    (g.R.Reader.view c.args.input.now) (g.R.Reader.view c.values.input) c.values.invariant
    c.in-Some.specification.now c.in-Some.others.now c.in-Some.ensures.cases.0
    (found_numbers g.R.Offset.ReaderOffset.number c.in_ok-found.found) _ c.in_ok-found.ensures

pub returns : goal.returns
returns g c =
    rw (c.flatten.ensures, flatten_numbers g.R.Offset.ReaderOffset.number c.values.found)
    (all_passed g.R.Offset.ReaderOffset.limit c.args.encoding c.args.specifications.now
    c.values.left.now (found_numbers g.R.Offset.ReaderOffset.number c.args.found)
    (found_numbers g.R.Offset.ReaderOffset.number c.values.found)
    (g.R.Reader.view c.args.input.now) (g.R.Reader.view c.values.input) c.values.invariant
    c.in_default.ensures.cases)
