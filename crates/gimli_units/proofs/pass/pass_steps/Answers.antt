use Rattle.std.proofs.Common.{◌≡◌, take, rules, Err}
use Rattle.gimli_units.specs.Sized.{found_numbers}
use Rattle.gimli_units.proofs.StepReads.{step_over, value_over, all_passed, one_refused}
use Rattle.gimli_units.proofs.StepReads.{flatten_numbers}
use Rattle.gimli_units.proofs.pass.pass_steps.Goals as goal

pub returns-in_default-split_first : goal.returns-in_default-split_first
returns-in_default-split_first g c =
    let limit = g.R.Offset.ReaderOffset.limit in
    let number = g.R.Offset.ReaderOffset.number in
    let e = c.args.encoding in
    let all = c.args.declared.now.attributes in
    let sought = found_numbers number c.args.found in
    let start = g.R.Reader.view c.args.input.now in
    let found = found_numbers number c.steps.found in
    let step = c.in-Some.step.now in
    let state = rw c.in-Some.ensures.cases.0 at c.steps.invariant in
    let passed = c.pass_step.ensures.passed c.if-not-pass_step.false
    (take step.values c.steps.left.now) state.are_steps.0 in
    let over = step_over limit e all sought start step c.in-Some.others.now c.steps.left.now found
    (g.R.Reader.view c.steps.input) (g.R.Reader.view c.pass_step.new.input) state passed in
    rw (c.flatten.ensures, flatten_numbers number c.steps.found)
    (all_passed limit e all _ sought found start (g.R.Reader.view c.pass_step.new.input) over.same
    c.in_default-split_first.ensures.cases)

pub returns-in_err-found : goal.returns-in_err-found
returns-in_err-found g c =
    let limit = g.R.Offset.ReaderOffset.limit in
    let number = g.R.Offset.ReaderOffset.number in
    let e = c.args.encoding in
    let all = c.args.declared.now.attributes in
    let sought = found_numbers number c.args.found in
    let start = g.R.Reader.view c.args.input.now in
    let found = found_numbers number c.steps.found in
    let step = c.in-Some.step.now in
    let state = rw c.in-Some.ensures.cases.0 at c.steps.invariant in
    let passed = c.pass_step.ensures.passed c.if-not-pass_step.false
    (take step.values c.steps.left.now) state.are_steps.0 in
    let over = step_over limit e all sought start step c.in-Some.others.now c.steps.left.now found
    (g.R.Reader.view c.steps.input) (g.R.Reader.view c.pass_step.new.input) state passed in
    let r : c.from_residual.result ≡ Err c.in_err-found.field-0.0 = search rules in
    rw r
    (one_refused limit e all _ sought found start (g.R.Reader.view c.pass_step.new.input) over.same
    c.in-Some-split_first.value.now c.in-Some-split_first.rest.now
    c.in-Some-split_first.ensures.cases.0 _ c.in_err-found.ensures)

pub steps-preserved : goal.steps-preserved
steps-preserved g c =
    let limit = g.R.Offset.ReaderOffset.limit in
    let number = g.R.Offset.ReaderOffset.number in
    let e = c.args.encoding in
    let all = c.args.declared.now.attributes in
    let sought = found_numbers number c.args.found in
    let start = g.R.Reader.view c.args.input.now in
    let found = found_numbers number c.steps.found in
    let step = c.in-Some.step.now in
    let state = rw c.in-Some.ensures.cases.0 at c.steps.invariant in
    let passed = c.pass_step.ensures.passed c.if-not-pass_step.false
    (take step.values c.steps.left.now) state.are_steps.0 in
    let over = step_over limit e all sought start step c.in-Some.others.now c.steps.left.now found
    (g.R.Reader.view c.steps.input) (g.R.Reader.view c.pass_step.new.input) state passed in
    value_over limit e all sought start c.in-Some.others.now _ found
    (g.R.Reader.view c.pass_step.new.input) over c.in-Some-split_first.value.now
    c.in-Some-split_first.rest.now c.in-Some-split_first.ensures.cases.0
    (found_numbers number c.in_ok-found.found) (g.R.Reader.view c.pass_one.new.input)
    c.in_ok-found.ensures
