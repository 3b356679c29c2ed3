use Rattle.gimli_units.proofs.pass.pass_declared.Goals as goal

pub returns : goal.returns
returns g c =
    c.pass_step.ensures.passed c.if-pass_step.true c.args.declared.now.attributes c.in-Some.ensures
