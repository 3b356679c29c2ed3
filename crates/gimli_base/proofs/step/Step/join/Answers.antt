use Rattle.std.proofs.Common.{arith}
use Rattle.gimli_base.proofs.StepTurns.{joined}
use Rattle.gimli_base.proofs.step.Step.join.Goals as goal

pub returns : goal.returns
returns c =
    let added = c.push.ensures.pushed c.if-not-push.false in
    joined c.args.self.now c.args.specification.now c.args.last.now c.push.new.self added
    record {
      values = c.in_ok-checked_add.field-0;
      bytes = c.in_ok-checked_add-2.field-0;
      addresses = c.in_ok-checked_add-3.field-0;
      offsets = c.in_ok-checked_add-4.field-0;
      ref_addrs = c.in_ok-checked_add-5.field-0;
      has_ref8 = c.max.result;
    }
    c.in_ok-checked_add.ensures.1 c.in_ok-checked_add-2.ensures.1 c.in_ok-checked_add-3.ensures.1
    c.in_ok-checked_add-4.ensures.1 c.in_ok-checked_add-5.ensures.1
    (λ none. (omega (arith, c.max.ensures, none), omega (arith, c.max.ensures, none)))
