use Rattle.gimli_walk.proofs.DigitsOnto.{one_of_pair, both_of_pair}
use Rattle.gimli_walk.proofs.digits.put_pair.Goals as goal

pub returns-then-number-lt16-clause-value : goal.returns-then-number-lt16-clause-value
returns-then-number-lt16-clause-value c =
    let two = c.put_two-at in
    one_of_pair c.args.number two.result two.new.line _ two.ensures.value c.if-number-lt16.true

pub returns-else-number-lt16-clause-value : goal.returns-else-number-lt16-clause-value
returns-else-number-lt16-clause-value c =
    let two = c.put_two-at in
    both_of_pair c.args.number two.result two.new.line _ two.ensures.value
    c.if-number-lt16.false c.requires.small
