use Rattle.std.proofs.Common.{◌∙◌, drop, w64}
use Rattle.std.proofs.lemmas.Int.{to_z-of_z}
use Rattle.gimli_walk.proofs.DigitsOnto.{one_signed}
use Rattle.gimli_walk.proofs.digits.put_signed.Goals as goal

pub returns-then-number-lt10-clause-value : goal.returns-then-number-lt10-clause-value
returns-then-number-lt10-clause-value c =
    c.put_byte.ensures.value
    ∙ one_signed _ c.args.number (drop c.args.end c.args.line.now)
    (to_z-of_z w64 c.args.number c.ranges.number)
    c.if-number-ge0.true c.if-number-lt10.true
