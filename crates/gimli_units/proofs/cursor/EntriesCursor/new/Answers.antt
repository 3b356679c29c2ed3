use Rattle.std.proofs.Common.{arith}
use Rattle.gimli_units.proofs.cursor.EntriesCursor.new.Goals as goal

pub invariant_of-result : goal.invariant_of-result
invariant_of-result g c =
    rw (c.null.ensures.null, c.null.ensures.depth) (record {
      few = omega (arith, c.requires.shallow);
      shallow = omega (arith, c.requires.shallow);
      fits = c.requires.fits;
      next_shallow = c.requires.shallow;
      after = λ entry. absurd (cc);
      past = λ entry. absurd (cc);
    })
