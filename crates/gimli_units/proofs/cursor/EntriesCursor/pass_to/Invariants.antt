use Rattle.std.proofs.Common.{◌≡◌, length}
use Rattle.gimli_units.specs.SearchSteps.{without_entry}
use Rattle.gimli_units.proofs.SeekTurns.{Passing}
use Rattle.gimli_units.proofs.cursor.EntriesCursor.pass_to.Given as goal

abbrev pub invariant-passing : goal.invariant-passing
invariant-passing g l =
    record {
      kept : l.self ≡ l.fn.self;
      passing : Passing g.R.Offset.ReaderOffset.limit l.sought l.fn.self
          (without_entry l.raw (g.R.Offset.ReaderOffset.number l.offset.0) l.depth l.fn.self.follows
          l.reads);
    }

abbrev pub decreases-passing : goal.decreases-passing
decreases-passing g l = length l.raw.rest.bytes
