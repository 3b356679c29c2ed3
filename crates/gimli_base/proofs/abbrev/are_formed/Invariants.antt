use Rattle.std.proofs.Common.{length}
use Rattle.std.specs.List.{All}
use Rattle.gimli_base.specs.Abbreviations.{IsWellFormed}
use Rattle.gimli_base.proofs.abbrev.are_formed.Given as goal

abbrev pub invariant-each : goal.invariant-each
invariant-each l = All IsWellFormed l.left → All IsWellFormed l.fn.specifications

abbrev pub decreases-each : goal.decreases-each
decreases-each l = length l.left
