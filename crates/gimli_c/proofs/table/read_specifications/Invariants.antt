use Rattle.std.proofs.Common.{◌≡◌, ◌+◌, ◌≤◌, List, length}
use Rattle.gimli_base.specs.Abbreviations.{Specification, specification_at}
use Rattle.gimli_base.specs.Items.{items_at, ItemsSoFar}
use Rattle.gimli_c.specs.TableReads.{AreWrittenAfter}
use Rattle.gimli_c.proofs.table.read_specifications.Given as goal

abbrev pub invariant-each : goal.invariant-each
invariant-each g l =
    let before = g.R.Reader.view l.initial.input in
    let rest = g.R.Reader.view l.input in
    record {
      taken : List Specification;
      read : ItemsSoFar specification_at (items_at specification_at before) taken rest;
      at_is : l.at ≡ l.from + length taken;
      takes : length taken + length rest.bytes ≤ length before.bytes;
      after : AreWrittenAfter l.from taken l.initial.specifications l.specifications;
    }

abbrev pub decreases-each : goal.decreases-each
decreases-each g l = length (g.R.Reader.view l.input).bytes
