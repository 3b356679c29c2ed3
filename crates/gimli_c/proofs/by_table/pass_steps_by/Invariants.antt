use Rattle.std.proofs.Common.{◌≡◌, ◌≤◌, map, length}
use Rattle.gimli_units.specs.Entry.{attributes_at}
use Rattle.gimli_units.specs.Sized.{left_by}
use Rattle.gimli_c.specs.Tables.{specification_in, HasSteps}
use Rattle.gimli_c.proofs.by_table.pass_steps_by.Given as goal

abbrev pub invariant-steps : goal.invariant-steps
invariant-steps g l =
    let limit = g.R.Offset.ReaderOffset.limit in
    let all = l.fn.specifications in
    let start = g.R.Reader.view l.initial.input in
    let v = g.R.Reader.view l.input in
    record {
      passed : HasSteps all → left_by (attributes_at limit l.encoding (map specification_in all) start)
          ≡ left_by (attributes_at limit l.encoding (map specification_in l.left) v);
      has : HasSteps all → HasSteps l.left;
      shorter : length v.bytes ≤ length start.bytes;
    }

abbrev pub decreases-steps : goal.decreases-steps
decreases-steps g l = length l.left
