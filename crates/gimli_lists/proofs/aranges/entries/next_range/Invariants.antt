use Rattle.std.proofs.Common.{◌≡◌, ◌≤◌, length}
use Rattle.gimli_lists.specs.Aranges.{answer_to, first_of_tuples}
use Rattle.gimli_lists.proofs.aranges.entries.next_range.Given as goal

abbrev pub invariant-loop-raw_entry : goal.invariant-loop-raw_entry
invariant-loop-raw_entry g l = record {
  same : first_of_tuples (answer_to l.address_size) l.address_size (g.R.Reader.view l.initial.input)
      ≡ first_of_tuples (answer_to l.address_size) l.address_size (g.R.Reader.view l.input);
  shorter : length (g.R.Reader.view l.input).bytes ≤ length (g.R.Reader.view l.initial.input).bytes;
}

abbrev pub decreases-loop-raw_entry : goal.decreases-loop-raw_entry
decreases-loop-raw_entry g l = length (g.R.Reader.view l.input).bytes
