use Rattle.std.proofs.Common.{◌≡◌, ◌≤◌, length}
use Rattle.gimli_lists.specs.Aranges.{raw_entry, first_of_tuples}
use Rattle.gimli_lists.proofs.aranges.entries.next_entry.Given as goal

abbrev pub invariant-loop-address : goal.invariant-loop-address
invariant-loop-address g l = record {
  same : first_of_tuples raw_entry l.address_size (g.R.Reader.view l.initial.input)
      ≡ first_of_tuples raw_entry l.address_size (g.R.Reader.view l.input);
  shorter : length (g.R.Reader.view l.input).bytes ≤ length (g.R.Reader.view l.initial.input).bytes;
}

abbrev pub decreases-loop-address : goal.decreases-loop-address
decreases-loop-address g l = length (g.R.Reader.view l.input).bytes
