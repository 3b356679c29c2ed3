use Rattle.std.proofs.Common.{◌≡◌, ◌+◌, ◌-◌, ◌≤◌, drop, length, vec_len}
use Rattle.std.specs.Vec.{vec_capacity}
use Rattle.gimli_units.proofs.AttributeTurns.{after}
use Rattle.gimli_c.proofs.Heads.{numbers_at}
use Rattle.gimli_c.proofs.reading.push_numbers.Given as goal

abbrev pub invariant-loop-specification : goal.invariant-loop-specification
invariant-loop-specification g l =
    let limit = g.R.Offset.ReaderOffset.limit in
    let e = l.initial.entries.encoding in
    record {
      read : numbers_at limit e l.specifications l.initial.entries.rest
          ≡ after l.numbers.0.items
          (numbers_at limit e (drop l.specification-index l.specifications) l.rest.rest);
      same : l.rest ≡ record l.initial.entries { rest = l.rest.rest };
      room : vec_len l.numbers.0 + (length l.specifications - l.specification-index)
          ≤ vec_capacity l.numbers.0;
    }
