use Rattle.std.proofs.Common.{◌≡◌, ◌+◌, ◌-◌, ◌≤◌, map, drop, length, vec_len}
use Rattle.std.specs.Vec.{vec_capacity}
use Rattle.gimli_units.proofs.AttributeTurns.{after}
use Rattle.gimli_c.specs.Tables.{specification_in}
use Rattle.gimli_c.proofs.Heads.{numbers_at}
use Rattle.gimli_c.proofs.by_table.push_values_by.Given as goal

abbrev pub invariant-each : goal.invariant-each
invariant-each g l =
    let limit = g.R.Offset.ReaderOffset.limit in
    let ss = map specification_in l.specifications in
    record {
      read : numbers_at limit l.encoding ss (g.R.Reader.view l.initial.input)
          ≡ after l.numbers.0.items
          (numbers_at limit l.encoding (drop l.attribute-index ss) (g.R.Reader.view l.rest));
      room : vec_len l.numbers.0 + (length l.specifications - l.attribute-index)
          ≤ vec_capacity l.numbers.0;
    }
