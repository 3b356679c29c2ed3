use Rattle.std.proofs.Common.{◌≡◌, ◌+◌, ◌-◌, ◌≤◌, drop, map, length, vec_len}
use Rattle.std.specs.Vec.{vec_capacity}
use Rattle.gimli_units.specs.Value.{map_attribute}
use Rattle.gimli_units.specs.Entry.{attributes_at}
use Rattle.gimli_units.proofs.AttributeTurns.{after}
use Rattle.gimli_units.proofs.raw.parse_attributes.Given as goal

abbrev pub invariant-loop-specification : goal.invariant-loop-specification
invariant-loop-specification g l =
    let view = g.R.Reader.view in
    let limit = g.R.Offset.ReaderOffset.limit in
    record {
      same : attributes_at limit l.encoding l.specifications (view l.initial.input)
          ≡ after (map (map_attribute view g.R.Offset.ReaderOffset.number) l.attrs.items)
          (attributes_at limit l.encoding (drop l.specification-index l.specifications)
          (view l.input));
      room : vec_len l.attrs + (length l.specifications - l.specification-index)
          ≤ vec_capacity l.attrs;
    }
