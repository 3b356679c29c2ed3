use Rattle.std.proofs.Common.{◌≡◌, ◌+◌, ◌-◌, ◌≤◌, ◌++◌, drop, map, length, vec_len}
use Rattle.std.specs.Vec.{vec_capacity}
use Rattle.gimli_units.specs.Value.{map_attribute}
use Rattle.gimli_units.proofs.entry.copies.Given as goal

abbrev pub invariant-loop-attr : goal.invariant-loop-attr
invariant-loop-attr g l =
    let f = map_attribute g.R.Reader.view g.R.Offset.ReaderOffset.number in
    record {
      same : map f l.attrs ≡ map f l.copies.items ++ map f (drop l.attr-index l.attrs);
      room : vec_len l.copies + (length l.attrs - l.attr-index) ≤ vec_capacity l.copies;
    }
