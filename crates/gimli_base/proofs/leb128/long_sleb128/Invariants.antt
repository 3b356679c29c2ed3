use Rattle.std.proofs.Common.{◌≡◌, ◌-◌, ◌<◌, ◌^◌}
use Rattle.std.specs.Prelude.{pos, ◌+ℤ◌, ◌*ℤ◌}
use Rattle.gimli_base.specs.Reading.{map_read, sleb_within}
use Rattle.gimli_base.proofs.leb128.long_sleb128.Given as goal

abbrev pub invariant-loop-i : goal.invariant-loop-i
invariant-loop-i g l = record {
  scale : l.scale ≡ 128 ^ l.i;
  small : l.value < 128 ^ l.i;
  same : sleb_within 9 (g.R.Reader.view l.initial.reader)
      ≡ map_read (λ z. pos l.value +ℤ (pos l.scale *ℤ z))
      (sleb_within (9 - l.i) (g.R.Reader.view l.reader));
}
