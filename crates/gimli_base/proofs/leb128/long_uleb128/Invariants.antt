use Rattle.std.proofs.Common.{◌≡◌, ◌+◌, ◌*◌, ◌-◌, ◌<◌, ◌^◌}
use Rattle.gimli_base.specs.Reading.{map_read, uleb_within}
use Rattle.gimli_base.proofs.leb128.long_uleb128.Given as goal

abbrev pub invariant-loop-i : goal.invariant-loop-i
invariant-loop-i g l = record {
  scale : l.scale ≡ 128 ^ l.i;
  small : l.value < 128 ^ l.i;
  same : uleb_within 1 9 (g.R.Reader.view l.initial.reader)
      ≡ map_read (λ m. l.value + l.scale * m) (uleb_within 1 (9 - l.i) (g.R.Reader.view l.reader));
}
