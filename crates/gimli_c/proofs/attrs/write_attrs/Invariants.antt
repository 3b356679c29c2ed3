use Rattle.std.proofs.Common.{◌≡◌, ◌+◌, ◌++◌, take, drop}
use Rattle.gimli_c.proofs.attrs.write_attrs.Given as goal

abbrev pub invariant-each : goal.invariant-each
invariant-each l = record {
  place : l.at ≡ l.from + l.number-index;
  written : l.into ≡ (take l.from l.initial.into ++ take l.number-index l.numbers)
      ++ drop (l.from + l.number-index) l.initial.into;
}
