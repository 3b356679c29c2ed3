use Rattle.std.proofs.Common.{◌+◌, ◌≤◌, length}
use Rattle.gimli_base.specs.Abbreviations.{declarations_at}
use Rattle.gimli_c.proofs.TableFront.{Scanning}
use Rattle.gimli_c.proofs.table.scan.Given as goal

abbrev pub invariant-declared : goal.invariant-declared
invariant-declared g l =
    let before = g.R.Reader.view l.initial.input in
    let rest = g.R.Reader.view l.input in
    record {
      front : Scanning (declarations_at before) l.initial.declarations l.initial.specifications
          l.declarations l.specifications rest l.count l.used;
      count_fits : l.count + length rest.bytes ≤ length before.bytes;
      used_fits : l.used + length rest.bytes ≤ length before.bytes;
    }

abbrev pub decreases-declared : goal.decreases-declared
decreases-declared g l = length (g.R.Reader.view l.input).bytes
