use Rattle.std.proofs.Common.{◌≡◌, length}
use Rattle.gimli_base.specs.Reading.{skip_leb_at}
use Rattle.gimli_base.proofs.reader.Reader.skip_leb128.Given as goal

abbrev pub invariant-loop-rest : goal.invariant-loop-rest
invariant-loop-rest g l =
    skip_leb_at (g.Self.Reader.view l.rest) ≡ skip_leb_at (g.Self.Reader.view l.initial.rest)

abbrev pub decreases-loop-rest : goal.decreases-loop-rest
decreases-loop-rest g l = length (g.Self.Reader.view l.rest).bytes
