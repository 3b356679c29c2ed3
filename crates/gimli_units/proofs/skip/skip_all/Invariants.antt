use Rattle.gimli_units.proofs.SkipTurns.{Stands}
use Rattle.gimli_units.proofs.skip.skip_all.Given as goal

abbrev pub invariant-specifications : goal.invariant-specifications
invariant-specifications g l =
    Stands g.R.Offset.ReaderOffset.limit l.encoding l.specifications
    (g.R.Reader.view l.initial.input) (g.R.Reader.view l.input) l.specification-index
    (g.R.Offset.ReaderOffset.number l.pending)
