use Rattle.std.proofs.Common.{◌≡◌, length}
use Rattle.gimli_units.specs.Sized.{found_numbers, sibling_after}
use Rattle.gimli_units.proofs.pass.pass_each.Given as goal

abbrev pub invariant-values : goal.invariant-values
invariant-values g l =
    let limit = g.R.Offset.ReaderOffset.limit in
    sibling_after limit l.fn.encoding l.fn.specifications
    (found_numbers g.R.Offset.ReaderOffset.number l.fn.found)
    (g.R.Reader.view l.initial.input)
    ≡ sibling_after limit l.fn.encoding l.left
    (found_numbers g.R.Offset.ReaderOffset.number l.found)
    (g.R.Reader.view l.input)

abbrev pub decreases-values : goal.decreases-values
decreases-values g l = length l.left
