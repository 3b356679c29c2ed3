use Rattle.std.proofs.Common.{◌≡◌, map, drop}
use Rattle.gimli_units.specs.Entry.{attributes_at}
use Rattle.gimli_units.specs.Sized.{left_by}
use Rattle.gimli_c.specs.Tables.{specification_in}
use Rattle.gimli_c.proofs.by_table.pass_each_by.Given as goal

abbrev pub invariant-each : goal.invariant-each
invariant-each g l =
    let limit = g.R.Offset.ReaderOffset.limit in
    let ss = map specification_in l.specifications in
    left_by (attributes_at limit l.encoding ss (g.R.Reader.view l.initial.input))
    ≡ left_by (attributes_at limit l.encoding (drop l.attribute-index ss) (g.R.Reader.view l.rest))
