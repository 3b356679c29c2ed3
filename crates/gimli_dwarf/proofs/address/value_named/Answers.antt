use Rattle.std.proofs.Common.{◌∙◌}
use Rattle.gimli_dwarf.proofs.Roots.{value_is}
use Rattle.gimli_dwarf.proofs.address.value_named.Goals as goal

pub returns : goal.returns
returns g c =
    c.attr_value.ensures
    ∙ value_is g.R.Reader.view g.R.Offset.ReaderOffset.number c.args.name.0
    c.args.root.now.attrs.items
