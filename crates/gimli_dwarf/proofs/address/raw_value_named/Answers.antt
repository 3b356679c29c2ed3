use Rattle.std.proofs.Common.{◌∙◌}
use Rattle.gimli_dwarf.proofs.Roots.{raw_value_is}
use Rattle.gimli_dwarf.proofs.address.raw_value_named.Goals as goal

pub returns : goal.returns
returns g c =
    c.attr_value_raw.ensures
    ∙ raw_value_is g.R.Reader.view g.R.Offset.ReaderOffset.number c.args.name.0
    c.args.root.now.attrs.items
