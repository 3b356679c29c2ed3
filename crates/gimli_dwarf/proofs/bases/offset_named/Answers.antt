use Rattle.std.proofs.Common.{sym}
use Rattle.gimli_dwarf.proofs.Roots.{named_none, named_offset, named_other}
use Rattle.gimli_dwarf.proofs.bases.offset_named.Goals as goal

pub returns-in_default : goal.returns-in_default
returns-in_default g c =
    named_none g.R.Reader.view g.R.Offset.ReaderOffset.number c.args.name.0
    c.args.root.now.attrs.items (rw c.in_default.is at c.attr.ensures)

pub returns-in-Some-offset_value : goal.returns-in-Some-offset_value
returns-in-Some-offset_value g c =
    named_offset g.R.Reader.view g.R.Offset.ReaderOffset.number c.args.name.0
    c.args.root.now.attrs.items c.in-Some.attribute.now c.in-Some.ensures _
    c.in-Some-offset_value.ensures

pub returns-in-None : goal.returns-in-None
returns-in-None g c =
    named_other g.R.Reader.view g.R.Offset.ReaderOffset.number c.args.name.0
    c.args.root.now.attrs.items c.in-Some.attribute.now c.in-Some.ensures
    (rw c.in-None.is at c.offset_value.ensures)
