use Rattle.std.proofs.Common.{◌≡◌, rules, Ok, Err, Some, None}
use Rattle.gimli_dwarf.proofs.Roots.{low_none, low_first}
use Rattle.gimli_dwarf.proofs.bases.low_pc_named.Goals as goal

pub returns-in_default : goal.returns-in_default
returns-in_default g c =
    low_none g.R.Reader.view g.R.Offset.ReaderOffset.number c.args.root.now.attrs.items _ _ _ _
    (rw c.in_default.is at c.attr.ensures)

pub returns-in_err-low_pc : goal.returns-in_err-low_pc
returns-in_err-low_pc g c =
    let r : c.from_residual.result ≡ Err c.in_err-low_pc.field-0.0 = search rules in
    rw r
    (low_first g.R.Reader.view g.R.Offset.ReaderOffset.number c.args.root.now.attrs.items _ _ _ _
    c.in-Some.attribute.now c.in-Some.ensures (Err c.in_err-low_pc.field-0.0)
    (rw c.raw_value.ensures at c.in_err-low_pc.ensures))

pub returns-in-Some-2 : goal.returns-in-Some-2
returns-in-Some-2 g c =
    low_first g.R.Reader.view g.R.Offset.ReaderOffset.number c.args.root.now.attrs.items _ _ _ _
    c.in-Some.attribute.now c.in-Some.ensures (Ok (Some c.in-Some-2.low_pc))
    (rw (c.raw_value.ensures, c.in-Some-2.is) at c.in_ok-low_pc.ensures)

pub returns : goal.returns
returns g c =
    low_first g.R.Reader.view g.R.Offset.ReaderOffset.number c.args.root.now.attrs.items _ _ _ _
    c.in-Some.attribute.now c.in-Some.ensures (Ok None)
    (rw (c.raw_value.ensures, c.in-None.is) at c.in_ok-low_pc.ensures)
