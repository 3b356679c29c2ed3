use Rattle.std.proofs.Common.{sym, ◌∙◌, Some, None}
use Rattle.gimli_units.proofs.Jumps.{target_of}
use Rattle.gimli_units.proofs.entry.DebuggingInformationEntry+R+A.sibling.Goals as goal

pub returns-in-Some : goal.returns-in-Some
returns-in-Some g c =
    let e = c.args.self.now in
    let null = sym c.is_null.ensures ∙ c.if-is_null.false in
    c.reference.ensures
    ∙ target_of g.R.Reader.view g.R.Offset.ReaderOffset.number e.tag e.has_children e.attrs.items
    (Some c.in-Some.attr.now) null c.if-not-self.false c.in-Some.ensures

pub returns-in-None : goal.returns-in-None
returns-in-None g c =
    let e = c.args.self.now in
    let null = sym c.is_null.ensures ∙ c.if-is_null.false in
    target_of g.R.Reader.view g.R.Offset.ReaderOffset.number e.tag e.has_children e.attrs.items None
    null c.if-not-self.false c.in-None.ensures
