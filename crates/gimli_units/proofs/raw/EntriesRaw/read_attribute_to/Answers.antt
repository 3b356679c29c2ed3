use Rattle.std.proofs.Common.{arith, ap, length}
use Rattle.gimli_base.specs.View.{View}
use Rattle.gimli_base.proofs.Later.{IsLater-length, made_leaves_later}
use Rattle.gimli_units.specs.Entry.{attribute_at}
use Rattle.gimli_units.proofs.EntryReads.{attribute_at-later}
use Rattle.gimli_units.proofs.raw.EntriesRaw.read_attribute_to.Goals as goal

pub invariant_of-self : goal.invariant_of-self
invariant_of-self g c =
    let limit = g.R.Offset.ReaderOffset.limit in
    let e = c.self.inside.encoding in
    let s = c.args.specification.now in
    let v = g.R.Reader.view c.copy-rest.result in
    let later = IsLater-length 0 _ _
    (made_leaves_later 0 v (g.T.AttributeSink.after_take c.args.sink.now) (attribute_at limit e s v)
    (attribute_at-later limit e s v) _ _ c.in_ok-taken.ensures.value) in
    let same = ap (λ (v : View). length v.bytes) c.copy-rest.ensures in
    (omega (arith, later, same), omega (arith, later, same))
