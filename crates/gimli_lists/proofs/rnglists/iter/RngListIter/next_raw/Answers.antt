use Rattle.std.proofs.Common.{subst, sym, IsTrue}
use Rattle.gimli_base.specs.Reading.{is_size}
use Rattle.gimli_lists.specs.Places.{RawListPlace}
use Rattle.gimli_lists.proofs.PlaceSteps.{next_raw-same}
use Rattle.gimli_lists.specs.RangeEntry.{range_grammar}
use Rattle.gimli_lists.specs.RangeReads.{range_grammar-takes}
use Rattle.gimli_lists.proofs.rnglists.iter.RngListIter.next_raw.Goals as goal

pub invariant_of-self : goal.invariant_of-self
invariant_of-self g c =
    let limit = g.R.Offset.ReaderOffset.limit in
    let same = next_raw-same (range_grammar limit) (range_grammar-takes limit) limit _ _ _
    c.next.ensures.value in
    subst (λ (p : RawListPlace). IsTrue (is_size p.encoding.address_size)) (sym same)
    c.self.invariant
