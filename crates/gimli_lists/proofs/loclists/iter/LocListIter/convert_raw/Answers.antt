use Rattle.std.proofs.Common.{refl, sym, ap, ◌∙◌}
use Rattle.gimli_base.specs.Reading.{is_size}
use Rattle.gimli_lists.proofs.ListSteps.{zero-address}
use Rattle.gimli_lists.specs.Places.{ListPlace, entry_conversion}
use Rattle.gimli_lists.proofs.loclists.iter.LocListIter.convert_raw.Goals as goal

pub returns-in-DefaultLocation : goal.returns-in-DefaultLocation
unfolding entry_conversion
returns-in-DefaultLocation g c =
    let same = ap (λ (p : ListPlace). is_size p.raw.encoding.address_size) c.self.view_is in
    let kept = zero-address c.args.self.now.raw.encoding.address_size
    (sym same ∙ c.self.invariant) in
    rw (c.in-DefaultLocation.is, kept) refl
