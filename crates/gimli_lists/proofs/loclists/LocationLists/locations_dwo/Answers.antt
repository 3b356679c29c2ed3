use Rattle.std.proofs.Common.{subst, sym, IsTrue}
use Rattle.gimli_base.specs.declared.common.Encoding.{Encoding}
use Rattle.gimli_base.specs.Reading.{is_size}
use Rattle.gimli_lists.proofs.PlaceSteps.{raw_list_at-encoding}
use Rattle.gimli_lists.proofs.loclists.LocationLists.locations_dwo.Goals as goal

pub new-requires : goal.new-requires
new-requires g c =
    let same = raw_list_at-encoding _ _ _ _ _ c.in_ok-raw.ensures in
    subst (λ (e : Encoding). IsTrue (is_size e.address_size)) (sym same) c.requires
