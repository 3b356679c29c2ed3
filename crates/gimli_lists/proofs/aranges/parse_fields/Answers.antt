use Rattle.gimli_lists.proofs.SetReads.{size_is}
use Rattle.gimli_lists.proofs.aranges.parse_fields.Goals as goal

pub padding_size-requires : goal.padding_size-requires
padding_size-requires g c = size_is _ _ _ c.in_ok-address_size.ensures.value

pub returns-clause-sized : goal.returns-clause-sized
returns-clause-sized g c = size_is _ _ _ c.in_ok-address_size.ensures.value
