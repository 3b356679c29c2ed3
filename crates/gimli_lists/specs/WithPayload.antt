-- An entry of a location list is one of a range list with an expression, a base address without
-- one, or a default location (DWARF 5, 2.6.2).
use Rattle.gimli_lists.specs.RawList.{ListEntry, address_or_offset_pair, base_address}
use Rattle.gimli_lists.specs.RawList.{base_addressx, startx_endx, startx_length, offset_pair}
use Rattle.gimli_lists.specs.RawList.{default_location, start_end, start_length}

-- the entry, with another payload
abbrev pub with_payload : {P Q : Type 0} → Q → ListEntry P → ListEntry Q
with_payload q (address_or_offset_pair begin end p) = address_or_offset_pair begin end q
with_payload q (base_address address) = base_address address
with_payload q (base_addressx index) = base_addressx index
with_payload q (startx_endx begin end p) = startx_endx begin end q
with_payload q (startx_length begin length p) = startx_length begin length q
with_payload q (offset_pair begin end p) = offset_pair begin end q
with_payload q (default_location p) = default_location q
with_payload q (start_end begin end p) = start_end begin end q
with_payload q (start_length begin length p) = start_length begin length q
