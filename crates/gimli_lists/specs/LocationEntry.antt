-- An entry of a location list in the encoding of its version (DWARF 5, 2.6.2 and 7.7.3; DWARF 4,
-- 2.6.2), or in that of split files before version 5, a GNU extension that no version of DWARF
-- defines.
use Rattle.std.specs.Prelude.{ℕ, ◌==◌, nat_le, if◌then◌else◌, Some, None, Ok, Err}
use Rattle.gimli_base.specs.declared.error.Error.TheVariants.{UnknownLocListsEntry}
use Rattle.gimli_base.specs.View.{View}
use Rattle.gimli_base.specs.Reading.{Reads, ◌>>=◌, map_read, byte_at, uint_at, uleb_at, address_at}
use Rattle.gimli_base.specs.Reading.{split_at}
use Rattle.gimli_lists.specs.declared.loclists.entry.RawLocListEntry.{RawLocListEntry}
use Rattle.gimli_lists.specs.declared.loclists.entry.RawLocListEntry.TheVariants.{AddressOrOffsetPair}
use Rattle.gimli_lists.specs.declared.loclists.entry.RawLocListEntry.TheVariants.{BaseAddress}
use Rattle.gimli_lists.specs.declared.loclists.entry.RawLocListEntry.TheVariants.{BaseAddressx}
use Rattle.gimli_lists.specs.declared.loclists.entry.RawLocListEntry.TheVariants.{StartxEndx}
use Rattle.gimli_lists.specs.declared.loclists.entry.RawLocListEntry.TheVariants.{StartxLength}
use Rattle.gimli_lists.specs.declared.loclists.entry.RawLocListEntry.TheVariants.{OffsetPair}
use Rattle.gimli_lists.specs.declared.loclists.entry.RawLocListEntry.TheVariants.{DefaultLocation}
use Rattle.gimli_lists.specs.declared.loclists.entry.RawLocListEntry.TheVariants.{StartEnd}
use Rattle.gimli_lists.specs.declared.loclists.entry.RawLocListEntry.TheVariants.{StartLength}
use Rattle.gimli_lists.specs.declared.lists.ListsFormat.TheVariants.{Bare, Coded}
use Rattle.gimli_lists.specs.Places.{Grammar}
use Rattle.gimli_lists.specs.RawList.{ListEntry, address_or_offset_pair, base_address}
use Rattle.gimli_lists.specs.RawList.{base_addressx}
use Rattle.gimli_lists.specs.RawList.{startx_endx, startx_length, offset_pair, default_location}
use Rattle.gimli_lists.specs.RawList.{start_end, start_length, EntryReads, old_entry_at, index_at}
use Rattle.gimli_lists.specs.RawList.{two_at}

-- an entry of a location list: after its operands stands an expression, which is the view of its
-- bytes; a base address has none
abbrev pub LocationEntry : Type 0
LocationEntry = ListEntry View

-- the entry that code holds, by what its readers and offsets stand for
abbrev pub location_entry_of : {R O : Type 0} → (R → View) → (O → ℕ) → RawLocListEntry R O
    → LocationEntry
location_entry_of view number (AddressOrOffsetPair begin end expr) =
    address_or_offset_pair begin end (view expr.0)
location_entry_of view number (BaseAddress address) = base_address address
location_entry_of view number (BaseAddressx index) = base_addressx (number index.0)
location_entry_of view number (StartxEndx begin end expr) =
    startx_endx (number begin.0) (number end.0) (view expr.0)
location_entry_of view number (StartxLength begin length expr) =
    startx_length (number begin.0) length (view expr.0)
location_entry_of view number (OffsetPair begin end expr) = offset_pair begin end (view expr.0)
location_entry_of view number (DefaultLocation expr) = default_location (view expr.0)
location_entry_of view number (StartEnd begin end expr) = start_end begin end (view expr.0)
location_entry_of view number (StartLength begin length expr) =
    start_length begin length (view expr.0)

-- an expression after its length of 2 bytes
abbrev pub short_expression_at : View → Reads View
short_expression_at v = uint_at 2 v >>= λ length. split_at length.0 length.1

-- an expression after its length: a LEB128 number since version 5, 2 bytes before
abbrev pub expression_at : ℕ → ℕ → View → Reads View
expression_at limit version v =
    if nat_le 5 version then (index_at limit v >>= λ length. split_at length.0 length.1)
    else short_expression_at v

-- the number of bytes of a range that begins at an indexed address: a LEB128 number since version
-- 5, 4 bytes before
abbrev pub indexed_length_at : ℕ → View → Reads ℕ
indexed_length_at version v = if nat_le 5 version then uleb_at v else uint_at 4 v

-- an entry of the new encoding, by its code
unfoldable pub new_location_at : ℕ → ℕ → ℕ → EntryReads View
new_location_at limit version size v = byte_at v >>= λ code.
    if code.0 == 0 then Ok (None, code.1)
    else if code.0 == 1 then map_read (λ i. Some (base_addressx i)) (index_at limit code.1)
    else if code.0 == 2 then two_at (expression_at limit version) (index_at limit) (index_at limit)
    startx_endx code.1
    else if code.0 == 3 then two_at (expression_at limit version) (index_at limit)
    (indexed_length_at version) startx_length code.1
    else if code.0 == 4 then two_at (expression_at limit version) uleb_at uleb_at offset_pair code.1
    else if code.0 == 5 then map_read (λ e. Some (default_location e))
    (expression_at limit version code.1)
    else if code.0 == 6 then map_read (λ a. Some (base_address a)) (address_at size code.1)
    else if code.0 == 7 then two_at (expression_at limit version) (address_at size)
    (address_at size) start_end code.1
    else if code.0 == 8 then two_at (expression_at limit version) (address_at size) uleb_at
    start_length code.1
    else Err (UnknownLocListsEntry (record { 0 = code.0 }))

-- an entry in either encoding
abbrev pub location_grammar : ℕ → Grammar View
location_grammar limit Bare encoding = old_entry_at short_expression_at encoding.address_size
location_grammar limit Coded encoding = new_location_at limit encoding.version encoding.address_size
