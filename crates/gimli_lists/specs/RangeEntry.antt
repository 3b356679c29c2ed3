-- An entry of a range list in the encoding of its version (DWARF 5, 2.17.3 and 7.25; DWARF 4,
-- 2.17.3).
use Rattle.std.specs.Prelude.{ℕ, ◌==◌, if◌then◌else◌, Some, None, Ok, Err}
use Rattle.gimli_base.specs.declared.error.Error.TheVariants.{UnknownRangeListsEntry}
use Rattle.gimli_base.specs.View.{View}
use Rattle.gimli_base.specs.Reading.{Reads, ◌>>=◌, map_read, byte_at, uleb_at, address_at}
use Rattle.gimli_lists.specs.declared.rnglists.entry.RawRngListEntry.{RawRngListEntry}
use Rattle.gimli_lists.specs.declared.rnglists.entry.RawRngListEntry.TheVariants.{AddressOrOffsetPair}
use Rattle.gimli_lists.specs.declared.rnglists.entry.RawRngListEntry.TheVariants.{BaseAddress}
use Rattle.gimli_lists.specs.declared.rnglists.entry.RawRngListEntry.TheVariants.{BaseAddressx}
use Rattle.gimli_lists.specs.declared.rnglists.entry.RawRngListEntry.TheVariants.{StartxEndx}
use Rattle.gimli_lists.specs.declared.rnglists.entry.RawRngListEntry.TheVariants.{StartxLength}
use Rattle.gimli_lists.specs.declared.rnglists.entry.RawRngListEntry.TheVariants.{OffsetPair}
use Rattle.gimli_lists.specs.declared.rnglists.entry.RawRngListEntry.TheVariants.{StartEnd}
use Rattle.gimli_lists.specs.declared.rnglists.entry.RawRngListEntry.TheVariants.{StartLength}
use Rattle.gimli_lists.specs.declared.lists.ListsFormat.TheVariants.{Bare, Coded}
use Rattle.gimli_lists.specs.Places.{Grammar}
use Rattle.gimli_lists.specs.RawList.{ListEntry, address_or_offset_pair, base_address}
use Rattle.gimli_lists.specs.RawList.{base_addressx}
use Rattle.gimli_lists.specs.RawList.{startx_endx, startx_length, offset_pair, start_end}
use Rattle.gimli_lists.specs.RawList.{start_length, EntryReads, old_entry_at, index_at, two_at}

-- an entry of a range list: nothing stands after its operands
abbrev pub RangeEntry : Type 0
RangeEntry = ListEntry (Unit {0})

-- the entry that code holds, by what its offsets stand for
abbrev pub range_entry_of : {O : Type 0} → (O → ℕ) → RawRngListEntry O → RangeEntry
range_entry_of number (AddressOrOffsetPair begin end) = address_or_offset_pair begin end tt
range_entry_of number (BaseAddress address) = base_address address
range_entry_of number (BaseAddressx index) = base_addressx (number index.0)
range_entry_of number (StartxEndx begin end) = startx_endx (number begin.0) (number end.0) tt
range_entry_of number (StartxLength begin length) = startx_length (number begin.0) length tt
range_entry_of number (OffsetPair begin end) = offset_pair begin end tt
range_entry_of number (StartEnd begin end) = start_end begin end tt
range_entry_of number (StartLength begin length) = start_length begin length tt

-- nothing is read
abbrev pub nothing_at : View → Reads (Unit {0})
nothing_at v = Ok (tt, v)

-- an entry of the new encoding, by its code
unfoldable pub new_entry_at : ℕ → ℕ → EntryReads (Unit {0})
new_entry_at limit size v = byte_at v >>= λ code.
    if code.0 == 0 then Ok (None, code.1)
    else if code.0 == 1 then map_read (λ i. Some (base_addressx i)) (index_at limit code.1)
    else if code.0 == 2 then two_at nothing_at (index_at limit) (index_at limit) startx_endx code.1
    else if code.0 == 3 then two_at nothing_at (index_at limit) uleb_at startx_length code.1
    else if code.0 == 4 then two_at nothing_at uleb_at uleb_at offset_pair code.1
    else if code.0 == 5 then map_read (λ a. Some (base_address a)) (address_at size code.1)
    else if code.0 == 6 then two_at nothing_at (address_at size) (address_at size) start_end code.1
    else if code.0 == 7 then two_at nothing_at (address_at size) uleb_at start_length code.1
    else Err (UnknownRangeListsEntry (record { 0 = code.0 }))

-- an entry in either encoding
abbrev pub range_grammar : ℕ → Grammar (Unit {0})
range_grammar limit Bare encoding = old_entry_at nothing_at encoding.address_size
range_grammar limit Coded encoding = new_entry_at limit encoding.address_size
