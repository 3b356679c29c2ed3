-- Where the list of a value begins (DWARF 5, 7.5.5, 7.28 and 7.29; DWARF 4, 7.5.4).
use Rattle.std.specs.Prelude.{ℕ, ◌+◌, nat_lt, if◌then◌else◌, Option, Some, None, Result, Ok, Err}
use Rattle.std.specs.Prelude.{unwrap_or, Bool, true, false}
use Rattle.gimli_base.specs.declared.common.DwarfFileType.{DwarfFileType}
use Rattle.gimli_base.specs.declared.common.DwarfFileType.TheVariants.{Main, Dwo}
use Rattle.gimli_base.specs.declared.error.Error.{Error}
use Rattle.gimli_base.specs.declared.error.Error.TheVariants.{UnsupportedAddressSize}
use Rattle.gimli_base.specs.declared.common.Format.{Format}
use Rattle.gimli_base.specs.Offset.{offset_of}
use Rattle.gimli_base.specs.Reading.{is_size}
use Rattle.gimli_base.specs.View.{View, end_of_view}
use Rattle.gimli_units.specs.declared.value.AttributeValue.TheVariants.{RangeListsRef}
use Rattle.gimli_units.specs.declared.value.AttributeValue.TheVariants.{DebugRngListsIndex}
use Rattle.gimli_units.specs.declared.value.AttributeValue.TheVariants.{LocationListsRef}
use Rattle.gimli_units.specs.declared.value.AttributeValue.TheVariants.{DebugLocListsIndex}
use Rattle.gimli_units.specs.Value.{Value}
use Rattle.gimli_lists.specs.declared.lists.ListsFormat.{ListsFormat}
use Rattle.gimli_lists.specs.Locations.{location_format}
use Rattle.gimli_lists.specs.Places.{ListSections, ListPlace, list_offset, format_of, list_place_at}
use Rattle.gimli_dwarf.specs.declared.error.DwarfError.{DwarfError}
use Rattle.gimli_dwarf.specs.declared.error.DwarfError.TheVariants.{Read}
use Rattle.gimli_dwarf.specs.Bases.{Bases, and_then, or_refused, resolved_as, missing}

abbrev pub is_split : DwarfFileType → Bool
is_split Main = false
is_split Dwo = true

-- what the offsets of range lists count from: in a split file before version 5 the skeleton's base,
-- and else the beginning of the section
abbrev pub ranges_start : DwarfFileType → ℕ → Option ℕ → Option ℕ
ranges_start Main version base = Some 0
ranges_start Dwo version base = if nat_lt version 5 then base else Some 0

-- an offset of a range list, from there
abbrev pub range_list_at : ℕ → Bases → ℕ → Result ℕ DwarfError
range_list_at limit b offset = elim (ranges_start b.file_type b.encoding.version b.gnu_ranges_base) [
  | None ↦ missing 0x2132
  | Some base ↦ or_refused (offset_of limit (base + offset))
]

-- the offset at an index of a table of lists, which has to be there; the name is that of its base
abbrev pub indexed_list : ℕ → ℕ → Format → Option ℕ → ℕ → View → Result ℕ DwarfError
indexed_list limit name format None index v = missing name
indexed_list limit name format (Some base) index v =
    or_refused (list_offset limit format base index v)

-- where the range list of a value begins in its section; a value that is none names no list
abbrev pub range_list_value : ℕ → Bases → View → Value → Result (Option ℕ) DwarfError
range_list_value limit b v (RangeListsRef o) = resolved_as Some (range_list_at limit b o.0)
range_list_value limit b v (DebugRngListsIndex i) =
    resolved_as Some (indexed_list limit 0x74 b.encoding.format b.rnglists_base i.0 v)
range_list_value limit b v x = Ok None

-- where the location list of a value begins in its section; a value that is none names no list
abbrev pub location_list_value : ℕ → Bases → View → Value → Result (Option ℕ) DwarfError
location_list_value limit b v (LocationListsRef o) = Ok (Some o.0)
location_list_value limit b v (DebugLocListsIndex i) =
    resolved_as Some (indexed_list limit 0x8c b.encoding.format b.loclists_base i.0 v)
location_list_value limit b v x = Ok None

-- where a unit's addresses are looked up: in its table of `.debug_addr`; where no base of that is
-- given, in a section without bytes, so that each index is refused
abbrev pub addresses_of : Bases → View → View
addresses_of b v = elim b.addr_base [ None ↦ end_of_view v | Some base ↦ v ]

-- an address of the unit, whose addresses have to have a size that addresses have
abbrev pub if_sized : ℕ → ℕ → Result ℕ DwarfError
if_sized size address =
    if is_size size then Ok address else Err (Read (UnsupportedAddressSize size))

-- the address from which lists count; the unit has to have one
abbrev pub list_base : ℕ → Option ℕ → Result ℕ DwarfError
list_base size None = missing 0x11
list_base size (Some low) = if_sized size low

-- where the reading of a list is that begins at an offset
abbrev pub list_from : ListsFormat → Bases → View → ListSections → ℕ → Result ListPlace DwarfError
list_from format b addresses s offset =
    and_then (list_base b.encoding.address_size b.low_pc) (λ low.
    or_refused (list_place_at format offset b.encoding low (addresses_of b addresses)
    (unwrap_or b.addr_base 0) s))

-- the same of a value that may name a list
abbrev pub list_of_value : ListsFormat → Bases → View → ListSections → Result (Option ℕ) DwarfError
    → Result (Option ListPlace) DwarfError
list_of_value format b addresses s named = and_then named (λ o. elim o [
  | None ↦ Ok None
  | Some offset ↦ resolved_as Some (list_from format b addresses s offset)
])

-- the reading of the ranges, and of the locations, of a value
abbrev pub ranges_of_value : ℕ → Bases → View → ListSections → Value
    → Result (Option ListPlace) DwarfError
ranges_of_value limit b addresses s x =
    list_of_value (format_of b.encoding.version) b addresses s (range_list_value limit b s.new x)

abbrev pub locations_of_value : ℕ → Bases → View → ListSections → Value
    → Result (Option ListPlace) DwarfError
locations_of_value limit b addresses s x =
    list_of_value (location_format (is_split b.file_type) b.encoding.version) b addresses s
    (location_list_value limit b s.new x)
