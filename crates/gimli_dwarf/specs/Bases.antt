-- What the values of a unit count from, by the attributes of its root (DWARF 5, 3.1.1 to 3.1.3 and
-- 7.26 to 7.29; before version 5 by GNU's attributes).
use Rattle.std.specs.Prelude.{◌≡◌, ℕ, ◌+◌, nat_le, nat_lt, if◌then◌else◌, List, Option, Some, None}
use Rattle.std.specs.Prelude.{Result, Ok, Err, unwrap_or}
use Rattle.std.specs.Option.{option_map}
use Rattle.gimli_base.specs.declared.common.DwarfFileType.{DwarfFileType}
use Rattle.gimli_base.specs.declared.common.DwarfFileType.TheVariants.{Main, Dwo}
use Rattle.gimli_base.specs.declared.common.Encoding.{Encoding}
use Rattle.gimli_base.specs.declared.common.Format.{Format}
use Rattle.gimli_base.specs.declared.error.Error.{Error}
use Rattle.gimli_base.specs.declared.error.Error.TheVariants.{OutOfMemory}
use Rattle.gimli_base.specs.Abbreviations.{Map}
use Rattle.gimli_base.specs.Address.{table_address}
use Rattle.gimli_base.specs.ListsBase.{lists_header_size}
use Rattle.gimli_base.specs.Reading.{initial_length_size_of}
use Rattle.gimli_base.specs.View.{View}
use Rattle.gimli_units.specs.declared.value.AttributeValue.TheVariants.{Addr, DebugAddrIndex}
use Rattle.gimli_units.specs.Entry.{Attr, Entry, first_of}
use Rattle.gimli_units.specs.NormalValue.{sec_offset_of}
use Rattle.gimli_units.specs.Unit.{UnitView, unit_entry_at, header_size}
use Rattle.gimli_units.specs.Value.{Value}
use Rattle.gimli_dwarf.specs.declared.bases.SharedBases.{SharedBases as HeldBases}
use Rattle.gimli_dwarf.specs.declared.bases.UnitBases.{UnitBases}
use Rattle.gimli_dwarf.specs.declared.error.DwarfError.{DwarfError}
use Rattle.gimli_dwarf.specs.declared.error.DwarfError.TheVariants.{Read, MissingBase, InvalidBase}

-- What the values of a unit count from: how its bytes are read, the kind of its file, its low_pc;
-- where its tables begin in `.debug_addr`, `.debug_str_offsets`, `.debug_rnglists` and
-- `.debug_loclists`; and what the range lists of a split unit count from. `None` is what nothing
-- gives.
pub record Bases : Type 0 where
  pub encoding : Encoding
  pub file_type : DwarfFileType
  pub low_pc : Option ℕ
  pub addr_base : Option ℕ
  pub str_offsets_base : Option ℕ
  pub rnglists_base : Option ℕ
  pub loclists_base : Option ℕ
  pub gnu_ranges_base : Option ℕ

-- the same of a `UnitBases`, by what its offsets stand for
abbrev pub bases_view : {O : Type 0} → (O → ℕ) → UnitBases O → Bases
bases_view f b = record {
  encoding = b.encoding;
  file_type = b.file_type;
  low_pc = b.low_pc;
  addr_base = option_map (λ o. f o.0) b.addr_base;
  str_offsets_base = option_map (λ o. f o.0) b.str_offsets_base;
  rnglists_base = option_map (λ o. f o.0) b.rnglists_base;
  loclists_base = option_map (λ o. f o.0) b.loclists_base;
  gnu_ranges_base = option_map (λ o. f o.0) b.gnu_ranges_base;
}

-- an answer, by what its value stands for
abbrev pub resolved_as : {A B : Type 0} → (A → B) → Result A DwarfError → Result B DwarfError
resolved_as f (Ok a) = Ok (f a)
resolved_as f (Err e) = Err e

-- an answer, and what follows from it
abbrev pub and_then : {A B : Type 0} → Result A DwarfError → (A → Result B DwarfError)
    → Result B DwarfError
and_then (Ok a) f = f a
and_then (Err e) f = Err e

-- what was read, or the refusal of reading it
abbrev pub or_refused : {A : Type 0} → Result A Error → Result A DwarfError
or_refused (Ok a) = Ok a
or_refused (Err e) = Err (Read e)

-- the refusals of the attribute of a name
abbrev pub missing : {A : Type 0} → ℕ → Result A DwarfError
missing name = Err (MissingBase (record { 0 = name }))

abbrev pub invalid : {A : Type 0} → ℕ → Result A DwarfError
invalid name = Err (InvalidBase (record { 0 = name }))

-- the offset into a section that an attribute has as its value; any other value is refused
abbrev pub offset_or_invalid : ℕ → Option ℕ → Result (Option ℕ) DwarfError
offset_or_invalid name None = invalid name
offset_or_invalid name (Some o) = Ok (Some o)

-- the same of the first attribute of a name, if there is one
abbrev pub offset_in : ℕ → Option Attr → Result (Option ℕ) DwarfError
offset_in name None = Ok None
offset_in name (Some a) = offset_or_invalid name (sec_offset_of a.value)

abbrev pub offset_named : ℕ → List Attr → Result (Option ℕ) DwarfError
offset_named name attributes = offset_in name (first_of name attributes)

-- Where a table begins, by the attribute of a name, or by default. What lies before `least`, in the
-- header of the section, is refused.
abbrev pub table_base : ℕ → ℕ → Option ℕ → List Attr → Result (Option ℕ) DwarfError
table_base name least default attributes = and_then (offset_named name attributes) (λ o. elim o [
  | None ↦ Ok default
  | Some base ↦ if nat_lt base least then invalid name else Ok (Some base)
])

-- In a split file a table begins after its section's header where no attribute says so, as it has
-- one unit alone; in another file there is none then.
abbrev pub split_default : DwarfFileType → ℕ → Option ℕ
split_default Main least = None
split_default Dwo least = Some least

-- the header of `.debug_addr` and of `.debug_str_offsets`, since version 5: a length, a version, and
-- two bytes more
abbrev pub table_header_size : Encoding → ℕ
table_header_size e = if nat_le 5 e.version then initial_length_size_of e.format + 2 + 2 else 0

-- the table of addresses: by DW_AT_addr_base, or else by DW_AT_GNU_addr_base, whose section has no
-- header
abbrev pub addr_base_of : Encoding → List Attr → Result (Option ℕ) DwarfError
addr_base_of e attributes = and_then (table_base 0x73 (table_header_size e) None attributes) (λ o. elim o [
  | None ↦ offset_named 0x2133 attributes
  | Some base ↦ Ok (Some base)
])

-- the table of offsets of texts, by DW_AT_str_offsets_base
abbrev pub str_offsets_base_of : Encoding → DwarfFileType → List Attr
    → Result (Option ℕ) DwarfError
str_offsets_base_of e file = table_base 0x72 (table_header_size e) (split_default file (table_header_size e))

-- a table of offsets of lists, by the attribute of a name; before version 5 there is none
abbrev pub lists_base_of : ℕ → Encoding → DwarfFileType → List Attr
    → Result (Option ℕ) DwarfError
lists_base_of name e file attributes =
    if nat_le 5 e.version
    then table_base name (lists_header_size e.format)
    (split_default file (lists_header_size e.format)) attributes
    else Ok None

-- the address at an index, counted from a base, which has to be there
abbrev pub indexed_address : ℕ → ℕ → Option ℕ → ℕ → View → Result ℕ DwarfError
indexed_address limit size None index addresses = missing 0x73
indexed_address limit size (Some base) index addresses =
    or_refused (table_address limit size base index addresses)

-- the address that a value is, in place or by its index; any other value is none
abbrev pub address_value : ℕ → ℕ → Option ℕ → View → Value → Result (Option ℕ) DwarfError
address_value limit size base addresses (Addr a) = Ok (Some a)
address_value limit size base addresses (DebugAddrIndex i) =
    resolved_as Some (indexed_address limit size base i.0 addresses)
address_value limit size base addresses x = Ok None

-- an address that there has to be
abbrev pub low_or_invalid : Result (Option ℕ) DwarfError → Result (Option ℕ) DwarfError
low_or_invalid (Ok None) = invalid 0x11
low_or_invalid (Ok (Some low)) = Ok (Some low)
low_or_invalid (Err e) = Err e

-- the low_pc that a root gives, if it gives one; a value that is no address is refused
abbrev pub low_pc_in : ℕ → ℕ → Option ℕ → View → Option Attr → Result (Option ℕ) DwarfError
low_pc_in limit size base addresses None = Ok None
low_pc_in limit size base addresses (Some a) =
    low_or_invalid (address_value limit size base addresses a.value)

abbrev pub low_pc_named : ℕ → ℕ → Option ℕ → View → List Attr → Result (Option ℕ) DwarfError
low_pc_named limit size base addresses attributes =
    low_pc_in limit size base addresses (first_of 0x11 attributes)

-- where a root gives none, low_pc is 0 in a program, and in a split file its skeleton's
abbrev pub default_low_pc : DwarfFileType → Option ℕ → Option ℕ
default_low_pc file (Some low) = Some low
default_low_pc Main None = Some 0
default_low_pc Dwo None = None

-- what a unit shares with its split unit: the table of addresses, low_pc, and what the range lists
-- of that one count from
pub record SharedBases : Type 0 where
  pub addr_base : Option ℕ
  pub low_pc : Option ℕ
  pub gnu_ranges_base : Option ℕ

-- the same of a `SharedBases` of the code, by what its offsets stand for
abbrev pub shared_view : {O : Type 0} → (O → ℕ) → HeldBases O → SharedBases
shared_view f b = record {
  addr_base = option_map (λ o. f o.0) b.addr_base;
  low_pc = b.low_pc;
  gnu_ranges_base = option_map (λ o. f o.0) b.gnu_ranges_base;
}

-- by the attributes of a root
abbrev pub own_bases : ℕ → View → Encoding → DwarfFileType → List Attr
    → Result SharedBases DwarfError
own_bases limit addresses e file attributes = and_then (addr_base_of e attributes) (λ addr.
    and_then (low_pc_named limit e.address_size addr addresses attributes) (λ low.
    and_then (offset_named 0x2132 attributes) (λ ranges.
    Ok (record {
      addr_base = addr;
      low_pc = default_low_pc file low;
      gnu_ranges_base = ranges;
    }))))

-- a skeleton's; where it has no DW_AT_GNU_ranges_base, the range lists count from 0
abbrev pub skeleton_bases : Bases → SharedBases
skeleton_bases s = record {
  addr_base = s.addr_base;
  low_pc = s.low_pc;
  gnu_ranges_base = Some (unwrap_or s.gnu_ranges_base 0);
}

-- the bases of a unit by the attributes of its root, beside those that may be its skeleton's
abbrev pub bases_with : Encoding → DwarfFileType → List Attr → SharedBases → Result Bases DwarfError
bases_with e file attributes shared = and_then (str_offsets_base_of e file attributes) (λ texts.
    and_then (lists_base_of 0x74 e file attributes) (λ ranges.
    and_then (lists_base_of 0x8c e file attributes) (λ locations.
    Ok (record {
      encoding = e;
      file_type = file;
      low_pc = shared.low_pc;
      addr_base = shared.addr_base;
      str_offsets_base = texts;
      rnglists_base = ranges;
      loclists_base = locations;
      gnu_ranges_base = shared.gnu_ranges_base;
    }))))

-- the bases of a unit by the attributes of its root, and by those of its skeleton, if it has one
abbrev pub bases_of : ℕ → View → Encoding → DwarfFileType → Option Bases → List Attr
    → Result Bases DwarfError
bases_of limit addresses e file None attributes =
    and_then (own_bases limit addresses e file attributes) (bases_with e file attributes)
bases_of limit addresses e file (Some s) attributes =
    bases_with e file attributes (skeleton_bases s)

-- the bases of a unit, whose root is read
abbrev pub unit_bases : ℕ → View → DwarfFileType → Option Bases → UnitView → Map
    → Result Bases DwarfError
unit_bases limit addresses file skeleton u declared =
    and_then (or_refused (unit_entry_at limit u declared (header_size u)))
    (λ root. bases_of limit addresses u.encoding file skeleton root.attributes)

-- p, unless memory was refused
abbrev pub UnlessMemoryRead : {A : Type 0} → Result A DwarfError → Type 0 → Type 0
UnlessMemoryRead (Ok _) p = p
UnlessMemoryRead (Err e) p = (e ≡ Read OutOfMemory → ⊥) → p
