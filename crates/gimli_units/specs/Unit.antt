-- What the header of a unit holds, and the bounds of its offsets (DWARF 5, 7.5.1).
use Rattle.std.specs.Prelude.{◌≡◌, ℕ, ◌+◌, ◌-◌, nat_le, nat_lt, ◌&&◌, if◌then◌else◌, ◌==◌, Bool}
use Rattle.std.specs.Prelude.{true, false, length, pos, Option, Some, None, unwrap_or, Result, Ok}
use Rattle.std.specs.Prelude.{Err}
use Rattle.gimli_base.specs.declared.common.Encoding.{Encoding}
use Rattle.gimli_base.specs.declared.common.SectionId.{SectionId}
use Rattle.gimli_base.specs.declared.error.Error.{Error}
use Rattle.gimli_base.specs.declared.error.Error.TheVariants.{OffsetOutOfBounds}
use Rattle.gimli_base.specs.declared.error.Error.TheVariants.{NoEntryAtGivenOffset}
use Rattle.gimli_units.specs.declared.unit_type.UnitType.{UnitType}
use Rattle.gimli_units.specs.declared.unit_type.UnitType.TheVariants.{Compilation, TypeUnit}
use Rattle.gimli_units.specs.declared.unit_type.UnitType.TheVariants.{Partial, Skeleton}
use Rattle.gimli_units.specs.declared.unit_type.UnitType.TheVariants.{SplitCompilation, SplitType}
use Rattle.gimli_units.specs.declared.unit_type.UnitType.TheVariants.{Vendor}
use Rattle.gimli_base.specs.declared.common.Format.{Format}
use Rattle.gimli_base.specs.declared.common.SectionId.TheVariants.{DebugInfo, DebugTypes}
use Rattle.gimli_base.specs.Offset.{answer_of}
use Rattle.gimli_base.specs.View.{View, cut, front}
use Rattle.gimli_base.specs.Reading.{Reads, initial_length_size_of, word_size_of}
use Rattle.gimli_base.specs.Table.{Table}
use Rattle.gimli_base.specs.Abbreviations.{Map}
use Rattle.gimli_units.specs.Entry.{Entry, is_null, abbreviation_at, takes_memory, entry_at}
use Rattle.gimli_units.specs.RawPlace.{RawPlace}

-- a unit: how its bytes are read, the number in its length field, its type, where its abbreviations
-- are, the section and the offset where it begins, and the bytes of its entries
pub record UnitView : Type 0 where
  pub encoding : Encoding
  pub unit_length : ℕ
  pub kind : UnitType ℕ
  pub abbreviations : ℕ
  pub section : SectionId
  pub offset : ℕ
  pub entries : View

-- the number of bytes of the unit, with its length field
abbrev pub whole_length : UnitView → ℕ
whole_length u = initial_length_size_of u.encoding.format + u.unit_length

-- the number of bytes before the entries, which is the offset of the first
abbrev pub header_size : UnitView → ℕ
header_size u = whole_length u - length u.entries.bytes

-- an offset is in bounds where it is not before the entries, and before the end
abbrev pub in_bounds : UnitView → ℕ → Bool
in_bounds u offset = nat_le (header_size u) offset && nat_lt offset (whole_length u)

-- the bytes from an offset to the unit's end
unfoldable pub range_from : UnitView → ℕ → Result View Error
range_from u offset =
    if in_bounds u offset then Ok (cut (offset - header_size u) u.entries)
    else Err (OffsetOutOfBounds offset)

-- the bytes from an offset to the one before another, which is not before it
unfoldable pub range_of : UnitView → ℕ → ℕ → Result View Error
range_of u start end =
    if in_bounds u start
    then
    (if in_bounds u end then Ok (front (end - start) (cut (start - header_size u) u.entries))
    else Err (OffsetOutOfBounds end))
    else Err (OffsetOutOfBounds start)

-- the bytes from the first entry to the one before an offset
unfoldable pub range_to : UnitView → ℕ → Result View Error
range_to u end = if in_bounds u end then Ok (front (end - header_size u) u.entries)
    else Err (OffsetOutOfBounds end)

abbrev pub is_debug_info : SectionId → Bool
is_debug_info DebugInfo = true
is_debug_info section = false

abbrev pub is_debug_types : SectionId → Bool
is_debug_types DebugTypes = true
is_debug_types section = false

-- where the unit begins in `.debug_info`, if it lies there
abbrev pub debug_info_offset : UnitView → Option ℕ
debug_info_offset u = if is_debug_info u.section then Some u.offset else None

-- where the unit begins in `.debug_types`, if it lies there
abbrev pub debug_types_offset : UnitView → Option ℕ
debug_types_offset u = if is_debug_types u.section then Some u.offset else None

-- the number of bytes that a type adds to a header
abbrev pub added_size : Format → UnitType ℕ → ℕ
added_size format Compilation = 0
added_size format (TypeUnit signature offset) = 8 + word_size_of format
added_size format Partial = 0
added_size format (Skeleton id) = 8
added_size format (SplitCompilation id) = 8
added_size format (SplitType signature offset) = 8 + word_size_of format
added_size format (Vendor code) = 0

-- the number of bytes of a header by its format, its version and its type: the length field, the
-- version, the offset of the abbreviations, the size of an address, in version 5 the type, and what
-- the type adds
abbrev pub size_of_header : UnitView → ℕ
size_of_header u =
    initial_length_size_of u.encoding.format + 2 + word_size_of u.encoding.format + 1
    + (if u.encoding.version == 5 then 1 else 0) + added_size u.encoding.format u.kind

-- a reader of the entries in these bytes of a unit
abbrev pub entries_in : UnitView → Table → Result View Error → Result RawPlace Error
entries_in u abbreviations (Ok v) =
    Ok
    (record {
      rest = v;
      encoding = u.encoding;
      abbreviations = abbreviations;
      end = whole_length u;
      depth = pos 0;
    })
entries_in u abbreviations (Err e) = Err e

-- a reader of the entries from an offset on, or from the first
unfoldable pub entries_from : UnitView → Table → Option ℕ → Result RawPlace Error
entries_from u abbreviations offset =
    entries_in u abbreviations (range_from u (unwrap_or offset (header_size u)))

-- a reader of all the entries of a unit
abbrev pub entries_of : UnitView → Table → RawPlace
entries_of u abbreviations =
    record {
      rest = u.entries;
      encoding = u.encoding;
      abbreviations = abbreviations;
      end = whole_length u;
      depth = pos 0;
    }

-- what was read as an entry, and is one
abbrev pub some_entry : ℕ → Reads Entry → Result Entry Error
some_entry offset (Ok p) = if is_null p.0 then Err (NoEntryAtGivenOffset offset) else Ok p.0
some_entry offset (Err e) = Err e

-- the entry in these bytes of a unit
abbrev pub entry_in : ℕ → Encoding → Map → ℕ → Result View Error → Result Entry Error
entry_in limit encoding declared offset (Ok v) =
    some_entry offset (entry_at limit encoding declared v)
entry_in limit encoding declared offset (Err e) = Err e

-- the entry at an offset of a unit
unfoldable pub unit_entry_at : ℕ → UnitView → Map → ℕ → Result Entry Error
unit_entry_at limit u declared offset =
    entry_in limit u.encoding declared offset (range_from u offset)

-- what is read at an offset of a unit: an entry or a null with what is left after it, or a refusal
abbrev pub unit_read_at : ℕ → UnitView → Map → ℕ → Reads Entry
unit_read_at limit u declared offset =
    entry_at limit u.encoding declared (cut (offset - header_size u) u.entries)

-- the bytes at an offset of a unit are refused, as no entry and no null can be read there
abbrev pub IsUnreadAt : ℕ → UnitView → Map → ℕ → Error → Type 0
IsUnreadAt limit u declared offset e =
    (in_bounds u offset ≡ true)
    × (answer_of (λ (x : Entry × View). x.0) (unit_read_at limit u declared offset) ≡ Err e)

-- whether memory is asked for where the entry in these bytes is read
abbrev pub takes_memory_in : Map → Result View Error → Bool
takes_memory_in declared (Ok v) = takes_memory (abbreviation_at declared v)
takes_memory_in declared (Err e) = false

-- an offset of the unit's section as one of the unit: not before the unit, and in bounds
abbrev pub within_unit : UnitView → ℕ → Option ℕ
within_unit u offset =
    if nat_le u.offset offset
    && in_bounds u (offset - u.offset) then Some (offset - u.offset) else None
