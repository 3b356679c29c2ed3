-- The header of a unit of versions 2 to 5, as it lies in the bytes (DWARF 5, 7.5.1; DWARF 4,
-- 7.5.1).
use Rattle.std.specs.Prelude.{ℕ, ◌==◌, ◌&&◌, nat_le, if◌then◌else◌, Bool, Ok, Err}
use Rattle.gimli_base.specs.declared.common.Format.{Format}
use Rattle.gimli_base.specs.declared.common.SectionId.{SectionId}
use Rattle.gimli_base.specs.declared.common.SectionId.TheVariants.{DebugTypes}
use Rattle.gimli_base.specs.declared.error.Error.TheVariants.{UnknownVersion, UnknownUnitType}
use Rattle.gimli_base.specs.View.{View}
use Rattle.gimli_base.specs.Reading.{Reads, ◌>>=◌, map_read, byte_at, uint_at, offset_at}
use Rattle.gimli_base.specs.Reading.{address_size_at, initial_length_at, split_at}
use Rattle.gimli_units.specs.declared.unit_type.UnitType.{UnitType}
use Rattle.gimli_units.specs.declared.unit_type.UnitType.TheVariants.{Compilation, TypeUnit}
use Rattle.gimli_units.specs.declared.unit_type.UnitType.TheVariants.{Partial, Skeleton}
use Rattle.gimli_units.specs.declared.unit_type.UnitType.TheVariants.{SplitCompilation, SplitType}
use Rattle.gimli_units.specs.declared.unit_type.UnitType.TheVariants.{Vendor}
use Rattle.gimli_units.specs.Unit.{UnitView}
use Rattle.gimli_headers.specs.declared.parse.Common.{Common as CommonFields}

-- what every header says: the version, the code of the unit's type, where the abbreviations are,
-- the size of an address
pub record Common : Type 0 where
  pub version : ℕ
  pub type_code : ℕ
  pub abbreviations : ℕ
  pub address_size : ℕ

-- those that code holds, by what its offsets stand for
abbrev pub common_of : {O : Type 0} → (O → ℕ) → CommonFields O → Common
common_of g c =
    record {
      version = c.version;
      type_code = c.unit_type.0;
      abbreviations = g c.debug_abbrev_offset.0;
      address_size = c.address_size;
    }

-- the code of the type that a unit of versions 2 to 4 has by its section: type units in
-- `.debug_types`, else compilation units
abbrev pub implied_type : SectionId → ℕ
implied_type DebugTypes = 2
implied_type section = 1

abbrev pub is_old : ℕ → Bool
is_old version = nat_le 2 version && nat_le version 4

-- the fields of versions 2 to 4
unfoldable pub old_common_at : ℕ → SectionId → Format → ℕ → View → Reads Common
old_common_at limit section format version v =
    offset_at limit format v >>= λ abbreviations. address_size_at abbreviations.1 >>= λ size.
    Ok (
      record {
        version = version;
        type_code = implied_type section;
        abbreviations = abbreviations.0;
        address_size = size.0;
      },
      size.1,
    )

-- the fields of version 5
unfoldable pub new_common_at : ℕ → Format → ℕ → View → Reads Common
new_common_at limit format version v =
    byte_at v >>= λ code. address_size_at code.1 >>= λ size. offset_at limit format size.1
    >>= λ abbreviations.
    Ok (
      record {
        version = version;
        type_code = code.0;
        abbreviations = abbreviations.0;
        address_size = size.0;
      },
      abbreviations.1,
    )

-- the fields after the length, up to those that the type adds
unfoldable pub common_at : ℕ → SectionId → Format → View → Reads Common
common_at limit section format v = uint_at 2 v >>= λ version.
    if is_old version.0 then old_common_at limit section format version.0 version.1
    else if version.0 == 5 then new_common_at limit format version.0 version.1
    else Err (UnknownVersion version.0)

-- a signature, and where the type's entry stands
unfoldable pub signature_at : ℕ → Format → View → Reads (ℕ × ℕ)
signature_at limit format v =
    uint_at 8 v >>= λ signature.
    map_read (λ offset. (signature.0, offset)) (offset_at limit format signature.1)

-- the codes of types that vendors define, up to the greatest byte
abbrev pub is_vendor : ℕ → Bool
is_vendor code = nat_le 0x80 code

-- what the type of a code adds
unfoldable pub type_at : ℕ → Format → ℕ → View → Reads (UnitType ℕ)
type_at limit format code v =
    if code == 1 then Ok (Compilation, v)
    else if code == 2 then map_read (λ p. TypeUnit (record { 0 = p.0 }) (record { 0 = p.1 }))
    (signature_at limit format v)
    else if code == 3 then Ok (Partial, v)
    else if code == 4 then map_read (λ id. Skeleton (record { 0 = id })) (uint_at 8 v)
    else if code == 5 then map_read (λ id. SplitCompilation (record { 0 = id })) (uint_at 8 v)
    else if code == 6 then map_read (λ p. SplitType (record { 0 = p.0 }) (record { 0 = p.1 }))
    (signature_at limit format v)
    else if is_vendor code then Ok (Vendor (record { 0 = code }), v)
    else Err (UnknownUnitType (record { 0 = code }))

-- the fields after the length; an unknown type is refused after the fields that all have
unfoldable pub fields_at : ℕ → SectionId → Format → View → Reads (Common × UnitType ℕ)
fields_at limit section format v = common_at limit section format v >>= λ common.
    map_read (λ kind. (common.0, kind)) (type_at limit format common.0.type_code common.1)

-- the unit of these fields, with the bytes of its entries
abbrev pub unit_of : SectionId → ℕ → ℕ × Format → Common × UnitType ℕ → View → UnitView
unit_of section offset field fields entries = record {
  encoding =
      record { format = field.1; version = fields.0.version; address_size = fields.0.address_size };
  unit_length = field.0;
  kind = fields.1;
  abbreviations = fields.0.abbreviations;
  section = section;
  offset = offset;
  entries = entries;
}

-- the unit of the fields that were read from its own bytes; what is left begins after those
abbrev pub unit_in : SectionId → ℕ → ℕ × Format → Reads (Common × UnitType ℕ) → View
    → Reads UnitView
unit_in section offset field (Ok fields) rest =
    Ok (unit_of section offset field fields.0 fields.1, rest)
unit_in section offset field (Err e) rest = Err e

-- The next unit, which begins at an offset of its section: a length, and that many bytes, in which
-- the entries follow the fields. What is left begins after the unit's whole length.
unfoldable pub unit_at : ℕ → SectionId → ℕ → View → Reads UnitView
unit_at limit section offset v =
    initial_length_at limit v >>= λ field. split_at field.0.0 field.1 >>= λ own.
    unit_in section offset field.0 (fields_at limit section field.0.1 own.0) own.1
