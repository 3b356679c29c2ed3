-- The sections that a caller names, and the header of a unit, as numbers (DWARF 5, 7.5.1).
use Rattle.std.specs.Prelude.{ℕ, ◌==◌, ◌^◌, if◌then◌else◌, Bool, not, length, List, Result, Ok, Err}
use Rattle.std.specs.Prelude.{Option, Some, None}
use Rattle.gimli_base.specs.declared.common.Encoding.{Encoding}
use Rattle.gimli_base.specs.declared.common.Format.TheVariants.{Dwarf32, Dwarf64}
use Rattle.gimli_base.specs.declared.common.SectionId.{SectionId}
use Rattle.gimli_base.specs.declared.common.SectionId.TheVariants.{DebugInfo, DebugTypes}
use Rattle.gimli_base.specs.declared.error.Error.{Error}
use Rattle.gimli_base.specs.Reading.{word_size_of}
use Rattle.gimli_base.specs.View.{View}
use Rattle.gimli_units.specs.declared.unit_type.UnitType.{UnitType}
use Rattle.gimli_units.specs.declared.unit_type.UnitType.TheVariants.{Compilation, TypeUnit}
use Rattle.gimli_units.specs.declared.unit_type.UnitType.TheVariants.{Partial, Skeleton}
use Rattle.gimli_units.specs.declared.unit_type.UnitType.TheVariants.{SplitCompilation, SplitType}
use Rattle.gimli_units.specs.declared.unit_type.UnitType.TheVariants.{Vendor}
use Rattle.gimli_units.specs.Unit.{UnitView, whole_length, header_size}
use Rattle.gimli_base.specs.Sections.{abbrev_content}
use Rattle.gimli_headers.specs.Units.{header_at}
use Rattle.gimli_c.specs.declared.unit.GimliUnit.{GimliUnit}
use Rattle.gimli_c.specs.declared.sections.GimliSections.{GimliSections}
use Rattle.gimli_c.specs.declared.sections.UnitSections.{UnitSections}
use Rattle.gimli_c.specs.Status.{more, end, refusal_status}

-- the view of a section's bytes, in the byte order that is named
abbrev pub view_in : GimliSections → List ℕ → View
view_in s bytes = record { big = not (s.big == 0); place = 0; bytes = bytes }

-- the sections of a caller, as views
abbrev pub units_view : GimliSections → View
units_view s = view_in s s.units.now

abbrev pub abbreviations_view : GimliSections → View
abbreviations_view s = view_in s s.abbreviations.now

-- the section of units, by whether it is that of types
abbrev pub section_id : Bool → SectionId
section_id types = if types then DebugTypes else DebugInfo

abbrev pub units_id : GimliSections → SectionId
units_id s = section_id (not (s.types == 0))

-- a unit at another offset
abbrev pub at_offset : ℕ → UnitView → UnitView
at_offset offset u = record {
  encoding = u.encoding;
  unit_length = u.unit_length;
  kind = u.kind;
  abbreviations = u.abbreviations;
  section = u.section;
  offset = offset;
  entries = u.entries;
}

-- the code of a type of unit, and the id and the offset that it adds to a header
abbrev pub type_numbers : UnitType ℕ → ℕ × ℕ × ℕ
type_numbers Compilation = (1, 0, 0)
type_numbers (TypeUnit signature offset) = (2, signature.0, offset.0)
type_numbers Partial = (3, 0, 0)
type_numbers (Skeleton id) = (4, id.0, 0)
type_numbers (SplitCompilation id) = (5, id.0, 0)
type_numbers (SplitType signature offset) = (6, signature.0, offset.0)
type_numbers (Vendor code) = (code.0, 0, 0)

abbrev pub unit_numbers : UnitView → GimliUnit
unit_numbers u = record {
  offset = u.offset;
  length = whole_length u;
  header_size = header_size u;
  abbreviations = u.abbreviations;
  id = (type_numbers u.kind).1;
  type_offset = (type_numbers u.kind).2;
  version = u.encoding.version;
  kind = (type_numbers u.kind).0;
  address_size = u.encoding.address_size;
  offset_size = word_size_of u.encoding.format;
}

-- how a unit's bytes are read
abbrev pub encoding_in : GimliUnit → Encoding
encoding_in u =
    record {
      format = if u.offset_size == 8 then Dwarf64 else Dwarf32;
      version = u.version;
      address_size = u.address_size;
    }

-- the status, and the unit that the caller has then
abbrev pub unit_in_c : Result UnitView Error → GimliUnit → ℕ × GimliUnit
unit_in_c (Ok u) old = (more, unit_numbers u)
unit_in_c (Err e) old = (refusal_status e, old)

-- the same of a unit that is sought
abbrev pub found_outcome : Result (Option UnitView) Error → GimliUnit → ℕ × GimliUnit
found_outcome (Ok (Some u)) old = (more, unit_numbers u)
found_outcome (Ok None) old = (end, old)
found_outcome (Err e) old = (refusal_status e, old)

abbrev pub unit_outcome : View → ℕ → Result UnitView Error → GimliUnit → ℕ × GimliUnit
unit_outcome section offset read old =
    if offset == length section.bytes then (end, old) else unit_in_c read old

-- the unit at an offset of a caller's units
abbrev pub section_unit : GimliSections → ℕ → Result UnitView Error
section_unit s offset = header_at (2 ^ 64) (units_id s) offset (units_view s)

-- the unit at an offset of opened sections, and what their `.debug_abbrev` holds, by the view of
-- their reader
abbrev pub unit_of : {R : Type 0} → ℕ → (R → View) → UnitSections R → ℕ → Result UnitView Error
unit_of limit view s offset = header_at limit (section_id s.types) offset (view s.units)

abbrev pub declarations_of : {R : Type 0} → (R → View) → UnitSections R → View
declarations_of view s = abbrev_content view s.abbreviations
