-- Texts, by the value of an attribute (DWARF 5, 7.5.5 and 7.26).
use Rattle.std.specs.Prelude.{ℕ, Option, Some, None, Result, Ok, Err}
use Rattle.gimli_base.specs.declared.error.Error.{Error}
use Rattle.gimli_base.specs.Reading.{text_from}
use Rattle.gimli_base.specs.Sections.{str_content}
use Rattle.gimli_base.specs.View.{View}
use Rattle.gimli_units.specs.declared.value.AttributeValue.TheVariants.{String, DebugStrRef}
use Rattle.gimli_units.specs.declared.value.AttributeValue.TheVariants.{DebugLineStrRef}
use Rattle.gimli_units.specs.declared.value.AttributeValue.TheVariants.{DebugStrRefSup}
use Rattle.gimli_units.specs.declared.value.AttributeValue.TheVariants.{DebugStrOffsetsIndex}
use Rattle.gimli_units.specs.Value.{Value}
use Rattle.gimli_dwarf.specs.declared.error.DwarfError.{DwarfError}
use Rattle.gimli_dwarf.specs.declared.sections.DwarfSections.{DwarfSections}
use Rattle.gimli_dwarf.specs.declared.error.DwarfError.TheVariants.{ExpectedStringAttributeValue}
use Rattle.gimli_dwarf.specs.Bases.{Bases, or_refused, missing}
use Rattle.gimli_dwarf.specs.Texts.{line_str_content, str_offsets_content, text_offset}

-- the sections of texts, and of their offsets
pub record TextSections : Type 0 where
  pub strings : View
  pub line_strings : View
  pub offsets : View
  pub sup_strings : View

abbrev pub text_sections : {R : Type 0} → (R → View) → DwarfSections R → TextSections
text_sections view s = record {
  strings = str_content view s.debug_str;
  line_strings = line_str_content view s.debug_line_str;
  offsets = str_offsets_content view s.debug_str_offsets;
  sup_strings = str_content view s.debug_str_sup;
}

-- the text at an offset that was found
abbrev pub text_at_offset : View → Result ℕ Error → Result View Error
text_at_offset strings (Ok offset) = text_from offset strings
text_at_offset strings (Err e) = Err e

-- the text at an index, counted from a base, which has to be there
abbrev pub indexed_text : ℕ → Bases → TextSections → ℕ → Result View DwarfError
indexed_text limit b s index = elim b.str_offsets_base [
  | None ↦ missing 0x72
  | Some base ↦ or_refused
      (text_at_offset s.strings (text_offset limit b.encoding.format base index s.offsets))
]

-- the text that a value is: in place, at an offset, also of the supplementary file, or at an index
abbrev pub text_value : ℕ → Bases → TextSections → Value → Result View DwarfError
text_value limit b s (String v) = Ok v
text_value limit b s (DebugStrRef o) = or_refused (text_from o.0 s.strings)
text_value limit b s (DebugLineStrRef o) = or_refused (text_from o.0 s.line_strings)
text_value limit b s (DebugStrOffsetsIndex i) = indexed_text limit b s i.0
text_value limit b s (DebugStrRefSup o) = or_refused (text_from o.0 s.sup_strings)
text_value limit b s x = Err ExpectedStringAttributeValue
