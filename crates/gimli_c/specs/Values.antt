-- Texts and addresses, by the value of an attribute (DWARF 5, 7.5.5 and 7.26).
use Rattle.std.specs.Prelude.{ℕ, ◌==◌, ◌^◌, if◌then◌else◌, Bool, false, length, Option, Some, None}
use Rattle.std.specs.Prelude.{Result, Ok, Err}
use Rattle.gimli_base.specs.View.{View}
use Rattle.gimli_units.specs.declared.value.AttributeValue.TheVariants.{Addr, DebugAddrIndex, Flag}
use Rattle.gimli_units.specs.declared.value.AttributeValue.TheVariants.{DebugStrRef}
use Rattle.gimli_units.specs.declared.value.AttributeValue.TheVariants.{DebugLineStrRef}
use Rattle.gimli_units.specs.declared.value.AttributeValue.TheVariants.{DebugStrRefSup}
use Rattle.gimli_units.specs.declared.value.AttributeValue.TheVariants.{DebugStrOffsetsIndex}
use Rattle.gimli_units.specs.Value.{Value}
use Rattle.gimli_dwarf.specs.declared.error.DwarfError.{DwarfError}
use Rattle.gimli_dwarf.specs.Bases.{address_value, Bases}
use Rattle.gimli_dwarf.specs.Values.{TextSections, text_value}
use Rattle.gimli_c.specs.declared.attrs.GimliAttr.{GimliAttr}
use Rattle.gimli_c.specs.declared.bases.GimliBases.{GimliBases}
use Rattle.gimli_c.specs.declared.sections.GimliSections.{GimliSections}
use Rattle.gimli_c.specs.declared.unit.GimliUnit.{GimliUnit}
use Rattle.gimli_c.specs.declared.values.GimliString.{GimliString}
use Rattle.gimli_c.specs.Bases.{bases_in}
use Rattle.gimli_c.specs.Lists.{section_view}
use Rattle.gimli_c.specs.Status.{more, no_address, unresolved}
use Rattle.gimli_c.specs.Units.{encoding_in}

-- the sections of texts, and of their offsets
abbrev pub texts_in : Bool → GimliSections → TextSections
texts_in big s = record {
  strings = section_view big s.strings.now;
  line_strings = section_view big s.line_strings.now;
  offsets = section_view big s.str_offsets.now;
  sup_strings = section_view big s.sup_strings.now;
}

-- the value of an attribute that may be an address, or a text outside the unit
abbrev pub value_in : GimliAttr → Value
value_in a =
    if a.kind == 1 then Addr a.number
    else if a.kind == 14 then DebugAddrIndex (record { 0 = a.number })
    else if a.kind == 28 then DebugStrRef (record { 0 = a.number })
    else if a.kind == 29 then DebugStrRefSup (record { 0 = a.number })
    else if a.kind == 31 then DebugStrOffsetsIndex (record { 0 = a.number })
    else if a.kind == 32 then DebugLineStrRef (record { 0 = a.number })
    else Flag false

-- the number of the section in which the text of such a value lies
abbrev pub text_section : ℕ → ℕ
text_section kind = if kind == 29 then 11 else if kind == 32 then 9 else 8

-- the status, and the text that the caller has then
abbrev pub text_outcome : ℕ → Result View DwarfError → GimliString → ℕ × GimliString
text_outcome section (Ok v) old =
    (more, record { place = v.place; length = length v.bytes; section = section })
text_outcome section (Err e) old = (unresolved e, old)

-- a text that lies in the unit is where the attribute says; any other is found by its value
abbrev pub text_at : ℕ → TextSections → GimliUnit → GimliAttr → GimliBases → GimliString
    → ℕ × GimliString
text_at limit texts u a b old =
    if a.kind == 33 then (more, record { place = a.number; length = a.more; section = 0 })
    else text_outcome (text_section a.kind)
    (text_value limit (bases_in (encoding_in u) b) texts (value_in a)) old

-- the status, and the address that the caller has then
abbrev pub address_outcome : Result (Option ℕ) DwarfError → ℕ → ℕ × ℕ
address_outcome (Ok (Some address)) old = (more, address)
address_outcome (Ok None) old = (no_address, old)
address_outcome (Err e) old = (unresolved e, old)

-- the address that a value is, in place or by its index
abbrev pub address_at : ℕ → View → GimliUnit → GimliAttr → GimliBases → ℕ → ℕ × ℕ
address_at limit addresses u a b old =
    let bases : Bases = bases_in (encoding_in u) b in
    address_outcome (address_value limit u.address_size bases.addr_base addresses (value_in a)) old
