-- Whether a unit holds an address (DWARF 5, 2.17 and 6.1.2).
use Rattle.std.specs.Prelude.{ℕ, ◌-◌, ◌==◌, nat_le, nat_lt, ◌&&◌, if◌then◌else◌, Bool, true, false}
use Rattle.std.specs.Prelude.{List, [], ◌∷◌, Option, Some, None, Result, Ok, Err}
use Rattle.std.specs.Option.{option_map}
use Rattle.gimli_base.specs.declared.common.DwarfFileType.{DwarfFileType}
use Rattle.gimli_base.specs.declared.common.DwarfFileType.TheVariants.{Main, Dwo}
use Rattle.gimli_base.specs.declared.error.Error.{Error}
use Rattle.gimli_base.specs.Abbreviations.{Map}
use Rattle.gimli_base.specs.View.{View}
use Rattle.gimli_units.specs.Entry.{Attr, first_of}
use Rattle.gimli_units.specs.NormalValue.{normal_value, udata_of}
use Rattle.gimli_units.specs.Unit.{UnitView, unit_entry_at, header_size, debug_info_offset}
use Rattle.gimli_units.specs.Value.{Value}
use Rattle.gimli_lists.specs.ArangeSets.{ArangeSet, set_holds, sets_of}
use Rattle.gimli_lists.specs.Places.{ListSections, ListPlace}
use Rattle.gimli_lists.specs.Ranges.{ranges_ahead}
use Rattle.gimli_lists.specs.Resolved.{Resolved}
use Rattle.gimli_dwarf.specs.declared.address.End.{End}
use Rattle.gimli_dwarf.specs.declared.address.End.TheVariants.{Address, Length}
use Rattle.gimli_dwarf.specs.declared.error.DwarfError.{DwarfError}
use Rattle.gimli_dwarf.specs.declared.error.DwarfError.TheVariants.{Read}
use Rattle.gimli_dwarf.specs.Bases.{Bases, and_then, or_refused, address_value}
use Rattle.gimli_dwarf.specs.Lists.{ranges_of_value}

-- whether a range of a list holds an address; a refusal counts where none before it does
abbrev pub held_in : ℕ → List (Result (Resolved (Unit {0})) Error) → Result Bool DwarfError
held_in address [] = Ok false
held_in address (Ok r ∷ rest) =
    if nat_le r.begin address && nat_lt address r.end then Ok true else held_in address rest
held_in address (Err e ∷ rest) = Err (Read e)

-- the end that a value says, by the address or the number that it is
abbrev pub end_of : Option ℕ → Option ℕ → Option End
end_of (Some address) length = Some (Address address)
end_of None (Some length) = Some (Length length)
end_of None None = None

-- whether an address lies in a span, which has to have a beginning and an end
abbrev pub span_holds : Option ℕ → Option End → ℕ → Bool
span_holds (Some low) (Some (Address end)) address = nat_le low address && nat_lt address end
span_holds (Some low) (Some (Length length)) address =
    nat_le low address && nat_lt (address - low) length
span_holds (Some low) None address = false
span_holds None end address = false

-- the value of the first attribute of a name, and what its name makes of it
abbrev pub raw_value_named : ℕ → List Attr → Option Value
raw_value_named name attributes = option_map (λ a. a.value) (first_of name attributes)

abbrev pub value_named : ℕ → List Attr → Option Value
value_named name attributes =
    option_map (λ a. normal_value a.name.0 a.value) (first_of name attributes)

-- the address that such a value is, if there is one
abbrev pub address_in : ℕ → Bases → View → Option Value → Result (Option ℕ) DwarfError
address_in limit b addresses None = Ok None
address_in limit b addresses (Some x) =
    address_value limit b.encoding.address_size b.addr_base addresses x

-- where a span ends, by the value of DW_AT_high_pc, if there is one: an address, or the number of
-- bytes
abbrev pub end_in : ℕ → Bases → View → Option Value → Result (Option End) DwarfError
end_in limit b addresses None = Ok None
end_in limit b addresses (Some x) =
    and_then (address_value limit b.encoding.address_size b.addr_base addresses x)
    (λ address. Ok (end_of address (udata_of x)))

-- the range list of such a value, if there is one
abbrev pub list_in : ℕ → Bases → View → ListSections → Option Value
    → Result (Option ListPlace) DwarfError
list_in limit b addresses s None = Ok None
list_in limit b addresses s (Some x) = ranges_of_value limit b addresses s x

-- whether an address lies between DW_AT_low_pc and DW_AT_high_pc
abbrev pub named_span_holds : ℕ → ℕ → Bases → View → List Attr → Result Bool DwarfError
named_span_holds address limit b addresses attributes =
    and_then (address_in limit b addresses (raw_value_named 0x11 attributes)) (λ low.
    and_then (end_in limit b addresses (raw_value_named 0x12 attributes)) (λ end.
    Ok (span_holds low end address)))

-- whether the ranges of a root hold an address: those of the list of DW_AT_ranges, or else those from
-- DW_AT_low_pc up to DW_AT_high_pc
abbrev pub root_holds : ℕ → ℕ → Bases → View → ListSections → List Attr → Result Bool DwarfError
root_holds address limit b addresses s attributes =
    and_then (list_in limit b addresses s (value_named 0x55 attributes)) (λ list. elim list [
      | Some p ↦ held_in address (ranges_ahead limit p)
      | None ↦ named_span_holds address limit b addresses attributes
    ])

-- a set of the unit that holds the address says so; one that does not, where no later one does
abbrev pub set_says : Bool → Result (Option Bool) Error → Result (Option Bool) Error
set_says true rest = Ok (Some true)
set_says false (Ok None) = Ok (Some false)
set_says false (Ok (Some holds)) = Ok (Some holds)
set_says false (Err e) = Err e

-- whether one of these sets is the unit's and holds the address; none where none is the unit's. A
-- refused header counts where no set before it holds the address.
abbrev pub sets_say : ℕ → ℕ → List (Result ArangeSet Error) → Result (Option Bool) Error
sets_say unit address [] = Ok None
sets_say unit address (Ok s ∷ rest) =
    if s.info_offset == unit then set_says (set_holds address s) (sets_say unit address rest)
    else sets_say unit address rest
sets_say unit address (Err e ∷ rest) = Err e

-- the same of the sets of a section
abbrev pub sets_hold : ℕ → ℕ → ℕ → View → Result (Option Bool) Error
sets_hold address limit unit aranges = sets_say unit address (sets_of limit aranges)

-- the same of a unit that has an offset in `.debug_info`, and of one that has none
abbrev pub sets_at : ℕ → ℕ → Option ℕ → View → Result (Option Bool) Error
sets_at address limit None aranges = Ok None
sets_at address limit (Some unit) aranges = sets_hold address limit unit aranges

-- the same of a unit of a file of this kind: the sets name units of a program alone
abbrev pub sets_of_unit : ℕ → ℕ → DwarfFileType → UnitView → View → Result (Option Bool) Error
sets_of_unit address limit Main u aranges = sets_at address limit (debug_info_offset u) aranges
sets_of_unit address limit Dwo u aranges = Ok None

-- Whether a unit holds an address: by its sets of `.debug_aranges`, or by its root where it has none.
abbrev pub unit_holds : ℕ → ℕ → Bases → View → ListSections → View → UnitView → Map
    → Result Bool DwarfError
unit_holds address limit b addresses s aranges u declared =
    and_then (or_refused (sets_of_unit address limit b.file_type u aranges)) (λ said. elim said [
      | Some holds ↦ Ok holds
      | None ↦ and_then (or_refused (unit_entry_at limit u declared (header_size u)))
          (λ root. root_holds address limit b addresses s root.attributes)
    ])
