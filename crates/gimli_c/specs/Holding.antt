-- Whether a unit holds an address, as a caller of C gets it (DWARF 5, 2.17 and 6.1.2).
use Rattle.std.specs.Prelude.{ℕ, ◌^◌, Bool, true, false, Result, Ok, Err}
use Rattle.gimli_base.specs.declared.common.SectionId.TheVariants.{DebugInfo}
use Rattle.gimli_base.specs.declared.error.Error.{Error}
use Rattle.gimli_base.specs.Abbreviations.{Map, map_at}
use Rattle.gimli_base.specs.View.{View}
use Rattle.gimli_units.specs.Unit.{UnitView}
use Rattle.gimli_headers.specs.Units.{header_at}
use Rattle.gimli_lists.specs.Places.{ListSections}
use Rattle.gimli_dwarf.specs.declared.error.DwarfError.{DwarfError}
use Rattle.gimli_dwarf.specs.declared.error.DwarfError.TheVariants.{Read}
use Rattle.gimli_dwarf.specs.Addresses.{unit_holds}
use Rattle.gimli_dwarf.specs.Bases.{and_then, or_refused}
use Rattle.gimli_c.specs.declared.bases.GimliBases.{GimliBases}
use Rattle.gimli_c.specs.declared.sections.GimliSections.{GimliSections}
use Rattle.gimli_c.specs.Bases.{bases_in}
use Rattle.gimli_c.specs.Lists.{section_is_big, range_sections}
use Rattle.gimli_c.specs.Status.{more, end, unresolved}
use Rattle.gimli_c.specs.Units.{view_in, units_view, abbreviations_view}

-- whether a unit holds an address, by the bases that a caller names
abbrev pub held_by : ℕ → GimliBases → ℕ → View → ListSections → View → UnitView → Map
    → Result Bool DwarfError
held_by limit b address addresses lists aranges u =
    unit_holds address limit (bases_in u.encoding b) addresses lists aranges u

-- the same, the unit's table read from these declarations
abbrev pub held_of_unit : ℕ → GimliBases → ℕ → View → ListSections → View → Result UnitView Error
    → View → Result Bool DwarfError
held_of_unit limit b address addresses lists aranges (Err e) declarations = Err (Read e)
held_of_unit limit b address addresses lists aranges (Ok u) declarations =
    and_then (or_refused (map_at u.abbreviations declarations))
    (held_by limit b address addresses lists aranges u)

-- the status that says so
abbrev pub held_outcome : Result Bool DwarfError → ℕ
held_outcome (Ok true) = more
held_outcome (Ok false) = end
held_outcome (Err e) = unresolved e

-- the same of the unit at an offset of a caller's `.debug_info`
abbrev pub section_held : GimliSections → ℕ → GimliBases → ℕ → ℕ
section_held s unit b address =
    held_outcome (held_of_unit (2 ^ 64) b address (view_in s s.addresses.now)
    (range_sections (section_is_big s) s) (view_in s s.aranges.now)
    (header_at (2 ^ 64) DebugInfo unit (units_view s)) (abbreviations_view s))
