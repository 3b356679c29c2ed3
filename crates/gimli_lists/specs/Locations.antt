-- The locations of a location list (DWARF 5, 2.6.2 and 7.7.3; DWARF 4, 2.6.2; of split files before
-- version 5, a GNU extension).
use Rattle.std.specs.Prelude.{ℕ, if◌then◌else◌, Bool, List, Result}
use Rattle.gimli_base.specs.declared.common.Encoding.{Encoding}
use Rattle.gimli_base.specs.declared.error.Error.{Error}
use Rattle.gimli_base.specs.View.{View}
use Rattle.gimli_lists.specs.declared.lists.ListsFormat.{ListsFormat}
use Rattle.gimli_lists.specs.declared.lists.ListsFormat.TheVariants.{Coded}
use Rattle.gimli_lists.specs.declared.loclists.LocationListEntry.{LocationListEntry}
use Rattle.gimli_lists.specs.LocationEntry.{location_grammar}
use Rattle.gimli_lists.specs.Places.{ListSections, ListPlace, format_of, answers_ahead}
use Rattle.gimli_lists.specs.Places.{list_answers}
use Rattle.gimli_lists.specs.Resolved.{Resolved}

-- what stands for a location: its addresses, and the view of its expression
abbrev pub location_of : {R : Type 0} → (R → View) → LocationListEntry R → Resolved View
location_of view l = record { begin = l.range.begin; end = l.range.end; payload = view l.expr.0 }

-- how a unit's location lists are written: in a split file always in the new encoding
abbrev pub location_format : Bool → ℕ → ListsFormat
location_format dwo version = if dwo then Coded else format_of version

-- the answers of the location list that begins at a place, with the base address at hand
abbrev pub locations_ahead : ℕ → ListPlace → List (Result (Resolved View) Error)
locations_ahead limit p = answers_ahead (location_grammar limit) limit p

-- the answers of the location list at an offset, in a split file or not, with a base address at
-- hand, or the refusal of the offset
abbrev pub location_answers : ℕ → Bool → ℕ → Encoding → ℕ → View → ℕ → ListSections
    → Result (List (Result (Resolved View) Error)) Error
location_answers limit dwo offset encoding base addresses table s =
    list_answers (location_grammar limit) limit (location_format dwo encoding.version) offset
    encoding base addresses table s
