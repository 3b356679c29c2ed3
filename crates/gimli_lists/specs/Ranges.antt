-- The ranges of a range list (DWARF 5, 2.17.3 and 7.25; DWARF 4, 2.17.3).
use Rattle.std.specs.Prelude.{ℕ, List, Result}
use Rattle.gimli_base.specs.declared.common.Encoding.{Encoding}
use Rattle.gimli_base.specs.declared.error.Error.{Error}
use Rattle.gimli_base.specs.View.{View}
use Rattle.gimli_lists.specs.declared.rnglists.Range.{Range}
use Rattle.gimli_lists.specs.RangeEntry.{range_grammar}
use Rattle.gimli_lists.specs.Places.{ListSections, ListPlace, format_of, answers_ahead}
use Rattle.gimli_lists.specs.Places.{list_answers}
use Rattle.gimli_lists.specs.Resolved.{Resolved}

-- what stands for a range
abbrev pub resolved_of : Range → Resolved (Unit {0})
resolved_of r = record { begin = r.begin; end = r.end; payload = tt }

-- the answers of the range list that begins at a place, with the base address at hand
abbrev pub ranges_ahead : ℕ → ListPlace → List (Result (Resolved (Unit {0})) Error)
ranges_ahead limit p = answers_ahead (range_grammar limit) limit p

-- the answers of the range list at an offset, with a base address at hand, or the refusal of the
-- offset
abbrev pub range_answers : ℕ → ℕ → Encoding → ℕ → View → ℕ → ListSections
    → Result (List (Result (Resolved (Unit {0})) Error)) Error
range_answers limit offset encoding base addresses table s =
    list_answers (range_grammar limit) limit (format_of encoding.version) offset encoding base
    addresses table s
