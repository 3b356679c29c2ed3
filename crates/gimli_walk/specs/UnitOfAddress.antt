-- The unit to which an address belongs (DWARF 5, 6.1.2).
use Rattle.std.specs.Prelude.{ℕ, ◌^◌, ◌++◌, codes, if◌then◌else◌}
use Rattle.std.specs.Prelude.{List, [], ◌∷◌, Option, Some, None, Result, Ok, Err}
use Rattle.gimli_base.specs.declared.error.Error.{Error}
use Rattle.gimli_base.specs.Refusal.{number_of}
use Rattle.gimli_base.specs.View.{View}
use Rattle.gimli_lists.specs.ArangeSets.{ArangeSet, set_holds, sets_of}
use Rattle.gimli_walk.specs.Lines.{Text, one_line, hexadecimal, error_line}
use Rattle.gimli_walk.specs.Text.{little_view}

-- the unit of the first of these sets that has one; a refused header counts where no set before it
-- has
abbrev pub unit_among : ℕ → List (Result ArangeSet Error) → Result (Option ℕ) Error
unit_among address [] = Ok None
unit_among address (Ok s ∷ rest) =
    if set_holds address s then Ok (Some s.info_offset) else unit_among address rest
unit_among address (Err e ∷ rest) = Err e

-- the unit of the first set of a section
abbrev pub unit_holding : ℕ → ℕ → View → Result (Option ℕ) Error
unit_holding limit address v = unit_among address (sets_of limit v)

-- the line of a unit that was found
unfoldable pub found_line : ℕ → List ℕ
found_line offset = codes "unit " ++ (hexadecimal offset ++ (10 ∷ []))

abbrev pub none_line : List ℕ
none_line = codes "none\n"

-- the text of what was found
abbrev pub found_text : Result (Option ℕ) Error → Text
found_text (Ok (Some offset)) = one_line (found_line offset) 0
found_text (Ok None) = one_line none_line 0
found_text (Err e) = one_line (error_line (number_of e)) 1

-- the text of the search for an address in the bytes of `.debug_aranges`, in little endian and with
-- offsets of 64 bits
abbrev pub find_of : ℕ → List ℕ → Text
find_of address aranges = found_text (unit_holding (2 ^ 64) address (little_view aranges))
