-- The text of all units of `.debug_info` and of their rows, as a function of the bytes of two
-- sections (DWARF 5, 7.5).
use Rattle.std.specs.Prelude.{◌^◌, ℕ, max, List, [], ◌∷◌, ◌++◌, Option, Some, None}
use Rattle.gimli_base.specs.declared.common.SectionId.TheVariants.{DebugInfo}
use Rattle.gimli_base.specs.declared.error.Error.{Error}
use Rattle.gimli_base.specs.Refusal.{number_of}
use Rattle.gimli_base.specs.View.{View}
use Rattle.gimli_base.specs.Abbreviations.{map_at}
use Rattle.gimli_units.specs.declared.unit_type.UnitType.{UnitType}
use Rattle.gimli_units.specs.declared.unit_type.UnitType.TheVariants.{Compilation, TypeUnit}
use Rattle.gimli_units.specs.declared.unit_type.UnitType.TheVariants.{Partial, Skeleton}
use Rattle.gimli_units.specs.declared.unit_type.UnitType.TheVariants.{SplitCompilation, SplitType}
use Rattle.gimli_units.specs.declared.unit_type.UnitType.TheVariants.{Vendor}
use Rattle.gimli_units.specs.Unit.{UnitView}
use Rattle.gimli_headers.specs.Units.{Units, units_of}
use Rattle.gimli_walk.specs.Lines.{Text, one_line, unit_line, error_line}
use Rattle.gimli_walk.specs.Text.{little_view, declared_text, unit_text}

-- the number of a unit's type
abbrev pub type_number : UnitType ℕ → ℕ
type_number Compilation = 1
type_number (TypeUnit signature offset) = 2
type_number Partial = 3
type_number (Skeleton id) = 4
type_number (SplitCompilation id) = 5
type_number (SplitType signature offset) = 6
type_number (Vendor code) = code.0

-- a line before a text
abbrev pub led_by : List ℕ → Text → Text
led_by line t = record { lines = line ∷ t.lines; status = t.status }

-- the text of a unit: its own line, and then its rows
abbrev pub unit_dump : ℕ → View → UnitView → Text
unit_dump limit abbreviations u =
    led_by (unit_line u.offset u.encoding.version (type_number u.kind))
    (declared_text (unit_text limit) u (map_at u.abbreviations abbreviations))

-- the refusal that ends the units, if there is one
abbrev pub ending_text : Option Error → Text
ending_text None = record { lines = []; status = 0 }
ending_text (Some e) = one_line (error_line (number_of e)) 1

-- two texts as one, whose status is the greater of theirs
abbrev pub join_texts : Text → Text → Text
join_texts t u = record { lines = t.lines ++ u.lines; status = max t.status u.status }

-- the text of units, and then of how they end
abbrev pub all_dumps : ℕ → View → List UnitView → Option Error → Text
all_dumps limit abbreviations [] refusal = ending_text refusal
all_dumps limit abbreviations (u ∷ us) refusal =
    join_texts (unit_dump limit abbreviations u) (all_dumps limit abbreviations us refusal)

abbrev pub units_dump : ℕ → View → Units → Text
units_dump limit abbreviations us = all_dumps limit abbreviations us.items us.ending

-- the text of the units in the bytes of `.debug_info`, in little endian and with offsets of 64 bits
abbrev pub dump_of : List ℕ → List ℕ → Text
dump_of info abbreviations =
    units_dump (2 ^ 64) (little_view abbreviations) (units_of (2 ^ 64) DebugInfo (little_view info))
