-- The next sibling of a row, and the first reference that is false (DWARF 5, 2.3).
use Rattle.std.specs.Prelude.{ℕ, ℤ, pos, ◌^◌, cond, if◌then◌else◌, Option, Some, None, Result}
use Rattle.std.specs.Prelude.{Ok, Err}
use Rattle.gimli_base.specs.declared.error.Error.{Error}
use Rattle.gimli_base.specs.declared.error.Error.TheVariants.{OffsetOutOfBounds}
use Rattle.gimli_base.specs.View.{View}
use Rattle.gimli_base.specs.Abbreviations.{Map, map_at}
use Rattle.gimli_units.specs.CursorPlace.{Place, Moved, next_row, next_of_depth}
use Rattle.gimli_units.specs.FirstFalse.{first_false}
use Rattle.gimli_units.specs.Unit.{UnitView, whole_length, in_bounds}
use Rattle.gimli_units.specs.UnitRows.{unit_rows_from, unit_rows, start_view, IsHonestFrom}
use Rattle.gimli_units.specs.UnitRows.{StandsAt}
use Rattle.gimli_walk.specs.Cursors.{start_of}
use Rattle.gimli_c.specs.declared.rows.GimliRow.{GimliRow}
use Rattle.gimli_c.specs.declared.sections.GimliSections.{GimliSections}
use Rattle.gimli_c.specs.Status.{more, end, refusal_status, row_refused}
use Rattle.gimli_c.specs.Units.{section_unit, abbreviations_view}

-- the status and the row where a walk stands: the current entry, as a row of this depth, or none
abbrev pub current_outcome : ℤ → Place → GimliRow → ℕ × GimliRow
current_outcome depth p old = elim p.current [
  | Some e ↦ (
    more,
    record {
      offset = p.offset;
      depth = depth;
      tag = e.tag.0;
      has_children = cond e.has_children 1 0;
    },
  )
  | None ↦ (end, old)
]

-- the same after a step, which may be refused
abbrev pub moved_outcome : ℤ → Moved → GimliRow → ℕ × GimliRow
moved_outcome depth m old = elim m.outcome [
  | Ok b ↦ current_outcome depth m.place old
  | Err e ↦ (row_refused e, old)
]

-- a step after another
abbrev pub outcome_after : ℕ → Moved → ℤ → GimliRow → ℕ × GimliRow
outcome_after stop m depth old = elim m.outcome [
  | Ok b ↦ moved_outcome depth (next_of_depth stop m.place) old
  | Err e ↦ (row_refused e, old)
]

-- the next sibling of the row that is read at a place
abbrev pub place_sibling : ℕ → Place → ℤ → GimliRow → ℕ × GimliRow
place_sibling stop p depth old = outcome_after stop (next_row stop p) depth old

-- the next sibling of the row at an offset of a unit, as a row of this depth
abbrev pub unit_sibling : ℕ → UnitView → Map → ℕ → ℤ → GimliRow → ℕ × GimliRow
unit_sibling limit u declared offset depth old =
    if in_bounds u offset
    then place_sibling (whole_length u) (start_of (unit_rows_from limit u declared offset (pos 0)))
    depth old
    else (refusal_status (OffsetOutOfBounds offset), old)

abbrev pub declared_sibling : ℕ → UnitView → Result Map Error → ℕ → ℤ → GimliRow → ℕ × GimliRow
declared_sibling limit u (Ok declared) offset depth old =
    unit_sibling limit u declared offset depth old
declared_sibling limit u (Err e) offset depth old = (refusal_status e, old)

abbrev pub read_sibling : ℕ → Result UnitView Error → View → ℕ → ℤ → GimliRow → ℕ × GimliRow
read_sibling limit (Ok u) declarations offset depth old =
    declared_sibling limit u (map_at u.abbreviations declarations) offset depth old
read_sibling limit (Err e) declarations offset depth old = (refusal_status e, old)

-- the references from an offset of a unit on are honest
abbrev pub AreDeclaredHonest : ℕ → UnitView → Result Map Error → ℕ → Type 0
AreDeclaredHonest limit u (Ok declared) offset =
    IsHonestFrom limit u declared (start_view u (Some offset))
AreDeclaredHonest limit u (Err e) offset = Unit {0}

abbrev pub AreHonestIn : ℕ → Result UnitView Error → View → ℕ → Type 0
AreHonestIn limit (Ok u) declarations offset =
    AreDeclaredHonest limit u (map_at u.abbreviations declarations) offset
AreHonestIn limit (Err e) declarations offset = Unit {0}

-- those of a caller's unit
abbrev pub UnitIsHonest : GimliSections → ℕ → ℕ → Type 0
UnitIsHonest s unit offset =
    AreHonestIn (2 ^ 64) (section_unit s unit) (abbreviations_view s) offset

-- the next sibling in a caller's unit
abbrev pub section_sibling : GimliSections → ℕ → ℕ → ℤ → GimliRow → ℕ × GimliRow
section_sibling s unit offset depth old =
    read_sibling (2 ^ 64) (section_unit s unit) (abbreviations_view s) offset depth old

-- the offset of the first row whose reference is false
abbrev pub offset_outcome : Option ℕ → ℕ → ℕ × ℕ
offset_outcome (Some offset) old = (more, offset)
offset_outcome None old = (end, old)

abbrev pub declared_false : ℕ → UnitView → Result Map Error → ℕ → ℕ × ℕ
declared_false limit u (Ok declared) old =
    offset_outcome (first_false (whole_length u) (unit_rows limit u declared)) old
declared_false limit u (Err e) old = (refusal_status e, old)

abbrev pub read_false : ℕ → Result UnitView Error → View → ℕ → ℕ × ℕ
read_false limit (Ok u) declarations old =
    declared_false limit u (map_at u.abbreviations declarations) old
read_false limit (Err e) declarations old = (refusal_status e, old)

-- the first in a caller's unit
abbrev pub section_false : GimliSections → ℕ → ℕ → ℕ × ℕ
section_false s unit old =
    read_false (2 ^ 64) (section_unit s unit) (abbreviations_view s) old

-- a row stands at an offset of a unit
abbrev pub StandsDeclared : ℕ → UnitView → Result Map Error → ℕ → Type 0
StandsDeclared limit u (Ok declared) offset = StandsAt offset (unit_rows limit u declared)
StandsDeclared limit u (Err e) offset = ⊥

abbrev pub StandsIn : ℕ → Result UnitView Error → View → ℕ → Type 0
StandsIn limit (Ok u) declarations offset =
    StandsDeclared limit u (map_at u.abbreviations declarations) offset
StandsIn limit (Err e) declarations offset = ⊥

abbrev pub IsRowOf : GimliSections → ℕ → ℕ → Type 0
IsRowOf s unit offset =
    StandsIn (2 ^ 64) (section_unit s unit) (abbreviations_view s) offset
