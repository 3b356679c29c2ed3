-- The row of the first row's depth after it, if there is one that is no null before a null of that
-- depth (DWARF 5, 2.3).
use Rattle.std.specs.Prelude.{ℕ, pos, true, false, Option, Some, None, Ok, Err}
use Rattle.gimli_units.specs.Rows.{Ahead}
use Rattle.gimli_units.specs.CursorPlace.{Place, Moved, next_row, next_of_depth}

-- the place on the first row
abbrev pub on_first : ℕ → Ahead → Place
on_first end rows =
    (next_row end (record { ahead = rows; current = None; offset = 0; depth = pos 0 })).place

-- where a sibling that was found stands
abbrev pub offset_if : Moved → Option ℕ
offset_if m =
    elim m.outcome [ Ok b ↦ elim b [ true ↦ Some m.place.offset | false ↦ None ] | Err e ↦ None ]

abbrev pub second_of_rows : ℕ → Ahead → Option ℕ
second_of_rows end rows = offset_if (next_of_depth end (on_first end rows))
