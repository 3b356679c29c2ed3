-- A place that moves over the rows of a unit, and the answer of each step (DWARF 5, 2.3).
use Rattle.std.specs.Prelude.{◌≡◌, ◌⊎◌, ℕ, ℤ, Bool, true, false, not, if◌then◌else◌, List, [], ◌∷◌}
use Rattle.std.specs.Prelude.{Option, Some, None, Result, Ok, Err}
use Rattle.std.specs.Ordering.{int_eq}
use Rattle.gimli_base.specs.declared.error.Error.{Error}
use Rattle.gimli_units.specs.Entry.{Entry, is_null}
use Rattle.gimli_units.specs.Rows.{Row, Ahead}
use Rattle.gimli_units.specs.Rows.{no_row}

-- A place: the rows that are ahead, the current entry, if there is one, and a pair of offset and
-- depth. Where there is a current entry, the pair is its own. After a refusal no row is ahead, and
-- the place is at the end of the bytes.
pub record Place : Type 0 where
  pub ahead : Ahead
  pub current : Option Entry
  pub offset : ℕ
  pub depth : ℤ

-- what a step answers, and where it leads
pub record Moved : Type 0 where
  pub outcome : Result Bool Error
  pub place : Place

-- an entry, if it is no null
abbrev pub some_of : Entry → Option Entry
some_of e = if is_null e then None else Some e

abbrev pub is_entry : Row → Bool
is_entry r = not (is_null r.entry)

-- Where there is no row to take: at the end of the bytes the pair is the one that is given; a
-- refusal ends the walk, and the pair is that of the place after the last row. `end` is the offset
-- of the end of the bytes.
abbrev pub ran_out : ℕ → Ahead → ℕ → ℤ → Moved
ran_out end a offset depth = elim a.refusal [
  | None ↦
      record {
        outcome = Ok false;
        place =
            record {
              ahead = no_row None a.stop a.stop_depth;
              current = None;
              offset = offset;
              depth = depth;
            };
      }
  | Some e ↦
      record {
        outcome = Err e;
        place =
            record {
              ahead = no_row None end a.stop_depth;
              current = None;
              offset = a.stop;
              depth = a.stop_depth;
            };
      }
]

-- Takes the first of these rows, which are the last of those ahead; where there is none, `offset`
-- and `depth` are the pair at the end of the bytes.
abbrev pub arrive : ℕ → Ahead → ℕ → ℤ → (Row → Bool) → List Row → Moved
arrive end a offset depth answer [] = ran_out end a offset depth
arrive end a offset depth answer (r ∷ rest) = record {
  outcome = Ok (answer r);
  place =
      record {
        ahead =
            record { rows = rest; refusal = a.refusal; stop = a.stop; stop_depth = a.stop_depth };
        current = some_of r.entry;
        offset = r.offset;
        depth = r.depth;
      };
}

-- the rows from the first on that passes a test
abbrev pub skip_until : (Row → Bool) → List Row → List Row
skip_until test [] = []
skip_until test (r ∷ rest) = if test r then r ∷ rest else skip_until test rest

-- the pair of the last row, or the one that is given
abbrev pub last_offset : ℕ → List Row → ℕ
last_offset offset [] = offset
last_offset offset (r ∷ rest) = last_offset r.offset rest

abbrev pub last_depth : ℤ → List Row → ℤ
last_depth depth [] = depth
last_depth depth (r ∷ rest) = last_depth r.depth rest

-- the first row ahead
unfoldable pub next_row : ℕ → Place → Moved
next_row end p = arrive end p.ahead p.offset p.depth (λ r. true) p.ahead.rows

-- the first row ahead that is no null; at the end of the bytes the pair is that of the last null
-- passed
unfoldable pub next_in_depth_first_order : ℕ → Place → Moved
next_in_depth_first_order end p =
    arrive end p.ahead (last_offset p.offset p.ahead.rows) (last_depth p.depth p.ahead.rows)
    (λ r. true) (skip_until is_entry p.ahead.rows)

-- a row that has this depth
abbrev pub has_depth : ℤ → Row → Bool
has_depth depth r = int_eq r.depth depth

-- the first row of this depth; at the end of the bytes the pair is `offset` and that depth
unfoldable pub seek : ℕ → ℤ → ℕ → Ahead → Moved
seek end depth offset a = arrive end a offset depth is_entry (skip_until (has_depth depth) a.rows)

-- the first row ahead, where a reference led; at the end of the bytes the pair is `offset` and
-- `depth`
unfoldable pub first_of_rows : ℕ → ℤ → ℕ → Ahead → Moved
first_of_rows end depth offset a = arrive end a offset depth is_entry a.rows

-- the next sibling: from a current entry the first row of its depth, and without one nothing moves
unfoldable pub next_of_depth : ℕ → Place → Moved
next_of_depth end p = elim p.current [
  | None ↦ record { outcome = Ok false; place = p }
  | Some e ↦ seek end p.depth p.offset p.ahead
]

-- a pair of offset and depth is that of the first of these rows that passes a test, or of one
-- before it, or of the place after them, where none does
abbrev pub IsPlaceUntil : (Row → Bool) → ℕ → ℤ → ℕ → ℤ → List Row → Type 0
IsPlaceUntil test stop stop_depth offset depth [] = (offset ≡ stop) × (depth ≡ stop_depth)
IsPlaceUntil test stop stop_depth offset depth (r ∷ rest) =
    ((offset ≡ r.offset) × (depth ≡ r.depth))
    ⊎ ((test r ≡ false) × IsPlaceUntil test stop stop_depth offset depth rest)

-- the offset and the depth of the next row
abbrev pub next_offset : Ahead → ℕ
next_offset a = elim a.rows [ [] ↦ a.stop | r ∷ rest ↦ r.offset ]

abbrev pub next_depth : Ahead → ℤ
next_depth a = elim a.rows [ [] ↦ a.stop_depth | r ∷ rest ↦ r.depth ]
