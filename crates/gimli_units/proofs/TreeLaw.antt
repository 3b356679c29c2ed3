-- What the steps of a tree keep: honest rows stay honest, and what is read is the unit's (DWARF 5,
-- 2.3).
use Rattle.std.specs.Prelude.{◌≡◌, ℕ, ◌-◌, ◌<◌, ◌≤◌, ℤ, Bool, true, nat_le, nat_lt, length, Result}
use Rattle.std.specs.Prelude.{Ok}
use Rattle.std.proofs.Common.{refl, arith, le-leb, lt-ltb}
use Rattle.gimli_base.specs.declared.error.Error.{Error}
use Rattle.gimli_base.specs.Table.{Table, codes_of}
use Rattle.gimli_base.specs.View.{cut}
use Rattle.gimli_units.specs.Entry.{entry_at}
use Rattle.gimli_units.specs.RawPlace.{RawPlace, next_offset_of}
use Rattle.gimli_units.specs.Rows.{Ahead}
use Rattle.gimli_units.specs.Honest.{AreHonest}
use Rattle.gimli_units.specs.Unit.{UnitView, whole_length, header_size, range_from, some_entry}
use Rattle.gimli_units.specs.Unit.{unit_entry_at}
use Rattle.gimli_units.specs.CursorPlace.{is_entry, has_depth, skip_until, seek, first_of_rows}
use Rattle.gimli_units.specs.CursorModel.{CursorView, next_of, rows_of, place_of, view_from}
use Rattle.gimli_units.specs.CursorModel.{IsHonestFor}
use Rattle.gimli_units.proofs.CursorLaw.{StandsIn, unit_view, header_low, entry_law}
use Rattle.gimli_units.specs.CursorStart.{before_first}
use Rattle.gimli_units.specs.TreeMoves.{TreeView, HasBegun, HasGoneOn}
use Rattle.gimli_units.specs.CursorModel.{IsHonestCursor}
use Rattle.gimli_units.proofs.PlaceLaw.{honest_until, honest_skip, linked_skip}
use Rattle.gimli_units.proofs.PlaceLaw.{linked_rows, arrived}

module _ (limit : ℕ) where
  -- where all rows are honest, so are those of any depth
  pub honest_at : (c : CursorView) (d : ℤ) → IsHonestCursor limit c → IsHonestFor limit d c
  honest_at c d h =
      record {
        current = λ deep. h.current;
        ahead = honest_until c.raw.end d (rows_of limit c.raw).rows h.ahead;
      }

  -- a search for a depth leads to honest rows
  pub honest_sought : (c new : CursorView) (outcome : Result Bool Error) (d : ℤ) (o : ℕ)
      → new.raw.end ≡ c.raw.end → IsHonestCursor limit c
      → record { outcome = outcome; place = place_of limit new }
      ≡ seek c.raw.end d o (rows_of limit c.raw) → IsHonestCursor limit new
  unfolding seek
  honest_sought c new outcome d o same h is =
      let a : Ahead = rows_of limit c.raw in
      arrived limit new c.raw.end a.rows (skip_until (has_depth d) a.rows) a.refusal a.stop
      a.stop_depth o d is_entry outcome same
      (honest_skip c.raw.end (has_depth d) a.rows h.ahead)
      (linked_skip a.stop (has_depth d) a.rows (linked_rows limit c.raw)) is

  -- and so does the first row
  pub honest_first : (p : RawPlace) (new : CursorView) (outcome : Result Bool Error) (d : ℤ) (o : ℕ)
      → new.raw.end ≡ p.end → AreHonest p.end (rows_of limit p).rows
      → record { outcome = outcome; place = place_of limit new }
      ≡ first_of_rows p.end d o (rows_of limit p) → IsHonestCursor limit new
  unfolding first_of_rows
  honest_first p new outcome d o same h is =
      let a : Ahead = rows_of limit p in
      arrived limit new p.end a.rows a.rows a.refusal a.stop a.stop_depth o d is_entry outcome same
      h (linked_rows limit p) is

-- what a cursor would read at an offset is what the unit has there
pub unit_reads : (limit : ℕ) (u : UnitView) (t : Table)
    (fits : length u.entries.bytes ≤ whole_length u) (c : CursorView) (s : StandsIn u t c) (o : ℕ)
    → next_offset_of c.raw ≤ o → o < whole_length u
    → unit_entry_at limit u (codes_of t) o ≡ some_entry o (next_of limit c.raw (view_from c.raw o))
unfolding unit_entry_at range_from
unit_reads limit u t fits c s o low high =
    let below = header_low limit u t fits c s in
    let first : nat_le (header_size u) o
    ≡ true = le-leb (header_size u) o (omega (arith, below, low)) in
    let second : nat_lt o (whole_length u) ≡ true = lt-ltb o (whole_length u) high in
    rw (first, second, unit_view limit u t fits c s o low, s.encoding, s.abbreviations) refl

-- and so are the bytes that stand there
pub unit_bytes : (limit : ℕ) (u : UnitView) (t : Table)
    (fits : length u.entries.bytes ≤ whole_length u) (c : CursorView) (s : StandsIn u t c) (o : ℕ)
    → next_offset_of c.raw ≤ o
    → next_of limit c.raw (view_from c.raw o)
    ≡ entry_at limit u.encoding (codes_of t) (cut (o - header_size u) u.entries)
unit_bytes limit u t fits c s o low =
    rw (unit_view limit u t fits c s o low, s.encoding, s.abbreviations) refl

-- the root that was asked for is the unit's entry at its offset, in all but depth
pub root_law : (limit : ℕ) (u : UnitView) (t : Table) → length u.entries.bytes ≤ whole_length u
    → (old new : TreeView) → StandsIn u t (before_first true old.start)
    → HasBegun limit old (Ok tt) new
    → unit_entry_at limit u (codes_of t) new.cursor.offset ≡ Ok new.cursor.entry
root_law limit u t fits old new s h =
    let y = h.yes refl in
    entry_law limit u t fits (before_first true old.start) s new.cursor h.unit.end y.0 y.1

-- and so is the next node of a list
pub next_law : (limit : ℕ) (u : UnitView) (t : Table) → length u.entries.bytes ≤ whole_length u
    → (depth : ℤ) (old new : TreeView) → StandsIn u t old.cursor
    → HasGoneOn limit depth old (Ok true) new
    → unit_entry_at limit u (codes_of t) new.cursor.offset ≡ Ok new.cursor.entry
next_law limit u t fits depth old new s h =
    let y = h.sought.yes refl in
    entry_law limit u t fits old.cursor s new.cursor h.sought.unit.end y.0 y.1
