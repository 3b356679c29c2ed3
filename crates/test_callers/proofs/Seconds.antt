-- The sibling of a unit's first entry, by a cursor over honest rows.
use Rattle.std.proofs.Common.{◌≡◌, ℕ, ◌-◌, pos, Bool, true, false, Option, Some, None, Ok, Err}
use Rattle.std.proofs.Common.{refl, ap, ◌∙◌}
use Rattle.std.specs.Prelude.{if◌then◌else◌}
use Rattle.gimli_base.specs.Reading.{UnlessMemory}
use Rattle.gimli_base.specs.Table.{Table, codes_of}
use Rattle.gimli_units.specs.Rows.{Ahead}
use Rattle.gimli_base.specs.declared.error.Error.TheVariants.{OffsetOutOfBounds}
use Rattle.gimli_base.specs.Offset.{answer_of}
use Rattle.gimli_base.specs.View.{cut}
use Rattle.gimli_units.specs.Unit.{UnitView, whole_length, header_size, in_bounds, range_from}
use Rattle.gimli_units.specs.Unit.{entries_in, entries_from}
use Rattle.gimli_units.specs.UnitRows.{unit_rows_at, unit_rows_from, start_view, IsHonestAt}
use Rattle.gimli_units.specs.UnitRows.{IsHonestFrom}
use Rattle.gimli_units.proofs.StartLaw.{honest_cursor}
use Rattle.gimli_units.specs.CursorPlace.{Place, Moved, next_row, next_of_depth}
use Rattle.gimli_units.specs.CursorModel.{CursorView, place_of, Goes, IsHonestFor}
use Rattle.gimli_units.specs.CursorStart.{before_first, cursor_of, cursor_from}
use Rattle.gimli_units.specs.CursorContracts.{HasReadOn}
use Rattle.gimli_units.specs.CursorModel.{IsHonestCursor}
use Rattle.gimli_units.proofs.PlaceLaw.{honest_start, honest_next, honest_for}
use Rattle.test_callers.specs.Second.{on_first, offset_if, second_of_rows}

abbrev pub offset_answer : Bool → ℕ → Option ℕ
offset_answer true offset = Some offset
offset_answer false offset = None

module _ (limit : ℕ) (u : UnitView) (t : Table) (honest : IsHonestAt limit u (codes_of t) u.entries)
  where
    abbrev rows : Ahead
    rows = unit_rows_at limit u (codes_of t) (pos 0) u.entries

    offset_is : (b : Bool) (e : CursorView) (m : Moved)
        → record { outcome = Ok b; place = place_of limit e } ≡ m
        → offset_answer b e.offset ≡ offset_if m
    offset_is true e m is = ap offset_if is
    offset_is false e m is = ap offset_if is

    pub second_is : (c d e : CursorView) (a b : Bool) → c ≡ cursor_of u t true
        → HasReadOn limit c (Ok a) d
        → (IsHonestFor limit d.depth d
        → UnlessMemory (Ok b)
        (Goes limit (next_of_depth d.raw.end) d (Ok b)
        e)) → offset_answer b e.offset ≡ second_of_rows (whole_length u) rows
    second_is c d e a b begins read steps =
        let first : CursorView = cursor_of u t true in
        let reads : HasReadOn limit first (Ok a) d = rw begins at read in
        let end : d.raw.end ≡ whole_length u = reads.unit.end in
        let start : IsHonestCursor limit first = honest_start limit first refl honest in
        let on = honest_next limit first d (Ok a) end start reads.moves in
        let goes = steps (honest_for limit d on) in
        let place : place_of limit d
        ≡ on_first (whole_length u) rows = ap (λ (m : Moved). m.place) reads.moves in
        offset_is b e _ goes
        ∙ ap offset_if
        (ap (λ (n : ℕ). next_of_depth n (place_of limit d)) end
        ∙ ap (next_of_depth (whole_length u)) place)

-- a cursor from an offset on stands before the rows from there on
module _ (limit : ℕ) (u : UnitView) (t : Table) (offset : ℕ) where
  abbrev before : Place
  before =
      record {
        ahead = unit_rows_from limit u (codes_of t) offset (pos 0);
        current = None;
        offset = 0;
        depth = pos 0;
      }

  begins_at : (c : CursorView) → Ok c ≡ cursor_from u t true offset
      → (c.raw.end ≡ whole_length u) × (place_of limit c ≡ before)
  unfolding entries_from range_from
  begins_at c is = cases (in_bounds u offset) is
    where
      cases : (b : Bool)
          → Ok c
          ≡ answer_of (before_first true)
          (entries_in u t
          (if b then Ok (cut (offset - header_size u) u.entries) else Err
          (OffsetOutOfBounds offset)))
          → (c.raw.end ≡ whole_length u) × (place_of limit c ≡ before)
      cases true e = let same : c ≡ before_first true _ = cc in rw same (refl, refl)
      cases false e = absurd (cc)

  pub sibling_is : (c d e : CursorView) (a b : Bool) → Ok c ≡ cursor_from u t true offset
      → IsHonestFrom limit u (codes_of t) (start_view u (Some offset)) → HasReadOn limit c (Ok a) d
      → (IsHonestFor limit d.depth d
      → UnlessMemory (Ok b) (Goes limit (next_of_depth d.raw.end) d (Ok b) e))
      → offset_answer b e.offset
      ≡ second_of_rows (whole_length u) (unit_rows_from limit u (codes_of t) offset (pos 0))
  sibling_is c d e a b begins honest reads steps =
      let at = begins_at c begins in
      let end : d.raw.end ≡ c.raw.end = reads.unit.end in
      let start : IsHonestCursor limit c = honest_cursor limit u t true (Some offset) c begins
      honest in
      let on = honest_next limit c d (Ok a) end start reads.moves in
      let goes = steps (honest_for limit d on) in
      let place : place_of limit d ≡ (next_row (whole_length u) before).place =
      ap (λ (m : Moved). m.place) reads.moves
      ∙ ap (λ (n : ℕ). (next_row n (place_of limit c)).place) at.0
      ∙ ap (λ (p : Place). (next_row (whole_length u) p).place) at.1 in
      is_offset b e _ goes
      ∙ ap offset_if
      (ap (λ (n : ℕ). next_of_depth n (place_of limit d)) (end ∙ at.0)
      ∙ ap (next_of_depth (whole_length u)) place)
    where
      is_offset : (b : Bool) (e : CursorView) (m : Moved)
          → record { outcome = Ok b; place = place_of limit e } ≡ m
          → offset_answer b e.offset ≡ offset_if m
      is_offset true e m is = ap offset_if is
      is_offset false e m is = ap offset_if is
