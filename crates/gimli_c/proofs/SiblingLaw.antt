-- The next sibling of a row, by a cursor.
use Rattle.std.proofs.Common.{◌≡◌, ◌≤◌, ℕ, ◌-◌, pos, ℤ, Bool, true, false, if◌then◌else◌, Ok, Err}
use Rattle.std.proofs.Common.{Some, Result, refl, sym, ap, ◌∙◌, length}
use Rattle.gimli_base.specs.declared.error.Error.{Error}
use Rattle.gimli_base.specs.declared.error.Error.TheVariants.{OffsetOutOfBounds}
use Rattle.gimli_base.specs.Offset.{answer_of}
use Rattle.gimli_base.specs.View.{cut}
use Rattle.gimli_base.specs.Table.{Table, codes_of}
use Rattle.gimli_units.specs.CursorContracts.{HasReadOn}
use Rattle.gimli_units.specs.CursorModel.{CursorView, place_of, IsHonestFor}
use Rattle.gimli_units.specs.CursorPlace.{Place, Moved, next_row, next_of_depth}
use Rattle.gimli_units.specs.CursorModel.{IsHonestCursor}
use Rattle.gimli_units.proofs.PlaceLaw.{honest_for, honest_next}
use Rattle.gimli_units.proofs.Bounds.{begins_at}
use Rattle.gimli_units.specs.RawPlace.{RawPlace, next_offset_of}
use Rattle.gimli_units.specs.CursorStart.{before_first, cursor_from}
use Rattle.gimli_units.specs.Unit.{UnitView, whole_length, header_size, in_bounds, range_from}
use Rattle.gimli_units.specs.Unit.{entries_in, entries_from}
use Rattle.gimli_c.specs.declared.rows.GimliRow.{GimliRow}
use Rattle.gimli_c.specs.Siblings.{current_outcome, moved_outcome, outcome_after, place_sibling}
use Rattle.gimli_c.specs.Siblings.{unit_sibling}
use Rattle.gimli_c.specs.Status.{refusal_status, row_refused}

-- what is told of two steps, by where they end
module _ (stop : ℕ) (p q : Place) (depth : ℤ) (old : GimliRow) where
  pub entry_refused : (e : Error) → record { outcome = Err e; place = q } ≡ next_row stop p
      → (row_refused e, old) ≡ place_sibling stop p depth old
  entry_refused e is = ap (λ (m : Moved). outcome_after stop m depth old) is

  module _ (b : Bool) (first : record { outcome = Ok b; place = q } ≡ next_row stop p) (r : Place)
    where
      pub sibling_stopped : (e : Error)
          → record { outcome = Err e; place = r } ≡ next_of_depth stop q
          → (row_refused e, old) ≡ place_sibling stop p depth old
      sibling_stopped e second =
          ap (λ (m : Moved). moved_outcome depth m old) second
          ∙ ap (λ (m : Moved). outcome_after stop m depth old) first

      pub sibling_outcome : (a : Bool) → record { outcome = Ok a; place = r } ≡ next_of_depth stop q
          → current_outcome depth r old ≡ place_sibling stop p depth old
      sibling_outcome a second =
          ap (λ (m : Moved). moved_outcome depth m old) second
          ∙ ap (λ (m : Moved). outcome_after stop m depth old) first

-- a step by the same end
pub at_stop : (s t : ℕ) (q : Place) (m : Moved) → s ≡ t → m ≡ next_of_depth s q
    → m ≡ next_of_depth t q
at_stop s t q m same is = is ∙ ap (λ (n : ℕ). next_of_depth n q) same

-- the references ahead of the first entry are honest where those of a cursor before it are
pub honest_on : (limit : ℕ) (c d : CursorView) (a : Bool) → HasReadOn limit c (Ok a) d
    → (c.follows ≡ true → IsHonestCursor limit c)
    → d.follows ≡ true → IsHonestFor limit d.depth d
honest_on limit c d a read honest follows =
    honest_for limit d (honest_next limit c d (Ok a) read.unit.end
    (honest (sym read.unit.follows ∙ follows)) read.moves)

module _ (limit : ℕ) (u : UnitView) (t : Table) (follows : Bool) (offset : ℕ) (depth : ℤ)
    (old : GimliRow) where
  -- the reader at the offset
  abbrev there : RawPlace
  there =
      record {
        rest = cut (offset - header_size u) u.entries;
        encoding = u.encoding;
        abbreviations = t;
        end = whole_length u;
        depth = pos 0;
      }

  -- a cursor from an offset on stands before the rows from there on
  pub sibling_from : (c : CursorView) → Ok c ≡ cursor_from u t follows offset
      → (c.follows ≡ follows) × (place_sibling c.raw.end (place_of limit c) depth old
      ≡ unit_sibling limit u (codes_of t) offset depth old)
  unfolding entries_from range_from
  sibling_from c is = cases (in_bounds u offset) refl is
    where
      cases : (b : Bool) → b ≡ in_bounds u offset
          → Ok c ≡ answer_of (before_first follows)
          (entries_in u t (if b then Ok (cut (offset - header_size u) u.entries) else Err
          (OffsetOutOfBounds offset)))
          → (c.follows ≡ follows) × (place_sibling c.raw.end (place_of limit c) depth old
          ≡ unit_sibling limit u (codes_of t) offset depth old)
      cases true known e = let same : c ≡ before_first follows there = cc in
          rw (same, ← known) (refl, refl)
      cases false known e = absurd (cc)

  -- and reads there first
  pub begins_from : (c : CursorView) → Ok c ≡ cursor_from u t follows offset
      → length u.entries.bytes ≤ whole_length u → next_offset_of c.raw ≡ offset
  begins_from c is fits = cases (entries_from u t (Some offset)) refl is
    where
      cases : (r : Result RawPlace Error) → r ≡ entries_from u t (Some offset)
          → Ok c ≡ answer_of (before_first follows) r → next_offset_of c.raw ≡ offset
      cases (Ok p) known e =
          let same : c ≡ before_first follows p = cc in
          ap (λ (d : CursorView). next_offset_of d.raw) same ∙ begins_at u t offset p fits known
      cases (Err x) known e = absurd (cc)

  -- an offset out of bounds is refused
  pub sibling_refused : (e : Error) → Err e ≡ cursor_from u t follows offset
      → (refusal_status e, old)
      ≡ unit_sibling limit u (codes_of t) offset depth old
  unfolding entries_from range_from
  sibling_refused e is = cases (in_bounds u offset) refl is
    where
      cases : (b : Bool) → b ≡ in_bounds u offset
          → Err e ≡ answer_of (before_first follows)
          (entries_in u t (if b then Ok (cut (offset - header_size u) u.entries) else Err
          (OffsetOutOfBounds offset)))
          → (refusal_status e, old) ≡ unit_sibling limit u (codes_of t) offset depth old
      cases true known e' = absurd (cc)
      cases false known e' = let same : e ≡ OffsetOutOfBounds offset = cc in rw (same, ← known) refl
