-- Where the rows of a unit are honest, so are those from the offset of each (DWARF 5, 2.3).
use Rattle.std.specs.Prelude.{◌≡◌, ℕ, ◌-◌, ◌<◌, ◌≤◌, ℤ, pos, nat_le, nat_lt, true, List, [], ◌∷◌}
use Rattle.std.specs.Prelude.{length, Option, Some, Ok}
use Rattle.std.proofs.Common.{sym, ap, ◌∙◌, arith, inl, inr, length-drop, le-leb, lt-ltb}
use Rattle.gimli_base.specs.declared.error.Error.{Error}
use Rattle.gimli_base.specs.View.{View, cut}
use Rattle.gimli_base.specs.Reading.{Reads}
use Rattle.gimli_base.specs.View.{IsLater}
use Rattle.gimli_base.proofs.Later.{IsLater-none, IsLater-trans, IsLater-weaker}
use Rattle.gimli_base.specs.Abbreviations.{Map}
use Rattle.gimli_units.specs.Entry.{Entry, entry_at}
use Rattle.gimli_units.proofs.EntryReads.{entry_at-later, entry_at-shorter}
use Rattle.gimli_units.specs.RawPlace.{depth_after}
use Rattle.gimli_units.specs.Rows.{Row, Ahead, offset_of_view, ahead_at}
use Rattle.gimli_units.proofs.RowChain.{AreRows, exist_rows, unique_rows}
use Rattle.gimli_units.specs.Unit.{UnitView, whole_length, header_size, range_from}
use Rattle.gimli_units.specs.Honest.{AreHonest}
use Rattle.gimli_units.proofs.HonestShift.{honest_from_depth}
use Rattle.gimli_units.specs.UnitRows.{unit_rows_at, start_view, unit_rows, IsHonestAt}
use Rattle.gimli_units.specs.UnitRows.{IsHonestFrom, StandsAt}

module _ (next : View → Reads Entry) (end : ℕ)
    (later : (v w : View) (e : Entry) → Ok (e, w) ≡ next v → IsLater 1 v w)
    (shorter : (v w : View) (e : Entry) → Ok (e, w) ≡ next v
    → length w.bytes < length v.bytes) where
  -- the view at which one of the rows stands, from which on they are honest
  record Stands (top : View) (offset : ℕ) : Type 0 where
    pub view : View
    pub depth : ℤ
    pub further : IsLater 0 top view
    pub some : length view.bytes ≡ 0 → ⊥
    pub at : offset ≡ offset_of_view end view
    pub honest : AreHonest end (ahead_at next end depth view).rows

  stands : (rows : List Row) (top v : View) (depth : ℤ) (refusal : Option Error) (stop : ℕ)
      (stop_depth : ℤ) (offset : ℕ)
      → AreRows next end v depth rows refusal stop stop_depth → IsLater 0 top v → AreHonest end rows
      → StandsAt offset rows → Stands top offset
  stands [] top v depth refusal stop stop_depth offset are from honest there = absurd there
  stands (r ∷ rest) top v depth refusal stop stop_depth offset (w, is, more) from honest
      (inl here) = record {
        view = v;
        depth = depth;
        further = from;
        some = is.some;
        at = sym here ∙ is.offset;
        honest =
            rw (unique_rows next end shorter (r ∷ rest) v depth refusal stop stop_depth (w, is, more))
            honest;
      }
  stands (r ∷ rest) top v depth refusal stop stop_depth offset (w, is, more) from honest (inr on) =
      let one : IsLater 0 v w = IsLater-weaker 1 0 v w (omega arith) (later v w r.entry is.reads) in
      stands rest top w (depth_after r.entry depth) refusal stop stop_depth offset more
      (IsLater-trans 0 0 top v w from one) honest.1 on

-- Where the rows of a unit are honest from its root on, they are from the offset of each of them
-- on.
pub honest_starts : (limit : ℕ) (u : UnitView) (declared : Map)
    → length u.entries.bytes ≤ whole_length u → IsHonestAt limit u declared u.entries
    → (offset : ℕ) → StandsAt offset (unit_rows limit u declared)
    → IsHonestFrom limit u declared (start_view u (Some offset))
unfolding range_from
honest_starts limit u declared fits honest offset there =
    let next = entry_at limit u.encoding declared in
    let end = whole_length u in
    let shorter = λ (v w : View) (e : Entry) (h : Ok (e, w) ≡ next v).
    entry_at-shorter limit u.encoding declared v w e h in
    let later = λ (v w : View) (e : Entry) (h : Ok (e, w) ≡ next v).
    entry_at-later limit u.encoding declared v e w h in
    let a : Ahead = unit_rows_at limit u declared (pos 0) u.entries in
    let s = stands next end later shorter a.rows u.entries u.entries (pos 0) a.refusal a.stop
    a.stop_depth offset (exist_rows next end shorter u.entries (pos 0))
    (IsLater-none u.entries) honest there in
    let left : length s.view.bytes
    ≡ length u.entries.bytes - s.further.count =
    ap (λ (v : View). length v.bytes) s.further.is
    ∙ length-drop s.further.count u.entries.bytes in
    let some = s.some in
    let first : nat_le (header_size u) offset
    ≡ true = le-leb (header_size u) offset
    (omega (arith, fits, left, s.at, s.further.within)) in
    let second : nat_lt offset (whole_length u)
    ≡ true = lt-ltb offset (whole_length u) (omega (arith, fits, left, s.at, some)) in
    let apart : offset - header_size u
    ≡ s.further.count = omega (arith, fits, left, s.at, s.further.within) in
    let same : s.view ≡ cut (offset - header_size u) u.entries = s.further.is
    ∙ ap (λ n. cut n u.entries) (sym apart) in
    let from : AreHonest end (unit_rows_at limit u declared (pos 0) s.view).rows =
    honest_from_depth next end s.view s.depth (pos 0) s.honest in
    rw (first, second) (rw same at from)
