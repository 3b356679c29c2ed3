-- What the steps of a place keep: honest rows stay honest, from wherever a step leads (DWARF 5,
-- 2.3).
use Rattle.std.specs.Prelude.{◌≡◌, ℕ, ℤ, Bool, true, false, if◌then◌else◌, List, [], ◌∷◌, Option}
use Rattle.std.specs.Prelude.{Some, None, Result, Ok}
use Rattle.std.proofs.Common.{refl, sym, ap, ◌∙◌}
use Rattle.gimli_base.specs.declared.error.Error.{Error}
use Rattle.gimli_base.specs.View.{View}
use Rattle.gimli_base.specs.Reading.{Reads}
use Rattle.gimli_base.specs.Table.{codes_of}
use Rattle.gimli_units.specs.Entry.{Entry, is_null}
use Rattle.gimli_units.proofs.EntryReads.{entry_at-shorter}
use Rattle.gimli_units.specs.RawPlace.{RawPlace, next_offset_of, depth_after}
use Rattle.gimli_units.specs.Rows.{Row, Ahead, offset_of_view}
use Rattle.gimli_units.proofs.RowChain.{AreRows, AreAhead, exist_rows}
use Rattle.gimli_units.specs.Honest.{usable_target, IsHonest, AreHonest, AreHonestUntil}
use Rattle.gimli_units.specs.CursorPlace.{Moved, some_of, is_entry, has_depth, arrive, skip_until}
use Rattle.gimli_units.specs.CursorPlace.{last_offset, last_depth, next_row}
use Rattle.gimli_units.specs.CursorPlace.{next_in_depth_first_order, seek, next_of_depth}
use Rattle.gimli_units.specs.CursorPlace.{next_offset, next_depth}
use Rattle.gimli_units.specs.CursorModel.{CursorView, next_of, rows_of, place_of, last_row, Goes}
use Rattle.gimli_units.specs.CursorModel.{IsHonestFor, IsHonestCursor}

-- each row is followed by the one that stands after it
abbrev pub AreLinked : ℕ → List Row → Type 0
AreLinked stop [] = Unit {0}
AreLinked stop (r ∷ rest) =
    (r.next ≡ elim rest [ [] ↦ stop | x ∷ xs ↦ x.offset ]) × AreLinked stop rest

module _ (next : View → Reads Entry) (end : ℕ) where
  -- the first row of a view stands where it begins
  first_is : (rows : List Row) (v : View) (depth : ℤ) (refusal : Option Error) (stop : ℕ)
      (stop_depth : ℤ) → AreRows next end v depth rows refusal stop stop_depth
      → (offset_of_view end v ≡ elim rows [ [] ↦ stop | r ∷ rest ↦ r.offset ])
      × (depth ≡ elim rows [ [] ↦ stop_depth | r ∷ rest ↦ r.depth ])
  first_is [] v depth None stop stop_depth are = (sym are.1, sym are.2)
  first_is [] v depth (Some e) stop stop_depth are = (sym are.2, sym are.3)
  first_is (r ∷ rest) v depth refusal stop stop_depth (w, is, more) =
      (sym is.offset, sym is.depth_is)

  linked : (rows : List Row) (v : View) (depth : ℤ) (refusal : Option Error) (stop : ℕ)
      (stop_depth : ℤ) → AreRows next end v depth rows refusal stop stop_depth → AreLinked stop rows
  linked [] v depth refusal stop stop_depth are = tt
  linked (r ∷ rest) v depth refusal stop stop_depth (w, is, more) = (
    is.after ∙ (first_is rest w (depth_after r.entry depth) refusal stop stop_depth more).0,
    linked rest w (depth_after r.entry depth) refusal stop stop_depth more,
  )

pub honest_skip : (end : ℕ) (test : Row → Bool) (rows : List Row) → AreHonest end rows
    → AreHonest end (skip_until test rows)
honest_skip end test [] h = tt
honest_skip end test (r ∷ rest) h = cases (test r) (honest_skip end test rest h.1)
  where
    cases : (b : Bool) → AreHonest end (skip_until test rest)
        → AreHonest end (if b then r ∷ rest else skip_until test rest)
    cases true more = h
    cases false more = more

pub linked_skip : (stop : ℕ) (test : Row → Bool) (rows : List Row) → AreLinked stop rows
    → AreLinked stop (skip_until test rows)
linked_skip stop test [] h = tt
linked_skip stop test (r ∷ rest) h = cases (test r) (linked_skip stop test rest h.1)
  where
    cases : (b : Bool) → AreLinked stop (skip_until test rest)
        → AreLinked stop (if b then r ∷ rest else skip_until test rest)
    cases true more = h
    cases false more = more

honest_same : (a b : ℕ) (q r : Row) (xs ys : List Row) → a ≡ b → q ≡ r → xs ≡ ys → IsHonest b r ys
    → IsHonest a q xs
honest_same a b q r xs ys same row left h = rw (same, row, left) h

-- all rows are honest, so those before the first of a depth are
pub honest_until : (end : ℕ) (depth : ℤ) (rows : List Row) → AreHonest end rows
    → AreHonestUntil end depth rows
honest_until end depth [] h = tt
honest_until end depth (r ∷ rest) h = λ other. (λ deep. h.0, honest_until end depth rest h.1)

module _ (limit : ℕ) where
  chain : (p : RawPlace) → AreAhead (next_of limit p) p.end p.rest p.depth (rows_of limit p)
  chain p = exist_rows (next_of limit p) p.end
      (λ v w e. entry_at-shorter limit p.encoding (codes_of p.abbreviations) v w e) p.rest p.depth

  -- the next offset and the next depth are those of the next row, or of the place after the last
  pub offset_is : (p : RawPlace) → next_offset_of p ≡ next_offset (rows_of limit p)
  offset_is p = let a : Ahead = rows_of limit p in
      (first_is (next_of limit p) p.end a.rows p.rest p.depth a.refusal a.stop a.stop_depth
      (chain p)).0

  pub depth_is : (p : RawPlace) → p.depth ≡ next_depth (rows_of limit p)
  depth_is p = let a : Ahead = rows_of limit p in
      (first_is (next_of limit p) p.end a.rows p.rest p.depth a.refusal a.stop a.stop_depth
      (chain p)).1

  pub linked_rows : (p : RawPlace) → AreLinked (rows_of limit p).stop (rows_of limit p).rows
  linked_rows p = let a : Ahead = rows_of limit p in
      linked (next_of limit p) p.end a.rows p.rest p.depth a.refusal a.stop a.stop_depth (chain p)

  -- a null leads nowhere
  pub null_honest : (c : CursorView) (rows : List Row) → is_null c.entry ≡ true
      → IsHonest c.raw.end (last_row c) rows
  null_honest c rows is_none t to_sibling =
      let nowhere : usable_target c.raw.end (last_row c) ≡ None = rw is_none refl in
      let e : ◌≡◌ {A = Option ℕ} None (Some t) = sym nowhere ∙ to_sibling in absurd (cc)

  pub honest_start : (c : CursorView) → is_null c.entry ≡ true
      → AreHonest c.raw.end (rows_of limit c.raw).rows → IsHonestCursor limit c
  honest_start c is_none h =
      record { ahead = h; current = null_honest c (rows_of limit c.raw).rows is_none }

  pub honest_for : (c : CursorView) → IsHonestCursor limit c → IsHonestFor limit c.depth c
  honest_for c h =
      record {
        current = λ deep. h.current;
        ahead = honest_until c.raw.end c.depth (rows_of limit c.raw).rows h.ahead;
      }

  none_null : (e : Entry) → some_of e ≡ None → is_null e ≡ true
  none_null e = cases (is_null e) refl
    where
      cases : (b : Bool) → is_null e ≡ b → ◌≡◌ {A = Option Entry} (if b then None else Some e) None
          → is_null e ≡ true
      cases true h is = h
      cases false h is = absurd (cc)

  same_entry : (e x : Entry) → is_null e ≡ false → some_of e ≡ some_of x → e ≡ x
  same_entry e x entry is = cases (is_null x) (sym (rw entry refl) ∙ is)
    where
      cases : (b : Bool) → ◌≡◌ {A = Option Entry} (Some e) (if b then None else Some x) → e ≡ x
      cases true k = absurd (cc)
      cases false k = cc

  empty_honest : (new : CursorView) → (rows_of limit new.raw).rows ≡ [] → is_null new.entry ≡ true
      → IsHonestCursor limit new
  empty_honest new none is_none = honest_start new is_none (rw none tt)

  -- where a step takes the first of rows that are honest, or none, what is ahead is honest
  pub arrived : (new : CursorView) (end : ℕ) (rows rs : List Row) (refusal : Option Error)
      (stop : ℕ) (stop_depth : ℤ) (o : ℕ) (d : ℤ) (answer : Row → Bool)
      (outcome : Result Bool Error)
      → new.raw.end ≡ end → AreHonest end rs → AreLinked stop rs
      → record { outcome = outcome; place = place_of limit new }
      ≡ arrive end (record { rows = rows; refusal = refusal; stop = stop; stop_depth = stop_depth })
      o d answer rs
      → IsHonestCursor limit new
  arrived new end rows [] None stop stop_depth o d answer outcome same h l is =
      empty_honest new (ap (λ (m : Moved). m.place.ahead.rows) is)
      (none_null new.entry (ap (λ (m : Moved). m.place.current) is))
  arrived new end rows [] (Some e) stop stop_depth o d answer outcome same h l is =
      empty_honest new (ap (λ (m : Moved). m.place.ahead.rows) is)
      (none_null new.entry (ap (λ (m : Moved). m.place.current) is))
  arrived new end rows (r ∷ rest) refusal stop stop_depth o d answer outcome same h l is = record {
    ahead = rw (left, same) h.1;
    current = cases (is_null new.entry) refl;
  }
    where
      left : (rows_of limit new.raw).rows ≡ rest
      left = ap (λ (m : Moved). m.place.ahead.rows) is

      cases : (b : Bool) → is_null new.entry ≡ b
          → IsHonest new.raw.end (last_row new) (rows_of limit new.raw).rows
      cases true is_none = null_honest new (rows_of limit new.raw).rows is_none
      cases false entry =
          let one = same_entry new.entry r.entry entry (ap (λ (m : Moved). m.place.current) is) in
          let after : next_offset_of new.raw
          ≡ r.next = offset_is new.raw ∙ ap (λ (m : Moved). next_offset m.place.ahead) is
          ∙ sym l.0 in
          let at = ap (λ (m : Moved). m.place.offset) is in
          let deep = ap (λ (m : Moved). m.place.depth) is in
          let row : last_row new ≡ r = rw (one, after, at, deep) refl in
          honest_same new.raw.end end (last_row new) r (rows_of limit new.raw).rows rest same row
          left h.0

  pub honest_next : (c new : CursorView) (outcome : Result Bool Error) → new.raw.end ≡ c.raw.end
      → IsHonestCursor limit c
      → Goes limit (next_row c.raw.end) c outcome new → IsHonestCursor limit new
  unfolding next_row
  honest_next c new outcome same h is =
      let a : Ahead = rows_of limit c.raw in
      arrived new c.raw.end a.rows a.rows a.refusal a.stop a.stop_depth c.offset c.depth (λ r. true)
      outcome same h.ahead (linked_rows c.raw) is

  pub honest_dfs : (c new : CursorView) (outcome : Result Bool Error) → new.raw.end ≡ c.raw.end
      → IsHonestCursor limit c
      → Goes limit (next_in_depth_first_order c.raw.end) c outcome new
      → IsHonestCursor limit new
  unfolding next_in_depth_first_order
  honest_dfs c new outcome same h is =
      let a : Ahead = rows_of limit c.raw in
      arrived new c.raw.end a.rows (skip_until is_entry a.rows) a.refusal a.stop a.stop_depth
      (last_offset c.offset a.rows) (last_depth c.depth a.rows) (λ r. true) outcome same
      (honest_skip c.raw.end is_entry a.rows h.ahead)
      (linked_skip a.stop is_entry a.rows (linked_rows c.raw)) is

  pub honest_sibling : (c new : CursorView) (outcome : Result Bool Error) → new.raw.end ≡ c.raw.end
      → IsHonestCursor limit c
      → Goes limit (next_of_depth c.raw.end) c outcome new → IsHonestCursor limit new
  unfolding next_of_depth seek
  honest_sibling c new outcome same h = cases (is_null c.entry) refl
    where
      a : Ahead
      a = rows_of limit c.raw

      cases : (b : Bool) → is_null c.entry ≡ b
          → ◌≡◌ {A = Moved} (record { outcome = outcome; place = place_of limit new })
          (elim (if b then None else Some c.entry) [
            | None ↦ record { outcome = Ok false; place = place_of limit c }
            | Some e ↦ arrive c.raw.end a c.offset c.depth is_entry
                (skip_until (has_depth c.depth) a.rows)
          ]) → IsHonestCursor limit new
      cases true is_none is = record {
        ahead = rw (ap (λ (m : Moved). m.place.ahead.rows) is, same) h.ahead;
        current = null_honest new (rows_of limit new.raw).rows
            (none_null new.entry (ap (λ (m : Moved). m.place.current) is ∙ rw is_none refl));
      }
      cases false entry is =
          arrived new c.raw.end a.rows (skip_until (has_depth c.depth) a.rows) a.refusal a.stop
          a.stop_depth c.offset c.depth is_entry outcome same
          (honest_skip c.raw.end (has_depth c.depth) a.rows h.ahead)
          (linked_skip a.stop (has_depth c.depth) a.rows (linked_rows c.raw)) is
