-- After the closer of a row: a jump there leaves what is sought.
use Rattle.std.proofs.Common.{◌≡◌, ℕ, ◌-◌, ◌<◌, ◌≤◌, ℤ, pos, ◌+ℤ◌, ◌-ℤ◌, Bool, true, false, List}
use Rattle.std.proofs.Common.{[], ◌∷◌, length, Option, Some, Ok, refl, sym, ap, ◌∙◌, arith}
use Rattle.std.proofs.Common.{length-drop, inr}
use Rattle.std.specs.Prelude.{◌&&◌, if◌then◌else◌, int_le, ◌≤ℤ◌}
use Rattle.std.specs.Ordering.{int_eq}
use Rattle.std.proofs.lemmas.Int.{ints}
use Rattle.std.proofs.lemmas.Bool.Decides.{Decides-int_eq}
use Rattle.gimli_base.specs.declared.error.Error.{Error}
use Rattle.gimli_base.specs.View.{View, cut}
use Rattle.gimli_base.specs.Reading.{Reads}
use Rattle.gimli_base.specs.View.{IsLater}
use Rattle.gimli_base.proofs.Later.{IsLater-length, IsLater-trans, IsLater-weaker}
use Rattle.gimli_units.specs.Entry.{Entry, is_null}
use Rattle.gimli_units.specs.RawPlace.{below_flag, depth_after}
use Rattle.gimli_units.specs.Rows.{Row, Ahead, offset_of_view, ahead_at}
use Rattle.gimli_units.proofs.RowChain.{AreRows, exist_rows, unique_rows}
use Rattle.gimli_units.specs.Honest.{closes, past_closer, AreHonestUntil}
use Rattle.gimli_units.specs.CursorPlace.{skip_until, has_depth, seek, IsPlaceUntil}

pub false_is_true : false ≡ true → ⊥
false_is_true e = cc

false_from : (b : Bool) → (b ≡ true → ⊥) → b ≡ false
false_from true h = absurd (h refl)
false_from false h = refl

pub not_equal : (a b : ℤ) → (a ≡ b → ⊥) → int_eq a b ≡ false
not_equal a b h = false_from (int_eq a b) (λ e. h ((Decides-int_eq a b).0 e))

pub differs : (a b : ℤ) → int_eq a b ≡ false → a ≡ b → ⊥
differs a b h e = let t = (Decides-int_eq a b).1 e in absurd (false_is_true (sym h ∙ t))

pub equal : (a b : ℤ) → int_eq a b ≡ true → a ≡ b
equal a b h = (Decides-int_eq a b).0 h

pub at_least : (a b : ℤ) → int_le a b ≡ true → a ≤ℤ b
at_least a b h = grind (arith, ints)

-- the depth after an entry that does not close the children of a row of depth d, if it is above d
stays_above : (e : Entry) (d depth : ℤ) → (d +ℤ pos 1) ≤ℤ depth
    → (is_null e && int_eq depth (d +ℤ pos 1)) ≡ false → (d +ℤ pos 1) ≤ℤ depth_after e depth
stays_above e d depth above other = cases (is_null e) e.has_children other
  where
    cases : (null flag : Bool) → (null && int_eq depth (d +ℤ pos 1)) ≡ false
        → (d +ℤ pos 1) ≤ℤ (if null then below_flag flag depth -ℤ pos 1 else below_flag flag depth)
    cases true true h = omega (arith, ints)
    cases true false h = let ne = differs depth (d +ℤ pos 1) h in omega (arith, ints)
    cases false true h = omega (arith, ints)
    cases false false h = above

-- the rows after a closer, with the view where they begin: what is sought from a place at most so
-- deep is sought there
pub record Split (next : View → Reads Entry) (end : ℕ) (v : View) (d sought : ℤ) (t : ℕ)
    (rows : List Row) (refusal : Option Error) (stop : ℕ) (stop_depth : ℤ) : Type 0 where
  pub rest : List Row
  pub view : View
  pub later : IsLater 0 v view
  pub at : t ≡ offset_of_view end view
  pub are : AreRows next end view d rest refusal stop stop_depth
  pub same : skip_until (has_depth sought) rows ≡ skip_until (has_depth sought) rest
  pub honest : AreHonestUntil end sought rows → AreHonestUntil end sought rest
  pub places : (o : ℕ) (x : ℤ) → IsPlaceUntil (has_depth sought) stop stop_depth o x rest
      → IsPlaceUntil (has_depth sought) stop stop_depth o x rows

module _ (next : View → Reads Entry) (end : ℕ)
    (later : (v w : View) (e : Entry) → Ok (e, w) ≡ next v → IsLater 1 v w)
    (flagless : (v w : View) (e : Entry) → Ok (e, w) ≡ next v → is_null e ≡ true
    → e.has_children ≡ false) where
  -- the depth after a closer
  closed_depth : (v w : View) (e : Entry) (d depth : ℤ) → Ok (e, w) ≡ next v
      → (is_null e && int_eq depth (d +ℤ pos 1)) ≡ true → depth_after e depth ≡ d
  closed_depth v w e d depth reads h = cases (is_null e) e.has_children (flagless v w e reads) h
    where
      cases : (null flag : Bool) → (null ≡ true → flag ≡ false)
          → (null && int_eq depth (d +ℤ pos 1)) ≡ true
          → (if null then below_flag flag depth -ℤ pos 1 else below_flag flag depth) ≡ d
      cases true true bare k = absurd (false_is_true (sym (bare refl)))
      cases true false bare k = let e : depth ≡ d +ℤ pos 1 = equal depth (d +ℤ pos 1) k in
          omega (arith, ints)
      cases false flag bare k = absurd (false_is_true k)

  -- Between a row and its closer each row is deeper, so what is sought at that depth or less lies
  -- after the closer.
  pub splits : (rows : List Row) (v : View) (depth : ℤ) (refusal : Option Error) (stop : ℕ)
      (stop_depth : ℤ) → AreRows next end v depth rows refusal stop stop_depth
      → (d sought : ℤ) (t : ℕ) → (d +ℤ pos 1) ≤ℤ depth → sought ≤ℤ d → past_closer d rows ≡ Some t
      → Split next end v d sought t rows refusal stop stop_depth
  splits [] v depth refusal stop stop_depth are d sought t above low to_sibling = absurd (cc)
  splits (r ∷ rows) v depth refusal stop stop_depth (w, is, more) d sought t above low to_sibling =
      cases (closes d r) refl
      (λ up leads_on. splits rows w (depth_after r.entry depth) refusal stop stop_depth more d
      sought t up low leads_on)
    where
      deeper : int_eq r.depth sought ≡ false
      deeper = not_equal r.depth sought (λ e. let at_depth = is.depth_is in omega (arith, ints))

      cases : (b : Bool) → closes d r ≡ b
          → ((d +ℤ pos 1) ≤ℤ depth_after r.entry depth → past_closer d rows ≡ Some t
          → Split next end w d sought t rows refusal stop stop_depth)
          → Split next end v d sought t (r ∷ rows) refusal stop stop_depth
      cases true closed on =
          let leads_here : Some r.next ≡ Some t = rw closed at to_sibling in
          let here : r.next ≡ t = cc in
          let after = closed_depth v w r.entry d depth is.reads (rw is.depth_is at closed) in
          record {
            rest = rows;
            view = w;
            later = IsLater-weaker 1 0 v w (omega arith) (later v w r.entry is.reads);
            at = sym here ∙ is.after;
            are = rw after at more;
            same = rw deeper refl;
            honest = λ h. (h deeper).1;
            places = λ o x p. inr (deeper, p);
          }
      cases false other on =
          let leads_on : past_closer d rows ≡ Some t = rw other at to_sibling in
          let up = stays_above r.entry d depth above (rw is.depth_is at other) in
          let s = on up leads_on in
          record {
            rest = s.rest;
            view = s.view;
            later = IsLater-weaker 1 0 v s.view (omega arith)
                (IsLater-trans 1 0 v w s.view (later v w r.entry is.reads) s.later);
            at = s.at;
            are = s.are;
            same = rw deeper s.same;
            honest = λ h. s.honest (h deeper).1;
            places = λ o x p. inr (deeper, s.places o x p);
          }

  shorter : (v w : View) (e : Entry) → Ok (e, w) ≡ next v → length w.bytes < length v.bytes
  shorter v w e reads = omega (arith, IsLater-length 1 v w (later v w e reads))

  -- the view at an offset is told by it
  view_at : (v w : View) (t : ℕ) → IsLater 0 v w → length v.bytes ≤ end → t ≡ offset_of_view end w
      → w ≡ cut (t - offset_of_view end v) v
  view_at v w t l fits is =
      let bytes : length w.bytes
      ≡ length v.bytes - l.count =
      ap (λ (u : View). length u.bytes) l.is ∙ length-drop l.count v.bytes in
      let count : l.count ≡ t - offset_of_view end v = omega (arith, bytes, is, l.within, fits) in
      l.is ∙ ap (λ n. cut n v) count

  -- what a jump from a row of depth d to the place after its closer leaves
  pub record Kept (sought : ℤ) (offset : ℕ) (v : View) (depth : ℤ) (w : View) (new_depth : ℤ) : Type
      0 where
    pub same : seek end sought offset (ahead_at next end new_depth w)
        ≡ seek end sought offset (ahead_at next end depth v)
    pub honest : AreHonestUntil end sought (ahead_at next end depth v).rows
        → AreHonestUntil end sought (ahead_at next end new_depth w).rows
    pub places : (o : ℕ) (x : ℤ)
        → IsPlaceUntil (has_depth sought) (ahead_at next end new_depth w).stop
        (ahead_at next end new_depth w).stop_depth o x (ahead_at next end new_depth w).rows
        → IsPlaceUntil (has_depth sought) (ahead_at next end depth v).stop
        (ahead_at next end depth v).stop_depth o x (ahead_at next end depth v).rows

  pub jump : (v : View) (depth d sought : ℤ) (offset t : ℕ) → length v.bytes ≤ end
      → (d +ℤ pos 1) ≤ℤ depth → sought ≤ℤ d
      → past_closer d (ahead_at next end depth v).rows ≡ Some t
      → Kept sought offset v depth (cut (t - offset_of_view end v) v) d
  unfolding seek
  jump v depth d sought offset t fits above low to_sibling =
      let a : Ahead = ahead_at next end depth v in
      let s = splits a.rows v depth a.refusal a.stop a.stop_depth
      (exist_rows next end shorter v depth) d sought t above low to_sibling in
      let b : Ahead =
      record {
        rows = s.rest;
        refusal = a.refusal;
        stop = a.stop;
        stop_depth = a.stop_depth;
      } in
      let at = view_at v s.view t s.later fits s.at in
      let there : ahead_at next end d (cut (t - offset_of_view end v) v)
      ≡ b = ap (ahead_at next end d) (sym at)
      ∙ unique_rows next end shorter s.rest s.view d a.refusal a.stop a.stop_depth s.are in
      record {
        same = ap (λ (x : Ahead). seek end sought offset x) there ∙ rw (← s.same) refl;
        honest = λ h. rw there (s.honest h);
        places = λ o x p. s.places o x (rw there at p);
      }
