-- What is read of a list inside another does not change what the outer one still has.
use Rattle.std.proofs.Common.{◌≡◌, ℕ, ◌≤◌, length, ℤ, pos, Bool, true, false, List, [], ◌∷◌, Option}
use Rattle.std.proofs.Common.{Some, None, Result, Ok, Err, refl, sym, ap, ◌∙◌, arith}
use Rattle.std.specs.Prelude.{not, if◌then◌else◌, ◌+ℤ◌, ◌-ℤ◌, ◌≤ℤ◌}
use Rattle.std.specs.Ordering.{int_eq}
use Rattle.std.proofs.lemmas.Int.{ints}
use Rattle.std.proofs.lemmas.Bool.Decides.{Decides-int_eq}
use Rattle.gimli_base.specs.declared.error.Error.{Error}
use Rattle.gimli_base.specs.declared.error.Error.TheVariants.{OutOfMemory}
use Rattle.gimli_base.specs.View.{View}
use Rattle.gimli_base.specs.Reading.{Reads, UnlessMemory}
use Rattle.gimli_base.specs.Table.{codes_of}
use Rattle.gimli_units.specs.Entry.{Entry, is_null}
use Rattle.gimli_units.proofs.EntryReads.{entry_at-shorter}
use Rattle.gimli_units.specs.RawPlace.{RawPlace, below_flag, depth_after}
use Rattle.gimli_units.specs.Rows.{Row, Ahead}
use Rattle.gimli_units.proofs.RowChain.{AreRows, AreAhead, exist_rows}
use Rattle.gimli_units.specs.CursorPlace.{Place, Moved, is_entry, has_depth, arrive, skip_until}
use Rattle.gimli_units.specs.CursorPlace.{seek}
use Rattle.gimli_units.specs.CursorModel.{next_of, rows_of, place_of}
use Rattle.gimli_units.specs.CursorModel.{IsHonestCursor}
use Rattle.gimli_units.proofs.TreeLaw.{honest_at}
use Rattle.gimli_units.specs.TreeMoves.{TreeView, HasGoneOn}
use Rattle.test_callers.specs.Children.{count_rows}
use Rattle.test_callers.specs.Enters.{HasEntered}
use Rattle.test_callers.proofs.Counts.{Heads, heads, stays_honest}

clash : false ≡ true → ⊥
clash e = absurd (cc)

elsewhere : (a b : ℤ) → (a ≡ b → ⊥) → int_eq a b ≡ false
elsewhere a b h = cases (int_eq a b) refl
  where
    cases : (r : Bool) → int_eq a b ≡ r → int_eq a b ≡ false
    cases true e = absurd (h ((Decides-int_eq a b).0 e))
    cases false e = e

differs : (a b : ℤ) → int_eq a b ≡ false → a ≡ b → ⊥
differs a b h e = clash (sym h ∙ (Decides-int_eq a b).1 e)

-- what is counted after a step of the inner list
abbrev pub counted_then : ℤ → ℕ → Result Bool Error → Ahead → Result ℕ Error
counted_then depth n (Ok b) a = count_rows depth a.refusal n a.rows
counted_then depth n (Err e) a = Err e

module _ (depth inner : ℤ) (is : inner ≡ depth +ℤ pos 1) where
  -- a row of the inner list is none of the outer
  other : (r : Row) → inner ≤ℤ r.depth → has_depth depth r ≡ false
  other r low = elsewhere r.depth depth (λ e. omega (arith, ints, is, low, e))

  deeper : (e : Entry) (d : ℤ) → inner ≤ℤ d → int_eq d inner ≡ false → inner ≤ℤ depth_after e d
  deeper e d low unlike = cases (is_null e) e.has_children
    where
      cases : (null flag : Bool)
          → inner ≤ℤ (if null then below_flag flag d -ℤ pos 1 else below_flag flag d)
      cases true true = omega (arith, ints, low)
      cases true false = let ne = differs d inner unlike in omega (arith, ints, low, ne)
      cases false true = omega (arith, ints, low)
      cases false false = low

  -- nor are those that are passed on the way to one
  module _ (next : View → Reads Entry) (end : ℕ) where
    inside : (rows : List Row) (v : View) (d : ℤ) (refusal : Option Error) (stop : ℕ)
        (stop_depth : ℤ) (n : ℕ) → AreRows next end v d rows refusal stop stop_depth → inner ≤ℤ d
        → count_rows depth refusal n rows
        ≡ count_rows depth refusal n (skip_until (has_depth inner) rows)
    inside [] v d refusal stop stop_depth n are low = refl
    inside (r ∷ rest) v d refusal stop stop_depth n (w, row, more) low =
        let high : inner ≤ℤ r.depth = rw row.depth_is low in
        cases (has_depth inner r) refl (other r high)
        (λ unlike. inside rest w (depth_after r.entry d) refusal stop stop_depth n more
        (deeper r.entry d low (rw row.depth_is at unlike)))
      where
        cases : (b : Bool) → has_depth inner r ≡ b → has_depth depth r ≡ false
            → (has_depth inner r ≡ false
            → count_rows depth refusal n rest
            ≡ count_rows depth refusal n (skip_until (has_depth inner) rest))
            → count_rows depth refusal n (r ∷ rest)
            ≡ count_rows depth refusal n
            (if b then r ∷ rest else skip_until (has_depth inner) rest)
        cases true h o f = refl
        cases false h o f = rw o (f h)

  arrives : (n : ℕ) (end : ℕ) (rows rs : List Row) (refusal : Option Error) (stop : ℕ)
      (stop_depth : ℤ) (o : ℕ) (outcome : Result Bool Error) (p : Place) → Heads inner rs
      → record { outcome = outcome; place = p }
      ≡ arrive end
      (record { rows = rows; refusal = refusal; stop = stop; stop_depth = stop_depth }) o
      inner is_entry rs
      → count_rows depth refusal n rs ≡ counted_then depth n outcome p.ahead
  arrives n end rows [] None stop stop_depth o outcome p h e =
      let r : outcome ≡ Ok false = ap (λ (m : Moved). m.outcome) e in
      let a : p.ahead
      ≡ record { rows = []; refusal = None; stop = stop; stop_depth = stop_depth } = ap
      (λ (m : Moved). m.place.ahead) e in
      rw (r, a) refl
  arrives n end rows [] (Some x) stop stop_depth o outcome p h e =
      let r : outcome ≡ Err x = ap (λ (m : Moved). m.outcome) e in rw r refl
  arrives n end rows (x ∷ rest) refusal stop stop_depth o outcome p h e =
      let r : outcome ≡ Ok (not (is_null x.entry)) = ap (λ (m : Moved). m.outcome) e in
      let a : p.ahead
      ≡ record { rows = rest; refusal = refusal; stop = stop; stop_depth = stop_depth } = ap
      (λ (m : Moved). m.place.ahead) e in
      let deep : x.depth ≡ inner = (Decides-int_eq x.depth inner).0 h in
      let apart : has_depth depth x ≡ false = other x (omega (arith, ints, deep)) in
      rw (r, a, apart) refl

  module _ (limit : ℕ) (old new : TreeView) (outcome : Result Bool Error)
      (h : HasGoneOn limit inner old outcome new) (honest : IsHonestCursor limit old.cursor)
      (low : inner ≤ℤ old.cursor.raw.depth) where
    seeks : (n : ℕ) (o : ℕ) (r : Result Bool Error) (p : Place)
        → record { outcome = r; place = p }
        ≡ seek old.cursor.raw.end inner o (rows_of limit old.cursor.raw)
        → count_rows depth (rows_of limit old.cursor.raw).refusal n
        (rows_of limit old.cursor.raw).rows
        ≡ counted_then depth n r p.ahead
    unfolding seek
    seeks n o r p e =
        let a : Ahead = rows_of limit old.cursor.raw in
        let raw : RawPlace = old.cursor.raw in
        let chain : AreAhead (next_of limit raw) raw.end raw.rest raw.depth a = exist_rows
        (next_of limit raw) raw.end
        (λ v w x k. entry_at-shorter limit raw.encoding (codes_of raw.abbreviations) v w x k)
        raw.rest raw.depth in
        inside (next_of limit raw) raw.end a.rows raw.rest raw.depth a.refusal a.stop a.stop_depth n
        chain low
        ∙ arrives n raw.end a.rows (skip_until (has_depth inner) a.rows) a.refusal a.stop
        a.stop_depth o r p (heads inner a.rows) e

    -- a step of the inner list leaves the outer count
    pub counts_inside : (n : ℕ)
        → UnlessMemory outcome
        (count_rows depth (rows_of limit old.cursor.raw).refusal n
        (rows_of limit old.cursor.raw).rows
        ≡ counted_then depth n outcome (rows_of limit new.cursor.raw))
    counts_inside n = cases outcome (h.sought.found (λ f. honest_at limit old.cursor inner honest))
      where
        cases : (r : Result Bool Error)
            → UnlessMemory r
            (record { outcome = r; place = place_of limit new.cursor }
            ≡ seek old.cursor.raw.end inner old.cursor.offset
            (rows_of limit old.cursor.raw))
            → UnlessMemory r
            (count_rows depth (rows_of limit old.cursor.raw).refusal n
            (rows_of limit old.cursor.raw).rows
            ≡ counted_then depth n r (rows_of limit new.cursor.raw))
        cases (Ok b) e = seeks n old.cursor.offset (Ok b) (place_of limit new.cursor) e
        cases (Err x) e =
            λ fine. seeks n old.cursor.offset (Err x) (place_of limit new.cursor) (e fine)

-- the first entry of a child's list was asked for
module _ (limit : ℕ) (depth : ℤ) (old new : TreeView) (entry : is_null old.cursor.entry ≡ false)
    (after : old.cursor.raw.depth ≡ depth_after old.cursor.entry depth) where
  one_more : old.cursor.entry.has_children ≡ true → old.cursor.raw.depth ≡ depth +ℤ pos 1
  one_more flag = rw (after, entry, flag) refl

  pub entered_left : (outcome : Result Bool Error) → HasEntered limit old outcome new
      → length new.cursor.raw.rest.bytes ≤ length old.cursor.raw.rest.bytes
  entered_left outcome h = cases old.cursor.entry.has_children refl
    where
      cases : (b : Bool) → old.cursor.entry.has_children ≡ b
          → length new.cursor.raw.rest.bytes ≤ length old.cursor.raw.rest.bytes
      cases true flag =
          let g = h.some flag in let few = g.sought.few in let more = g.sought.more in omega
          (arith, few, more)
      cases false flag = rw (h.none flag).1 (omega arith)

  pub entered_honest : (b : Bool) → HasEntered limit old (Ok b) new
      → IsHonestCursor limit old.cursor → IsHonestCursor limit new.cursor
  entered_honest b h honest = cases old.cursor.entry.has_children refl
    where
      cases : (f : Bool) → old.cursor.entry.has_children ≡ f → IsHonestCursor limit new.cursor
      cases true flag =
          stays_honest limit old.cursor.raw.depth old new (Ok b) (h.some flag) honest b refl
      cases false flag = rw (h.none flag).1 honest

  pub entered_count : (b : Bool) → HasEntered limit old (Ok b) new → IsHonestCursor limit old.cursor
      → (n : ℕ)
      → count_rows depth (rows_of limit old.cursor.raw).refusal n
      (rows_of limit old.cursor.raw).rows
      ≡ count_rows depth (rows_of limit new.cursor.raw).refusal n
      (rows_of limit new.cursor.raw).rows
  entered_count b h honest n = cases old.cursor.entry.has_children refl
    where
      cases : (f : Bool) → old.cursor.entry.has_children ≡ f
          → count_rows depth (rows_of limit old.cursor.raw).refusal n
          (rows_of limit old.cursor.raw).rows
          ≡ count_rows depth (rows_of limit new.cursor.raw).refusal n
          (rows_of limit new.cursor.raw).rows
      cases true flag =
          counts_inside depth old.cursor.raw.depth (one_more flag) limit old new (Ok b)
          (h.some flag) honest (omega (arith, ints)) n
      cases false flag = rw (h.none flag).1 refl

  pub entered_fails : (e : Error) → HasEntered limit old (Err e) new
      → IsHonestCursor limit old.cursor → (e ≡ OutOfMemory → ⊥) → (n : ℕ)
      → count_rows depth (rows_of limit old.cursor.raw).refusal n
      (rows_of limit old.cursor.raw).rows
      ≡ Err e
  entered_fails e h honest fine n = cases old.cursor.entry.has_children refl
    where
      cases : (f : Bool) → old.cursor.entry.has_children ≡ f
          → count_rows depth (rows_of limit old.cursor.raw).refusal n
          (rows_of limit old.cursor.raw).rows ≡ Err e
      cases true flag =
          counts_inside depth old.cursor.raw.depth (one_more flag) limit old new (Err e)
          (h.some flag) honest (omega (arith, ints)) n fine
      cases false flag = let k = (h.none flag).0 in absurd (cc)
