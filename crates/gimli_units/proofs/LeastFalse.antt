-- The first sibling reference that is false is the one of the least offset, and there is none
-- exactly where the rows are honest (DWARF 5, 2.3).
use Rattle.std.specs.Prelude.{◌≡◌, ℕ, ◌<◌, ◌≤◌, ℤ, pos, Bool, true, false, if◌then◌else◌, List}
use Rattle.std.specs.Prelude.{[], ◌∷◌, length, Option, Some, Ok, ◌==◌, not, None}
use Rattle.std.proofs.Common.{refl, sym, ◌∙◌, arith, inl, inr, ap}
use Rattle.gimli_base.specs.declared.error.Error.{Error}
use Rattle.gimli_base.specs.View.{View}
use Rattle.gimli_base.specs.Reading.{Reads}
use Rattle.gimli_base.specs.Abbreviations.{Map}
use Rattle.gimli_units.specs.Entry.{Entry, entry_at}
use Rattle.gimli_units.proofs.EntryReads.{entry_at-shorter}
use Rattle.gimli_units.specs.RawPlace.{depth_after}
use Rattle.gimli_units.specs.Rows.{Row, Ahead, offset_of_view}
use Rattle.gimli_units.proofs.RowChain.{AreRows, exist_rows}
use Rattle.gimli_units.specs.Honest.{IsHonest, past_closer, usable_target, AreHonest}
use Rattle.gimli_units.specs.FirstFalse.{misses, is_false, first_false, IsFalseAt, IsLeastFalse}
use Rattle.gimli_units.specs.Unit.{UnitView, whole_length}
use Rattle.gimli_units.specs.UnitRows.{unit_rows_at, unit_rows}
use Rattle.std.proofs.lemmas.Bool.{eq-eqb, eqb-true}

-- a row whose reference is not false is honest
pub not_false : (end : ℕ) (r : Row) (rest : List Row) → is_false end r rest ≡ false
    → IsHonest end r rest
not_false end r rest = cases (usable_target end r) (past_closer r.depth rest)
  where
    cases : (u p : Option ℕ) → ◌≡◌ {A = Bool} (elim u [ None ↦ false | Some t ↦ misses t p ]) false
        → (t : ℕ) → u ≡ Some t → p ≡ Some t
    cases None p h t e = absurd (cc)
    cases (Some x) None h t e = absurd (cc)
    cases (Some x) (Some y) h t e = same (y == x) refl h
      where
        same : (b : Bool) → (y == x) ≡ b → not b ≡ false → ◌≡◌ {A = Option ℕ} (Some y) (Some t)
        same true is h = ap Some (eqb-true y x is) ∙ e
        same false is h = absurd (cc)

-- and the reference of an honest row is not false
pub honest_is_not : (end : ℕ) (r : Row) (rest : List Row) → IsHonest end r rest
    → is_false end r rest ≡ false
honest_is_not end r rest = cases (usable_target end r) (past_closer r.depth rest)
  where
    cases : (u p : Option ℕ) → ((t : ℕ) → u ≡ Some t → p ≡ Some t)
        → ◌≡◌ {A = Bool} (elim u [ None ↦ false | Some t ↦ misses t p ]) false
    cases None p h = refl
    cases (Some x) p h = rw (h x refl, eq-eqb x x refl) refl

-- where there is no first, the rows are honest
pub none_false : (end : ℕ) (rows : List Row) → first_false end rows ≡ None → AreHonest end rows
none_false end [] h = tt
none_false end (r ∷ rest) h = cases (is_false end r rest) refl (none_false end rest) h
  where
    cases : (b : Bool) → is_false end r rest ≡ b
        → (first_false end rest ≡ None → AreHonest end rest)
        → ◌≡◌ {A = Option ℕ} (if b then Some r.offset else first_false end rest) None
        → AreHonest end (r ∷ rest)
    cases true is more h = absurd (cc)
    cases false is more h = (not_false end r rest is, more h)

-- where they are honest, there is none
pub honest_none : (end : ℕ) (rows : List Row) → AreHonest end rows → first_false end rows ≡ None
honest_none end [] h = refl
honest_none end (r ∷ rest) h = rw (honest_is_not end r rest h.0) (honest_none end rest h.1)

-- no row stands before an offset, nor before one that it lies after
abbrev Grow : ℕ → List Row → Type 0
Grow low [] = Unit {0}
Grow low (r ∷ rest) = (low ≤ r.offset) × Grow r.offset rest

grow_down : (low high : ℕ) (rows : List Row) → low ≤ high → Grow high rows → Grow low rows
grow_down low high [] le h = tt
grow_down low high (r ∷ rest) le h = (omega (arith, le, h.0), h.1)

after_low : (end low other : ℕ) (rows : List Row) → Grow low rows → IsFalseAt end other rows
    → low ≤ other
after_low end low other [] h there = absurd there
after_low end low other (r ∷ rest) h (inl here) = omega (arith, h.0, here.0)
after_low end low other (r ∷ rest) h (inr on) =
    let more = after_low end r.offset other rest h.1 on in omega (arith, h.0, more)

broken : (end : ℕ) (r : Row) (rest : List Row) → is_false end r rest ≡ true → IsHonest end r rest
    → ⊥
broken end r rest is honest = let e : true ≡ false = sym is ∙ honest_is_not end r rest honest in
    absurd (cc)

least : (end low : ℕ) (rows : List Row) (offset : ℕ) → Grow low rows
    → first_false end rows ≡ Some offset → IsLeastFalse end offset rows
least end low [] offset h is = absurd (cc)
least end low (r ∷ rest) offset h is =
    cases (is_false end r rest) refl (least end r.offset rest offset h.1) is
  where
    first : (other : ℕ) → r.offset ≡ offset → IsFalseAt end other (r ∷ rest) → offset ≤ other
    first other same (inl here) = omega (arith, here.0, same)
    first other same (inr on) = let more = after_low end r.offset other rest h.1 on in
        omega (arith, same, more)

    later : (other : ℕ) → is_false end r rest ≡ false → IsLeastFalse end offset rest
        → IsFalseAt end other (r ∷ rest) → offset ≤ other
    later other honest more (inl here) = absurd (here.1 (not_false end r rest honest))
    later other honest more (inr on) = more.1 other on

    cases : (b : Bool) → is_false end r rest ≡ b
        → (first_false end rest ≡ Some offset → IsLeastFalse end offset rest)
        → ◌≡◌ {A = Option ℕ} (if b then Some r.offset else first_false end rest) (Some offset)
        → IsLeastFalse end offset (r ∷ rest)
    cases true wrong more e = let same : r.offset ≡ offset = cc in
        (inl (same, broken end r rest wrong), λ other there. first other same there)
    cases false honest more e = (inr (more e).0, λ other there. later other honest (more e) there)

module _ (next : View → Reads Entry) (end : ℕ)
    (shorter : (v w : View) (e : Entry) → Ok (e, w) ≡ next v
    → length w.bytes < length v.bytes) where
  grow : (rows : List Row) (v : View) (depth : ℤ) (refusal : Option Error) (stop : ℕ)
      (stop_depth : ℤ) → AreRows next end v depth rows refusal stop stop_depth
      → Grow (offset_of_view end v) rows
  grow [] v depth refusal stop stop_depth are = tt
  grow (r ∷ rest) v depth refusal stop stop_depth (w, is, more) =
      let lt = shorter v w r.entry is.reads in (
        omega (arith, is.offset),
        grow_down r.offset (offset_of_view end w) rest (omega (arith, is.offset, lt))
            (grow rest w (depth_after r.entry depth) refusal stop stop_depth more),
      )

-- the first of the rows of a unit whose reference is false has the least offset
pub least_false : (limit : ℕ) (u : UnitView) (declared : Map) (offset : ℕ)
    → first_false (whole_length u) (unit_rows limit u declared) ≡ Some offset
    → IsLeastFalse (whole_length u) offset (unit_rows limit u declared)
least_false limit u declared offset is =
    let next = entry_at limit u.encoding declared in
    let end = whole_length u in
    let shorter = λ (v w : View) (e : Entry) (h : Ok (e, w) ≡ next v).
    entry_at-shorter limit u.encoding declared v w e h in
    let a : Ahead = unit_rows_at limit u declared (pos 0) u.entries in
    least end (offset_of_view end u.entries) a.rows offset
    (grow next end shorter a.rows u.entries (pos 0) a.refusal a.stop a.stop_depth
    (exist_rows next end shorter u.entries (pos 0))) is
