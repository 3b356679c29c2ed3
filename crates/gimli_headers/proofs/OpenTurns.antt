-- Turns of the check of sibling references: each row that is read leaves what the check answers.
use Rattle.std.proofs.Common.{◌≡◌, ℕ, ◌==◌, ℤ, pos, ◌+ℤ◌, ◌-ℤ◌, true, false, List, [], ◌∷◌, ◌++◌}
use Rattle.std.proofs.Common.{Option, Some, None, refl, sym, ap, ◌∙◌, arith}
use Rattle.std.specs.Prelude.{not, ◌≤ℤ◌, if◌then◌else◌}
use Rattle.std.specs.Ordering.{int_eq}
use Rattle.std.proofs.lemmas.Int.{ints}
use Rattle.std.proofs.lemmas.Bool.{eq-eqb, ne_eqb}
use Rattle.std.proofs.lemmas.Bool.Decides.{Decides-int_eq}
use Rattle.gimli_units.specs.Entry.{is_null}
use Rattle.gimli_units.specs.Rows.{Row}
use Rattle.gimli_units.specs.Honest.{closes, past_closer, usable_target}
use Rattle.gimli_units.specs.FirstFalse.{misses, first_false}
use Rattle.gimli_units.proofs.Splits.{not_equal}
use Rattle.gimli_headers.specs.OpenRows.{OpenRow, outermost_depth, Rise, first_open, or_else}
use Rattle.gimli_headers.specs.OpenRows.{judgement}

-- the innermost of the opens entries, and those outside it
outermost-last : (depth : ℤ) (xs : List OpenRow) (x : OpenRow)
    → outermost_depth depth (xs ++ x ∷ []) ≡ outermost_depth x.depth xs
outermost-last depth [] x = refl
outermost-last depth (y ∷ ys) x = refl

pub rise_out : (depth : ℤ) (xs : List OpenRow) (x : OpenRow) → Rise depth (xs ++ x ∷ [])
    → ((x.depth +ℤ pos 1) ≤ℤ depth) × Rise x.depth xs
rise_out depth [] x h = (h.0, tt)
rise_out depth (y ∷ ys) x h =
    let more = rise_out depth ys x h.1 in
    (more.0, (rw (outermost-last depth ys x) at h.0, more.1))

pub rise_in : (depth : ℤ) (xs : List OpenRow) (x : OpenRow) → (x.depth +ℤ pos 1) ≤ℤ depth
    → Rise x.depth xs → Rise depth (xs ++ x ∷ [])
rise_in depth [] x le h = (le, tt)
rise_in depth (y ∷ ys) x le h = (rw (outermost-last depth ys x) h.0, rise_in depth ys x le h.1)

outermost-up : (a b : ℤ) (xs : List OpenRow) → a ≤ℤ b → outermost_depth a xs ≤ℤ outermost_depth b xs
outermost-up a b [] le = le
outermost-up a b (x ∷ xs) le = omega (arith, ints)

pub rise_up : (a b : ℤ) (xs : List OpenRow) → a ≤ℤ b → Rise a xs → Rise b xs
rise_up a b [] le h = tt
rise_up a b (x ∷ xs) le h =
    (omega (arith, ints, h.0, outermost-up a b xs le), rise_up a b xs le h.1)

-- where the innermost is not closed at a depth, each is less deep than what is after it
pub rise_on : (depth : ℤ) (xs : List OpenRow) → Rise depth xs
    → ((outer : List OpenRow) (x : OpenRow) → xs ≡ outer ++ x ∷ [] → (x.depth +ℤ pos 1) ≡ depth → ⊥)
    → Rise (depth -ℤ pos 1) xs
rise_on depth [] h other = tt
rise_on depth (x ∷ []) h other = let ne = other [] x refl in (omega (arith, ints, h.0, ne), tt)
rise_on depth (x ∷ y ∷ ys) h other =
    (h.0, rise_on depth (y ∷ ys) h.1 (λ outer z is. other (x ∷ outer) z (ap (λ zs. x ∷ zs) is)))

rise_below : (depth : ℤ) (xs : List OpenRow) → Rise depth xs → outermost_depth depth xs ≤ℤ depth
rise_below depth [] h = omega (arith, ints)
rise_below depth (x ∷ xs) h = omega (arith, ints, h.0, rise_below depth xs h.1)

-- a row that closes none of the opens entries leaves them
open_on : (depth : ℤ) (xs : List OpenRow) (r : Row) (rest : List Row) (other : Option ℕ)
    → Rise depth xs → ((d : ℤ) → (d +ℤ pos 1) ≤ℤ depth → closes d r ≡ false)
    → first_open xs (r ∷ rest) other ≡ first_open xs rest other
open_on depth [] r rest other h none = refl
open_on depth (x ∷ xs) r rest other h none =
    let not_this : closes x.depth r
    ≡ false = none x.depth (omega (arith, ints, h.0, rise_below depth xs h.1)) in
    rw (not_this, open_on depth xs r rest other h.1 none) refl

open_last : (xs : List OpenRow) (x : OpenRow) (rest : List Row) (other : Option ℕ)
    → first_open (xs ++ x ∷ []) rest other
    ≡ first_open xs rest (if misses x.target (past_closer x.depth rest) then Some x.offset else
    other)
open_last [] x rest other = refl
open_last (y ∷ ys) x rest other = rw (open_last ys x rest other) refl

unusable : (end : ℕ) (r : Row) (rest : List Row) → usable_target end r ≡ None
    → first_false end (r ∷ rest) ≡ first_false end rest
unusable end r rest none =
    ap
    (λ (u : Option ℕ). if (elim u [ None ↦ false | Some t ↦ misses t (past_closer r.depth rest) ])
    then Some r.offset else first_false end rest) none

null_unusable : (end : ℕ) (r : Row) → is_null r.entry ≡ true → usable_target end r ≡ None
null_unusable end r null = rw null refl

module _ (end : ℕ) (opens : List OpenRow) (r : Row) (rest : List Row) where
  -- an entry closes nothing; where a false reference was found already, its own is not looked at
  entry_on : (other : Option ℕ) → is_null r.entry ≡ false → Rise r.depth opens
      → first_open opens (r ∷ rest) other ≡ first_open opens rest other
  entry_on other entry rise = open_on r.depth opens r rest other rise (λ d le. rw entry refl)

  pub entry_found : (o : ℕ) → is_null r.entry ≡ false → Rise r.depth opens
      → judgement end (record { opens = opens; first = Some o }) rest
      ≡ judgement end (record { opens = opens; first = Some o }) (r ∷ rest)
  entry_found o entry rise = sym (entry_on (Some o) entry rise)

  pub entry_passed : is_null r.entry ≡ false → Rise r.depth opens → usable_target end r ≡ None
      → judgement end (record { opens = opens; first = None }) rest
      ≡ judgement end (record { opens = opens; first = None }) (r ∷ rest)
  entry_passed entry rise none =
      sym
      (entry_on (first_false end (r ∷ rest)) entry rise
      ∙ ap (first_open opens rest) (unusable end r rest none))

  pub entry_opened : (t : ℕ) → is_null r.entry ≡ false → Rise r.depth opens → usable_target end r
      ≡ Some t
      → judgement end
      (record {
        opens = opens ++ record { offset = r.offset; depth = r.depth; target = t } ∷ [];
        first = None;
      }) rest ≡ judgement end (record { opens = opens; first = None }) (r ∷ rest)
  entry_opened t entry rise some =
      let x : OpenRow = record { offset = r.offset; depth = r.depth; target = t } in
      let to_sibling : first_false end (r ∷ rest)
      ≡ (if misses t (past_closer r.depth rest) then Some r.offset else first_false end rest) =
      ap
      (λ (u : Option ℕ). if (elim u [ None ↦ false | Some t ↦ misses t (past_closer r.depth rest) ])
      then Some r.offset else first_false end rest) some in
      open_last opens x rest (first_false end rest) ∙ ap (first_open opens rest) (sym to_sibling)
      ∙ sym (entry_on (first_false end (r ∷ rest)) entry rise)

  -- a null that closes none
  pub null_passed : (first : Option ℕ) → is_null r.entry ≡ true → Rise (r.depth -ℤ pos 1) opens
      → judgement end (record { opens = opens; first = first }) rest
      ≡ judgement end (record { opens = opens; first = first }) (r ∷ rest)
  null_passed first null rise =
      let none : (d : ℤ) → (d +ℤ pos 1) ≤ℤ (r.depth -ℤ pos 1) → closes d r ≡ false = λ d le.
      let ne : r.depth ≡ (d +ℤ pos 1) → ⊥ = λ e. omega (arith, ints, e, le) in
      rw (null, not_equal r.depth (d +ℤ pos 1) ne) refl in
      let other = or_else first (first_false end (r ∷ rest)) in
      sym
      (open_on (r.depth -ℤ pos 1) opens r rest other rise none
      ∙ ap (λ o. first_open opens rest (or_else first o))
      (unusable end r rest (null_unusable end r null)))

  -- a null that closes the innermost
  closed_by : (x : OpenRow) (first : Option ℕ) → is_null r.entry ≡ true
      → (x.depth +ℤ pos 1) ≡ r.depth → Rise x.depth opens
      → judgement end (record { opens = opens ++ x ∷ []; first = first }) (r ∷ rest)
      ≡ first_open opens rest
      (if not (r.next == x.target) then Some x.offset else or_else first (first_false end rest))
  closed_by x first null deep rise =
      let same : int_eq r.depth (x.depth +ℤ pos 1)
      ≡ true = (Decides-int_eq r.depth (x.depth +ℤ pos 1)).1 (sym deep) in
      let this : closes x.depth r ≡ true = rw (null, same) refl in
      let after : past_closer x.depth (r ∷ rest) ≡ Some r.next = rw this refl in
      let none : (d : ℤ) → (d +ℤ pos 1) ≤ℤ x.depth → closes d r ≡ false = λ d le.
      let ne : r.depth ≡ (d +ℤ pos 1) → ⊥ = λ e. omega (arith, ints, e, le, deep) in
      rw (null, not_equal r.depth (d +ℤ pos 1) ne) refl in
      let others = unusable end r rest (null_unusable end r null) in
      open_last opens x (r ∷ rest) (or_else first (first_false end (r ∷ rest)))
      ∙ ap
      (λ (p : Option ℕ). first_open opens (r ∷ rest)
      (if misses x.target p then Some x.offset else or_else first (first_false end (r ∷ rest))))
      after
      ∙ ap
      (λ (o : Option ℕ). first_open opens (r ∷ rest)
      (if not (r.next == x.target) then Some x.offset else or_else first o)) others
      ∙ open_on x.depth opens r rest _ rise none

  pub null_closed : (x : OpenRow) (first : Option ℕ) → is_null r.entry ≡ true
      → (x.depth +ℤ pos 1) ≡ r.depth → Rise x.depth opens → x.target ≡ r.next
      → judgement end (record { opens = opens; first = first }) rest
      ≡ judgement end (record { opens = opens ++ x ∷ []; first = first }) (r ∷ rest)
  null_closed x first null deep rise well =
      let t : (r.next == x.target) ≡ true = eq-eqb r.next x.target (sym well) in
      sym (closed_by x first null deep rise ∙ rw t refl)

  pub null_closed_badly : (x : OpenRow) (first : Option ℕ) → is_null r.entry ≡ true
      → (x.depth +ℤ pos 1) ≡ r.depth → Rise x.depth opens → (x.target ≡ r.next → ⊥)
      → judgement end (record { opens = opens; first = Some x.offset }) rest
      ≡ judgement end (record { opens = opens ++ x ∷ []; first = first }) (r ∷ rest)
  null_closed_badly x first null deep rise badly =
      let t : (r.next == x.target) ≡ false = ne_eqb r.next x.target (λ e. badly (sym e)) in
      sym (closed_by x first null deep rise ∙ rw t refl)
