-- The first reference to a sibling, sought value by value.
use Rattle.std.specs.Prelude.{◌≡◌, ℕ, ◌==◌, Bool, true, false, if◌then◌else◌, List, [], ◌∷◌, ◌++◌}
use Rattle.std.specs.Prelude.{Option, Some, None, Ok, Err}
use Rattle.std.specs.List.{AllByRecursion}
use Rattle.std.proofs.Common.{refl, sym, ap, ◌∙◌}
use Rattle.gimli_base.specs.declared.common.Encoding.{Encoding}
use Rattle.gimli_base.specs.declared.error.Error.{Error}
use Rattle.gimli_base.specs.View.{View}
use Rattle.gimli_base.specs.Reading.{Reads, ◌>>=◌, map_read}
use Rattle.gimli_base.specs.Abbreviations.{Specification}
use Rattle.gimli_base.specs.Steps.{is_sibling}
use Rattle.gimli_units.specs.Value.{Value}
use Rattle.gimli_units.specs.Form.{value_at}
use Rattle.gimli_units.specs.Entry.{Attr, with_value, attribute_at, attributes_at, first_of}
use Rattle.gimli_units.specs.Kind.{sibling_of, unit_reference}
use Rattle.gimli_units.specs.Sized.{left_by, found_or, find_in, found_at, sibling_after}
use Rattle.gimli_units.proofs.ReadTurns.{left_by_all}

from : Option Attr → Option ℕ
from x = elim x [ Some a ↦ unit_reference a.value | None ↦ None ]

sibling_of_first : (t : Bool) (a : Attr) (xs : List Attr) → (a.name.0 == 1) ≡ t
    → sibling_of (a ∷ xs) ≡ (if t then unit_reference a.value else sibling_of xs)
unfolding from
sibling_of_first true a xs h = let is : first_of 1 (a ∷ xs) ≡ Some a = rw h refl in ap from is
sibling_of_first false a xs h =
    let is : first_of 1 (a ∷ xs) ≡ first_of 1 xs = rw h refl in
    ap from is

-- an attribute before others
found_first : (s : Specification) (found : Option (Option ℕ)) (x : Value) (xs : List Attr)
    → found_or found (with_value s x ∷ xs) ≡ found_or (find_in found (with_value s x)) xs
found_first s (Some o) x xs = refl
found_first s None x xs =
    sort (is_sibling s) (sibling_of_first (is_sibling s) (with_value s x) xs refl)
  where
    sort : (t : Bool)
        → sibling_of (with_value s x ∷ xs) ≡ (if t then unit_reference x else sibling_of xs)
        → sibling_of (with_value s x ∷ xs)
        ≡ found_or (if t then Some (unit_reference x) else None) xs
    sort true h = h
    sort false h = h

-- a value, and the others
turn_of : (s : Specification) (found : Option (Option ℕ)) (r : Reads Value)
    (f : View → Reads (List Attr))
    → map_read (found_or found)
    (map_read (with_value s) r >>= λ p. map_read (λ xs. p.0 ∷ xs) (f p.1))
    ≡ (map_read (find_in found) (map_read (with_value s) r)
    >>= λ q. map_read (found_or q.0) (f q.1))
turn_of s found (Err x) f = refl
turn_of s found (Ok p) f = others (f p.1)
  where
    others : (r : Reads (List Attr))
        → map_read (found_or found) (map_read (λ xs. with_value s p.0 ∷ xs) r)
        ≡ map_read (found_or (find_in found (with_value s p.0))) r
    others (Err x) = refl
    others (Ok q) = ap (λ (o : Option ℕ). Ok (o, q.1)) (found_first s found p.0 q.0)

module _ (limit : ℕ) (e : Encoding) where
  pub turn : (s : Specification) (ss : List Specification) (found : Option (Option ℕ)) (v : View)
      → sibling_after limit e (s ∷ ss) found v
      ≡ (found_at limit e s found v >>= λ q. sibling_after limit e ss q.0 q.1)
  unfolding attributes_at attribute_at
  turn s ss found v =
      turn_of s found (value_at limit e s.name.0 s.constant s.form.0 v) (attributes_at limit e ss)

  -- one that is not the first reference
  pub passed_over : (s : Specification) (found : Option (Option ℕ)) (v : View)
      → (found ≡ None → is_sibling s ≡ false)
      → found_at limit e s found v ≡ map_read (λ _. found) (attribute_at limit e s v)
  unfolding attribute_at
  passed_over s found v other =
      cases found other (value_at limit e s.name.0 s.constant s.form.0 v)
    where
      cases : (o : Option (Option ℕ)) → (o ≡ None → is_sibling s ≡ false) → (r : Reads Value)
          → map_read (find_in o) (map_read (with_value s) r)
          ≡ map_read (λ _. o) (map_read (with_value s) r)
      cases o k (Err x) = refl
      cases (Some o) k (Ok p) = refl
      cases None k (Ok p) = rw (k refl) refl

  -- values that are passed, none of which is the first reference
  pub run_passed : (ss more : List Specification) (found : Option (Option ℕ)) (v w : View)
      → (found ≡ None → AllByRecursion (λ s. is_sibling s ≡ false) ss)
      → left_by (attributes_at limit e ss v) ≡ Ok (tt, w)
      → sibling_after limit e (ss ++ more) found v ≡ sibling_after limit e more found w
  unfolding attributes_at
  run_passed [] more found v w none h =
      let pair : ◌≡◌ {A = Unit {0} × View} (tt, v) (tt, w) = cc in
      ap (λ (p : Unit {0} × View). sibling_after limit e more found p.1) pair
  run_passed (s ∷ ss) more found v w none h =
      turn s (ss ++ more) found v
      ∙ ap (λ (r : Reads (Option (Option ℕ))).
      r >>= λ q. sibling_after limit e (ss ++ more) q.0 q.1)
      (passed_over s found v (λ k. (none k).0))
      ∙ cases (attribute_at limit e s v) (λ u. run_passed ss more found u w (λ k. (none k).1))
      (sym (left_by_all limit e s ss v) ∙ h)
    where
      cases : (r : Reads Attr)
          → ((u : View) → left_by (attributes_at limit e ss u) ≡ Ok (tt, w)
          → sibling_after limit e (ss ++ more) found u ≡ sibling_after limit e more found w)
          → (left_by r >>= λ p. left_by (attributes_at limit e ss p.1)) ≡ Ok (tt, w)
          → (map_read (λ _. found) r >>= λ q. sibling_after limit e (ss ++ more) q.0 q.1)
          ≡ sibling_after limit e more found w
      cases (Ok p) others k = others p.1 k
      cases (Err x) others k = absurd (cc)

  module _ (s : Specification) (v : View) where
    pub value_refused : {A B : Type 0} → (f : Attr → A) (g : Attr → B) (r : Error)
        → Err r ≡ map_read f (attribute_at limit e s v)
        → Err r ≡ map_read g (attribute_at limit e s v)
    value_refused f g r h = cases (attribute_at limit e s v) h
      where
        cases : (a : Reads Attr) → Err r ≡ map_read f a → Err r ≡ map_read g a
        cases (Err x) k = let same : r ≡ x = cc in ap Err same
        cases (Ok p) k = absurd (cc)

    -- one that is not the first reference
    pub value_passed : (found : Option (Option ℕ)) → (found ≡ None → is_sibling s ≡ false)
        → (x : Unit {0}) (w : View) → Ok (x, w) ≡ left_by (attribute_at limit e s v)
        → Ok (found, w) ≡ found_at limit e s found v
    value_passed found other x w h =
        cases (attribute_at limit e s v) h ∙ sym (passed_over s found v other)
      where
        cases : (a : Reads Attr) → Ok (x, w) ≡ left_by a → Ok (found, w) ≡ map_read (λ _. found) a
        cases (Ok p) k =
            let pair : ◌≡◌ {A = Unit {0} × View} (x, w) (tt, p.1) = cc in
            ap (λ (q : Unit {0} × View). Ok (found, q.1)) pair
        cases (Err y) k = absurd (cc)

    -- the first reference
    pub reference_found : is_sibling s ≡ true → (o : Option ℕ) (w : View)
        → Ok (o, w) ≡ map_read (λ a. unit_reference a.value) (attribute_at limit e s v)
        → Ok (Some o, w) ≡ found_at limit e s None v
    unfolding attribute_at
    reference_found is o w h = cases (value_at limit e s.name.0 s.constant s.form.0 v) h
      where
        cases : (a : Reads Value)
            → Ok (o, w) ≡ map_read (λ b. unit_reference b.value) (map_read (with_value s) a)
            → Ok (Some o, w) ≡ map_read (find_in None) (map_read (with_value s) a)
        cases (Ok p) k =
            let same : (o, w) ≡ (unit_reference p.0, p.1) = cc in
            rw is (ap (λ (q : Option ℕ × View). Ok (Some q.0, q.1)) same)
        cases (Err x) k = absurd (cc)
