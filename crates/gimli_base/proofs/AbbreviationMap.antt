-- The map of declarations, as it grows by one.
use Rattle.std.proofs.Common.{◌≡◌, ℕ, List, [], ◌∷◌, ◌++◌, Option, None, Some, refl, ◌∙◌, inl, inr}
use Rattle.std.proofs.Common.{arith}
use Rattle.std.specs.Prelude.{Bool, true, false, if◌then◌else◌, ◌==◌, ◌||◌, is_some}
use Rattle.std.proofs.lemmas.Bool.Decides.{eqb_tells}
use Rattle.gimli_base.specs.Abbreviations.{Declaration, declaration_of, repeats}

if_same : (t : Bool) (x y z : Option Declaration) → y ≡ z
    → (if t then x else y) ≡ (if t then x else z)
if_same true x y z e = refl
if_same false x y z e = e

-- after the others a declaration is found where they have none of its code
pub declaration_of-append : (xs : List Declaration) (d : Declaration) (ys : List Declaration)
    → declaration_of xs d.code ≡ None
    → declaration_of (xs ++ d ∷ ys) d.code ≡ Some d
declaration_of-append [] d ys none = let here : (d.code == d.code) ≡ true = grind arith in
    rw here refl
declaration_of-append (x ∷ xs) d ys none = elim (eqb_tells x.code d.code) [
  | inl e ↦ absurd (let found : Some x ≡ None = rw e.0 at none in cc)
  | inr e ↦ rw e.0 (declaration_of-append xs d ys (rw e.0 at none))
]

pub declaration_of-last : (xs : List Declaration) (d : Declaration) (code : ℕ)
    → declaration_of xs d.code ≡ None
    → declaration_of (xs ++ d ∷ []) code
    ≡ (if d.code == code then Some d else declaration_of xs code)
declaration_of-last [] d code none = refl
declaration_of-last (x ∷ xs) d code none = elim (eqb_tells x.code d.code) [
  | inl e ↦ absurd (let found : Some x ≡ None = rw e.0 at none in cc)
  | inr e ↦ elim (eqb_tells x.code code) [
    | inl f ↦ let other : (d.code == code) ≡ false = grind (arith, e.1, f.1) in rw (f.0, other) refl
    | inr f ↦ rw f.0 (declaration_of-last xs d code (rw e.0 at none))
  ]
]

or_true : (a : Bool) → (a || true) ≡ true
or_true true = refl
or_true false = refl

some_in : (xs : List Declaration) (d : Declaration) (ys : List Declaration)
    → is_some (declaration_of (xs ++ d ∷ ys) d.code) ≡ true
some_in [] d ys = let here : (d.code == d.code) ≡ true = grind arith in rw here refl
some_in (x ∷ xs) d ys =
    elim (eqb_tells x.code d.code) [ inl e ↦ rw e.0 refl | inr e ↦ rw e.0 (some_in xs d ys) ]

-- a code that stands among the declarations before repeats, whatever follows
pub repeats-again : (xs : List Declaration) (d : Declaration) (ys : List Declaration)
    → is_some (declaration_of xs d.code) ≡ true → repeats (xs ++ d ∷ ys) ≡ true
repeats-again [] d ys h = absurd (cc)
repeats-again (x ∷ xs) d ys h = elim (eqb_tells x.code d.code) [
  | inl e ↦
      let again : is_some (declaration_of (xs ++ d ∷ ys) x.code)
      ≡ true = rw e.1 (some_in xs d ys) in rw again refl
  | inr e ↦ let more : repeats (xs ++ d ∷ ys) ≡ true = repeats-again xs d ys (rw e.0 at h) in
      rw more (or_true _)
]

or_false : (a b : Bool) → (a || b) ≡ false → (a ≡ false) × (b ≡ false)
or_false true b h = absurd (cc)
or_false false b h = (refl, h)

-- a new code does not repeat
pub repeats-new : (xs : List Declaration) (d : Declaration) → repeats xs ≡ false
    → declaration_of xs d.code ≡ None → repeats (xs ++ d ∷ []) ≡ false
repeats-new [] d h none = refl
repeats-new (x ∷ xs) d h none = elim (eqb_tells x.code d.code) [
  | inl e ↦ absurd (let found : Some x ≡ None = rw e.0 at none in cc)
  | inr e ↦
      let none' : declaration_of xs d.code ≡ None = rw e.0 at none in
      let other : (d.code == x.code) ≡ false = grind (arith, e.1) in
      let first : declaration_of (xs ++ d ∷ []) x.code
      ≡ declaration_of xs x.code = declaration_of-last xs d x.code none' ∙ rw other refl in
      let parts = or_false (is_some (declaration_of xs x.code)) (repeats xs) h in
      let more : repeats (xs ++ d ∷ []) ≡ false = repeats-new xs d parts.1 none' in
      rw (first, parts.0, more) refl
]
