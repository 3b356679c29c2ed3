-- What a table finds once it has one more declaration.
use Rattle.std.proofs.Common.{◌≡◌, ℕ, ◌+◌, ◌-◌, ◌<◌, List, [], ◌∷◌, ◌++◌, Option, None, Some, refl}
use Rattle.std.proofs.Common.{◌∙◌, inl, inr, arith, length, zero, suc, length-append, Bor}
use Rattle.std.specs.Prelude.{Bool, true, false, if◌then◌else◌, ◌==◌, slice_get, nat_lt, ◌&&◌, cond}
use Rattle.std.specs.Prelude.{is_some}
use Rattle.std.specs.Option.{option_copied}
use Rattle.std.specs.Ordering.{nat_cmp}
use Rattle.std.specs.BTreeMap.{is_at}
use Rattle.std.specs.Map.{lookup}
use Rattle.std.proofs.lemmas.Bool.Decides.{eqb_tells}
use Rattle.gimli_base.specs.Abbreviations.{Declaration}
use Rattle.gimli_base.specs.Table.{codes_of}

abbrev find_in : List (ℕ × Declaration) → ℕ → Option Declaration
find_in others code = lookup (is_at (nat_cmp code)) others

abbrev in_dense : List Declaration → ℕ → Bool
in_dense dense code = nat_lt 0 code && nat_lt (code - 1) (length dense)

same : {X : Type 0} (b : Bool) (p q r : X) → q ≡ r → (if b then p else q) ≡ (if b then p else r)
same true p q r e = refl
same false p q r e = e

-- a declaration among the others
pub found-insert : (dense : List Declaration) (others others' : List (ℕ × Declaration))
    (d : Declaration)
    → in_dense dense d.code ≡ false
    → ((q : ℕ) → find_in others' q ≡ cond (is_at (nat_cmp d.code) q) (Some d) (find_in others q))
    → (code : ℕ) → codes_of (record { dense = dense; others = others' }) code
    ≡ (if d.code == code then Some d else codes_of (record { dense = dense; others = others }) code)
unfolding codes_of
found-insert dense others others' d out updates code =
    elim (eqb_tells d.code code) [
      | inl e ↦ rw (e.0, ← e.1, out)
          (updates d.code
          ∙ (let here : is_at (nat_cmp d.code) d.code ≡ true = grind arith in rw here refl))
      | inr e ↦
          rw e.0
          (same (in_dense dense code) (slice_get dense (code - 1)) _ _
          (updates code
          ∙ (let away : is_at (nat_cmp d.code) code ≡ false = grind (arith, e.1) in rw away refl)))
    ]

last_pushed : (xs : List Declaration) (x : Declaration)
    → slice_get (xs ++ x ∷ []) (length xs) ≡ Some x
last_pushed [] x = refl
last_pushed (y ∷ ys) x = last_pushed ys x

below_pushed : (xs : List Declaration) (x : Declaration) (i : ℕ) → i < length xs
    → slice_get (xs ++ x ∷ []) i ≡ slice_get xs i
below_pushed [] x i h = absurd (omega (arith, h))
below_pushed (y ∷ ys) x zero h = refl
below_pushed (y ∷ ys) x (suc i) h = below_pushed ys x i (omega (arith, h))

-- the dense part, with b for the test of the place
pushed_at : (dense : List Declaration) (d : Declaration) (b : Bool) (code : ℕ)
    (r : Option Declaration) → in_dense dense code ≡ b
    → (if b then slice_get (dense ++ d ∷ []) (code - 1) else r)
    ≡ (if b then slice_get dense (code - 1) else r)
pushed_at dense d true code r is = below_pushed dense d (code - 1) (grind (arith, is))
pushed_at dense d false code r is = refl

-- the declaration of the next code
pub found-push : (dense : List Declaration) (others : List (ℕ × Declaration)) (d : Declaration)
    → d.code ≡ length dense + 1
    → (code : ℕ) → codes_of (record { dense = dense ++ d ∷ []; others = others }) code
    ≡ (if d.code == code then Some d else codes_of (record { dense = dense; others = others }) code)
unfolding codes_of
found-push dense others d is code =
    elim (eqb_tells d.code code) [
      | inl e ↦
          let place : code - 1 ≡ length dense = omega (arith, is, e.1) in
          let inside : in_dense (dense ++ d ∷ []) code
          ≡ true = grind (arith, length-append, is, e.1) in
          rw (e.0, inside, place) (last_pushed dense d)
      | inr e ↦
          let outside : in_dense (dense ++ d ∷ []) code
          ≡ in_dense dense code = grind (arith, length-append, is, e.1) in
          rw (e.0, outside) (pushed_at dense d (in_dense dense code) code _ refl)
    ]

past : (dense : List Declaration) (i : ℕ) → slice_get dense i ≡ None → i < length dense
    → {X : Type 0} → X
past [] i e h = absurd (omega (arith, h))
past (y ∷ ys) zero e h = absurd (cc)
past (y ∷ ys) (suc i) e h = past ys i e (omega (arith, h))

unused : (dense : List Declaration) (code : ℕ) (r : Option Declaration) (b : Bool)
    → in_dense dense code ≡ b → (if b then slice_get dense (code - 1) else r) ≡ None → b ≡ false
unused dense code r true is none = past dense (code - 1) none (grind (arith, is))
unused dense code r false is none = refl

-- where nothing is found, the code is not of the dense part
pub not_inside : (dense : List Declaration) (others : List (ℕ × Declaration)) (code : ℕ)
    → codes_of (record { dense = dense; others = others }) code ≡ None → in_dense dense code ≡ false
unfolding codes_of
not_inside dense others code none = unused dense code _ (in_dense dense code) refl none

pub none_of : {X : Type 0} (r : Option (Bor X)) → false ≡ is_some r → option_copied r ≡ None
none_of None e = refl
none_of (Some x) e = absurd (cc)
