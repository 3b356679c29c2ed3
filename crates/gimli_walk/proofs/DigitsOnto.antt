-- How digits are put before a text, the last one first.
use Rattle.std.proofs.Common.{◌≡◌, refl, ap, ◌∙◌, sym, arith, ℕ, zero, suc, ◌<◌, ◌≤◌, Bool}
use Rattle.std.proofs.Common.{true, false, List, [], ◌∷◌, ◌++◌, drop, ◌⊎◌, inl, inr}
use Rattle.std.specs.Prelude.{ℤ, pos, negsuc, ◌+◌, ◌/◌, ◌%◌, ◌^◌, ◌==◌, if◌then◌else◌}
use Rattle.std.specs.Fmt.{digits, digits_onto, digit_glyph, decimal, signed_decimal}
use Rattle.std.specs.Int.Signed.{le_z, lt_z}
use Rattle.std.proofs.Math.IntN.{nat_abs}
use Rattle.std.proofs.lemmas.Bool.{eq-eqb, ne_eqb}
use Rattle.std.proofs.lemmas.List.{append_assoc, drop-drop}
use Rattle.std.proofs.lemmas.Fmt.{hex_one_digit, hex_two_digits, decimal_step, decimal_digit}

-- what follows stays after the digits
onto-append : (k n : ℕ) (xs ys : List ℕ)
    → digits_onto k 16 false n (xs ++ ys) ≡ digits_onto k 16 false n xs ++ ys
onto-append zero n xs ys = refl
onto-append (suc k) n xs ys =
    cases (n / 16 == 0) (onto-append k (n / 16) (digit_glyph false (n % 16) ∷ xs) ys)
  where
    cases : (t : Bool)
        → (let d = digit_glyph false (n % 16) in
        digits_onto k 16 false (n / 16) (d ∷ xs ++ ys)
        ≡ digits_onto k 16 false (n / 16) (d ∷ xs) ++ ys)
        → (let d = digit_glyph false (n % 16) in
        (if t then d ∷ xs ++ ys else digits_onto k 16 false (n / 16) (d ∷ xs ++ ys))
        ≡ (if t then d ∷ xs else digits_onto k 16 false (n / 16) (d ∷ xs)) ++ ys)
    cases true more = refl
    cases false more = more

onto-all : (n : ℕ) (ys : List ℕ) → digits_onto 64 16 false n ys ≡ digits 16 false n ++ ys
unfolding digits
onto-all n ys = onto-append 64 n [] ys

module _ (k n : ℕ) (acc : List ℕ) where
  spelled : (t : Bool) → (n / 16 == 0) ≡ t
      → digits_onto (suc k) 16 false n acc
      ≡ (if t then digit_glyph false (n % 16) ∷ acc
      else digits_onto k 16 false (n / 16) (digit_glyph false (n % 16) ∷ acc))
  spelled t e =
      let d : List ℕ = digit_glyph false (n % 16) ∷ acc in
      ap (λ (b : Bool). if b then d else digits_onto k 16 false (n / 16) d) e

  onto-last : n < 16 → digits_onto (suc k) 16 false n acc ≡ digit_glyph false (n % 16) ∷ acc
  onto-last small = spelled true (eq-eqb _ 0 (omega arith))

  onto-step : 16 ≤ n
      → digits_onto (suc k) 16 false n acc
      ≡ digits_onto k 16 false (n / 16) (digit_glyph false (n % 16) ∷ acc)
  onto-step large = spelled false (ne_eqb _ 0 (λ e. omega arith))

below-or-not : (n : ℕ) → (n < 16) ⊎ (16 ≤ n)
below-or-not n = grind arith

-- more room for digits than they take makes no difference
enough : (j k n : ℕ) (acc : List ℕ) → n < 16 ^ suc j → n < 16 ^ suc k
    → digits_onto (suc j) 16 false n acc ≡ digits_onto (suc k) 16 false n acc
enough zero k n acc p q =
    onto-last zero n acc (omega arith) ∙ sym (onto-last k n acc (omega arith))
enough (suc j) zero n acc p q =
    onto-last (suc j) n acc (omega arith) ∙ sym (onto-last zero n acc (omega arith))
enough (suc j) (suc k) n acc p q =
    by (below-or-not n) (λ large. enough j k (n / 16) (digit_glyph false (n % 16) ∷ acc)
    (omega (arith, large)) (omega (arith, large)))
  where
    by : (n < 16) ⊎ (16 ≤ n)
        → (16 ≤ n → (let d : List ℕ = digit_glyph false (n % 16) ∷ acc in
        digits_onto (suc j) 16 false (n / 16) d ≡ digits_onto (suc k) 16 false (n / 16) d))
        → digits_onto (suc (suc j)) 16 false n acc ≡ digits_onto (suc (suc k)) 16 false n acc
    by (inl small) more = onto-last (suc j) n acc small ∙ sym (onto-last (suc k) n acc small)
    by (inr large) more =
        onto-step (suc j) n acc large ∙ more large ∙ sym (onto-step (suc k) n acc large)

-- the last two of three digits and more are put first
pub two_put : (n : ℕ) (ys : List ℕ) → 256 ≤ n → n < 2 ^ 64
    → digits 16 false (n / 256)
    ++ (digit_glyph false (n / 16 % 16) ∷ digit_glyph false (n % 16) ∷ ys)
    ≡ digits 16 false n ++ ys
two_put n ys large small =
    let one : List ℕ = digit_glyph false (n % 16) ∷ ys in
    let two : List ℕ = digit_glyph false (n / 16 % 16) ∷ one in
    sym (onto-all (n / 256) two)
    ∙ enough 63 61 (n / 256) two (omega arith) (omega arith)
    ∙ ap (λ (m : ℕ). digits_onto 62 16 false m two) {x = n / 256} {y = n / 16 / 16} (omega arith)
    ∙ sym (onto-step 62 (n / 16) one (omega arith))
    ∙ sym (onto-step 63 n ys (omega arith))
    ∙ onto-all n ys

-- there is room for two more digits
pub room_of_two : (k n : ℕ) → 256 ≤ n → n < 16 ^ k → 3 ≤ k
room_of_two zero n large fits = absurd (omega arith)
room_of_two (suc zero) n large fits = absurd (omega arith)
room_of_two (suc (suc zero)) n large fits = absurd (omega arith)
room_of_two (suc (suc (suc k))) n large fits = omega arith

pub two_fewer : (k j n : ℕ) → k ≡ j + 2 → n < 16 ^ k → n / 256 < 16 ^ j
two_fewer k j n is fits = by (ap (λ (i : ℕ). 16 ^ i) {x = k} {y = suc (suc j)} (omega (arith, is)))
  where
    by : 16 ^ k ≡ 16 ^ suc (suc j) → n / 256 < 16 ^ j
    by e = omega (arith, e, fits)

-- a number below 256 from two digits of which the first may be a zero
module _ (n at : ℕ) (line ys : List ℕ)
    (put : drop at line ≡ digit_glyph false (n / 16 % 16) ∷ digit_glyph false (n % 16) ∷ ys) where
  pub one_of_pair : n < 16 → drop (at + 1) line ≡ digits 16 false n ++ ys
  one_of_pair small =
      sym (drop-drop 1 at line) ∙ ap (drop 1) put
      ∙ ap (λ (d : ℕ). digit_glyph false d ∷ ys) {x = n % 16} {y = n} (omega arith)
      ∙ ap (λ (ds : List ℕ). ds ++ ys) (sym (hex_one_digit false n small))

  pub both_of_pair : 16 ≤ n → n < 256 → drop at line ≡ digits 16 false n ++ ys
  both_of_pair large small =
      put
      ∙ ap (λ (d : ℕ). digit_glyph false d ∷ digit_glyph false (n % 16) ∷ ys)
      {x = n / 16 % 16} {y = n / 16} (omega arith)
      ∙ ap (λ (ds : List ℕ). ds ++ ys) (sym (hex_two_digits false n large small))

-- the last decimal digit of two and more is put first
pub one_put : (n : ℕ) (ys : List ℕ) → 10 ≤ n → n < 2 ^ 64
    → decimal (n / 10) ++ ((48 + n % 10) ∷ ys) ≡ decimal n ++ ys
one_put n ys large small =
    sym (append_assoc (decimal (n / 10)) ((48 + n % 10) ∷ []) ys)
    ∙ ap (λ (ds : List ℕ). ds ++ ys) (sym (decimal_step n large small))

pub last_put : (n : ℕ) (ys : List ℕ) → n < 10 → (48 + n) ∷ ys ≡ decimal n ++ ys
last_put n ys small = ap (λ (ds : List ℕ). ds ++ ys) (sym (decimal_digit n small))

-- there is room for one more digit
pub room_of_one : (k n : ℕ) → 10 ≤ n → n < 10 ^ k → 2 ≤ k
room_of_one zero n large fits = absurd (omega arith)
room_of_one (suc zero) n large fits = absurd (omega arith)
room_of_one (suc (suc k)) n large fits = omega arith

pub one_fewer : (k j n : ℕ) → k ≡ j + 1 → n < 10 ^ k → n / 10 < 10 ^ j
one_fewer k j n is fits = by (ap (λ (i : ℕ). 10 ^ i) {x = k} {y = suc j} (omega (arith, is)))
  where
    by : 10 ^ k ≡ 10 ^ suc j → n / 10 < 10 ^ j
    by e = omega (arith, e, fits)

-- a number of one digit has no sign
of_one_digit : (z : ℤ) (ys : List ℕ) → le_z (pos 0) z ≡ true → lt_z z (pos 10) ≡ true
    → (48 + nat_abs z) ∷ ys ≡ signed_decimal z ++ ys
of_one_digit (pos n) ys low high = last_put n ys (grind (arith, high))
of_one_digit (negsuc n) ys low high = absurd (cc)

pub one_signed : (t z : ℤ) (ys : List ℕ) → t ≡ z → le_z (pos 0) t ≡ true → lt_z t (pos 10) ≡ true
    → (48 + nat_abs t) ∷ ys ≡ signed_decimal z ++ ys
one_signed t z ys is low high =
    of_one_digit t ys low high ∙ ap (λ (x : ℤ). signed_decimal x ++ ys) is
