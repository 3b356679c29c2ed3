-- The number that digits in lower-case hexadecimal write fits in 64 bits.
use Rattle.std.proofs.Common.{◌≡◌, ℕ, suc, ◌<◌, ◌≤◌, ◌^◌, Bool, true, false, ◌&&◌, List, [], ◌∷◌}
use Rattle.std.proofs.Common.{length, None, Result, Ok, Err, refl, sym, subst, arith, ltb-true}
use Rattle.std.proofs.Math.Nat.{pow-le-pow_right}
use Rattle.std.specs.List.{AllPass}
use Rattle.std.specs.Result.{result_ok}
use Rattle.std.specs.Char.{is_digit}
use Rattle.std.specs.Str.Parse.{AllDigits, IsNumeral, ParsesUnsigned, digits_value}
use Rattle.std.specs.Str.Parse.{without_leading_plus}
use Rattle.std.proofs.lemmas.Int.Digits.{digits_value-lt}
use Rattle.std.proofs.lemmas.Str.Parse.{without_leading_plus_none}
use Rattle.gimli_walk.specs.Words.{is_lower_digit, IsAddress}

both : (a b : Bool) → (a && b) ≡ true → (a ≡ true) × (b ≡ true)
both true b is = (refl, is)
both false b is = absurd (cc)

digit_first : (c : ℕ) (cs : List ℕ) → AllPass is_lower_digit (c ∷ cs) → is_digit c 16 ≡ true
digit_first c cs pass = (both (is_digit c 16) _ (pass 0 0 (omega arith))).0

pub all_digits : (letters : List ℕ) → AllPass is_lower_digit letters → AllDigits 16 letters
all_digits [] pass = tt
all_digits (c ∷ cs) pass = (
  ltb-true _ 16 (digit_first c cs pass),
  all_digits cs (λ k d l. pass (suc k) d (omega (arith, l))),
)

-- no plus stands first
pub no_plus : (letters : List ℕ) → AllPass is_lower_digit letters
    → without_leading_plus letters ≡ letters
no_plus [] pass = refl
no_plus (c ∷ cs) pass =
    without_leading_plus_none (c ∷ cs)
    (λ plus. no_digit (subst (λ x. is_digit x 16 ≡ true) plus (digit_first c cs pass)))
  where
    no_digit : is_digit 43 16 ≡ true → ⊥
    no_digit is = cc

-- 16 digits write a number of 64 bits
pub fits : (letters : List ℕ) → IsAddress letters → digits_value 16 letters < 2 ^ 64
fits letters is =
    let below = digits_value-lt 16 letters (all_digits letters is.0) in
    let most : 16 ^ length letters ≤ 16 ^ 16 = pow-le-pow_right (omega arith) is.2 in
    omega (arith, below, most)

pub numeral : (letters : List ℕ) → IsAddress letters → IsNumeral 16 letters
numeral letters is = (is.1, all_digits letters is.0)

-- so the number is read
pub parsed : {E : Type 0} → (letters : List ℕ) (r : Result ℕ E) → IsAddress letters
    → ParsesUnsigned 64 16 letters r → result_ok r ≡ None → ⊥
parsed letters (Ok n) is reads none = cc
parsed letters (Err e) is reads none =
    reads
    (subst (λ ds. IsNumeral 16 ds × (digits_value 16 ds < 2 ^ 64)) (sym (no_plus letters is.0))
    (numeral letters is, fits letters is))
