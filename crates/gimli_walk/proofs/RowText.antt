-- The line of a row, put together from its end.
use Rattle.std.proofs.Common.{◌≡◌, ap, ◌∙◌, sym, arith, ℕ, Bool, true, false, List, [], ◌∷◌, ◌++◌}
use Rattle.std.specs.Prelude.{◌+◌, ℤ}
use Rattle.std.specs.Int.{from_bool}
use Rattle.std.specs.Fmt.{signed_decimal, decimal}
use Rattle.std.proofs.lemmas.Fmt.{decimal_digit}
use Rattle.gimli_walk.specs.Lines.{row_line, hexadecimal, bit}

-- the flag is a digit
flag_text : (flag : Bool) (n : ℕ) → n ≡ from_bool flag → (48 + n) ∷ [] ≡ decimal (bit flag)
flag_text true n is = ap (λ (k : ℕ). (48 + k) ∷ []) is ∙ sym (decimal_digit 1 (omega arith))
flag_text false n is = ap (λ (k : ℕ). (48 + k) ∷ []) is ∙ sym (decimal_digit 0 (omega arith))

module _ (offset : ℕ) (depth : ℤ) (tag : ℕ) (flag : Bool) (n : ℕ) where
  pub row_text : (none end flagged third tagged second deep first line : List ℕ) → n ≡ from_bool flag
      → none ≡ [] → end ≡ 10 ∷ none → flagged ≡ (48 + n) ∷ end → third ≡ 32 ∷ flagged
      → tagged ≡ hexadecimal tag ++ third → second ≡ 32 ∷ tagged
      → deep ≡ signed_decimal depth ++ second → first ≡ 32 ∷ deep
      → line ≡ hexadecimal offset ++ first → line ≡ row_line offset depth tag flag
  unfolding row_line
  row_text none end flagged third tagged second deep first line is e0 e1 e2 e3 e4 e5 e6 e7 e8 =
      e8
      ∙ ap (λ (t : List ℕ). hexadecimal offset ++ t) (e7
      ∙ ap (λ (t : List ℕ). 32 ∷ t) (e6
      ∙ ap (λ (t : List ℕ). signed_decimal depth ++ t) (e5
      ∙ ap (λ (t : List ℕ). 32 ∷ t) (e4
      ∙ ap (λ (t : List ℕ). hexadecimal tag ++ t) (e3
      ∙ ap (λ (t : List ℕ). 32 ∷ t) (e2
      ∙ ap (λ (t : List ℕ). (48 + n) ∷ t) (e1 ∙ ap (λ (t : List ℕ). 10 ∷ t) e0)
      ∙ ap (λ (t : List ℕ). t ++ 10 ∷ []) (flag_text flag n is)))))))
