-- Items one after the other, as their places are walked: the first, and those after it.
use Rattle.std.specs.Prelude.{◌≡◌, ℕ, zero, suc, ◌<◌, Result, Ok, Err}
use Rattle.std.proofs.Common.{refl, sym, ap, ◌∙◌, arith}
use Rattle.gimli_base.specs.Chain.{no_item, then_item, then_others, chain_within, chain}

module _ {P A E : Type 0} (size : P → ℕ) (at : P → Result (A × P) E) where
  -- what ends the items
  pub chain_ended : (cut_short : E) (p : P) (e : E) → Err e ≡ at p
      → chain size at cut_short p ≡ no_item e
  unfolding chain chain_within
  chain_ended cut_short p e h =
      ap (λ r. then_others r (chain_within at cut_short (size p))) (sym h)

  module _ (smaller : (p : P) (a : A) (q : P) → Ok (a, q) ≡ at p → size q < size p) where
    -- Any number above the size is enough, and what would end more items never shows.
    pub within_enough : (s t : E) (m n : ℕ) (p : P) → size p < m → size p < n
        → chain_within at s m p ≡ chain_within at t n p
    unfolding chain_within
    within_enough s t zero n p h k = absurd (omega (arith, h))
    within_enough s t (suc m) zero p h k = absurd (omega (arith, k))
    within_enough s t (suc m) (suc n) p h k = by (at p) refl
        (λ q lt. within_enough s t m n q (omega (arith, h, lt)) (omega (arith, k, lt)))
      where
        by : (r : Result (A × P) E) → r ≡ at p
            → ((q : P) → size q < size p → chain_within at s m q ≡ chain_within at t n q)
            → then_others r (chain_within at s m) ≡ then_others r (chain_within at t n)
        by (Err e) is others = refl
        by (Ok q) is others = ap (then_item q.0) (others q.1 (smaller p q.0 q.1 is))

    -- an item, and those from the place after it on
    pub chain_more : (cut_short : E) (p : P) (a : A) (q : P) → Ok (a, q) ≡ at p
        → chain size at cut_short p ≡ then_item a (chain size at cut_short q)
    unfolding chain chain_within
    chain_more cut_short p a q h =
        ap (λ r. then_others r (chain_within at cut_short (size p))) (sym h)
        ∙ ap (then_item a)
        (within_enough cut_short cut_short (size p) (suc (size q)) q (smaller p a q h)
        (omega arith))
