-- Numbers of two, four, eight and sixteen bytes.
use Rattle.std.proofs.Common.{◌≡◌, ℕ, List, [], ◌∷◌, length, arith}
use Rattle.std.specs.Prelude.{true, false}
use Rattle.std.specs.Int.{from_le_bytes, from_be_bytes, w16, w32, w64, w128}
use Rattle.gimli_base.specs.Reading.{number}

pub le_2 : (xs : List ℕ) → length xs ≡ 2 → from_le_bytes w16 xs ≡ number false xs
le_2 (a ∷ b ∷ []) h = omega arith
le_2 [] h = cc
le_2 (a ∷ []) h = omega (arith, h)
le_2 (a ∷ b ∷ c ∷ xs) h = omega (arith, h)

pub be_2 : (xs : List ℕ) → length xs ≡ 2 → from_be_bytes w16 xs ≡ number true xs
be_2 (a ∷ b ∷ []) h = omega arith
be_2 [] h = cc
be_2 (a ∷ []) h = omega (arith, h)
be_2 (a ∷ b ∷ c ∷ xs) h = omega (arith, h)

pub le_4 : (xs : List ℕ) → length xs ≡ 4 → from_le_bytes w32 xs ≡ number false xs
le_4 (a ∷ b ∷ c ∷ d ∷ []) h = omega arith
le_4 [] h = cc
le_4 (a ∷ []) h = omega (arith, h)
le_4 (a ∷ b ∷ []) h = omega (arith, h)
le_4 (a ∷ b ∷ c ∷ []) h = omega (arith, h)
le_4 (a ∷ b ∷ c ∷ d ∷ e ∷ xs) h = omega (arith, h)

pub be_4 : (xs : List ℕ) → length xs ≡ 4 → from_be_bytes w32 xs ≡ number true xs
be_4 (a ∷ b ∷ c ∷ d ∷ []) h = omega arith
be_4 [] h = cc
be_4 (a ∷ []) h = omega (arith, h)
be_4 (a ∷ b ∷ []) h = omega (arith, h)
be_4 (a ∷ b ∷ c ∷ []) h = omega (arith, h)
be_4 (a ∷ b ∷ c ∷ d ∷ e ∷ xs) h = omega (arith, h)

pub le_8 : (xs : List ℕ) → length xs ≡ 8 → from_le_bytes w64 xs ≡ number false xs
le_8 (a ∷ b ∷ c ∷ d ∷ e ∷ f ∷ g ∷ i ∷ []) h = omega arith
le_8 [] h = cc
le_8 (a ∷ []) h = omega (arith, h)
le_8 (a ∷ b ∷ []) h = omega (arith, h)
le_8 (a ∷ b ∷ c ∷ []) h = omega (arith, h)
le_8 (a ∷ b ∷ c ∷ d ∷ []) h = omega (arith, h)
le_8 (a ∷ b ∷ c ∷ d ∷ e ∷ []) h = omega (arith, h)
le_8 (a ∷ b ∷ c ∷ d ∷ e ∷ f ∷ []) h = omega (arith, h)
le_8 (a ∷ b ∷ c ∷ d ∷ e ∷ f ∷ g ∷ []) h = omega (arith, h)
le_8 (a ∷ b ∷ c ∷ d ∷ e ∷ f ∷ g ∷ i ∷ j ∷ xs) h = omega (arith, h)

pub be_8 : (xs : List ℕ) → length xs ≡ 8 → from_be_bytes w64 xs ≡ number true xs
be_8 (a ∷ b ∷ c ∷ d ∷ e ∷ f ∷ g ∷ i ∷ []) h = omega arith
be_8 [] h = cc
be_8 (a ∷ []) h = omega (arith, h)
be_8 (a ∷ b ∷ []) h = omega (arith, h)
be_8 (a ∷ b ∷ c ∷ []) h = omega (arith, h)
be_8 (a ∷ b ∷ c ∷ d ∷ []) h = omega (arith, h)
be_8 (a ∷ b ∷ c ∷ d ∷ e ∷ []) h = omega (arith, h)
be_8 (a ∷ b ∷ c ∷ d ∷ e ∷ f ∷ []) h = omega (arith, h)
be_8 (a ∷ b ∷ c ∷ d ∷ e ∷ f ∷ g ∷ []) h = omega (arith, h)
be_8 (a ∷ b ∷ c ∷ d ∷ e ∷ f ∷ g ∷ i ∷ j ∷ xs) h = omega (arith, h)

-- what holds of any sixteen bytes holds of a list of that length
sixteen : (P : List ℕ → Type 0)
    → ((a b c d e f g i j k l m n o p q : ℕ)
    → P (a ∷ b ∷ c ∷ d ∷ e ∷ f ∷ g ∷ i ∷ j ∷ k ∷ l ∷ m ∷ n ∷ o ∷ p ∷ q ∷ [])) → (xs : List ℕ)
    → length xs ≡ 16 → P xs
sixteen P all (a ∷ b ∷ c ∷ d ∷ e ∷ f ∷ g ∷ i ∷ j ∷ k ∷ l ∷ m ∷ n ∷ o ∷ p ∷ q ∷ []) h =
    all a b c d e f g i j k l m n o p q
sixteen P all [] h = absurd (cc)
sixteen P all (a ∷ []) h = absurd (omega (arith, h))
sixteen P all (a ∷ b ∷ []) h = absurd (omega (arith, h))
sixteen P all (a ∷ b ∷ c ∷ []) h = absurd (omega (arith, h))
sixteen P all (a ∷ b ∷ c ∷ d ∷ []) h = absurd (omega (arith, h))
sixteen P all (a ∷ b ∷ c ∷ d ∷ e ∷ []) h = absurd (omega (arith, h))
sixteen P all (a ∷ b ∷ c ∷ d ∷ e ∷ f ∷ []) h = absurd (omega (arith, h))
sixteen P all (a ∷ b ∷ c ∷ d ∷ e ∷ f ∷ g ∷ []) h = absurd (omega (arith, h))
sixteen P all (a ∷ b ∷ c ∷ d ∷ e ∷ f ∷ g ∷ i ∷ []) h = absurd (omega (arith, h))
sixteen P all (a ∷ b ∷ c ∷ d ∷ e ∷ f ∷ g ∷ i ∷ j ∷ []) h = absurd (omega (arith, h))
sixteen P all (a ∷ b ∷ c ∷ d ∷ e ∷ f ∷ g ∷ i ∷ j ∷ k ∷ []) h = absurd (omega (arith, h))
sixteen P all (a ∷ b ∷ c ∷ d ∷ e ∷ f ∷ g ∷ i ∷ j ∷ k ∷ l ∷ []) h = absurd (omega (arith, h))
sixteen P all (a ∷ b ∷ c ∷ d ∷ e ∷ f ∷ g ∷ i ∷ j ∷ k ∷ l ∷ m ∷ []) h = absurd (omega (arith, h))
sixteen P all (a ∷ b ∷ c ∷ d ∷ e ∷ f ∷ g ∷ i ∷ j ∷ k ∷ l ∷ m ∷ n ∷ []) h = absurd (omega (arith, h))
sixteen P all (a ∷ b ∷ c ∷ d ∷ e ∷ f ∷ g ∷ i ∷ j ∷ k ∷ l ∷ m ∷ n ∷ o ∷ []) h =
    absurd (omega (arith, h))
sixteen P all (a ∷ b ∷ c ∷ d ∷ e ∷ f ∷ g ∷ i ∷ j ∷ k ∷ l ∷ m ∷ n ∷ o ∷ p ∷ []) h =
    absurd (omega (arith, h))
sixteen P all (a ∷ b ∷ c ∷ d ∷ e ∷ f ∷ g ∷ i ∷ j ∷ k ∷ l ∷ m ∷ n ∷ o ∷ p ∷ q ∷ r ∷ xs) h =
    absurd (omega (arith, h))

pub le_16 : (xs : List ℕ) → length xs ≡ 16 → from_le_bytes w128 xs ≡ number false xs
le_16 xs h = sixteen (λ ys. from_le_bytes w128 ys ≡ number false ys)
    (λ a b c d e f g i j k l m n o p q. omega arith) xs h

pub be_16 : (xs : List ℕ) → length xs ≡ 16 → from_be_bytes w128 xs ≡ number true xs
be_16 xs h = sixteen (λ ys. from_be_bytes w128 ys ≡ number true ys)
    (λ a b c d e f g i j k l m n o p q. omega arith) xs h
