-- Numbers of less than eight bytes, in a word whose other bytes are 0.
use Rattle.std.proofs.Common.{◌≡◌, ℕ, zero, suc, ◌+◌, ◌-◌, ◌≤◌, List, [], ◌∷◌, ◌++◌, length, take}
use Rattle.std.proofs.Common.{drop, Ok, refl, sym, ap, ◌∙◌, arith, append_assoc}
use Rattle.std.specs.Prelude.{Bool, true, false, replicate}
use Rattle.std.proofs.lemmas.List.{append-nil, drop-drop, drop-replicate, take-replicate}
use Rattle.std.proofs.lemmas.List.{reverse-append, length-take, length-drop}
use Rattle.std.proofs.lemmas.Grind.{replicate_next}
use Rattle.gimli_base.specs.View.{View}
use Rattle.gimli_base.specs.Reading.{bytes_at, uint_at, number}

-- the bytes of an empty word
abbrev pub zeros : List ℕ
zeros = 0 ∷ 0 ∷ 0 ∷ 0 ∷ 0 ∷ 0 ∷ 0 ∷ 0 ∷ []

-- zeros before a number in big endian
before_big : (n : ℕ) (xs : List ℕ) → number true (replicate n 0 ++ xs) ≡ number true xs
before_big zero xs = refl
before_big (suc n) xs = before_big n xs

-- a zero after a number in little endian
after_one : (xs : List ℕ) → number false (xs ++ 0 ∷ []) ≡ number false xs
after_one xs = rw (reverse-append xs (0 ∷ [])) refl

after_little : (n : ℕ) (xs : List ℕ) → number false (xs ++ replicate n 0) ≡ number false xs
after_little zero xs = rw (append-nil xs) refl
after_little (suc n) xs =
    let next : suc n ≡ n + 1 = omega arith in
    let more : replicate (suc n) 0
    ≡ replicate n 0 ++ 0 ∷ [] = ap (λ k. replicate k 0) next ∙ replicate_next n 0 in
    ap (λ ys. number false (xs ++ ys)) more
    ∙ ap (number false) (sym (append_assoc xs (replicate n 0) (0 ∷ [])))
    ∙ after_one (xs ++ replicate n 0) ∙ after_little n xs

-- the last bytes of an empty word are written, in big endian
pub last_bytes : (a k : ℕ) (xs : List ℕ) → a ≤ 8 → k ≡ 8 - a
    → number true (take a zeros ++ (xs ++ drop k (drop a zeros))) ≡ number true xs
last_bytes a k xs le is =
    let all : a + k ≡ 8 = omega (arith, is, le) in
    let none : drop k (drop a zeros) ≡ [] = drop-drop k a zeros ∙ ap (λ n. drop n zeros) all in
    let front : take a zeros ≡ replicate a 0 = take-replicate a 8 0 le in
    rw (none, append-nil xs, front) (before_big a xs)

-- the first bytes of an empty word are written, in little endian
pub first_bytes : (n : ℕ) (xs : List ℕ) → number false (xs ++ drop n zeros) ≡ number false xs
first_bytes n xs =
    let rest : drop n zeros ≡ replicate (8 - n) 0 = drop-replicate n 8 0 in
    rw rest (after_little (8 - n) xs)

pub first_length : (n : ℕ) → n ≤ 8 → length (take n zeros) ≡ n
first_length n le = simp length-take (omega (arith, le))

pub last_length : (a k n : ℕ) → n ≤ 8 → a ≡ 8 - n → k ≡ 8 - a → length (take k (drop a zeros)) ≡ n
last_length a k n le is rest = simp (length-take, length-drop) (omega (arith, le, is, rest))

-- bytes that were read, as a number
pub number_read : (n m : ℕ) (v w : View) (xs ys : List ℕ) (big : Bool) (x : ℕ) → m ≡ n
    → Ok (xs, w) ≡ bytes_at m v
    → x ≡ number big ys → number big ys ≡ number big xs → big ≡ v.big → Ok (x, w) ≡ uint_at n v
unfolding uint_at
number_read n m v w xs ys big x count h is same order =
    let bytes : Ok (xs, w) ≡ bytes_at n v = rw count at h in
    rw (← bytes, ← order) (ap (λ a. Ok (a, w)) (is ∙ same))
