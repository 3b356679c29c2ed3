-- A number of one byte is that byte.
use Rattle.std.specs.Prelude.{◌≡◌, ℕ, Bool, true, false, List, [], ◌∷◌, ◌+◌, Ok, nat_lt, length}
use Rattle.std.proofs.Common.{refl, sym, ap, arith}
use Rattle.std.proofs.lemmas.Bool.{lt-ltb}
use Rattle.gimli_base.specs.View.{View}
use Rattle.gimli_base.specs.Reading.{Reads, byte_at, bytes_at, uint_at, number}

one_digit : (big : Bool) (x : ℕ) → number big (x ∷ []) ≡ x
one_digit true x = omega arith
one_digit false x = omega arith

one_of : (big : Bool) (place : ℕ) (xs : List ℕ)
    → byte_at (record { big = big; place = place; bytes = xs })
    ≡ uint_at 1 (record { big = big; place = place; bytes = xs })
unfolding byte_at uint_at bytes_at
one_of big place [] = refl
one_of big place (x ∷ xs) =
    let left : View = record { big = big; place = place + 1; bytes = xs } in
    let f : ℕ → Reads ℕ = λ n. Ok (n, left) in
    let some : nat_lt 0 (length (x ∷ xs)) ≡ true = lt-ltb 0 (length (x ∷ xs)) (omega arith) in
    rw some (ap f (sym (one_digit big x)))

-- a number of one byte is that byte
pub one_byte : (v : View) → byte_at v ≡ uint_at 1 v
one_byte v = one_of v.big v.place v.bytes
