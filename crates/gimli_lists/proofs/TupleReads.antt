-- What the reading of a tuple gives, where there are bytes enough.
use Rattle.std.specs.Prelude.{◌≡◌, ℕ, ◌*◌, ◌≤◌, nat_le, true, length, take, Option, Some, Result}
use Rattle.std.specs.Prelude.{Ok, Err}
use Rattle.std.proofs.Common.{refl, ap, ◌∙◌, arith, length-drop}
use Rattle.std.proofs.lemmas.Bool.{le-leb}
use Rattle.gimli_base.specs.declared.error.Error.{Error}
use Rattle.gimli_base.specs.View.{View, cut}
use Rattle.gimli_base.specs.Reading.{Reads, address_at, uint_at, bytes_at, number, is_size}
use Rattle.gimli_base.proofs.Later.{cut-cut}
use Rattle.gimli_lists.specs.Aranges.{tuple_of, next_tuple}
use Rattle.gimli_lists.specs.RawList.{pair_at}

module _ (z : ℕ) (sized : is_size z ≡ true) where
  -- an address, where there are bytes enough
  address_here : (v : View) → z ≤ length v.bytes
      → address_at z v ≡ Ok (number v.big (take z v.bytes), cut z v)
  unfolding address_at uint_at bytes_at
  address_here v le = let t : nat_le z (length v.bytes) ≡ true = le-leb z (length v.bytes) le in
      rw (sized, t) refl

  -- and so two of them are a tuple
  pair_here : (v : View) → 2 * z ≤ length v.bytes → pair_at z v ≡ Ok (tuple_of z v, cut (2 * z) v)
  unfolding pair_at
  pair_here v le =
      let left = length-drop z v.bytes in
      let first = address_here v (omega (arith, le)) in
      let second = address_here (cut z v) (omega (arith, left, le)) in
      let rest : cut z (cut z v)
      ≡ cut (2 * z) v = cut-cut z z v ∙ ap (λ n. cut n v) (omega arith) in
      rw (first, second, rest) refl

  -- which is not refused
  pub pair_found : (v : View) (e : Error) → 2 * z ≤ length v.bytes → Err e ≡ pair_at z v → ⊥
  pair_found v e le h = let is = h ∙ pair_here v le in cc

  -- it is the next tuple
  pub next_tuple_read : (v : View) (a l : ℕ) (w : View) → 2 * z ≤ length v.bytes
      → Ok ((a, l), w) ≡ pair_at z v
      → ◌≡◌ {A = Result (Option (ℕ × ℕ)) Error × View} (Ok (Some (a, l)), w) (next_tuple z v)
  next_tuple_read v a l w le h =
      let t : nat_le (2 * z) (length v.bytes) ≡ true = le-leb (2 * z) (length v.bytes) le in
      let is : ◌≡◌ {A = Reads (ℕ × ℕ)} (Ok ((a, l), w)) (Ok (tuple_of z v, cut (2 * z) v)) = h
      ∙ pair_here v le in
      let one : ◌≡◌ {A = (ℕ × ℕ) × View} ((a, l), w) (tuple_of z v, cut (2 * z) v) = cc in
      let Answer : Type 0 = Result (Option (ℕ × ℕ)) Error × View in
      rw t (ap (λ (x : (ℕ × ℕ) × View). let y : Answer = (Ok (Some x.0), x.1) in y) one)
