-- What a byte that was read shows of a signed LEB128 number.
use Rattle.std.proofs.Common.{◌≡◌, ℕ, zero, suc, ◌+◌, ◌*◌, ◌-◌, ◌<◌, ◌≤◌, ◌^◌, ℤ, pos, ◌+ℤ◌, ◌-ℤ◌}
use Rattle.std.proofs.Common.{◌*ℤ◌, ◌≤ℤ◌, ◌<ℤ◌, FitsSigned, w64, to_z, of_z, Ok, Err, refl, sym, ap}
use Rattle.std.proofs.Common.{◌∙◌, arith, rules, tests, ⊎_elim}
use Rattle.std.proofs.Math.Nat.{mul-le-mul_left}
use Rattle.std.proofs.lemmas.Bool.Decides.{leb_tells}
use Rattle.std.proofs.lemmas.Grind.{common_steps}
use Rattle.std.proofs.lemmas.Int.{ints, to_z_pos, to_z-of_z}
use borrow.Author.Differences.{up, down}
use Rattle.gimli_base.specs.declared.error.Error.{Error}
use Rattle.gimli_base.specs.declared.error.Error.TheVariants.{BadSignedLeb128}
use Rattle.gimli_base.specs.View.{View}
use Rattle.gimli_base.specs.Reading.{Reads, map_read, byte_at, sleb_within}
use Rattle.gimli_base.proofs.LebTurns.{not_below, made_same, turn_refused, turn_last, turn_more}
use Rattle.gimli_base.proofs.LebTurns.{scale_fits}

-- no byte is left
sleb_ended : (n : ℕ) (v : View) (e : Error) → Err e ≡ byte_at v → sleb_within n v ≡ Err e
unfolding sleb_within
sleb_ended zero v e h = rw (← h) refl
sleb_ended (suc n) v e h = rw (← h) refl

-- another byte has bits in front of the rest
sleb_next : (n : ℕ) (v : View) (b : ℕ) (w : View) → Ok (b, w) ≡ byte_at v → 128 ≤ b
    → sleb_within (suc n) v ≡ map_read (λ z. pos (b - 128) +ℤ (pos 128 *ℤ z)) (sleb_within n w)
unfolding sleb_within
sleb_next n v b w h le = rw (← h) (not_below b 64 _ _ (omega arith) ∙ not_below b 128 _ _ le)

-- z is the signed number of the 7 bits of a byte b below 128
module _ (b : ℕ) (z : ℤ) (below : b < 128) (low : b < 64 → z ≡ pos b)
    (high : 64 ≤ b → z ≡ pos b -ℤ pos 128) where
  -- such a byte is the last
  sleb_last : (n : ℕ) (v w : View) → Ok (b, w) ≡ byte_at v → sleb_within (suc n) v ≡ Ok (z, w)
  unfolding sleb_within
  sleb_last n v w h = rw (← h) (grind (arith, common_steps, low, high))

  -- it is from -64 to 63
  pub signed_range : ((pos 0 -ℤ pos 64) ≤ℤ z) × (z <ℤ pos 64)
  signed_range = ⊎_elim (λ t. let e = high t.1 in omega (arith, ints))
      (λ t. let e = low t.1 in omega (arith, ints)) (leb_tells 64 b)

  -- a number of two bytes
  pub sleb_two : (v w x : View) (a : ℕ) (y : ℤ) → Ok (a, w) ≡ byte_at v → 128 ≤ a
      → Ok (b, x) ≡ byte_at w → y ≡ pos (a - 128) +ℤ (pos 128 *ℤ z) → Ok (y, x) ≡ sleb_within 9 v
  sleb_two v w x a y h more k e =
      sym
      (sleb_next 8 v a w h more
      ∙ ap (map_read (λ z. pos (a - 128) +ℤ (pos 128 *ℤ z))) (sleb_last 7 w x k) ∙ rw e refl)

-- no bits are in front of the first byte
pub sleb_first : (r : Reads ℤ) → r ≡ map_read (λ z. pos 0 +ℤ (pos 1 *ℤ z)) r
sleb_first r = made_same (λ z. pos 0 +ℤ (pos 1 *ℤ z)) r (λ z. omega (arith, ints))

-- bits after bits
after_bits : (a b s : ℕ) (z : ℤ)
    → pos a +ℤ (pos s *ℤ (pos b +ℤ (pos 128 *ℤ z))) ≡ pos (a + b * s) +ℤ (pos (s * 128) *ℤ z)
after_bits a b s z =
    let x = pos b +ℤ (pos 128 *ℤ z) in
    let one : up x + 128 * down z ≡ b + 128 * up z + down x = omega (arith, ints) in
    let scaled = ap (λ n. s * n) one in
    omega (arith, ints, scaled)

-- the bits so far and a last byte's fit
module _ (i a s : ℕ) (z : ℤ) (lt : i < 9) (is : s ≡ 128 ^ i) (small : a < s)
    (range : ((pos 0 -ℤ pos 64) ≤ℤ z) × (z <ℤ pos 64)) where
  -- the bounds of the byte's bits, scaled
  scaled_range : (s * up z ≤ s * (down z + 63)) × (s * down z ≤ s * (up z + 64))
  scaled_range = (mul-le-mul_left s (omega (arith, ints)), mul-le-mul_left s (omega (arith, ints)))

  -- the scale is not negative as a signed number
  scale_is : to_z w64 s ≡ pos s
  scale_is = to_z_pos w64 s (omega (arith, scale_fits i 8 (omega arith)))

  -- the byte's bits are read again as they were
  bits_are : to_z w64 (of_z w64 z) ≡ z
  bits_are = to_z-of_z w64 z (omega (arith, ints))

  -- the scaled bits fit
  pub product_fits : FitsSigned w64 (to_z w64 s *ℤ to_z w64 (of_z w64 z))
  product_fits = rw (scale_is, bits_are)
      (omega (arith, ints, scaled_range, scale_fits i 8 (omega arith)))

  -- so do all bits
  pub sum_fits : FitsSigned w64
      (to_z w64 a +ℤ to_z w64 (of_z w64 (to_z w64 s *ℤ to_z w64 (of_z w64 z))))
  sum_fits = rw (to_z-of_z w64 _ product_fits, scale_is, bits_are)
      (omega (arith, ints, scaled_range, scale_fits i 8 (omega arith)))

  -- what the code computes is their sum
  pub sum_is : to_z w64
      (of_z w64 (to_z w64 a +ℤ to_z w64 (of_z w64 (to_z w64 s *ℤ to_z w64 (of_z w64 z)))))
      ≡ pos a +ℤ (pos s *ℤ z)
  sum_is = to_z-of_z w64 _ sum_fits
      ∙ rw (to_z-of_z w64 _ product_fits, scale_is, bits_are)
      (omega (arith, ints, scale_fits i 8 (omega arith)))

-- a tenth byte 0 is the sign alone of a number that is not negative
sleb_zero : (v : View) (b : ℕ) (w : View) → Ok (b, w) ≡ byte_at v → b ≡ 0
    → sleb_within 0 v ≡ Ok (pos 0, w)
unfolding sleb_within
sleb_zero v b w h is = rw (← h, is) refl

-- a tenth byte 127 is that of a negative number
sleb_ones : (v : View) (b : ℕ) (w : View) → Ok (b, w) ≡ byte_at v → b ≡ 127
    → sleb_within 0 v ≡ Ok (pos 0 -ℤ pos 1, w)
unfolding sleb_within
sleb_ones v b w h is = rw (← h, is) refl

-- another tenth byte is refused
sleb_over : (v : View) (b : ℕ) (w : View) → Ok (b, w) ≡ byte_at v → ¬ (b ≡ 0) → ¬ (b ≡ 127)
    → sleb_within 0 v ≡ Err BadSignedLeb128
unfolding sleb_within
sleb_over v b w h some_bit some_other = rw (← h) (search (rules, tests))

-- a turn of the loop: n bytes may come and one, and the number is a and s times theirs
module _ (all v : View) (a s i : ℕ)
    (so_far : sleb_within 9 all ≡ map_read (λ z. pos a +ℤ (pos s *ℤ z)) (sleb_within (9 - i) v))
  where
    -- no byte is left
    pub sleb_turn_ended : (e : Error) → Err e ≡ byte_at v → Err e ≡ sleb_within 9 all
    sleb_turn_ended e h = turn_refused _ _ _ so_far e (sleb_ended (9 - i) v e h)

    -- the byte is the last
    pub sleb_turn_last : (b : ℕ) (z y : ℤ) (w : View) → b < 128 → (b < 64 → z ≡ pos b)
        → (64 ≤ b → z ≡ pos b -ℤ pos 128)
        → i < 9 → Ok (b, w) ≡ byte_at v → y ≡ pos a +ℤ (pos s *ℤ z) → Ok (y, w) ≡ sleb_within 9 all
    sleb_turn_last b z y w below low high lt h is =
        let n : 9 - i ≡ suc (8 - i) = omega arith in
        turn_last _ _ _ so_far z y w (rw n (sleb_last b z below low high (8 - i) v w h)) (sym is)

    -- the byte has bits in front of more
    pub sleb_turn_more : (b m : ℕ) (w : View) → i < 9 → m ≡ b - 128 → Ok (b, w) ≡ byte_at v → 128 ≤ b
        → sleb_within 9 all ≡ map_read (λ z. pos (a + m * s) +ℤ (pos (s * 128) *ℤ z))
        (sleb_within (9 - (i + 1)) w)
    sleb_turn_more b m w lt e h high =
        let n : 9 - i ≡ suc (9 - (i + 1)) = omega arith in
        let at : sleb_within (9 - i) v
        ≡ map_read (λ z. pos (b - 128) +ℤ (pos 128 *ℤ z)) (sleb_within (9 - (i + 1)) w) =
        rw n (sleb_next (9 - (i + 1)) v b w h high) in
        turn_more _ _ _ so_far _ _ _ at (rw e (after_bits a (b - 128) s))

    -- the byte is the tenth, and the number is not negative
    pub sleb_turn_zero : (b : ℕ) (w : View) (y : ℤ) → 9 ≤ i → Ok (b, w) ≡ byte_at v → b ≡ 0
        → y ≡ pos a → Ok (y, w) ≡ sleb_within 9 all
    sleb_turn_zero b w y le h sign is =
        let n : 9 - i ≡ 0 = omega arith in
        turn_last _ _ _ so_far (pos 0) y w (rw n (sleb_zero v b w h sign)) (omega (arith, ints))

    -- the byte is the tenth, and the number is negative
    pub sleb_turn_ones : (b : ℕ) (w : View) (y : ℤ) → 9 ≤ i → Ok (b, w) ≡ byte_at v → b ≡ 127
        → y ≡ pos a -ℤ pos s → Ok (y, w) ≡ sleb_within 9 all
    sleb_turn_ones b w y le h sign is =
        let n : 9 - i ≡ 0 = omega arith in
        turn_last _ _ _ so_far (pos 0 -ℤ pos 1) y w (rw n (sleb_ones v b w h sign))
        (omega (arith, ints))

    -- the byte is the tenth, and is refused
    pub sleb_turn_over : (b : ℕ) (w : View) → 9 ≤ i → Ok (b, w) ≡ byte_at v → ¬ (b ≡ 0) → ¬ (b ≡ 127)
        → Err BadSignedLeb128 ≡ sleb_within 9 all
    sleb_turn_over b w le h some_bit some_other =
        let n : 9 - i ≡ 0 = omega arith in
        turn_refused _ _ _ so_far BadSignedLeb128 (rw n (sleb_over v b w h some_bit some_other))
