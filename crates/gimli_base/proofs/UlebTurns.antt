-- What a byte that was read shows of an unsigned LEB128 number.
use Rattle.std.proofs.Common.{◌≡◌, ℕ, zero, suc, ◌+◌, ◌*◌, ◌-◌, ◌<◌, ◌≤◌, Ok, Err, refl, arith}
use Rattle.std.proofs.Common.{rules, tests}
use Rattle.std.proofs.Math.Nat.{mul-add, mul_assoc, mul_comm}
use Rattle.gimli_base.specs.declared.error.Error.{Error}
use Rattle.gimli_base.specs.declared.error.Error.TheVariants.{BadUnsignedLeb128}
use Rattle.gimli_base.specs.View.{View}
use Rattle.gimli_base.specs.Reading.{Reads, map_read, byte_at, uleb_within}
use Rattle.gimli_base.proofs.LebTurns.{not_below, made_same, turn_refused, turn_last, turn_more}

-- no byte is left
uleb_ended : (n : ℕ) (v : View) (e : Error) → Err e ≡ byte_at v → uleb_within 1 n v ≡ Err e
unfolding uleb_within
uleb_ended zero v e h = rw (← h) refl
uleb_ended (suc n) v e h = rw (← h) refl

-- a byte below 128 is the last
uleb_last : (n : ℕ) (v : View) (b : ℕ) (w : View) → Ok (b, w) ≡ byte_at v → b < 128
    → uleb_within 1 (suc n) v ≡ Ok (b, w)
unfolding uleb_within
uleb_last n v b w h lt = rw (← h) (search (rules, tests))

-- another byte has bits in front of the rest
uleb_next : (n : ℕ) (v : View) (b : ℕ) (w : View) → Ok (b, w) ≡ byte_at v → 128 ≤ b
    → uleb_within 1 (suc n) v ≡ map_read (λ m. b - 128 + 128 * m) (uleb_within 1 n w)
unfolding uleb_within
uleb_next n v b w h le = rw (← h) (not_below b 128 _ _ le)

-- a tenth byte is 0 or 1
uleb_tenth : (v : View) (b : ℕ) (w : View) → Ok (b, w) ≡ byte_at v → b ≤ 1
    → uleb_within 1 0 v ≡ Ok (b, w)
unfolding uleb_within
uleb_tenth v b w h le = rw (← h) (search (rules, tests))

-- another tenth byte is refused
uleb_over : (v : View) (b : ℕ) (w : View) → Ok (b, w) ≡ byte_at v → 1 < b
    → uleb_within 1 0 v ≡ Err BadUnsignedLeb128
unfolding uleb_within
uleb_over v b w h lt = rw (← h) (search (rules, tests))

-- no bits are in front of the first byte
pub uleb_first : (r : Reads ℕ) → r ≡ map_read (λ m. 0 + 1 * m) r
uleb_first r = made_same (λ m. 0 + 1 * m) r (λ m. omega arith)

-- a turn of the loop: n bytes may come and one, and the number is a and s times theirs
module _ (all v : View) (a s i : ℕ)
    (so_far : uleb_within 1 9 all ≡ map_read (λ m. a + s * m) (uleb_within 1 (9 - i) v)) where
  -- no byte is left
  pub uleb_turn_ended : (e : Error) → Err e ≡ byte_at v → Err e ≡ uleb_within 1 9 all
  uleb_turn_ended e h = turn_refused _ _ _ so_far e (uleb_ended (9 - i) v e h)

  -- the byte is the last
  pub uleb_turn_last : (b f : ℕ) (w : View) → i < 9 → b ≡ f → Ok (f, w) ≡ byte_at v → b < 128
      → Ok (a + b * s, w) ≡ uleb_within 1 9 all
  uleb_turn_last b f w lt e h low =
      let n : 9 - i ≡ suc (8 - i) = omega arith in
      let at : uleb_within 1 (9 - i) v ≡ Ok (b, w) = rw n (uleb_last (8 - i) v b w (rw e h) low) in
      turn_last _ _ _ so_far b (a + b * s) w at (omega (arith, mul_comm s b))

  -- the byte has bits in front of more
  pub uleb_turn_more : (b f : ℕ) (w : View) → i < 9 → b ≡ f → Ok (f, w) ≡ byte_at v → 128 ≤ b
      → uleb_within 1 9 all
      ≡ map_read (λ m. a + (b - 128) * s + s * 128 * m) (uleb_within 1 (9 - (i + 1)) w)
  uleb_turn_more b f w lt e h high =
      let n : 9 - i ≡ suc (9 - (i + 1)) = omega arith in
      let at : uleb_within 1 (9 - i) v
      ≡ map_read (λ m. b - 128 + 128 * m) (uleb_within 1 (9 - (i + 1)) w) =
      rw n (uleb_next (9 - (i + 1)) v b w (rw e h) high) in
      turn_more _ _ _ so_far _ _ _ at
      (λ m.
      grind (arith, mul-add s (b - 128) (128 * m), mul_assoc s 128 m, mul_comm s (b - 128)))

  -- the byte is the tenth
  pub uleb_turn_tenth : (b f : ℕ) (w : View) → 9 ≤ i → b ≡ f → Ok (f, w) ≡ byte_at v → b ≤ 1
      → Ok (a + b * s, w) ≡ uleb_within 1 9 all
  uleb_turn_tenth b f w le e h low =
      let n : 9 - i ≡ 0 = omega arith in
      let at : uleb_within 1 (9 - i) v ≡ Ok (b, w) = rw n (uleb_tenth v b w (rw e h) low) in
      turn_last _ _ _ so_far b (a + b * s) w at (omega (arith, mul_comm s b))

  -- the byte is the tenth, and too much
  pub uleb_turn_over : (b f : ℕ) (w : View) → 9 ≤ i → b ≡ f → Ok (f, w) ≡ byte_at v → 1 < b
      → Err BadUnsignedLeb128 ≡ uleb_within 1 9 all
  uleb_turn_over b f w le e h high =
      let n : 9 - i ≡ 0 = omega arith in
      turn_refused _ _ _ so_far BadUnsignedLeb128 (rw n (uleb_over v b w (rw e h) high))
