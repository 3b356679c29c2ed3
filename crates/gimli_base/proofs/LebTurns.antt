-- What a turn of a loop over the bytes of a LEB128 number shows, unsigned or signed.
use Rattle.std.proofs.Common.{◌≡◌, ℕ, ◌+◌, ◌*◌, ◌<◌, ◌≤◌, ◌^◌, Ok, Err, refl, sym, ap, ◌∙◌, arith}
use Rattle.std.proofs.Common.{rules, tests, add-one}
use Rattle.std.specs.Prelude.{if◌then◌else◌, nat_lt}
use Rattle.std.proofs.Math.Nat.{pow-suc, pow-le-pow_right, mul-le-mul_right}
use Rattle.gimli_base.specs.declared.error.Error.{Error}
use Rattle.gimli_base.specs.View.{View}
use Rattle.gimli_base.specs.Reading.{Reads, map_read}

-- a byte that is not below a limit
pub not_below : {A : Type 0} (b limit : ℕ) (x y : Reads A) → limit ≤ b
    → (if nat_lt b limit then x else y) ≡ y
not_below b limit x y le = search (rules, tests)

-- two makings are one
made_twice : {A : Type 0} (f g h : A → A) (r : Reads A) → ((x : A) → f (g x) ≡ h x)
    → map_read f (map_read g r) ≡ map_read h r
made_twice f g h (Ok p) e = rw (e p.0) refl
made_twice f g h (Err x) e = refl

-- a making that changes nothing
pub made_same : {A : Type 0} (f : A → A) (r : Reads A) → ((x : A) → f x ≡ x) → r ≡ map_read f r
made_same f (Ok p) e = rw (e p.0) refl
made_same f (Err x) e = refl

-- a turn of the loop: the whole is the rest, with the bits so far put in front by f
module _ {A : Type 0} (f : A → A) (whole rest : Reads A) (so_far : whole ≡ map_read f rest) where
  -- the rest is refused
  pub turn_refused : (e : Error) → rest ≡ Err e → Err e ≡ whole
  turn_refused e h = sym (so_far ∙ ap (map_read f) h)

  -- the rest is one byte
  pub turn_last : (x y : A) (w : View) → rest ≡ Ok (x, w) → f x ≡ y → Ok (y, w) ≡ whole
  turn_last x y w h e = sym (so_far ∙ ap (map_read f) h ∙ rw e refl)

  -- the rest is a byte in front of more
  pub turn_more : (g h : A → A) (r : Reads A) → rest ≡ map_read g r → ((x : A) → f (g x) ≡ h x)
      → whole ≡ map_read h r
  turn_more g h r e same = so_far ∙ ap (map_read f) e ∙ made_twice f g h r same

-- seven more bits are scaled to the place of theirs
pub scale_more : (i : ℕ) → 128 ^ (i + 1) ≡ 128 ^ i * 128
scale_more i = rw add-one (pow-suc 128 i)

-- a scaled byte is below the next place
pub small_more : (a b s : ℕ) → a < s → b < 128 → a + b * s < s * 128
small_more a b s h k =
    let e : b * s ≤ 127 * s = mul-le-mul_right s (omega arith) in
    omega (arith, e)

-- the scale of a place
pub scale_fits : (i n : ℕ) → i ≤ n → 128 ^ i ≤ 128 ^ n
scale_fits i n h = pow-le-pow_right (omega arith) h
