-- Where a read succeeds, passing its bytes leaves the same view (DWARF 5, 7.5.6 and 7.6).
use Rattle.std.specs.Prelude.{◌≡◌, ℕ, zero, suc, ◌+◌, ◌*◌, ◌-◌, ◌<◌, ◌≤◌, ℤ, pos, ◌+ℤ◌, ◌-ℤ◌, ◌*ℤ◌}
use Rattle.std.specs.Prelude.{◌==◌, nat_lt, nat_le, not, Bool, true, false, if◌then◌else◌, List, []}
use Rattle.std.specs.Prelude.{◌∷◌, length, Option, Some, None, Result, Ok, Err}
use Rattle.std.specs.List.{position, prefix_len}
use Rattle.std.specs.Option.{option_map}
use Rattle.std.proofs.Common.{refl, sym, ap, ◌∙◌, arith, add-zero}
use Rattle.std.proofs.lemmas.Bool.{ltb-true, ltb-false, lt-ltb, le-ltb, leb-true, le-leb, eqb-true}
use Rattle.gimli_base.specs.declared.error.Error.{Error}
use Rattle.gimli_base.specs.declared.error.Error.TheVariants.{UnexpectedEof, BadUnsignedLeb128}
use Rattle.gimli_base.specs.declared.error.Error.TheVariants.{BadSignedLeb128}
use Rattle.gimli_base.specs.declared.common.Format.{Format}
use Rattle.gimli_base.specs.Offset.{offset_of}
use Rattle.gimli_base.specs.View.{View, cut, end_of_view}
use Rattle.gimli_base.specs.Reading.{Reads, ◌>>=◌, map_read, eof, byte_at, skip_at, split_at}
use Rattle.gimli_base.specs.Reading.{bytes_at}
use Rattle.gimli_base.specs.Reading.{uint_at, as_offset, uint_offset_at, offset_at, word_size_of}
use Rattle.gimli_base.specs.Reading.{sized_offset_at, address_at, text_at, uleb_within, uleb_at}
use Rattle.gimli_base.specs.Reading.{uleb16_at, sleb_within, sleb_at, skip_leb_at, PassesAs}
use Rattle.gimli_base.proofs.Later.{cut-cut}
use Rattle.gimli_base.proofs.Taken.{TakesAfter, Takes, taken, byte_at-takes, split_at-takes}
use Rattle.gimli_base.proofs.Taken.{bytes_at-takes, uint_at-takes, as_offset-takes, offset_at-takes}
use Rattle.gimli_base.proofs.Taken.{sized_offset_at-takes, address_at-takes, text_at-takes}

-- a read of as many bytes as its value says
pub sized_passed : {A : Type 0} → (size : A → ℕ) (v : View) (r : Reads A) → TakesAfter 0 size v r
    → (a : A) (w : View) → ◌≡◌ {A = Reads A} (Ok (a, w)) r
    → ◌≡◌ {A = Reads (Unit {0})} (skip_at (size a) v) (Ok (tt, w))
unfolding skip_at
sized_passed size v r h a w e =
    let t = taken (size a) v w (h a w e) in
    rw (le-leb (size a) (length v.bytes) t.0) (ap (λ (u : View). Ok (tt, u)) (sym t.1))

-- a read of a number of bytes that is known before
pub fixed_passed : {A : Type 0} → (n : ℕ) (v : View) (r : Reads A) → Takes n v r
    → PassesAs (skip_at n v) r
fixed_passed n v r h = sized_passed (λ _. n) v r h

pub byte_at-passed : (v : View) → PassesAs (skip_at 1 v) (byte_at v)
byte_at-passed v = fixed_passed 1 v (byte_at v) (byte_at-takes v)

pub bytes_at-passed : (n : ℕ) (v : View) → PassesAs (skip_at n v) (bytes_at n v)
bytes_at-passed n v = fixed_passed n v (bytes_at n v) (bytes_at-takes n v)

pub split_at-passed : (n : ℕ) (v : View) → PassesAs (skip_at n v) (split_at n v)
split_at-passed n v = fixed_passed n v (split_at n v) (split_at-takes n v)

pub uint_at-passed : (n : ℕ) (v : View) → PassesAs (skip_at n v) (uint_at n v)
uint_at-passed n v = fixed_passed n v (uint_at n v) (uint_at-takes n v)

pub uint_offset_at-passed : (limit n : ℕ) (v : View)
    → PassesAs (skip_at n v) (uint_offset_at limit n v)
uint_offset_at-passed limit n v =
    fixed_passed n v (uint_offset_at limit n v)
    (as_offset-takes n limit v (uint_at n v) (uint_at-takes n v))

pub offset_at-passed : (limit : ℕ) (format : Format) (v : View)
    → PassesAs (skip_at (word_size_of format) v) (offset_at limit format v)
offset_at-passed limit format v =
    fixed_passed (word_size_of format) v (offset_at limit format v) (offset_at-takes limit format v)

pub sized_offset_at-passed : (limit z : ℕ) (v : View)
    → PassesAs (skip_at z v) (sized_offset_at limit z v)
sized_offset_at-passed limit z v =
    fixed_passed z v (sized_offset_at limit z v) (sized_offset_at-takes limit z v)

pub address_at-passed : (z : ℕ) (v : View) → PassesAs (skip_at z v) (address_at z v)
address_at-passed z v = fixed_passed z v (address_at z v) (address_at-takes z v)

-- a text is passed with its zero
pub text_at-passed : (v a w : View) → Ok (a, w) ≡ text_at v
    → ◌≡◌ {A = Reads (Unit {0})} (skip_at (length a.bytes + 1) v) (Ok (tt, w))
text_at-passed v a w h =
    sized_passed (λ (x : View). length x.bytes + 1) v (text_at v) (text_at-takes v) a w h

-- nothing is passed
pub skip_at-none : (v : View) → ◌≡◌ {A = Reads (Unit {0})} (skip_at 0 v) (Ok (tt, v))
unfolding skip_at
skip_at-none v = rw (le-leb 0 (length v.bytes) (omega arith), add-zero) refl

-- what was made into another value was read
pub made_read : {A B : Type 0} → (f : A → B) (r : Reads A) (b : B) (w : View)
    → ◌≡◌ {A = Reads B} (Ok (b, w)) (map_read f r) → (a : A) × (◌≡◌ {A = Reads A} (Ok (a, w)) r)
made_read {B = B} f (Ok p) b w h =
    let same : ◌≡◌ {A = B × View} (b, w) (f p.0, p.1) = cc in
    (p.0, ap (λ (q : B × View). Ok (p.0, q.1)) same)
made_read f (Err e) b w h = absurd (cc)

-- an offset was read as a number
pub offset_read : (limit : ℕ) (r : Reads ℕ) (o : ℕ) (w : View) → Ok (o, w) ≡ as_offset limit r
    → (a : ℕ) × (◌≡◌ {A = Reads ℕ} (Ok (a, w)) r)
offset_read limit (Err e) o w h = absurd (cc)
offset_read limit (Ok p) o w h = cases (offset_of limit p.0) h
  where
    cases : (r : Result ℕ Error)
        → ◌≡◌ {A = Reads ℕ} (Ok (o, w)) (elim r [ Ok o ↦ Ok (o, p.1) | Err e ↦ Err e ])
        → (a : ℕ) × (◌≡◌ {A = Reads ℕ} (Ok (a, w)) (Ok p))
    cases (Ok n) e =
        let same : ◌≡◌ {A = ℕ × View} (o, w) (n, p.1) = cc in
        (p.0, ap (λ (q : ℕ × View). Ok (p.0, q.1)) same)
    cases (Err x) e = absurd (cc)

-- where the first item of a list that passes stands, by the first item
first_of_all : (t : Bool) (n : ℕ) (x : ℕ) (xs : List ℕ)
    → (if nat_lt (if not t then 1 + n else 0) (length (x ∷ xs))
    then Some (if not t then 1 + n else 0) else None)
    ≡ (if t then Some 0 else option_map (λ k. 1 + k)
    (if nat_lt n (length xs) then Some n else None))
first_of_all true n x xs = rw (lt-ltb 0 (length (x ∷ xs)) (omega arith)) refl
first_of_all false n x xs = cases (nat_lt n (length xs)) refl
  where
    cases : (s : Bool) → nat_lt n (length xs) ≡ s
        → (if nat_lt (1 + n) (length (x ∷ xs)) then Some (1 + n) else None)
        ≡ option_map (λ k. 1 + k) (if s then Some n else None)
    cases true is = let inside : n < length xs = ltb-true n (length xs) is in
        rw (lt-ltb (1 + n) (length (x ∷ xs)) (omega (arith, inside))) refl
    cases false is = let outside : length xs ≤ n = ltb-false n (length xs) is in
        rw (le-ltb (1 + n) (length (x ∷ xs)) (omega (arith, outside))) refl

-- a byte, and then the others
pass_turn : (t : Bool) (o : Option ℕ) (big : Bool) (place x : ℕ) (xs : List ℕ)
    → ◌≡◌ {A = Reads (Unit {0})}
    (elim (if t then Some 0 else option_map (λ k. 1 + k) o) [
      | Some n ↦ Ok (tt, cut (n + 1) (record { big = big; place = place; bytes = x ∷ xs }))
      | None ↦ Err (eof (end_of_view (record { big = big; place = place; bytes = x ∷ xs })))
    ])
    (if t then Ok (tt, record { big = big; place = place + 1; bytes = xs }) else elim o [
      | Some n ↦ Ok (tt, cut (n + 1) (record { big = big; place = place + 1; bytes = xs }))
      | None ↦ Err (eof (end_of_view (record { big = big; place = place + 1; bytes = xs })))
    ])
pass_turn true o big place x xs = refl
pass_turn false (Some n) big place x xs =
    let v : View = record { big = big; place = place; bytes = x ∷ xs } in
    let sum : 1 + n + 1 ≡ 1 + (n + 1) = omega arith in
    ap (λ (u : View). Ok (tt, u)) (ap (λ k. cut k v) sum ∙ sym (cut-cut 1 (n + 1) v))
pass_turn false None big place x xs =
    let end : place + length (x ∷ xs) ≡ place + 1 + length xs = omega arith in
    ap (λ n. Err (UnexpectedEof (record { 0 = n }))) end

step_of : (big : Bool) (place : ℕ) (xs : List ℕ)
    → skip_leb_at (record { big = big; place = place; bytes = xs })
    ≡ (byte_at (record { big = big; place = place; bytes = xs }) >>= λ p. if nat_lt p.0 128
    then Ok (tt, p.1) else skip_leb_at p.1)
unfolding skip_leb_at byte_at
step_of big place [] = rw add-zero refl
step_of big place (x ∷ xs) =
    let some : nat_lt 0 (length (x ∷ xs)) ≡ true = lt-ltb 0 (length (x ∷ xs)) (omega arith) in
    let o : Option ℕ = position (λ b. nat_lt b 128) xs in
    let n : ℕ = prefix_len (λ b. not (nat_lt b 128)) xs in
    let f : Option ℕ → Reads (Unit {0}) = λ o. elim o [
      | Some n ↦ Ok (tt, cut (n + 1) (record { big = big; place = place; bytes = x ∷ xs }))
      | None ↦ Err (eof (end_of_view (record { big = big; place = place; bytes = x ∷ xs })))
    ] in
    rw some (ap f (first_of_all (nat_lt x 128) n x xs) ∙ pass_turn (nat_lt x 128) o big place x xs)

-- a LEB128 number is passed byte by byte
pub skip_leb_at-step : (v : View)
    → skip_leb_at v ≡ (byte_at v >>= λ p. if nat_lt p.0 128 then Ok (tt, p.1) else skip_leb_at p.1)
skip_leb_at-step v = step_of v.big v.place v.bytes

-- the last byte of a number is passed
last_passed : {A : Type 0} → (b : ℕ) (a y : A) (u w : View) (others : Reads (Unit {0})) → b < 128
    → ◌≡◌ {A = Reads A} (Ok (a, w)) (Ok (y, u))
    → ◌≡◌ {A = Reads (Unit {0})} (if nat_lt b 128 then Ok (tt, u) else others) (Ok (tt, w))
last_passed {A} b a y u w others low h =
    let same : ◌≡◌ {A = A × View} (a, w) (y, u) = cc in
    rw (lt-ltb b 128 low) (ap (λ (q : A × View). Ok (tt, q.1)) (sym same))

-- the last byte that a number may have, unsigned
module _ (a : ℕ) (w : View) (top : ℕ) (few : top < 128) where
  top_turn : (t : Bool) (p : ℕ × View) → nat_le p.0 top ≡ t
      → ◌≡◌ {A = Reads ℕ} (Ok (a, w)) (if t then Ok p else Err BadUnsignedLeb128)
      → ◌≡◌ {A = Reads (Unit {0})} (if nat_lt p.0 128 then Ok (tt, p.1) else skip_leb_at p.1)
      (Ok (tt, w))
  top_turn true p is e =
      let low : p.0 ≤ top = leb-true p.0 top is in
      last_passed p.0 a p.0 p.1 w (skip_leb_at p.1) (omega (arith, low, few)) e
  top_turn false p is e = absurd (cc)

  top_passed : (r : Reads ℕ)
      → ◌≡◌ {A = Reads ℕ} (Ok (a, w))
      (r >>= λ p. if nat_le p.0 top then Ok p else Err BadUnsignedLeb128)
      → ◌≡◌ {A = Reads (Unit {0})}
      (r >>= λ p. if nat_lt p.0 128 then Ok (tt, p.1) else skip_leb_at p.1) (Ok (tt, w))
  top_passed (Ok p) e = top_turn (nat_le p.0 top) p refl e
  top_passed (Err x) e = absurd (cc)

-- a byte, where the others are passed as they are read, unsigned
module _ (a : ℕ) (w : View) (others : View → Reads ℕ)
    (same : (u : View) → PassesAs (skip_leb_at u) (others u)) where
  uleb_turn : (t : Bool) (p : ℕ × View)
      → ◌≡◌ {A = Reads ℕ} (Ok (a, w))
      (if t then Ok p else map_read (λ m. p.0 - 128 + 128 * m) (others p.1))
      → ◌≡◌ {A = Reads (Unit {0})} (if t then Ok (tt, p.1) else skip_leb_at p.1) (Ok (tt, w))
  uleb_turn true p e =
      let is : ◌≡◌ {A = ℕ × View} (a, w) p = cc in
      ap (λ (q : ℕ × View). Ok (tt, q.1)) (sym is)
  uleb_turn false p e =
      let x = made_read (λ m. p.0 - 128 + 128 * m) (others p.1) a w e in
      same p.1 x.0 w x.1

  uleb_passed : (r : Reads ℕ)
      → ◌≡◌ {A = Reads ℕ} (Ok (a, w))
      (r >>= λ p. if nat_lt p.0 128 then Ok p else map_read (λ m. p.0 - 128 + 128 * m) (others p.1))
      → ◌≡◌ {A = Reads (Unit {0})}
      (r >>= λ p. if nat_lt p.0 128 then Ok (tt, p.1) else skip_leb_at p.1) (Ok (tt, w))
  uleb_passed (Ok p) e = uleb_turn (nat_lt p.0 128) p e
  uleb_passed (Err x) e = absurd (cc)

uleb_within-passed : (top : ℕ) → top < 128 → (n : ℕ) (v : View)
    → PassesAs (skip_leb_at v) (uleb_within top n v)
unfolding uleb_within
uleb_within-passed top few zero v a w h = skip_leb_at-step v ∙ top_passed a w top few (byte_at v) h
uleb_within-passed top few (suc n) v a w h =
    skip_leb_at-step v ∙ uleb_passed a w (uleb_within top n) (uleb_within-passed top few n)
    (byte_at v) h

pub uleb_at-passed : (v : View) → PassesAs (skip_leb_at v) (uleb_at v)
unfolding uleb_at
uleb_at-passed v = uleb_within-passed 1 (omega arith) 9 v

pub uleb16_at-passed : (v : View) → PassesAs (skip_leb_at v) (uleb16_at v)
unfolding uleb16_at
uleb16_at-passed v = uleb_within-passed 3 (omega arith) 2 v

-- the last byte that a number may have, signed
module _ (a : ℤ) (w : View) where
  sign_turn : (s t : Bool) (p : ℕ × View) → p.0 == 0 ≡ s → p.0 == 127 ≡ t
      → ◌≡◌ {A = Reads ℤ} (Ok (a, w))
      (if s then Ok (pos 0, p.1) else if t then Ok (pos 0 -ℤ pos 1, p.1)
      else Err BadSignedLeb128)
      → ◌≡◌ {A = Reads (Unit {0})} (if nat_lt p.0 128 then Ok (tt, p.1) else skip_leb_at p.1)
      (Ok (tt, w))
  sign_turn true t p none ones e =
      let b : p.0 ≡ 0 = eqb-true p.0 0 none in
      last_passed p.0 a (pos 0) p.1 w (skip_leb_at p.1) (omega (arith, b)) e
  sign_turn false true p none ones e =
      let b : p.0 ≡ 127 = eqb-true p.0 127 ones in
      last_passed p.0 a (pos 0 -ℤ pos 1) p.1 w (skip_leb_at p.1) (omega (arith, b)) e
  sign_turn false false p none ones e = absurd (cc)

  sign_passed : (r : Reads ℕ)
      → ◌≡◌ {A = Reads ℤ} (Ok (a, w))
      (r >>= λ p. if p.0 == 0 then Ok (pos 0, p.1) else if p.0 == 127 then Ok (pos 0 -ℤ pos 1, p.1)
      else Err BadSignedLeb128)
      → ◌≡◌ {A = Reads (Unit {0})}
      (r >>= λ p. if nat_lt p.0 128 then Ok (tt, p.1) else skip_leb_at p.1) (Ok (tt, w))
  sign_passed (Ok p) e = sign_turn (p.0 == 0) (p.0 == 127) p refl refl e
  sign_passed (Err x) e = absurd (cc)

-- a byte, where the others are passed as they are read, signed
module _ (a : ℤ) (w : View) (others : View → Reads ℤ)
    (same : (u : View) → PassesAs (skip_leb_at u) (others u)) where
  sleb_turn : (s t : Bool) (p : ℕ × View) → nat_lt p.0 64 ≡ s → nat_lt p.0 128 ≡ t
      → ◌≡◌ {A = Reads ℤ} (Ok (a, w))
      (if s then Ok (pos p.0, p.1) else if t then Ok (pos p.0 -ℤ pos 128, p.1)
      else map_read (λ z. pos (p.0 - 128) +ℤ (pos 128 *ℤ z)) (others p.1))
      → ◌≡◌ {A = Reads (Unit {0})} (if nat_lt p.0 128 then Ok (tt, p.1) else skip_leb_at p.1)
      (Ok (tt, w))
  sleb_turn true t p low last e =
      let b : p.0 < 64 = ltb-true p.0 64 low in
      last_passed p.0 a (pos p.0) p.1 w (skip_leb_at p.1) (omega (arith, b)) e
  sleb_turn false true p low last e =
      last_passed p.0 a (pos p.0 -ℤ pos 128) p.1 w (skip_leb_at p.1) (ltb-true p.0 128 last) e
  sleb_turn false false p low last e =
      let x = made_read (λ z. pos (p.0 - 128) +ℤ (pos 128 *ℤ z)) (others p.1) a w e in
      rw last (same p.1 x.0 w x.1)

  sleb_passed : (r : Reads ℕ)
      → ◌≡◌ {A = Reads ℤ} (Ok (a, w))
      (r >>= λ p. if nat_lt p.0 64 then Ok (pos p.0, p.1)
      else if nat_lt p.0 128 then Ok (pos p.0 -ℤ pos 128, p.1)
      else map_read (λ z. pos (p.0 - 128) +ℤ (pos 128 *ℤ z)) (others p.1))
      → ◌≡◌ {A = Reads (Unit {0})}
      (r >>= λ p. if nat_lt p.0 128 then Ok (tt, p.1) else skip_leb_at p.1) (Ok (tt, w))
  sleb_passed (Ok p) e = sleb_turn (nat_lt p.0 64) (nat_lt p.0 128) p refl refl e
  sleb_passed (Err x) e = absurd (cc)

sleb_within-passed : (n : ℕ) (v : View) → PassesAs (skip_leb_at v) (sleb_within n v)
unfolding sleb_within
sleb_within-passed zero v a w h = skip_leb_at-step v ∙ sign_passed a w (byte_at v) h
sleb_within-passed (suc n) v a w h =
    skip_leb_at-step v ∙ sleb_passed a w (sleb_within n) (sleb_within-passed n) (byte_at v) h

pub sleb_at-passed : (v : View) → PassesAs (skip_leb_at v) (sleb_at v)
unfolding sleb_at
sleb_at-passed v = sleb_within-passed 9 v
