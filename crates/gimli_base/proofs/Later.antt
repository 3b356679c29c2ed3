-- What a read leaves: the same view some bytes later.
use Rattle.std.specs.Prelude.{◌≡◌, ℕ, zero, suc, ◌+◌, ◌-◌, ◌<◌, ◌≤◌, ℤ, ◌==◌, nat_lt, nat_le, Bool}
use Rattle.std.specs.Prelude.{true, false, if◌then◌else◌, length, take, slice_index, Option, Some}
use Rattle.std.specs.Prelude.{None, Result, Ok, Err}
use Rattle.std.specs.List.{position}
use Rattle.std.proofs.Common.{refl, sym, ap, ◌∙◌, subst, arith, length-drop, length-take, add_assoc}
use Rattle.std.proofs.Common.{add-zero}
use Rattle.std.proofs.lemmas.List.{drop-drop}
use Rattle.std.proofs.lemmas.List.Quantifiers.{position-Some}
use Rattle.std.proofs.lemmas.Bool.{ltb-true, leb-true}
use Rattle.gimli_base.specs.declared.error.Error.{Error}
use Rattle.gimli_base.specs.declared.error.Error.TheVariants.{UnknownReservedLength}
use Rattle.gimli_base.specs.declared.common.Format.{Format}
use Rattle.gimli_base.specs.declared.common.Format.TheVariants.{Dwarf32, Dwarf64}
use Rattle.gimli_base.specs.Offset.{offset_of}
use Rattle.gimli_base.specs.View.{View, cut, front, end_of_view, IsLater}
use Rattle.gimli_base.specs.Reading.{Reads, ◌>>=◌, map_read, eof, byte_at, skip_at, split_at}
use Rattle.gimli_base.specs.Reading.{bytes_at}
use Rattle.gimli_base.specs.Reading.{uint_at, number, as_offset, offset_at, word_size_of}
use Rattle.gimli_base.specs.Reading.{uleb_within, uleb_at, uleb16_at, sleb_within, sleb_at, find_at}
use Rattle.gimli_base.specs.Reading.{text_at, address_at, address_size_at, is_size, sized_offset_at}
use Rattle.gimli_base.specs.Reading.{skip_leb_at, initial_length_at, initial_length_size_of}

-- what is read leaves a later view
abbrev pub LeavesLater : {A : Type 0} → ℕ → View → Reads A → Type 0
LeavesLater {A} least v r = (a : A) (w : View) → ◌≡◌ {A = Reads A} (Ok (a, w)) r → IsLater least v w

-- as many bytes as were passed are missing
pub IsLater-length : (least : ℕ) (v w : View) → IsLater least v w
    → length w.bytes + least ≤ length v.bytes
IsLater-length least v w l =
    let e : length w.bytes
    ≡ length v.bytes - l.count =
    ap (λ (u : View). length u.bytes) l.is ∙ length-drop l.count v.bytes in
    omega (arith, e, l.enough, l.within)

pub cut-cut : (m n : ℕ) (v : View) → cut n (cut m v) ≡ cut (m + n) v
cut-cut m n v = rw (add_assoc v.place m n, drop-drop n m v.bytes) refl

pub IsLater-none : (v : View) → IsLater 0 v v
IsLater-none v =
    record { count = 0; enough = omega arith; within = omega arith; is = rw add-zero refl }

pub IsLater-weaker : (a b : ℕ) (v w : View) → b ≤ a → IsLater a v w → IsLater b v w
IsLater-weaker a b v w h l =
    record { count = l.count; enough = omega (arith, l.enough); within = l.within; is = l.is }

pub IsLater-trans : (a b : ℕ) (u v w : View) → IsLater a u v → IsLater b v w → IsLater (a + b) u w
IsLater-trans a b u v w k l =
    let bytes : length v.bytes
    ≡ length u.bytes - k.count =
    ap (λ (x : View). length x.bytes) k.is ∙ length-drop k.count u.bytes in
    record {
      count = k.count + l.count;
      enough = omega (arith, k.enough, l.enough);
      within = omega (arith, bytes, k.within, l.within);
      is = l.is ∙ ap (cut l.count) k.is ∙ cut-cut k.count l.count u;
    }

-- a refusal leaves nothing
pub err_leaves_later : {A : Type 0} → (least : ℕ) (v : View) (e : Error)
    → LeavesLater {A = A} least v (Err e)
err_leaves_later {A} least v e a w h = absurd (cc)

pub ok_leaves_later : {A : Type 0} → (least : ℕ) (v : View) (p : A × View) → IsLater least v p.1
    → LeavesLater least v (Ok p)
ok_leaves_later {A} least v p l a w h =
    let same : ◌≡◌ {A = A × View} (a, w) p = cc in
    let P : A × View → Type 0 = λ q. IsLater least v q.1 in
    subst P (sym same) l

pub weaker_leaves_later : {A : Type 0} → (a b : ℕ) (v : View) (r : Reads A) → b ≤ a
    → LeavesLater a v r → LeavesLater b v r
weaker_leaves_later a b v r h l x w e = IsLater-weaker a b v w h (l x w e)

-- one read, and then another
pub then_leaves_later : {A B : Type 0} → (a b : ℕ) (v : View) (r : Reads A) (f : A × View → Reads B)
    → LeavesLater a v r → ((p : A × View) → LeavesLater b p.1 (f p))
    → LeavesLater (a + b) v (r >>= f)
then_leaves_later a b v (Ok p) f h k x w e = IsLater-trans a b v p.1 w (h p.0 p.1 refl) (k p x w e)
then_leaves_later {B = B} a b v (Err e) f h k x w is = err_leaves_later {A = B} (a + b) v e x w is

pub made_leaves_later : {A B : Type 0} → (a : ℕ) (v : View) (f : A → B) (r : Reads A)
    → LeavesLater a v r → LeavesLater a v (map_read f r)
made_leaves_later a v f (Ok p) h = ok_leaves_later a v (f p.0, p.1) (h p.0 p.1 refl)
made_leaves_later {B = B} a v f (Err e) h = err_leaves_later {A = B} a v e

pub if_leaves_later : {A : Type 0} → (a : ℕ) (v : View) (t : Bool) (x y : Reads A)
    → LeavesLater a v x → LeavesLater a v y → LeavesLater a v (if t then x else y)
if_leaves_later a v true x y h k = h
if_leaves_later a v false x y h k = k

-- a fixed number of bytes, where there are so many
cut_leaves_later : {A : Type 0} → (n : ℕ) (v : View) (x : A) (t : Bool)
    → (t ≡ true → n ≤ length v.bytes) → LeavesLater n v (if t then Ok (x, cut n v) else Err (eof v))
cut_leaves_later n v x true h =
    ok_leaves_later n v (x, cut n v)
    (record { count = n; enough = omega arith; within = h refl; is = refl })
cut_leaves_later {A = A} n v x false h = err_leaves_later {A = A} n v (eof v)

pub byte_at-later : (v : View) → LeavesLater 1 v (byte_at v)
unfolding byte_at
byte_at-later v = cut_leaves_later 1 v (slice_index v.bytes 0) (nat_lt 0 (length v.bytes))
    (λ h. let some : 0 < length v.bytes = ltb-true 0 (length v.bytes) h in omega arith)

pub skip_at-later : (n : ℕ) (v : View) → LeavesLater n v (skip_at n v)
unfolding skip_at
skip_at-later n v = cut_leaves_later n v tt (nat_le n (length v.bytes))
    (leb-true n (length v.bytes))

pub split_at-later : (n : ℕ) (v : View) → LeavesLater n v (split_at n v)
unfolding split_at
split_at-later n v = cut_leaves_later n v (front n v) (nat_le n (length v.bytes))
    (leb-true n (length v.bytes))

bytes_at-later : (n : ℕ) (v : View) → LeavesLater n v (bytes_at n v)
unfolding bytes_at
bytes_at-later n v = cut_leaves_later n v (take n v.bytes) (nat_le n (length v.bytes))
    (leb-true n (length v.bytes))

pub uint_at-later : (n : ℕ) (v : View) → LeavesLater n v (uint_at n v)
unfolding uint_at
uint_at-later n v = made_leaves_later n v (number v.big) (bytes_at n v) (bytes_at-later n v)

pub as_offset-later : (n limit : ℕ) (v : View) (r : Reads ℕ) → LeavesLater n v r
    → LeavesLater n v (as_offset limit r)
as_offset-later n limit v (Err e) h = err_leaves_later {A = ℕ} n v e
as_offset-later n limit v (Ok p) h =
    let cases : (r : Result ℕ Error)
    → LeavesLater n v (elim r [ Ok o ↦ Ok (o, p.1) | Err e ↦ Err e ]) =
    elim [
      | Ok o ↦ ok_leaves_later n v (o, p.1) (h p.0 p.1 refl)
      | Err e ↦ err_leaves_later {A = ℕ} n v e
    ] in
    cases (offset_of limit p.0)

pub offset_at-later : (limit : ℕ) (format : Format) (v : View)
    → LeavesLater (word_size_of format) v (offset_at limit format v)
unfolding offset_at
offset_at-later limit format v =
    as_offset-later (word_size_of format) limit v (uint_at (word_size_of format) v)
    (uint_at-later (word_size_of format) v)

pub sized_offset_at-later : (limit z : ℕ) (v : View) → LeavesLater z v (sized_offset_at limit z v)
unfolding sized_offset_at
sized_offset_at-later limit z v =
    if_leaves_later z v (is_size z) _ _
    (as_offset-later z limit v (uint_at z v) (uint_at-later z v))
    (err_leaves_later {A = ℕ} z v _)

pub address_at-later : (z : ℕ) (v : View) → LeavesLater z v (address_at z v)
unfolding address_at
address_at-later z v =
    if_leaves_later z v (is_size z) _ _ (uint_at-later z v) (err_leaves_later {A = ℕ} z v _)

uleb_within-later : (top n : ℕ) (v : View) → LeavesLater 1 v (uleb_within top n v)
unfolding uleb_within
uleb_within-later top zero v = then_leaves_later 1 0 v (byte_at v) _ (byte_at-later v)
    (λ p. if_leaves_later 0 p.1 (nat_le p.0 top) _ _ (ok_leaves_later 0 p.1 p (IsLater-none p.1))
    (err_leaves_later {A = ℕ} 0 p.1 _))
uleb_within-later top (suc n) v = then_leaves_later 1 0 v (byte_at v) _ (byte_at-later v)
    (λ p. if_leaves_later 0 p.1 (nat_lt p.0 128) _ _ (ok_leaves_later 0 p.1 p (IsLater-none p.1))
    (weaker_leaves_later 1 0 p.1 _ (omega arith)
    (made_leaves_later 1 p.1 _ (uleb_within top n p.1) (uleb_within-later top n p.1))))

pub uleb_at-later : (v : View) → LeavesLater 1 v (uleb_at v)
unfolding uleb_at
uleb_at-later v = uleb_within-later 1 9 v

pub uleb16_at-later : (v : View) → LeavesLater 1 v (uleb16_at v)
unfolding uleb16_at
uleb16_at-later v = uleb_within-later 3 2 v

sleb_within-later : (n : ℕ) (v : View) → LeavesLater 1 v (sleb_within n v)
unfolding sleb_within
sleb_within-later zero v = then_leaves_later 1 0 v (byte_at v) _ (byte_at-later v)
    (λ p. if_leaves_later 0 p.1 (p.0 == 0) _ _ (ok_leaves_later {A = ℤ} 0 p.1 _ (IsLater-none p.1))
    (if_leaves_later 0 p.1 (p.0 == 127) _ _ (ok_leaves_later {A = ℤ} 0 p.1 _ (IsLater-none p.1))
    (err_leaves_later {A = ℤ} 0 p.1 _)))
sleb_within-later (suc n) v = then_leaves_later 1 0 v (byte_at v) _ (byte_at-later v)
    (λ p. if_leaves_later 0 p.1 (nat_lt p.0 64) _ _
    (ok_leaves_later {A = ℤ} 0 p.1 _ (IsLater-none p.1))
    (if_leaves_later 0 p.1 (nat_lt p.0 128) _ _ (ok_leaves_later {A = ℤ} 0 p.1 _ (IsLater-none p.1))
    (weaker_leaves_later 1 0 p.1 _ (omega arith)
    (made_leaves_later 1 p.1 _ (sleb_within n p.1) (sleb_within-later n p.1)))))

pub sleb_at-later : (v : View) → LeavesLater 1 v (sleb_at v)
unfolding sleb_at
sleb_at-later v = sleb_within-later 9 v

pub skip_leb_at-later : (v : View) → LeavesLater 1 v (skip_leb_at v)
unfolding skip_leb_at
skip_leb_at-later v = cases (position (λ b. nat_lt b 128) v.bytes) refl
  where
    cases : (o : Option ℕ) → position (λ b. nat_lt b 128) v.bytes ≡ o
        → LeavesLater {A = Unit {0}} 1 v
        (elim o [ Some n ↦ Ok (tt, cut (n + 1) v) | None ↦ Err (eof (end_of_view v)) ])
    cases None is = err_leaves_later {A = Unit {0}} 1 v (eof (end_of_view v))
    cases (Some n) is =
        let inside : n < length v.bytes = (position-Some (λ b. nat_lt b 128) v.bytes n 0 is).0 in
        ok_leaves_later {A = Unit {0}} 1 v (tt, cut (n + 1) v)
        (record {
          count = n + 1;
          enough = omega arith;
          within = omega (arith, inside);
          is = refl;
        })

pub text_at-later : (v : View) → LeavesLater 1 v (text_at v)
unfolding text_at
text_at-later v =
    let cases : (r : Result ℕ Error)
    → LeavesLater 1 v
    (elim r [ Ok n ↦ split_at n v >>= (λ p. map_read (λ _. p.0) (byte_at p.1)) | Err e ↦ Err e ]) =
    elim [
      | Ok n ↦ weaker_leaves_later (n + 1) 1 v _ (omega arith)
          (then_leaves_later n 1 v (split_at n v) _ (split_at-later n v)
          (λ p. made_leaves_later 1 p.1 _ (byte_at p.1) (byte_at-later p.1)))
      | Err e ↦ err_leaves_later {A = View} 1 v e
    ] in
    cases (find_at 0 v)

pub address_size_at-later : (v : View) → LeavesLater 1 v (address_size_at v)
unfolding address_size_at
address_size_at-later v = then_leaves_later 1 0 v (byte_at v) _ (byte_at-later v)
    (λ p. if_leaves_later 0 p.1 (is_size p.0) _ _ (ok_leaves_later 0 p.1 p (IsLater-none p.1))
    (err_leaves_later {A = ℕ} 0 p.1 _))

-- what a length field leaves, by the format that it shows
abbrev pub LeavesPastField : View → Reads (ℕ × Format) → Type 0
LeavesPastField v r =
    (p : ℕ × Format) (w : View) → ◌≡◌ {A = Reads (ℕ × Format)} (Ok (p, w)) r
    → IsLater (initial_length_size_of p.1) v w

past_field : (v : View) (format : Format) (r : Reads ℕ)
    → LeavesLater (initial_length_size_of format) v r
    → LeavesPastField v (map_read (λ n. (n, format)) r)
past_field v format (Ok q) h p w e =
    let same : ◌≡◌ {A = (ℕ × Format) × View} (p, w) ((q.0, format), q.1) = cc in
    let P : (ℕ × Format) × View → Type 0 = λ x. IsLater (initial_length_size_of x.0.1) v x.1 in
    subst P (sym same) (h q.0 q.1 refl)
past_field v format (Err e) h p w is = absurd (cc)

pub initial_length_at-later : (limit : ℕ) (v : View) → LeavesPastField v (initial_length_at limit v)
unfolding initial_length_at
initial_length_at-later limit v = begin (uint_at 4 v) (uint_at-later 4 v)
  where
    short : (q : ℕ × View) → IsLater 4 v q.1
        → LeavesPastField v (map_read (λ n. (n, Dwarf32)) (as_offset limit (Ok q)))
    short q l = past_field v Dwarf32 _ (as_offset-later 4 limit v (Ok q) (ok_leaves_later 4 v q l))

    long : (q : ℕ × View) → IsLater 4 v q.1
        → LeavesPastField v (map_read (λ n. (n, Dwarf64)) (offset_at limit Dwarf64 q.1))
    long q l = past_field v Dwarf64 _
        (λ x w e. IsLater-trans 4 8 v q.1 w l (offset_at-later limit Dwarf64 q.1 x w e))

    either : (q : ℕ × View) → IsLater 4 v q.1 → (s t : Bool)
        → LeavesPastField v
        (if s then map_read (λ n. (n, Dwarf32)) (as_offset limit (Ok q))
        else if t then map_read (λ n. (n, Dwarf64)) (offset_at limit Dwarf64 q.1)
        else Err UnknownReservedLength)
    either q l true t = short q l
    either q l false true = long q l
    either q l false false = λ p w e. absurd (cc)

    begin : (r : Reads ℕ) → LeavesLater 4 v r
        → LeavesPastField v
        (r >>= λ p. if nat_lt p.0 0xffff_fff0
        then map_read (λ n. (n, Dwarf32)) (as_offset limit (Ok p))
        else if p.0 == 0xffff_ffff then map_read (λ n. (n, Dwarf64)) (offset_at limit Dwarf64 p.1)
        else Err UnknownReservedLength)
    begin (Ok q) h = either q (h q.0 q.1 refl) (nat_lt q.0 0xffff_fff0) (q.0 == 0xffff_ffff)
    begin (Err e) h = λ p w is. absurd (cc)

-- what is split off has as many bytes as it was asked for
pub split_at-front : (n : ℕ) (v a w : View) → Ok (a, w) ≡ split_at n v → length a.bytes ≡ n
unfolding split_at
split_at-front n v a w h = cases (nat_le n (length v.bytes)) (leb-true n (length v.bytes)) h
  where
    cases : (t : Bool) → (t ≡ true → n ≤ length v.bytes)
        → ◌≡◌ {A = Reads View} (Ok (a, w)) (if t then Ok (front n v, cut n v) else Err (eof v))
        → length a.bytes ≡ n
    cases true le e =
        let same : ◌≡◌ {A = View × View} (a, w) (front n v, cut n v) = cc in
        ap (λ (p : View × View). length p.0.bytes) same ∙ simp length-take (omega (arith, le refl))
    cases false le e = absurd (cc)
