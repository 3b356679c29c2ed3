-- How many bytes a read takes, where its value says it (DWARF 5, 7.4 and 7.5.1).
use Rattle.std.specs.Prelude.{◌≡◌, ℕ, ◌+◌, ◌-◌, ◌<◌, ◌≤◌, ◌==◌, nat_lt, nat_le, Bool, true, false}
use Rattle.std.specs.Prelude.{if◌then◌else◌, length, take, slice_index, Result, Ok, Err}
use Rattle.std.proofs.Common.{refl, sym, ap, ◌∙◌, subst, arith, length-drop, add-zero}
use Rattle.std.proofs.lemmas.Bool.{ltb-true, leb-true}
use Rattle.gimli_base.specs.declared.error.Error.{Error}
use Rattle.gimli_base.specs.declared.error.Error.TheVariants.{UnknownReservedLength}
use Rattle.gimli_base.specs.declared.common.Format.{Format}
use Rattle.gimli_base.specs.declared.common.Format.TheVariants.{Dwarf32, Dwarf64}
use Rattle.gimli_base.specs.Offset.{offset_of}
use Rattle.gimli_base.specs.View.{View, cut, front}
use Rattle.gimli_base.specs.Reading.{Reads, ◌>>=◌, map_read, eof, byte_at, split_at, bytes_at}
use Rattle.gimli_base.specs.Reading.{uint_at}
use Rattle.gimli_base.specs.Reading.{number, as_offset, offset_at, word_size_of, sized_offset_at}
use Rattle.gimli_base.specs.Reading.{address_at, address_size_at, is_size, find_at, text_at}
use Rattle.gimli_base.specs.Reading.{initial_length_at, initial_length_size_of}
use Rattle.gimli_base.proofs.Later.{cut-cut, split_at-front}

-- after n bytes, the others of `total` are taken from v, and w is left
pub record TakenAfter (n total : ℕ) (v w : View) : Type 0 where
  pub count : ℕ
  pub sum : n + count ≡ total
  pub within : count ≤ length v.bytes
  pub is : w ≡ cut count v

-- after n bytes, the read takes the others of as many as its value says
abbrev pub TakesAfter : {A : Type 0} → ℕ → (A → ℕ) → View → Reads A → Type 0
TakesAfter {A} n size v r =
    (a : A) (w : View) → ◌≡◌ {A = Reads A} (Ok (a, w)) r → TakenAfter n (size a) v w

-- the read takes so many bytes
abbrev pub Takes : {A : Type 0} → ℕ → View → Reads A → Type 0
Takes n v r = TakesAfter 0 (λ _. n) v r

-- what is left is the view after the bytes that were taken
pub taken : (total : ℕ) (v w : View) → TakenAfter 0 total v w
    → (total ≤ length v.bytes) × (w ≡ cut total v)
taken total v w t =
    let all : t.count ≡ total = omega (arith, t.sum) in
    (omega (arith, all, t.within), t.is ∙ ap (λ n. cut n v) all)

pub taken_length : (n total : ℕ) (v w : View) → TakenAfter n total v w
    → n + length v.bytes ≡ total + length w.bytes
taken_length n total v w t =
    let e : length w.bytes
    ≡ length v.bytes - t.count =
    ap (λ (u : View). length u.bytes) t.is ∙ length-drop t.count v.bytes in
    omega (arith, e, t.sum, t.within)

pub TakenAfter-none : (n total : ℕ) (v : View) → n ≡ total → TakenAfter n total v v
TakenAfter-none n total v e =
    record { count = 0; sum = omega (arith, e); within = omega arith; is = rw add-zero refl }

pub TakenAfter-trans : (n k total : ℕ) (u v w : View) → TakenAfter n k u v → TakenAfter k total v w
    → TakenAfter n total u w
TakenAfter-trans n k total u v w s t =
    let bytes : length v.bytes
    ≡ length u.bytes - s.count =
    ap (λ (x : View). length x.bytes) s.is ∙ length-drop s.count u.bytes in
    record {
      count = s.count + t.count;
      sum = omega (arith, s.sum, t.sum);
      within = omega (arith, bytes, s.within, t.within);
      is = t.is ∙ ap (cut t.count) s.is ∙ cut-cut s.count t.count u;
    }

-- the same, after more bytes
TakenAfter-more : (n k total : ℕ) (v w : View) → TakenAfter n total v w
    → TakenAfter (k + n) (k + total) v w
TakenAfter-more n k total v w t =
    record { count = t.count; sum = omega (arith, t.sum); within = t.within; is = t.is }

-- a refusal leaves nothing
pub err_takes : {A : Type 0} → (n : ℕ) (size : A → ℕ) (v : View) (e : Error)
    → TakesAfter {A = A} n size v (Err e)
err_takes {A} n size v e a w h = absurd (cc)

pub ok_takes : {A : Type 0} → (n : ℕ) (size : A → ℕ) (v : View) (p : A × View)
    → TakenAfter n (size p.0) v p.1 → TakesAfter n size v (Ok p)
ok_takes {A} n size v p t a w h =
    let same : ◌≡◌ {A = A × View} (a, w) p = cc in
    let P : A × View → Type 0 = λ q. TakenAfter n (size q.0) v q.1 in
    subst P (sym same) t

-- the same read, after n bytes
pub after_takes : {A : Type 0} → (n k total : ℕ) (v : View) (r : Reads A) → n + k ≡ total
    → Takes k v r → TakesAfter n (λ _. total) v r
after_takes n k total v r e h x w is =
    let t = h x w is in
    record { count = t.count; sum = omega (arith, t.sum, e); within = t.within; is = t.is }

-- one read, and then another
pub then_takes : {A B : Type 0}
    → (n : ℕ) (first : A → ℕ) (size : B → ℕ) (v : View) (r : Reads A) (f : A × View → Reads B)
    → TakesAfter n first v r → ((p : A × View) → TakesAfter (first p.0) size p.1 (f p))
    → TakesAfter n size v (r >>= f)
then_takes n first size v (Ok p) f h g x w e =
    TakenAfter-trans n (first p.0) (size x) v p.1 w (h p.0 p.1 refl) (g p x w e)
then_takes {B = B} n first size v (Err e) f h g x w is = err_takes {A = B} n size v e x w is

pub made_takes : {A B : Type 0} → (n : ℕ) (size : B → ℕ) (v : View) (f : A → B) (r : Reads A)
    → TakesAfter n (λ a. size (f a)) v r → TakesAfter n size v (map_read f r)
made_takes n size v f (Ok p) h = ok_takes n size v (f p.0, p.1) (h p.0 p.1 refl)
made_takes {B = B} n size v f (Err e) h = err_takes {A = B} n size v e

pub if_takes : {A : Type 0} → (n : ℕ) (size : A → ℕ) (v : View) (t : Bool) (x y : Reads A)
    → (t ≡ true → TakesAfter n size v x) → (t ≡ false → TakesAfter n size v y)
    → TakesAfter n size v (if t then x else y)
if_takes n size v true x y h k = h refl
if_takes n size v false x y h k = k refl

-- a fixed number of bytes, where there are so many
cut_takes : {A : Type 0} → (n : ℕ) (v : View) (x : A) (t : Bool) → (t ≡ true → n ≤ length v.bytes)
    → Takes n v (if t then Ok (x, cut n v) else Err (eof v))
cut_takes n v x true h =
    ok_takes 0 (λ _. n) v (x, cut n v)
    (record { count = n; sum = omega arith; within = h refl; is = refl })
cut_takes {A = A} n v x false h = err_takes {A = A} 0 (λ _. n) v (eof v)

pub byte_at-takes : (v : View) → Takes 1 v (byte_at v)
unfolding byte_at
byte_at-takes v = cut_takes 1 v (slice_index v.bytes 0) (nat_lt 0 (length v.bytes))
    (λ h. let some : 0 < length v.bytes = ltb-true 0 (length v.bytes) h in omega arith)

pub split_at-takes : (n : ℕ) (v : View) → Takes n v (split_at n v)
unfolding split_at
split_at-takes n v = cut_takes n v (front n v) (nat_le n (length v.bytes))
    (leb-true n (length v.bytes))

pub bytes_at-takes : (n : ℕ) (v : View) → Takes n v (bytes_at n v)
unfolding bytes_at
bytes_at-takes n v = cut_takes n v (take n v.bytes) (nat_le n (length v.bytes))
    (leb-true n (length v.bytes))

pub uint_at-takes : (n : ℕ) (v : View) → Takes n v (uint_at n v)
unfolding uint_at
uint_at-takes n v = made_takes 0 (λ _. n) v (number v.big) (bytes_at n v) (bytes_at-takes n v)

pub as_offset-takes : (n limit : ℕ) (v : View) (r : Reads ℕ) → Takes n v r
    → Takes n v (as_offset limit r)
as_offset-takes n limit v (Err e) h = err_takes {A = ℕ} 0 (λ _. n) v e
as_offset-takes n limit v (Ok p) h =
    let cases : (r : Result ℕ Error) → Takes n v (elim r [ Ok o ↦ Ok (o, p.1) | Err e ↦ Err e ]) =
    elim [
      | Ok o ↦ ok_takes 0 (λ _. n) v (o, p.1) (h p.0 p.1 refl)
      | Err e ↦ err_takes {A = ℕ} 0 (λ _. n) v e
    ] in
    cases (offset_of limit p.0)

pub offset_at-takes : (limit : ℕ) (format : Format) (v : View)
    → Takes (word_size_of format) v (offset_at limit format v)
unfolding offset_at
offset_at-takes limit format v =
    as_offset-takes (word_size_of format) limit v (uint_at (word_size_of format) v)
    (uint_at-takes (word_size_of format) v)

pub sized_offset_at-takes : (limit z : ℕ) (v : View) → Takes z v (sized_offset_at limit z v)
unfolding sized_offset_at
sized_offset_at-takes limit z v =
    if_takes 0 (λ _. z) v (is_size z) _ _
    (λ _. as_offset-takes z limit v (uint_at z v) (uint_at-takes z v))
    (λ _. err_takes {A = ℕ} 0 (λ _. z) v _)

pub address_at-takes : (z : ℕ) (v : View) → Takes z v (address_at z v)
unfolding address_at
address_at-takes z v =
    if_takes 0 (λ _. z) v (is_size z) _ _ (λ _. uint_at-takes z v)
    (λ _. err_takes {A = ℕ} 0 (λ _. z) v _)

pub address_size_at-takes : (v : View) → Takes 1 v (address_size_at v)
unfolding address_size_at
address_size_at-takes v = then_takes 0 (λ _. 1) (λ _. 1) v (byte_at v) _ (byte_at-takes v)
    (λ p. if_takes 1 (λ _. 1) p.1 (is_size p.0) _ _
    (λ _. ok_takes 1 (λ _. 1) p.1 p (TakenAfter-none 1 1 p.1 refl))
    (λ _. err_takes {A = ℕ} 1 (λ _. 1) p.1 _))

-- a text takes its bytes and its zero
pub text_at-takes : (v : View) → TakesAfter 0 (λ (a : View). length a.bytes + 1) v (text_at v)
unfolding text_at
text_at-takes v = either (find_at 0 v)
  where
    size : View → ℕ
    size a = length a.bytes + 1

    after : (n : ℕ) (r : Reads View) → Takes n v r
        → ((a w : View) → Ok (a, w) ≡ r → length a.bytes ≡ n)
        → TakesAfter 0 size v (r >>= λ p. map_read (λ _. p.0) (byte_at p.1))
    after n (Err e) h k = err_takes {A = View} 0 size v e
    after n (Ok p) h k =
        let bytes : length p.0.bytes ≡ n = k p.0 p.1 refl in
        made_takes 0 size v (λ _. p.0) (byte_at p.1)
        (λ b w e. TakenAfter-trans 0 n (size p.0) v p.1 w (h p.0 p.1 refl)
        (after_takes n 1 (size p.0) p.1 (byte_at p.1) (omega (arith, bytes))
        (byte_at-takes p.1) b w e))

    either : (r : Result ℕ Error)
        → TakesAfter 0 size v
        (elim r [
          | Ok n ↦ split_at n v
              >>= (λ p. map_read (λ _. p.0) (byte_at p.1))
          | Err e ↦ Err e
        ])
    either (Ok n) = after n (split_at n v) (split_at-takes n v) (split_at-front n v)
    either (Err e) = err_takes {A = View} 0 size v e

-- a length field takes as many bytes as its format says
pub initial_length_at-takes : (limit : ℕ) (v : View)
    → TakesAfter 0 (λ (p : ℕ × Format). initial_length_size_of p.1) v (initial_length_at limit v)
unfolding initial_length_at
initial_length_at-takes limit v = begin (uint_at 4 v) (uint_at-takes 4 v)
  where
    size : ℕ × Format → ℕ
    size p = initial_length_size_of p.1

    short : (q : ℕ × View) → TakenAfter 0 4 v q.1
        → TakesAfter 0 size v (map_read (λ n. (n, Dwarf32)) (as_offset limit (Ok q)))
    short q t = made_takes 0 size v (λ n. (n, Dwarf32)) (as_offset limit (Ok q))
        (as_offset-takes 4 limit v (Ok q) (ok_takes 0 (λ _. 4) v q t))

    long : (q : ℕ × View) → TakenAfter 0 4 v q.1
        → TakesAfter 0 size v (map_read (λ n. (n, Dwarf64)) (offset_at limit Dwarf64 q.1))
    long q t = made_takes 0 size v (λ n. (n, Dwarf64)) (offset_at limit Dwarf64 q.1)
        (λ x w e. TakenAfter-trans 0 4 12 v q.1 w t
        (TakenAfter-more 0 4 8 q.1 w (offset_at-takes limit Dwarf64 q.1 x w e)))

    either : (q : ℕ × View) → TakenAfter 0 4 v q.1 → (s t : Bool)
        → TakesAfter 0 size v
        (if s then map_read (λ n. (n, Dwarf32)) (as_offset limit (Ok q))
        else if t then map_read (λ n. (n, Dwarf64)) (offset_at limit Dwarf64 q.1)
        else Err UnknownReservedLength)
    either q l true t = short q l
    either q l false true = long q l
    either q l false false = err_takes {A = ℕ × Format} 0 size v UnknownReservedLength

    begin : (r : Reads ℕ) → Takes 4 v r
        → TakesAfter 0 size v
        (r >>= λ p. if nat_lt p.0 0xffff_fff0
        then map_read (λ n. (n, Dwarf32)) (as_offset limit (Ok p))
        else if p.0 == 0xffff_ffff then map_read (λ n. (n, Dwarf64)) (offset_at limit Dwarf64 p.1)
        else Err UnknownReservedLength)
    begin (Ok q) h = either q (h q.0 q.1 refl) (nat_lt q.0 0xffff_fff0) (q.0 == 0xffff_ffff)
    begin (Err e) h = err_takes {A = ℕ × Format} 0 size v e
