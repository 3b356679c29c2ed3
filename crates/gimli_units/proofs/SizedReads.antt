-- Where the size of a value is known, reading it is passing its bytes, with the same refusals.
use Rattle.std.specs.Prelude.{◌≡◌, ℕ, ℤ, suc, ◌+◌, ◌*◌, ◌<◌, ◌≤◌, ◌^◌, ◌==◌, ◌&&◌, ◌||◌}
use Rattle.std.specs.Prelude.{Bool, true, false, not, if◌then◌else◌, nat_lt, nat_le, length, take, reverse}
use Rattle.std.specs.Prelude.{List, [], ◌∷◌, is_some, Option, Some, None, Result, Ok, Err}
use Rattle.std.specs.List.{AllByRecursion}
use Rattle.std.proofs.Common.{refl, sym, ap, subst, ◌∙◌, ◌++◌, arith, length-take}
use Rattle.std.proofs.Math.Nat.{mul-le-mul_right, pow-succ', pow-le-pow_right}
use Rattle.std.proofs.lemmas.Bool.{lt-ltb, ltb-true, leb-true, eqb-true}
use Rattle.std.proofs.lemmas.List.{length-reverse, reverse-append}
use Rattle.std.proofs.lemmas.List.Elements.{recursion_from_All, All-take}
use Rattle.gimli_base.specs.declared.common.Encoding.{Encoding}
use Rattle.gimli_base.specs.declared.common.Format.{Format}
use Rattle.gimli_base.specs.declared.common.Format.TheVariants.{Dwarf32, Dwarf64}
use Rattle.gimli_base.specs.declared.error.Error.{Error}
use Rattle.gimli_base.specs.Offset.{offset_of, answer_of}
use Rattle.std.specs.Result.{is_ok}
use Rattle.gimli_base.specs.declared.error.Error.TheVariants.{UnknownForm, InvalidImplicitConst, UnsupportedOffset}
use Rattle.gimli_base.specs.View.{View, cut}
use Rattle.gimli_base.specs.Reading.{Reads, ◌>>=◌, map_read, eof, byte_at, uint_at, bytes_at, digits}
use Rattle.gimli_base.specs.Reading.{number as number_in, uint_offset_at, offset_at, is_size}
use Rattle.gimli_base.specs.Reading.{sized_offset_at, address_at, word_size_of, skip_at}
use Rattle.gimli_base.specs.Width.{form_size}
use Rattle.gimli_base.specs.Abbreviations.{Specification, IsWellFormed}
use Rattle.gimli_base.proofs.Passed.{skip_at-none}
use Rattle.gimli_units.specs.Value.{Value}
use Rattle.gimli_units.specs.declared.value.AttributeValue.TheVariants.{SecOffset}
use Rattle.gimli_units.specs.Layout.{Layout, byte, number, section_or, address, uleb, sleb, offset}
use Rattle.gimli_units.specs.Layout.{word_offset, reference, offset_leb, offset_leb_and, block}
use Rattle.gimli_units.specs.Layout.{block_leb, text, nothing, constant, forms, layout_in, layout_of}
use Rattle.gimli_units.specs.Form.{is_section_name, value_in, direct_at, form_at}
use Rattle.gimli_units.specs.Form.{value_at}
use Rattle.gimli_units.specs.Entry.{attribute_at}
use Rattle.gimli_base.specs.declared.step.Step.{Step}
use Rattle.gimli_base.specs.Steps.{IsRun, is_ref8}
use Rattle.gimli_units.specs.Sized.{AreBytes, left_by, reads_all, has_short_offsets}
use Rattle.gimli_units.proofs.Chains.{chain_begin, chain_end, number_stands}
use Rattle.gimli_units.proofs.WidthLaw.{size_of, known_size, form_size-known}
use Rattle.gimli_units.proofs.SkipTurns.{not_indirect}

abbrev pub Passed : Type 0
Passed = Reads (Unit {0})

pub left_by_made : {A B : Type 0} → (f : A → B) (r : Reads A) → left_by (map_read f r) ≡ left_by r
left_by_made f (Ok p) = refl
left_by_made f (Err e) = refl

-- a number of n bytes is below 256 ^ n
abbrev Below : List ℕ → Type 0
Below xs = AllByRecursion (λ b. b < 256) xs

digits_below : (xs : List ℕ) (a : ℕ) → Below xs → digits a xs < (a + 1) * 256 ^ length xs
digits_below [] a h = omega arith
digits_below (x ∷ xs) a h =
    let k : ℕ = 256 ^ length xs in
    let rest : digits (a * 256 + x) xs < (a * 256 + x + 1) * k = digits_below xs (a * 256 + x) h.1 in
    let low : x < 256 = h.0 in
    let more : (a * 256 + x + 1) * k ≤ ((a + 1) * 256) * k = mul-le-mul_right k (omega (arith, low)) in
    let power : 256 ^ suc (length xs) ≡ 256 * k = pow-succ' 256 (length xs) in
    rw power (omega (arith, rest, more))

joined_below : (xs ys : List ℕ) → Below xs → Below ys → Below (xs ++ ys)
joined_below [] ys h k = k
joined_below (x ∷ xs) ys h k = (h.0, joined_below xs ys h.1 k)

back_below : (xs : List ℕ) → Below xs → Below (reverse xs)
back_below [] h = tt
back_below (x ∷ xs) h =
    subst Below (sym (reverse-append (x ∷ []) xs))
    (joined_below (reverse xs) (x ∷ []) (back_below xs h.1) (h.0, tt))

number_below : (big : Bool) (xs : List ℕ) → Below xs → number_in big xs < 256 ^ length xs
number_below true xs h = omega (arith, digits_below xs 0 h)
number_below false xs h =
    omega (arith, digits_below (reverse xs) 0 (back_below xs h), ap (λ n. 256 ^ n) (length-reverse xs))

-- the next n bytes as a number
uint_passed : (n : ℕ) (v : View) → left_by (uint_at n v) ≡ skip_at n v
unfolding uint_at bytes_at skip_at
uint_passed n v = cases (nat_le n (length v.bytes))
  where
    cases : (t : Bool)
        → ◌≡◌ {A = Passed}
        (left_by
        (map_read (number_in v.big)
        (if t then Ok (take n v.bytes, cut n v) else Err (eof v))))
        (if t then Ok (tt, cut n v) else Err (eof v))
    cases true = refl
    cases false = refl

-- the next byte
byte_passed : (big : Bool) (place : ℕ) (xs : List ℕ)
    → left_by (byte_at (record { big = big; place = place; bytes = xs }))
    ≡ skip_at 1 (record { big = big; place = place; bytes = xs })
unfolding byte_at skip_at
byte_passed big place [] = refl
byte_passed big place (x ∷ xs) =
    let some : nat_lt 0 (length (x ∷ xs)) ≡ true = lt-ltb 0 (length (x ∷ xs)) (omega arith) in
    rw some refl

in_limit : (limit m : ℕ) (w : View) → m < limit
    → ◌≡◌ {A = Passed}
    (left_by (elim (offset_of limit m) [ Ok o ↦ Ok (o, w) | Err e ↦ Err e ])) (Ok (tt, w))
in_limit limit m w h = rw (lt-ltb m limit h) refl

-- the next n bytes as an offset
offset_passed : (limit n : ℕ) (v : View) → n ≤ 8 → 256 ^ n ≤ limit → AreBytes v
    → left_by (uint_offset_at limit n v) ≡ skip_at n v
unfolding uint_at bytes_at skip_at
offset_passed limit n v few fits bytes = cases (nat_le n (length v.bytes)) refl
  where
    cases : (t : Bool) → nat_le n (length v.bytes) ≡ t
        → ◌≡◌ {A = Passed}
        (left_by
        (map_read (number_in v.big)
        (if t then Ok (take n v.bytes, cut n v) else Err (eof v))
        >>= λ p. elim (if nat_lt p.0 limit then Ok p.0 else Err UnsupportedOffset)
        [ Ok o ↦ Ok (o, p.1) | Err e ↦ Err e ]))
        (if t then Ok (tt, cut n v) else Err (eof v))
    cases false is = refl
    cases true is =
        let le : n ≤ length v.bytes = leb-true n (length v.bytes) is in
        let long : length (take n v.bytes) ≡ n = omega (arith, length-take n v.bytes, le) in
        let small : number_in v.big (take n v.bytes) < 256 ^ length (take n v.bytes)
        = number_below v.big (take n v.bytes)
        (recursion_from_All (λ b. b < 256) (take n v.bytes)
        (All-take (λ b. b < 256) n v.bytes bytes)) in
        let same : 256 ^ length (take n v.bytes) ≡ 256 ^ n = ap (λ k. 256 ^ k) long in
        let below : number_in v.big (take n v.bytes) < limit = omega (arith, small, same, fits) in
        in_limit limit (number_in v.big (take n v.bytes)) (cut n v) below

-- a size that can be read has at most 8
size_small : (z : ℕ) → is_size z ≡ true → z ≤ 8
size_small z h = cases (z == 1) (z == 2) (z == 4) (z == 8) refl refl refl refl h
  where
    cases : (a b c d : Bool) → (z == 1) ≡ a → (z == 2) ≡ b → (z == 4) ≡ c → (z == 8) ≡ d
        → (a || b || c || d) ≡ true → z ≤ 8
    cases true b c d i j k l m = let e : z ≡ 1 = eqb-true z 1 i in omega (arith, e)
    cases false true c d i j k l m = let e : z ≡ 2 = eqb-true z 2 j in omega (arith, e)
    cases false false true d i j k l m = let e : z ≡ 4 = eqb-true z 4 k in omega (arith, e)
    cases false false false true i j k l m = let e : z ≡ 8 = eqb-true z 8 l in omega (arith, e)
    cases false false false false i j k l m = absurd (cc)

word_small : (f : Format) → word_size_of f ≤ 8
word_small Dwarf32 = omega arith
word_small Dwarf64 = omega arith

-- ref8 and ref_sup8
abbrev is_long : ℕ → Bool
is_long form = form == 0x14 || form == 0x24

-- what the table of forms says of a layout: no offset has more than 4 bytes but those of ref8 and
-- ref_sup8, which have 8, and the number of a declaration stands only with implicit_const
abbrev suits : ℕ → Layout → Bool
suits form (section_or n f) = nat_le n 8
suits form (offset n f) = nat_le n 4 || (is_long form && nat_le n 8)
suits form (constant f) = form == 0x21
suits form l = true

abbrev all_suit : List (ℕ × Layout) → Bool
all_suit [] = true
all_suit (r ∷ rs) = if suits r.0 r.1 then all_suit rs else false

forms_suit : all_suit forms ≡ true
unfolding forms
forms_suit = refl

found_suits : (form : ℕ) (l : Layout) (rs : List (ℕ × Layout)) → all_suit rs ≡ true
    → layout_in form rs ≡ Some l → suits form l ≡ true
found_suits form l [] h k = absurd (cc)
found_suits form l (r ∷ rs) h k =
    cases (suits r.0 r.1) (form == r.0) refl refl (λ x y. found_suits form l rs x y) h k
  where
    cases : (s t : Bool) → suits r.0 r.1 ≡ s → (form == r.0) ≡ t
        → (all_suit rs ≡ true → layout_in form rs ≡ Some l → suits form l ≡ true)
        → (if s then all_suit rs else false) ≡ true
        → ◌≡◌ {A = Option Layout} (if t then Some r.1 else layout_in form rs) (Some l)
        → suits form l ≡ true
    cases true true i j others x y =
        let here : form ≡ r.0 = eqb-true form r.0 j in
        let is : l ≡ r.1 = cc in
        ap (λ f. suits f l) here ∙ ap (λ m. suits r.0 m) is ∙ i
    cases true false i j others x y = others x y
    cases false t i j others x y = absurd (cc)

-- reading refuses no value of a known size whose bytes are there, if its form is ref8 or ref_sup8 or
-- if it is not
pub record Readable (limit : ℕ) (e : Encoding) (long : Bool) : Type 0 where
  pub sized : is_size e.address_size ≡ true
  pub word : 256 ^ word_size_of e.format ≤ limit
  pub reference : 256 ^ (if e.version == 2 then e.address_size else word_size_of e.format) ≤ limit
  pub short_fits : 256 ^ 4 ≤ limit
  pub long_fits : long ≡ true → 256 ^ 8 ≤ limit

power_within : (limit m k : ℕ) → m ≤ k → 256 ^ k ≤ limit → 256 ^ m ≤ limit
power_within limit m k le fits =
    let power : 256 ^ m ≤ 256 ^ k = pow-le-pow_right {n = 256} (omega arith) le in
    omega (arith, power, fits)

-- the value in a layout
module _ (limit : ℕ) (e : Encoding) (n : ℕ) (long : Bool) (any : Readable limit e long) (v : View)
    (bytes : AreBytes v) where
  offset_any : (m : ℕ) → n ≡ m → (m ≤ 8) × (256 ^ m ≤ limit)
      → left_by (uint_offset_at limit m v) ≡ skip_at n v
  offset_any m is fits =
      ap (λ k. left_by (uint_offset_at limit k v)) (sym is)
      ∙ offset_passed limit n v (rw is fits.0) (rw is fits.1) bytes

  uint_any : (m : ℕ) → n ≡ m → left_by (uint_at m v) ≡ skip_at n v
  uint_any m is = ap (λ k. left_by (uint_at k v)) (sym is) ∙ uint_passed n v

  word_any : n ≡ word_size_of e.format → left_by (offset_at limit e.format v) ≡ skip_at n v
  unfolding offset_at
  word_any is = offset_any (word_size_of e.format) is (word_small e.format, any.word)

  sized_any : n ≡ e.address_size → 256 ^ e.address_size ≤ limit
      → left_by (sized_offset_at limit e.address_size v) ≡ skip_at n v
  unfolding sized_offset_at
  sized_any is fits =
      rw any.sized (offset_any e.address_size is (size_small e.address_size any.sized, fits))

  address_any : n ≡ e.address_size → left_by (address_at e.address_size v) ≡ skip_at n v
  unfolding address_at
  address_any is = rw any.sized (uint_any e.address_size is)

  reference_any : (t : Bool) → n ≡ (if t then e.address_size else word_size_of e.format)
      → 256 ^ (if t then e.address_size else word_size_of e.format) ≤ limit
      → left_by
      (if t then sized_offset_at limit e.address_size v else offset_at limit e.format v)
      ≡ skip_at n v
  reference_any true is fits = sized_any is fits
  reference_any false is fits = word_any is

  section_any : (m : ℕ) (f : ℕ → Value) (t b : Bool) → (word_size_of e.format == m) ≡ t → n ≡ m
      → m ≤ 8
      → left_by
      (if t && b then map_read SecOffset (uint_offset_at limit m v) else map_read f (uint_at m v))
      ≡ skip_at n v
  section_any m f true true here is few =
      let word : word_size_of e.format ≡ m = eqb-true (word_size_of e.format) m here in
      left_by_made SecOffset (uint_offset_at limit m v)
      ∙ offset_any m is (few, rw word at any.word)
  section_any m f true false here is few = left_by_made f (uint_at m v) ∙ uint_any m is
  section_any m f false b here is few = left_by_made f (uint_at m v) ∙ uint_any m is

  -- the offset of a form
  offset_fits : (form m : ℕ) → is_long form ≡ long
      → (nat_le m 4 || (is_long form && nat_le m 8)) ≡ true → (m ≤ 8) × (256 ^ m ≤ limit)
  offset_fits form m is suit = cases (nat_le m 4) (is_long form) (nat_le m 8) refl is refl suit
    where
      cases : (a b d : Bool) → nat_le m 4 ≡ a → b ≡ long → nat_le m 8 ≡ d
          → (a || (b && d)) ≡ true → (m ≤ 8) × (256 ^ m ≤ limit)
      cases true b d i j k h =
          let le : m ≤ 4 = leb-true m 4 i in
          (omega (arith, le), power_within limit m 4 le any.short_fits)
      cases false true true i j k h =
          let le : m ≤ 8 = leb-true m 8 k in
          (le, power_within limit m 8 le (any.long_fits (sym j)))
      cases false true false i j k h = absurd (cc)
      cases false false d i j k h = absurd (cc)

  none_any : n ≡ 0 → Ok (tt, v) ≡ skip_at n v
  none_any is = sym (skip_at-none v) ∙ ap (λ m. skip_at m v) (sym is)

  constant_any : (form : ℕ) (c : Option ℤ) (f : ℤ → Value) → n ≡ 0
      → is_some c ≡ (form == 0x21) → (form == 0x21) ≡ true
      → ◌≡◌ {A = Passed}
      (left_by (elim c [ Some k ↦ Ok (f k, v) | None ↦ Err InvalidImplicitConst ]))
      (skip_at n v)
  constant_any form (Some k) f is well here = none_any is
  constant_any form None f is well here = absurd (cc)

  in_any : (name form : ℕ) (c : Option ℤ) (l : Layout) → is_long form ≡ long
      → is_some c ≡ (form == 0x21) → suits form l ≡ true → Some n ≡ size_of e l
      → left_by (value_in limit e name c l v) ≡ skip_at n v
  in_any name form c (byte f) long_is well suit h =
      let is : n ≡ 1 = cc in
      left_by_made f (byte_at v) ∙ byte_passed v.big v.place v.bytes
      ∙ ap (λ m. skip_at m v) (sym is)
  in_any name form c (number m f) long_is well suit h =
      let is : n ≡ m = cc in
      left_by_made f (uint_at m v) ∙ uint_any m is
  in_any name form c (section_or m f) long_is well suit h =
      let is : n ≡ m = cc in
      section_any m f (word_size_of e.format == m) (is_section_name name e.version) refl is
      (leb-true m 8 suit)
  in_any name form c (address f) long_is well suit h =
      let is : n ≡ e.address_size = cc in
      left_by_made f (address_at e.address_size v) ∙ address_any is
  in_any name form c (offset m f) long_is well suit h =
      let is : n ≡ m = cc in
      left_by_made f (uint_offset_at limit m v)
      ∙ offset_any m is (offset_fits form m long_is suit)
  in_any name form c (word_offset f) long_is well suit h =
      let is : n ≡ word_size_of e.format = cc in
      left_by_made f (offset_at limit e.format v) ∙ word_any is
  in_any name form c (reference f) long_is well suit h =
      let is : n ≡ (if e.version == 2 then e.address_size else word_size_of e.format) = cc in
      left_by_made f _ ∙ reference_any (e.version == 2) is any.reference
  in_any name form c (nothing x) long_is well suit h = let is : n ≡ 0 = cc in none_any is
  in_any name form c (constant f) long_is well suit h =
      let is : n ≡ 0 = cc in
      constant_any form c f is well suit
  in_any name form c (uleb f) long_is well suit h = absurd (cc)
  in_any name form c (sleb f) long_is well suit h = absurd (cc)
  in_any name form c (offset_leb f) long_is well suit h = absurd (cc)
  in_any name form c (offset_leb_and m f) long_is well suit h = absurd (cc)
  in_any name form c (block m f) long_is well suit h = absurd (cc)
  in_any name form c (block_leb f) long_is well suit h = absurd (cc)
  in_any name form c (text f) long_is well suit h = absurd (cc)

  direct_any : (name form : ℕ) (c : Option ℤ) → is_long form ≡ long → is_some c ≡ (form == 0x21)
      → Some n ≡ known_size e form → left_by (direct_at limit e name c form v) ≡ skip_at n v
  unfolding direct_at known_size layout_of
  direct_any name form c long_is well h =
      cases (layout_of form) (λ l is. found_suits form l forms forms_suit is) h
    where
      cases : (o : Option Layout) → ((l : Layout) → o ≡ Some l → suits form l ≡ true)
          → ◌≡◌ {A = Option ℕ} (Some n) (elim o [ Some l ↦ size_of e l | None ↦ None ])
          → ◌≡◌ {A = Passed}
          (left_by
          (elim o [
            | Some l ↦ value_in limit e name c l v
            | None ↦ Err (UnknownForm (record { 0 = form }))
          ]))
          (skip_at n v)
      cases (Some l) suit k = in_any name form c l long_is well (suit l refl) k
      cases None suit k = absurd (cc)

  value_any : (name form : ℕ) (c : Option ℤ) → is_long form ≡ long → is_some c ≡ (form == 0x21)
      → Some n ≡ known_size e form → left_by (value_at limit e name c form v) ≡ skip_at n v
  unfolding value_at
  value_any name form c long_is well h =
      let chain : Ok (form, v) ≡ form_at form v
      = chain_end (form_at form v) form v (not_indirect n form e h) (chain_begin form v) in
      rw (sym chain, number_stands form c well) (direct_any name form c long_is well h)

  -- an attribute whose value has a known size
  pub attribute_any : (s : Specification) → is_ref8 s ≡ long → IsWellFormed s
      → Some n ≡ form_size e s.form.0 → left_by (attribute_at limit e s v) ≡ skip_at n v
  unfolding attribute_at
  attribute_any s long_is well h =
      left_by_made _ (value_at limit e s.name.0 s.constant s.form.0 v)
      ∙ value_any s.name.0 s.form.0 s.constant long_is well (h ∙ form_size-known e s.form.0)

-- offsets that are wide enough
pub ok_below : {O : Type 0} → (f : O → ℕ) (limit m : ℕ) (r : Result O Error)
    → answer_of f r ≡ offset_of limit m → is_ok r ≡ true → m < limit
ok_below f limit m (Err e) h k = absurd (cc)
ok_below f limit m (Ok o) h k = cases (nat_lt m limit) refl h
  where
    cases : (t : Bool) → nat_lt m limit ≡ t
        → ◌≡◌ {A = Result ℕ Error} (Ok (f o)) (if t then Ok m else Err UnsupportedOffset)
        → m < limit
    cases true is x = ltb-true m limit is
    cases false is x = absurd (cc)

-- an offset is the number that it was made of
pub offset_is : (limit m k : ℕ) → Ok k ≡ offset_of limit m → k ≡ m
offset_is limit m k h = cases (nat_lt m limit) h
  where
    cases : (t : Bool)
        → ◌≡◌ {A = Result ℕ Error} (Ok k) (if t then Ok m else Err UnsupportedOffset) → k ≡ m
    cases true is = cc
    cases false is = absurd (cc)

-- where each number of 64 bits is an offset,
reference_few : (t : Bool) (a w k : ℕ) → a ≤ k → w ≤ k → (if t then a else w) ≤ k
reference_few true a w k h i = h
reference_few false a w k h i = i

wide_reads : (limit : ℕ) (e : Encoding) → is_size e.address_size ≡ true
    → 0xffff_ffff_ffff_ffff < limit → (long : Bool) → Readable limit e long
wide_reads limit e sized wide long =
    let all : 256 ^ 8 ≤ limit = omega (arith, wide) in
    let word = word_small e.format in
    let refs =
    reference_few (e.version == 2) e.address_size (word_size_of e.format) 8
    (size_small e.address_size sized) word in
    record {
      sized = sized;
      word = power_within limit _ 8 word all;
      reference = power_within limit _ 8 refs all;
      short_fits = power_within limit 4 8 (omega arith) all;
      long_fits = λ _. all;
    }

-- or each of 32, and no offset is longer
short_reference : (t : Bool) (a w : ℕ) → (not t || nat_le a 4) ≡ true → w ≤ 4
    → (if t then a else w) ≤ 4
short_reference true a w h i = leb-true a 4 h
short_reference false a w h i = i

short_reads : (limit : ℕ) (e : Encoding) → is_size e.address_size ≡ true → 0xffff_ffff < limit
    → word_size_of e.format ≤ 4 → (not (e.version == 2) || nat_le e.address_size 4) ≡ true
    → Readable limit e false
short_reads limit e sized wide word few =
    let all : 256 ^ 4 ≤ limit = omega (arith, wide) in
    record {
      sized = sized;
      word = power_within limit _ 4 word all;
      reference = power_within limit _ 4
          (short_reference (e.version == 2) e.address_size (word_size_of e.format) few word)
          all;
      short_fits = all;
      long_fits = λ no. absurd (cc);
    }

both_of : (a b : Bool) → (a && b) ≡ true → (a ≡ true) × (b ≡ true)
both_of true b h = (refl, h)
both_of false b h = absurd (cc)

-- so reading refuses no value of a step
pub step_reads : (limit : ℕ) (e : Encoding) (step : Step) → reads_all limit e step ≡ true
    → (ss : List Specification) → IsRun step ss
    → AllByRecursion (λ s. Readable limit e (is_ref8 s)) ss
step_reads limit e step h ss run =
    let both = both_of (is_size e.address_size) _ h in
    cases (nat_lt 0xffff_ffff_ffff_ffff limit) refl both.0 both.1
  where
    each : ((long : Bool) → Readable limit e long) → (xs : List Specification)
        → AllByRecursion (λ s. Readable limit e (is_ref8 s)) xs
    each all [] = tt
    each all (x ∷ xs) = (all (is_ref8 x), each all xs)

    short : Readable limit e false → (xs : List Specification)
        → AllByRecursion (λ s. is_ref8 s ≡ false) xs
        → AllByRecursion (λ s. Readable limit e (is_ref8 s)) xs
    short all [] none = tt
    short all (x ∷ xs) none = (rw none.0 all, short all xs none.1)

    cases : (t : Bool) → nat_lt 0xffff_ffff_ffff_ffff limit ≡ t → is_size e.address_size ≡ true
        → (t || (nat_lt 0xffff_ffff limit && has_short_offsets e step)) ≡ true
        → AllByRecursion (λ s. Readable limit e (is_ref8 s)) ss
    cases true is sized k =
        each (wide_reads limit e sized (ltb-true 0xffff_ffff_ffff_ffff limit is)) ss
    cases false is sized k =
        let there = both_of (nat_lt 0xffff_ffff limit) _ k in
        let none = both_of (step.has_ref8 == 0) _ there.1 in
        let few = both_of (nat_le (word_size_of e.format) 4) _ none.1 in
        short
        (short_reads limit e sized (ltb-true 0xffff_ffff limit there.0)
        (leb-true (word_size_of e.format) 4 few.0) few.1)
        ss
        (recursion_from_All (λ s. is_ref8 s ≡ false) ss
        (run.no_ref8 (eqb-true step.has_ref8 0 none.0)))
