-- Reading an entry never answers want of memory: no definition of a read does.
use Rattle.std.specs.Prelude.{ℕ, ℤ, zero, suc, ◌==◌, ◌&&◌, nat_le, nat_lt, if◌then◌else◌, Bool}
use Rattle.std.specs.Prelude.{true, false, length, take, List, [], ◌∷◌, Option, Some, None, Result}
use Rattle.std.specs.Prelude.{◌≡◌, Ok, Err}
use Rattle.std.proofs.Common.{ap}
use Rattle.std.specs.List.{position}
use Rattle.gimli_base.specs.declared.common.Encoding.{Encoding}
use Rattle.gimli_base.specs.declared.common.Format.{Format}
use Rattle.gimli_base.specs.declared.error.Error.{Error}
use Rattle.gimli_base.specs.declared.error.Error.TheVariants.{OutOfMemory, InvalidAbbreviationCode}
use Rattle.gimli_base.specs.declared.error.Error.TheVariants.{UnsupportedOffset, UnknownForm}
use Rattle.gimli_base.specs.declared.error.Error.TheVariants.{UnsupportedOffsetSize}
use Rattle.gimli_base.specs.declared.error.Error.TheVariants.{UnsupportedAddressSize}
use Rattle.gimli_base.specs.declared.error.Error.TheVariants.{InvalidImplicitConst}
use Rattle.gimli_base.specs.View.{View, cut, front}
use Rattle.gimli_base.specs.Reading.{Reads, ◌>>=◌, map_read, eof, byte_at, bytes_at, uint_at}
use Rattle.gimli_base.specs.Reading.{uleb_at, uleb16_at, sleb_at, as_offset, uint_offset_at, offset_at}
use Rattle.gimli_base.specs.Reading.{is_size, sized_offset_at, address_at, split_at, find_at, text_at}
use Rattle.gimli_base.specs.Reading.{word_size_of, number as number_in}
use Rattle.gimli_base.specs.Abbreviations.{Declaration, Specification, Map}
use Rattle.gimli_base.proofs.Memory.{Never, never_then, never_if, never_ok, byte_at-never}
use Rattle.gimli_base.proofs.Memory.{uleb_at-never, uleb16_at-never, sleb_at-never}
use Rattle.gimli_units.specs.Value.{Value}
use Rattle.gimli_units.specs.declared.value.AttributeValue.TheVariants.{SecOffset}
use Rattle.gimli_units.specs.Layout.{Layout, byte, section_or, address, uleb, sleb, offset}
use Rattle.gimli_units.specs.Layout.{number, word_offset, reference, offset_leb}
use Rattle.gimli_units.specs.Layout.{offset_leb_and, block, block_leb, text, nothing, constant}
use Rattle.gimli_units.specs.Layout.{layout_of}
use Rattle.gimli_units.specs.Form.{is_section_name, uleb_offset_at, block_after, value_in, direct_at}
use Rattle.gimli_units.specs.Form.{form_within, form_at, declared_number, value_at}
use Rattle.gimli_units.specs.Entry.{with_value, attribute_at, attributes_at, abbreviation_at}
use Rattle.gimli_units.specs.Entry.{content_at, entry_at, entry_of_declared, null_entry}

pub abbreviation_at-never : (declared : Map) (v : View) → Never (abbreviation_at declared v)
unfolding abbreviation_at
abbreviation_at-never declared v = never_then (uleb_at v) _ (uleb_at-never v)
    (λ code. never_if (code.0 == 0) (Ok (None, code.1)) _ (never_ok (None, code.1))
    (named code.0 code.1 (declared code.0)))
  where
    named : (code : ℕ) (w : View) (o : Option Declaration)
        → Never {A = Option Declaration × View}
        (elim o [ Some d ↦ Ok (Some d, w) | None ↦ Err (InvalidAbbreviationCode code) ])
    named code w (Some d) = never_ok (Some d, w)
    named code w None = λ is. cc

split_at-never : (n : ℕ) (v : View) → Never (split_at n v)
unfolding split_at
split_at-never n v =
    never_if (nat_le n (length v.bytes)) (Ok (front n v, cut n v)) (Err (eof v)) (λ is. cc) (λ is. cc)

uint_at-never : (n : ℕ) (v : View) → Never (uint_at n v)
unfolding uint_at bytes_at
uint_at-never n v =
    never_then (if nat_le n (length v.bytes) then Ok (take n v.bytes, cut n v) else Err (eof v)) _
    (never_if (nat_le n (length v.bytes)) (Ok (take n v.bytes, cut n v)) (Err (eof v)) (λ is. cc)
    (λ is. cc))
    (λ p. never_ok (number_in v.big p.0, p.1))

as_offset-never : (limit : ℕ) (r : Reads ℕ) → Never r → Never (as_offset limit r)
as_offset-never limit r h = never_then r _ h (λ p. below p (nat_lt p.0 limit))
  where
    below : (p : ℕ × View) (t : Bool)
        → Never {A = ℕ × View}
        (elim (if t then Ok p.0 else Err UnsupportedOffset)
        [ Ok o ↦ Ok (o, p.1) | Err e ↦ Err e ])
    below p true = never_ok p
    below p false = λ is. cc

offset_at-never : (limit : ℕ) (f : Format) (v : View) → Never (offset_at limit f v)
unfolding offset_at
offset_at-never limit f v =
    as_offset-never limit (uint_at (word_size_of f) v) (uint_at-never (word_size_of f) v)

sized_offset_at-never : (limit z : ℕ) (v : View) → Never (sized_offset_at limit z v)
unfolding sized_offset_at
sized_offset_at-never limit z v =
    never_if (is_size z) (uint_offset_at limit z v) (Err (UnsupportedOffsetSize z))
    (as_offset-never limit (uint_at z v) (uint_at-never z v)) (λ is. cc)

address_at-never : (z : ℕ) (v : View) → Never (address_at z v)
unfolding address_at
address_at-never z v =
    never_if (is_size z) (uint_at z v) (Err (UnsupportedAddressSize z)) (uint_at-never z v) (λ is. cc)

find_at-never : (b : ℕ) (v : View) → Never (find_at b v)
unfolding find_at
find_at-never b v = cases (position (λ x. x == b) v.bytes)
  where
    cases : (o : Option ℕ) → Never {A = ℕ} (elim o [ Some n ↦ Ok n | None ↦ Err (eof v) ])
    cases (Some n) = never_ok n
    cases None = λ is. cc

text_at-never : (v : View) → Never (text_at v)
unfolding text_at
text_at-never v = cases (find_at 0 v) (find_at-never 0 v)
  where
    cases : (r : Result ℕ Error) → Never r
        → Never {A = View × View}
        (elim r [
          | Ok n ↦ split_at n v >>= λ p. map_read (λ _. p.0) (byte_at p.1)
          | Err e ↦ Err e
        ])
    cases (Ok n) h = never_then (split_at n v) _ (split_at-never n v)
        (λ p. never_then (byte_at p.1) _ (byte_at-never p.1) (λ q. never_ok (p.0, q.1)))
    cases (Err e) h = λ is. let same : e ≡ OutOfMemory = cc in h (ap Err same)

-- the value in a layout
module _ (limit : ℕ) (e : Encoding) (name : ℕ) (c : Option ℤ) (v : View) where
  made : {A : Type 0} → (f : A → Value) (r : Reads A) → Never r → Never (map_read f r)
  made f r h = never_then r _ h (λ p. never_ok (f p.0, p.1))

  uleb_offset-never : Never (uleb_offset_at limit v)
  uleb_offset-never = as_offset-never limit (uleb_at v) (uleb_at-never v)

  block-never : (r : Reads ℕ) → Never r → Never (block_after r)
  block-never r h = never_then r _ h (λ p. split_at-never p.0 p.1)

  value_in-never : (l : Layout) → Never (value_in limit e name c l v)
  value_in-never (byte f) = made f (byte_at v) (byte_at-never v)
  value_in-never (number n f) = made f (uint_at n v) (uint_at-never n v)
  value_in-never (section_or n f) =
      never_if (word_size_of e.format == n && is_section_name name e.version) _ _
      (made SecOffset (uint_offset_at limit n v)
      (as_offset-never limit (uint_at n v) (uint_at-never n v)))
      (made f (uint_at n v) (uint_at-never n v))
  value_in-never (address f) =
      made f (address_at e.address_size v) (address_at-never e.address_size v)
  value_in-never (uleb f) = made f (uleb_at v) (uleb_at-never v)
  value_in-never (sleb f) = made f (sleb_at v) (sleb_at-never v)
  value_in-never (offset n f) =
      made f (uint_offset_at limit n v) (as_offset-never limit (uint_at n v) (uint_at-never n v))
  value_in-never (word_offset f) =
      made f (offset_at limit e.format v) (offset_at-never limit e.format v)
  value_in-never (reference f) =
      made f _
      (never_if (e.version == 2) (sized_offset_at limit e.address_size v)
      (offset_at limit e.format v) (sized_offset_at-never limit e.address_size v)
      (offset_at-never limit e.format v))
  value_in-never (offset_leb f) = made f (uleb_offset_at limit v) uleb_offset-never
  value_in-never (offset_leb_and n f) =
      never_then (uleb_offset_at limit v) _ uleb_offset-never
      (λ p. never_then (uint_at n p.1) _ (uint_at-never n p.1) (λ q. never_ok (f p.0 q.0, q.1)))
  value_in-never (block n f) =
      made f _
      (block-never (uint_offset_at limit n v)
      (as_offset-never limit (uint_at n v) (uint_at-never n v)))
  value_in-never (block_leb f) = made f _ (block-never (uleb_offset_at limit v) uleb_offset-never)
  value_in-never (text f) = made f (text_at v) (text_at-never v)
  value_in-never (nothing x) = never_ok (x, v)
  value_in-never (constant f) = declared c
    where
      declared : (o : Option ℤ)
          → Never {A = Value × View}
          (elim o [ Some n ↦ Ok (f n, v) | None ↦ Err InvalidImplicitConst ])
      declared (Some n) = never_ok (f n, v)
      declared None = λ is. cc

  direct_at-never : (form : ℕ) → Never (direct_at limit e name c form v)
  unfolding direct_at
  direct_at-never form = cases (layout_of form)
    where
      cases : (o : Option Layout)
          → Never {A = Value × View}
          (elim o [
            | Some l ↦ value_in limit e name c l v
            | None ↦ Err (UnknownForm (record { 0 = form }))
          ])
      cases (Some l) = value_in-never l
      cases None = λ is. cc

form_within-never : (n form : ℕ) (v : View) → Never (form_within n form v)
unfolding form_within
form_within-never zero form v =
    never_if (form == 0x16) (Err (eof v)) (Ok (form, v)) (λ is. cc) (never_ok (form, v))
form_within-never (suc n) form v =
    never_if (form == 0x16) (uleb16_at v >>= λ p. form_within n p.0 p.1) (Ok (form, v))
    (never_then (uleb16_at v) _ (uleb16_at-never v) (λ p. form_within-never n p.0 p.1))
    (never_ok (form, v))

pub attribute_at-never : (limit : ℕ) (e : Encoding) (s : Specification) (v : View)
    → Never (attribute_at limit e s v)
unfolding attribute_at value_at form_at
attribute_at-never limit e s v =
    never_then (value_at limit e s.name.0 s.constant s.form.0 v) _
    (never_then (form_at s.form.0 v) _ (form_within-never (length v.bytes) s.form.0 v)
    (λ p. direct_at-never limit e s.name.0 (declared_number s.form.0 s.constant) p.1 p.0))
    (λ q. never_ok (with_value s q.0, q.1))

pub attributes_at-never : (limit : ℕ) (e : Encoding) (ss : List Specification) (v : View)
    → Never (attributes_at limit e ss v)
unfolding attributes_at
attributes_at-never limit e [] v = never_ok ([], v)
attributes_at-never limit e (s ∷ ss) v =
    never_then (attribute_at limit e s v) _ (attribute_at-never limit e s v)
    (λ p. never_then (attributes_at limit e ss p.1) _ (attributes_at-never limit e ss p.1)
    (λ q. never_ok (p.0 ∷ q.0, q.1)))

-- an entry is refused for its bytes alone
pub entry_at-never : (limit : ℕ) (e : Encoding) (declared : Map) (v : View)
    → Never (entry_at limit e declared v)
unfolding entry_at
entry_at-never limit e declared v =
    never_then (abbreviation_at declared v) _ (abbreviation_at-never declared v)
    (λ p. content p.0 p.1)
  where
    content : (o : Option Declaration) (w : View) → Never (content_at limit e o w)
    content None w = never_ok (null_entry, w)
    content (Some d) w =
        never_then (attributes_at limit e d.attributes w) _
        (attributes_at-never limit e d.attributes w)
        (λ q. never_ok (entry_of_declared d q.0, q.1))
