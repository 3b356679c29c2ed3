-- What the reads of attributes and entries leave: the same view some bytes later.
use Rattle.std.specs.Prelude.{◌≡◌, ℕ, ℤ, zero, suc, ◌<◌, ◌==◌, ◌&&◌, length, List, [], ◌∷◌, Option}
use Rattle.std.specs.Prelude.{Some, None, Ok, Err}
use Rattle.std.proofs.Common.{arith}
use Rattle.gimli_base.specs.declared.common.Encoding.{Encoding}
use Rattle.gimli_base.specs.declared.common.Format.{Format}
use Rattle.gimli_base.specs.declared.error.Error.TheVariants.{UnknownForm, InvalidAbbreviationCode}
use Rattle.gimli_base.specs.View.{View}
use Rattle.gimli_base.specs.Reading.{Reads, ◌>>=◌, byte_at, uint_at, uint_offset_at, offset_at}
use Rattle.gimli_base.specs.Reading.{sized_offset_at, address_at, split_at, text_at, uleb_at}
use Rattle.gimli_base.specs.Reading.{uleb16_at, sleb_at, word_size_of}
use Rattle.gimli_base.proofs.Later.{LeavesLater, IsLater-none, IsLater-length, then_leaves_later}
use Rattle.gimli_base.proofs.Later.{made_leaves_later, if_leaves_later, ok_leaves_later}
use Rattle.gimli_base.proofs.Later.{err_leaves_later, weaker_leaves_later, byte_at-later}
use Rattle.gimli_base.proofs.Later.{uint_at-later, as_offset-later, offset_at-later}
use Rattle.gimli_base.proofs.Later.{address_at-later, split_at-later, uleb_at-later}
use Rattle.gimli_base.proofs.Later.{uleb16_at-later, sleb_at-later, sized_offset_at-later}
use Rattle.gimli_base.proofs.Later.{text_at-later}
use Rattle.gimli_base.specs.Abbreviations.{Specification, Declaration, Map}
use Rattle.gimli_units.specs.Value.{Value}
use Rattle.gimli_units.specs.declared.value.AttributeValue.TheVariants.{SecOffset}
use Rattle.gimli_units.specs.Layout.{Layout, byte, number, section_or, address, uleb, sleb, offset}
use Rattle.gimli_units.specs.Layout.{word_offset, reference, offset_leb, offset_leb_and, block}
use Rattle.gimli_units.specs.Layout.{block_leb, text, nothing, constant, layout_of}
use Rattle.gimli_units.specs.Form.{is_section_name, uleb_offset_at, value_in, direct_at, form_within}
use Rattle.gimli_units.specs.Form.{form_at, declared_number, value_at}
use Rattle.gimli_units.specs.Entry.{Entry, attribute_at, attributes_at, abbreviation_at, content_at}
use Rattle.gimli_units.specs.Entry.{entry_at}

-- where nothing need be taken
pub none_later : {A : Type 0} → (n : ℕ) (v : View) (r : Reads A) → LeavesLater n v r
    → LeavesLater 0 v r
none_later n v r h = weaker_leaves_later n 0 v r (omega arith) h

pub uint_offset-later : (limit n : ℕ) (v : View) → LeavesLater 0 v (uint_offset_at limit n v)
uint_offset-later limit n v =
    none_later n v _ (as_offset-later n limit v (uint_at n v) (uint_at-later n v))

pub uleb_offset-later : (limit : ℕ) (v : View) → LeavesLater 0 v (uleb_offset_at limit v)
uleb_offset-later limit v =
    none_later 1 v _ (as_offset-later 1 limit v (uleb_at v) (uleb_at-later v))

sized_offset-later : (limit z : ℕ) (v : View) → LeavesLater 0 v (sized_offset_at limit z v)
sized_offset-later limit z v = none_later z v _ (sized_offset_at-later limit z v)

word_offset-later : (limit : ℕ) (format : Format) (v : View)
    → LeavesLater 0 v (offset_at limit format v)
word_offset-later limit format v =
    none_later (word_size_of format) v _ (offset_at-later limit format v)

-- that many bytes, after their number
split-later : (v : View) (r : Reads ℕ) → LeavesLater 0 v r
    → LeavesLater 0 v (r >>= λ p. split_at p.0 p.1)
split-later v r h = then_leaves_later 0 0 v r _ h
    (λ p. none_later p.0 p.1 _ (split_at-later p.0 p.1))

value_in-later : (limit : ℕ) (e : Encoding) (name : ℕ) (c : Option ℤ) (l : Layout) (v : View)
    → LeavesLater 0 v (value_in limit e name c l v)
value_in-later limit e name c (byte f) v =
    made_leaves_later 0 v f (byte_at v) (none_later 1 v _ (byte_at-later v))
value_in-later limit e name c (number n f) v =
    made_leaves_later 0 v f (uint_at n v) (none_later n v _ (uint_at-later n v))
value_in-later limit e name c (section_or n f) v =
    if_leaves_later 0 v (word_size_of e.format == n && is_section_name name e.version) _ _
    (made_leaves_later 0 v SecOffset (uint_offset_at limit n v) (uint_offset-later limit n v))
    (made_leaves_later 0 v f (uint_at n v) (none_later n v _ (uint_at-later n v)))
value_in-later limit e name c (address f) v =
    made_leaves_later 0 v f (address_at e.address_size v)
    (none_later e.address_size v _ (address_at-later e.address_size v))
value_in-later limit e name c (uleb f) v =
    made_leaves_later 0 v f (uleb_at v) (none_later 1 v _ (uleb_at-later v))
value_in-later limit e name c (sleb f) v =
    made_leaves_later 0 v f (sleb_at v) (none_later 1 v _ (sleb_at-later v))
value_in-later limit e name c (offset n f) v =
    made_leaves_later 0 v f (uint_offset_at limit n v) (uint_offset-later limit n v)
value_in-later limit e name c (word_offset f) v =
    made_leaves_later 0 v f (offset_at limit e.format v) (word_offset-later limit e.format v)
value_in-later limit e name c (reference f) v =
    made_leaves_later 0 v f _
    (if_leaves_later 0 v (e.version == 2) _ _ (sized_offset-later limit e.address_size v)
    (word_offset-later limit e.format v))
value_in-later limit e name c (offset_leb f) v =
    made_leaves_later 0 v f (uleb_offset_at limit v) (uleb_offset-later limit v)
value_in-later limit e name c (offset_leb_and n f) v =
    then_leaves_later 0 0 v (uleb_offset_at limit v) _ (uleb_offset-later limit v)
    (λ p. made_leaves_later 0 p.1 (f p.0) (uint_at n p.1)
    (none_later n p.1 _ (uint_at-later n p.1)))
value_in-later limit e name c (block n f) v =
    made_leaves_later 0 v f _
    (split-later v (uint_offset_at limit n v) (uint_offset-later limit n v))
value_in-later limit e name c (block_leb f) v =
    made_leaves_later 0 v f _ (split-later v (uleb_offset_at limit v) (uleb_offset-later limit v))
value_in-later limit e name c (text f) v =
    made_leaves_later 0 v f (text_at v) (none_later 1 v _ (text_at-later v))
value_in-later limit e name c (nothing x) v = ok_leaves_later 0 v (x, v) (IsLater-none v)
value_in-later limit e name (Some n) (constant f) v = ok_leaves_later 0 v (f n, v) (IsLater-none v)
value_in-later limit e name None (constant f) v = err_leaves_later {A = Value} 0 v _

direct_at-later : (limit : ℕ) (e : Encoding) (name : ℕ) (c : Option ℤ) (form : ℕ) (v : View)
    → LeavesLater 0 v (direct_at limit e name c form v)
unfolding direct_at
direct_at-later limit e name c form v = cases (layout_of form)
  where
    cases : (o : Option Layout)
        → LeavesLater 0 v
        (elim o
        [ Some l ↦ value_in limit e name c l v | None ↦ Err (UnknownForm (record { 0 = form })) ])
    cases (Some l) = value_in-later limit e name c l v
    cases None = err_leaves_later {A = Value} 0 v _

chain-later : (n form : ℕ) (v : View) → LeavesLater 0 v (form_within n form v)
unfolding form_within
chain-later zero form v =
    if_leaves_later 0 v (form == 0x16) _ _ (err_leaves_later {A = ℕ} 0 v _)
    (ok_leaves_later 0 v (form, v) (IsLater-none v))
chain-later (suc n) form v = if_leaves_later 0 v (form == 0x16) _ _
    (then_leaves_later 0 0 v (uleb16_at v) _ (none_later 1 v _ (uleb16_at-later v))
    (λ p. chain-later n p.0 p.1))
    (ok_leaves_later 0 v (form, v) (IsLater-none v))

pub form_at-later : (form : ℕ) (v : View) → LeavesLater 0 v (form_at form v)
unfolding form_at
form_at-later form v = chain-later (length v.bytes) form v

value_at-later : (limit : ℕ) (e : Encoding) (name : ℕ) (c : Option ℤ) (form : ℕ) (v : View)
    → LeavesLater 0 v (value_at limit e name c form v)
unfolding value_at
value_at-later limit e name c form v =
    then_leaves_later 0 0 v (form_at form v) _ (form_at-later form v)
    (λ p. direct_at-later limit e name (declared_number form c) p.0 p.1)

pub attribute_at-later : (limit : ℕ) (e : Encoding) (s : Specification) (v : View)
    → LeavesLater 0 v (attribute_at limit e s v)
unfolding attribute_at
attribute_at-later limit e s v =
    made_leaves_later 0 v _ (value_at limit e s.name.0 s.constant s.form.0 v)
    (value_at-later limit e s.name.0 s.constant s.form.0 v)

pub attributes_at-later : (limit : ℕ) (e : Encoding) (ss : List Specification) (v : View)
    → LeavesLater 0 v (attributes_at limit e ss v)
unfolding attributes_at
attributes_at-later limit e [] v = ok_leaves_later 0 v ([], v) (IsLater-none v)
attributes_at-later limit e (s ∷ ss) v =
    then_leaves_later 0 0 v (attribute_at limit e s v) _ (attribute_at-later limit e s v)
    (λ p. made_leaves_later 0 p.1 _ (attributes_at limit e ss p.1)
    (attributes_at-later limit e ss p.1))

pub abbreviation_at-later : (declared : Map) (v : View)
    → LeavesLater 1 v (abbreviation_at declared v)
unfolding abbreviation_at
abbreviation_at-later declared v = then_leaves_later 1 0 v (uleb_at v) _ (uleb_at-later v)
    (λ code. if_leaves_later 0 code.1 (code.0 == 0) _ _
    (ok_leaves_later {A = Option Declaration} 0 code.1 (None, code.1) (IsLater-none code.1))
    (named code.0 code.1 (declared code.0)))
  where
    named : (code : ℕ) (w : View) (o : Option Declaration)
        → LeavesLater {A = Option Declaration} 0 w
        (elim o [ Some d ↦ Ok (Some d, w) | None ↦ Err (InvalidAbbreviationCode code) ])
    named code w (Some d) = ok_leaves_later 0 w (Some d, w) (IsLater-none w)
    named code w None = err_leaves_later {A = Option Declaration} 0 w _

content_at-later : (limit : ℕ) (e : Encoding) (o : Option Declaration) (v : View)
    → LeavesLater 0 v (content_at limit e o v)
content_at-later limit e None v = ok_leaves_later 0 v _ (IsLater-none v)
content_at-later limit e (Some d) v =
    made_leaves_later 0 v _ (attributes_at limit e d.attributes v)
    (attributes_at-later limit e d.attributes v)

pub entry_at-later : (limit : ℕ) (e : Encoding) (declared : Map) (v : View)
    → LeavesLater 1 v (entry_at limit e declared v)
unfolding entry_at
entry_at-later limit e declared v =
    then_leaves_later 1 0 v (abbreviation_at declared v) _ (abbreviation_at-later declared v)
    (λ p. content_at-later limit e p.0 p.1)

-- an entry that was read is no longer there
pub entry_at-shorter : (limit : ℕ) (e : Encoding) (declared : Map) (v w : View) (x : Entry)
    → Ok (x, w) ≡ entry_at limit e declared v → length w.bytes < length v.bytes
entry_at-shorter limit e declared v w x h =
    omega (arith, IsLater-length 1 v w (entry_at-later limit e declared v x w h))
