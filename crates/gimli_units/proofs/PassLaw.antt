-- Where attributes can be read, passing them leaves what reading leaves.
use Rattle.std.specs.Prelude.{◌≡◌, ℕ, ℤ, ◌==◌, ◌&&◌, Bool, true, false, if◌then◌else◌, List, []}
use Rattle.std.specs.Prelude.{◌∷◌, Option, Some, None, Ok, Err}
use Rattle.std.proofs.Common.{refl, sym, ap, ◌∙◌}
use Rattle.gimli_base.specs.declared.common.Encoding.{Encoding}
use Rattle.gimli_base.specs.declared.error.Error.TheVariants.{UnknownForm, InvalidImplicitConst}
use Rattle.gimli_base.specs.View.{View}
use Rattle.gimli_base.specs.Reading.{Reads, ◌>>=◌, map_read, byte_at, uint_at, uint_offset_at}
use Rattle.gimli_base.specs.Reading.{offset_at, sized_offset_at, address_at, split_at, text_at}
use Rattle.gimli_base.specs.Reading.{uleb_at, sleb_at, word_size_of, skip_at, skip_leb_at}
use Rattle.gimli_base.specs.Reading.{PassesAs}
use Rattle.gimli_base.proofs.Passed.{byte_at-passed, split_at-passed, uint_at-passed}
use Rattle.gimli_base.proofs.Passed.{uint_offset_at-passed, offset_at-passed}
use Rattle.gimli_base.proofs.Passed.{sized_offset_at-passed}
use Rattle.gimli_base.proofs.Passed.{address_at-passed, skip_at-none, made_read, offset_read}
use Rattle.gimli_base.proofs.Passed.{uleb_at-passed, sleb_at-passed}
use Rattle.gimli_base.specs.Abbreviations.{Specification}
use Rattle.gimli_units.specs.Value.{Value}
use Rattle.gimli_units.specs.declared.value.AttributeValue.TheVariants.{SecOffset}
use Rattle.gimli_units.specs.Layout.{Layout, byte, number, section_or, address, uleb, sleb, offset}
use Rattle.gimli_units.specs.Layout.{word_offset, reference, offset_leb, offset_leb_and, block}
use Rattle.gimli_units.specs.Layout.{block_leb, text, nothing, constant, layout_of}
use Rattle.gimli_units.specs.Form.{is_section_name, uleb_offset_at, value_in, direct_at, form_at}
use Rattle.gimli_units.specs.Form.{declared_number, value_at}
use Rattle.gimli_units.specs.Passing.{pass, pass_direct, pass_at, pass_all}
use Rattle.gimli_units.specs.Entry.{Attr, attribute_at, attributes_at}

abbrev Passed : Type 0
Passed = Reads (Unit {0})

-- a value made of what was read
made_passed : {A : Type 0} → (p : Passed) (f : A → Value) (r : Reads A) → PassesAs p r
    → PassesAs p (map_read f r)
made_passed p f r h x w e = let m = made_read f r x w e in h m.0 w m.1

if_passed : {A : Type 0} → (p : Passed) (t : Bool) (x y : Reads A) → PassesAs p x → PassesAs p y
    → PassesAs p (if t then x else y)
if_passed p true x y h k = h
if_passed p false x y h k = k

uleb_offset-passed : (limit : ℕ) (v : View) → PassesAs (skip_leb_at v) (uleb_offset_at limit v)
uleb_offset-passed limit v o w e = let m = offset_read limit (uleb_at v) o w e in
    uleb_at-passed v m.0 w m.1

-- that many bytes, after their number
block-passed : (r : Reads ℕ) → PassesAs (r >>= λ p. skip_at p.0 p.1) (r >>= λ p. split_at p.0 p.1)
block-passed (Ok p) a w e = split_at-passed p.0 p.1 a w e
block-passed (Err x) a w e = absurd (cc)

-- n bytes, after a number that passes as it is read
after-passed : (n : ℕ) (p : Passed) (r : Reads ℕ) (f : ℕ → ℕ → Value) → PassesAs p r
    → PassesAs (p >>= λ q. skip_at n q.1) (r >>= λ q. map_read (f q.0) (uint_at n q.1))
after-passed n p (Ok q) f h a w e =
    rw (h q.0 q.1 refl) (made_passed _ (f q.0) (uint_at n q.1) (uint_at-passed n q.1) a w e)
after-passed n p (Err x) f h a w e = absurd (cc)

text-passed : (r : Reads View) → PassesAs (map_read (λ _. tt) r) r
text-passed (Ok p) a w e =
    ap (λ (q : View × View). Ok (tt, q.1)) (let same : ◌≡◌ {A = View × View} p (a, w) = cc in same)
text-passed (Err x) a w e = absurd (cc)

reference-passed : (limit : ℕ) (e : Encoding) (t : Bool) (v : View)
    → PassesAs (skip_at (if t then e.address_size else word_size_of e.format) v)
    (if t then sized_offset_at limit e.address_size v else offset_at limit e.format v)
reference-passed limit e true v = sized_offset_at-passed limit e.address_size v
reference-passed limit e false v = offset_at-passed limit e.format v

constant-passed : (c : Option ℤ) (f : ℤ → Value) (v : View)
    → PassesAs (skip_at 0 v) (elim c [ Some n ↦ Ok (f n, v) | None ↦ Err InvalidImplicitConst ])
constant-passed (Some n) f v x w e =
    let same : ◌≡◌ {A = Value × View} (x, w) (f n, v) = cc in
    skip_at-none v ∙ ap (λ (q : Value × View). Ok (tt, q.1)) (sym same)
constant-passed None f v x w e = absurd (cc)

nothing-passed : (y : Value) (v : View) → PassesAs (skip_at 0 v) (Ok (y, v))
nothing-passed y v x w e =
    let same : ◌≡◌ {A = Value × View} (x, w) (y, v) = cc in
    skip_at-none v ∙ ap (λ (q : Value × View). Ok (tt, q.1)) (sym same)

in-passed : (limit : ℕ) (e : Encoding) (name : ℕ) (c : Option ℤ) (l : Layout) (v : View)
    → PassesAs (pass limit e l v) (value_in limit e name c l v)
in-passed limit e name c (byte f) v = made_passed _ f (byte_at v) (byte_at-passed v)
in-passed limit e name c (number n f) v = made_passed _ f (uint_at n v) (uint_at-passed n v)
in-passed limit e name c (section_or n f) v =
    if_passed (skip_at n v) (word_size_of e.format == n && is_section_name name e.version) _ _
    (made_passed _ SecOffset (uint_offset_at limit n v) (uint_offset_at-passed limit n v))
    (made_passed _ f (uint_at n v) (uint_at-passed n v))
in-passed limit e name c (address f) v =
    made_passed _ f (address_at e.address_size v) (address_at-passed e.address_size v)
in-passed limit e name c (uleb f) v = made_passed _ f (uleb_at v) (uleb_at-passed v)
in-passed limit e name c (sleb f) v = made_passed _ f (sleb_at v) (sleb_at-passed v)
in-passed limit e name c (offset n f) v =
    made_passed _ f (uint_offset_at limit n v) (uint_offset_at-passed limit n v)
in-passed limit e name c (word_offset f) v =
    made_passed _ f (offset_at limit e.format v) (offset_at-passed limit e.format v)
in-passed limit e name c (reference f) v =
    made_passed _ f _ (reference-passed limit e (e.version == 2) v)
in-passed limit e name c (offset_leb f) v =
    made_passed _ f (uleb_offset_at limit v) (uleb_offset-passed limit v)
in-passed limit e name c (offset_leb_and n f) v =
    after-passed n (skip_leb_at v) (uleb_offset_at limit v) f (uleb_offset-passed limit v)
in-passed limit e name c (block n f) v = made_passed _ f _ (block-passed (uint_offset_at limit n v))
in-passed limit e name c (block_leb f) v = made_passed _ f _ (block-passed (uleb_offset_at limit v))
in-passed limit e name c (text f) v = made_passed _ f (text_at v) (text-passed (text_at v))
in-passed limit e name c (nothing x) v = nothing-passed x v
in-passed limit e name c (constant f) v = constant-passed c f v

direct-passed : (limit : ℕ) (e : Encoding) (name : ℕ) (c : Option ℤ) (form : ℕ) (v : View)
    → PassesAs (pass_direct limit e form v) (direct_at limit e name c form v)
unfolding direct_at pass_direct
direct-passed limit e name c form v = cases (layout_of form)
  where
    cases : (o : Option Layout)
        → PassesAs
        (elim o [ Some l ↦ pass limit e l v | None ↦ Err (UnknownForm (record { 0 = form })) ])
        (elim o [
          | Some l ↦ value_in limit e name c l v
          | None ↦ Err (UnknownForm (record { 0 = form }))
        ])
    cases (Some l) = in-passed limit e name c l v
    cases None = λ x w h. absurd (cc)

value-passed : (limit : ℕ) (e : Encoding) (name : ℕ) (c : Option ℤ) (form : ℕ) (v : View)
    → PassesAs (pass_at limit e form v) (value_at limit e name c form v)
unfolding value_at pass_at
value-passed limit e name c form v = chained (form_at form v)
  where
    chained : (r : Reads ℕ)
        → PassesAs (r >>= λ p. pass_direct limit e p.0 p.1)
        (r >>= λ p. direct_at limit e name (declared_number form c) p.0 p.1)
    chained (Ok p) = direct-passed limit e name (declared_number form c) p.0 p.1
    chained (Err x) = λ y w h. absurd (cc)

-- where these attributes are read, passing them leaves the same view
pub attributes-passed : (limit : ℕ) (e : Encoding) (ss : List Specification) (v : View)
    → PassesAs (pass_all limit e ss v) (attributes_at limit e ss v)
unfolding attributes_at attribute_at pass_all
attributes-passed limit e [] v =
    λ xs w h. ap (λ (q : List Attr × View). Ok (tt, q.1))
    (let same : ◌≡◌ {A = List Attr × View} ([], v) (xs, w) = cc in same)
attributes-passed limit e (s ∷ ss) v =
    first (value_at limit e s.name.0 s.constant s.form.0 v)
    (value-passed limit e s.name.0 s.constant s.form.0 v) (λ u. attributes-passed limit e ss u)
  where
    rest : (a : Attr) (u : View) → PassesAs (pass_all limit e ss u) (attributes_at limit e ss u)
        → PassesAs (pass_all limit e ss u) (map_read (λ xs. a ∷ xs) (attributes_at limit e ss u))
    rest a u others xs w h = let m = made_read (λ ys. a ∷ ys) (attributes_at limit e ss u) xs w h in
        others m.0 w m.1

    first : (r : Reads Value) → PassesAs (pass_at limit e s.form.0 v) r
        → ((u : View) → PassesAs (pass_all limit e ss u) (attributes_at limit e ss u))
        → PassesAs (pass_at limit e s.form.0 v >>= λ p. pass_all limit e ss p.1)
        (map_read (λ x. record { name = s.name; form = s.form; value = x }) r
        >>= λ p. map_read (λ xs. p.0 ∷ xs) (attributes_at limit e ss p.1))
    first (Ok p) h others xs w k =
        rw (h p.0 p.1 refl)
        (rest (record { name = s.name; form = s.form; value = p.0 }) p.1 (others p.1) xs w k)
    first (Err x) h others xs w k = absurd (cc)
