-- A turn of the loop that reads the attributes of a declaration.
use Rattle.std.proofs.Common.{◌≡◌, ℕ, ◌+◌, ◌<◌, List, [], ◌∷◌, ◌++◌, Ok, Err, refl, sym, ap, ◌∙◌}
use Rattle.std.proofs.Common.{append_assoc, drop, length, get_or, ◌≤◌}
use Rattle.std.proofs.lemmas.List.{drop_more, drop_all, append-nil}
use Rattle.gimli_base.specs.declared.common.Encoding.{Encoding}
use Rattle.gimli_base.specs.declared.error.Error.{Error}
use Rattle.gimli_base.specs.View.{View}
use Rattle.gimli_base.specs.Offset.{answer_of}
use Rattle.gimli_base.specs.Reading.{Reads, map_read}
use Rattle.gimli_base.specs.Abbreviations.{Specification}
use Rattle.std.specs.Prelude.{◌==◌, is_some, not, Result, Bool, true, false, if◌then◌else◌, Option}
use Rattle.std.specs.Prelude.{Some, None, ℤ}
use Rattle.gimli_base.specs.declared.constants.DwForm.{DwForm}
use Rattle.gimli_base.specs.declared.error.Error.TheVariants.{UnknownForm}
use Rattle.gimli_units.specs.Value.{Value}
use Rattle.gimli_units.specs.Form.{direct_at, value_at, value_in, form_at}
use Rattle.gimli_units.specs.Entry.{Attr, with_value, attribute_at, attributes_at}
use Rattle.gimli_units.specs.Layout.{Layout, layout_in, layout_of, forms}
use Rattle.gimli_units.specs.Taking.{read_into, is_variable, is_fixed, is_among}
use Rattle.gimli_units.specs.Taking.{has_fixed_size, has_variable_size}
use Rattle.gimli_units.proofs.Chains.{direct_value, number_stands}

-- a list that was read after another
abbrev pub after : {A : Type 0} → List A → Reads (List A) → Reads (List A)
after xs r = map_read (λ ys. xs ++ ys) r

with_first : {A : Type 0} → (a : A) (xs : List A) (r : Reads (List A))
    → after xs (map_read (λ ys. a ∷ ys) r) ≡ after (xs ++ a ∷ []) r
with_first a xs (Ok p) = ap (λ ys. Ok (ys, p.1)) (sym (append_assoc xs (a ∷ []) p.0))
with_first a xs (Err e) = refl

-- a turn of the loop: the first i attributes are xs
module _ (limit : ℕ) (encoding : Encoding) (ss : List Specification) (i : ℕ) (all v : View)
    (xs : List Attr)
    (so_far : attributes_at limit encoding ss all
    ≡ after xs (attributes_at limit encoding (drop i ss) v)) where
  pub turn_refused : (s : Specification) (e : Error) → i < length ss → s ≡ get_or ss i s
      → Err e ≡ attribute_at limit encoding s v → Err e ≡ attributes_at limit encoding ss all
  unfolding attributes_at
  turn_refused s e lt is h =
      let next = drop_more ss i s lt ∙ ap (λ x. x ∷ drop (i + 1) ss) (sym is) in
      let more = ap (λ ss. after xs (attributes_at limit encoding ss v)) next in
      sym (so_far ∙ more ∙ rw (← h) refl)

  pub turn_more : (s : Specification) (a : Attr) (w : View) → i < length ss → s ≡ get_or ss i s
      → Ok (a, w) ≡ attribute_at limit encoding s v
      → attributes_at limit encoding ss all
      ≡ after (xs ++ a ∷ []) (attributes_at limit encoding (drop (i + 1) ss) w)
  unfolding attributes_at
  turn_more s a w lt is h =
      let next = drop_more ss i s lt ∙ ap (λ x. x ∷ drop (i + 1) ss) (sym is) in
      let more = ap (λ ss. after xs (attributes_at limit encoding ss v)) next in
      so_far ∙ more ∙ rw (← h) (with_first a xs (attributes_at limit encoding (drop (i + 1) ss) w))

  -- the same, where the attribute was read onto those before it, beside what does not depend on it
  module _ {B : Type 0} (b : B) (s : Specification) (lt : i < length ss) (is : s ≡ get_or ss i s) where
    abbrev onto : Reads Attr → Reads (List Attr × B)
    onto r = map_read {B = List Attr × B} (λ a. (xs ++ a ∷ [], b)) r

    pub turn_onto : (ys : List Attr) (c : B) (w : View)
        → Ok ((ys, c), w) ≡ onto (attribute_at limit encoding s v)
        → (attributes_at limit encoding ss all
        ≡ after ys (attributes_at limit encoding (drop (i + 1) ss) w)) × (c ≡ b)
    turn_onto ys c w h = cases (attribute_at limit encoding s v) refl h
      where
        cases : (r : Reads Attr) → attribute_at limit encoding s v ≡ r
            → Ok ((ys, c), w) ≡ onto r
            → (attributes_at limit encoding ss all
            ≡ after ys (attributes_at limit encoding (drop (i + 1) ss) w)) × (c ≡ b)
        cases (Ok p) read given =
            let both : ◌≡◌ {A = (List Attr × B) × View} ((ys, c), w) ((xs ++ p.0 ∷ [], b), p.1) = cc in
            let items : ys ≡ xs ++ p.0 ∷ [] = ap (λ (q : (List Attr × B) × View). q.0.0) both in
            let left : w ≡ p.1 = ap (λ (q : (List Attr × B) × View). q.1) both in (
              rw (items, left) (turn_more s p.0 p.1 lt is (sym read)),
              ap (λ (q : (List Attr × B) × View). q.0.1) both,
            )
        cases (Err e) read given = absurd (cc)

    pub turn_not : (e : Error) → Err e ≡ onto (attribute_at limit encoding s v)
        → Err e ≡ attributes_at limit encoding ss all
    turn_not e h = cases (attribute_at limit encoding s v) refl h
      where
        cases : (r : Reads Attr) → attribute_at limit encoding s v ≡ r → Err e ≡ onto r
            → Err e ≡ attributes_at limit encoding ss all
        cases (Ok p) read given = absurd (cc)
        cases (Err x) read given =
            let same : e ≡ x = cc in turn_refused s e lt is (ap Err same ∙ sym read)

  pub turn_end : length ss ≤ i → Ok (xs, v) ≡ attributes_at limit encoding ss all
  unfolding attributes_at
  turn_end le =
      let none = ap (λ ss. after xs (attributes_at limit encoding ss v)) (drop_all i ss le) in
      sym (so_far ∙ none ∙ ap (λ ys. Ok (ys, v)) (append-nil xs))

-- what a read makes, as it is
pub as_it_is : {A : Type 0} → (r : Reads A) → map_read (λ a. a) r ≡ r
as_it_is (Ok p) = refl
as_it_is (Err e) = refl

-- an answer that stands for nothing
pub passed_as : (r : Result (Unit {0}) Error) → answer_of (λ (_ : Unit {0}). tt {0}) r ≡ r
passed_as (Ok _) = refl
passed_as (Err e) = refl

-- what is made of an attribute, by its value
made_twice : {A : Type 0} → (f : Attr → A) (s : Specification) (r : Reads Value)
    → map_read (λ x. f (with_value s x)) r ≡ map_read f (map_read (λ x. with_value s x) r)
made_twice f s (Ok p) = refl
made_twice f s (Err e) = refl

-- what is made of an attribute whose form is not indirect
pub made_direct : {A : Type 0} → (f : Attr → A) (limit : ℕ) (e : Encoding) (s : Specification)
    (v : View) → (s.form.0 ≡ 0x16 → ⊥) → is_some s.constant ≡ (s.form.0 == 0x21)
    → read_into f limit e s s.form.0 v ≡ map_read f (attribute_at limit e s v)
unfolding attribute_at
made_direct f limit e s v ne h =
    ap (λ (r : Reads Value). map_read (λ x. f (with_value s x)) r)
    (direct_value limit e s.name.0 s.constant s.form.0 v ne h)
    ∙ made_twice f s (value_at limit e s.name.0 s.constant s.form.0 v)

-- and of one whose form is at the end of a chain of indirect forms
pub made_chained : {A : Type 0} → (f : Attr → A) (limit : ℕ) (e : Encoding) (s : Specification)
    (v : View) (form : ℕ) (w : View) → is_some s.constant ≡ (s.form.0 == 0x21)
    → Ok (form, w) ≡ form_at s.form.0 v
    → read_into f limit e s form w ≡ map_read f (attribute_at limit e s v)
unfolding attribute_at value_at
made_chained f limit e s v form w h chain =
    let whole : direct_at limit e s.name.0 s.constant form w
    ≡ value_at limit e s.name.0 s.constant s.form.0 v =
    rw (← chain, number_stands s.form.0 s.constant h) refl in
    ap (λ (r : Reads Value). map_read (λ x. f (with_value s x)) r) whole
    ∙ made_twice f s (value_at limit e s.name.0 s.constant s.form.0 v)

pub made_refused : {A : Type 0} → (f : Attr → A) (limit : ℕ) (e : Encoding) (s : Specification)
    (v : View) (x : Error) → Err x ≡ form_at s.form.0 v
    → Err x ≡ map_read f (attribute_at limit e s v)
unfolding attribute_at value_at
made_refused f limit e s v x h = rw (← h) refl

-- a form that is in no list of forms
in_none : (form : ℕ) (rs : List (ℕ × Layout)) → is_among is_fixed form rs ≡ false
    → is_among is_variable form rs ≡ false → layout_in form rs ≡ None
in_none form [] fixed variable = refl
in_none form (r ∷ rs) fixed variable =
    sort (is_variable r.1) (form == r.0) (in_none form rs) fixed variable
  where
    sort : (t b : Bool) → (is_among is_fixed form rs ≡ false
        → is_among is_variable form rs ≡ false → layout_in form rs ≡ None)
        → (if not t then (if b then true else is_among is_fixed form rs)
        else is_among is_fixed form rs)
        ≡ false
        → (if t then (if b then true else is_among is_variable form rs)
        else is_among is_variable form rs)
        ≡ false
        → (if b then Some r.1 else layout_in form rs) ≡ None
    sort true true others h k = absurd (cc)
    sort true false others h k = others h k
    sort false true others h k = absurd (cc)
    sort false false others h k = others h k

pub no_form : (limit : ℕ) (e : Encoding) (name : ℕ) (c : Option ℤ) (form : DwForm) (v : View)
    → has_fixed_size form.0 ≡ false → has_variable_size form.0 ≡ false
    → Err (UnknownForm form) ≡ direct_at limit e name c form.0 v
unfolding direct_at layout_of has_fixed_size has_variable_size
no_form limit e name c form v fixed variable =
    let none : layout_of form.0 ≡ None = in_none form.0 forms fixed variable in
    sym (ap (λ (o : Option Layout). elim o [
      | Some l ↦ value_in limit e name c l v
      | None ↦ Err (UnknownForm form)
    ]) none)
