-- Turns of the loop that passes values, those of known sizes together.
use Rattle.std.proofs.Common.{◌≡◌, ℕ, zero, suc, ◌+◌, ◌-◌, ◌<◌, ◌≤◌, ◌==◌, length, drop, List, [], ◌∷◌}
use Rattle.std.proofs.Common.{Bool, true, false, if◌then◌else◌, Option, Some, None, Result, Ok, Err}
use Rattle.std.proofs.Common.{refl, sym, ap, ◌∙◌, arith, nat_le, get_or, length-drop}
use Rattle.std.proofs.lemmas.Bool.{le-leb, lt-leb, leb-true, leb-false, ne_eqb}
use Rattle.std.proofs.lemmas.List.{drop_more, drop_all}
use Rattle.gimli_base.specs.declared.common.Encoding.{Encoding}
use Rattle.gimli_base.specs.declared.constants.DwForm.{DwForm}
use Rattle.gimli_base.specs.declared.error.Error.{Error}
use Rattle.gimli_base.specs.declared.error.Error.TheVariants.{UnknownForm}
use Rattle.gimli_base.specs.Abbreviations.{Specification}
use Rattle.gimli_base.specs.View.{View, cut}
use Rattle.gimli_base.specs.Reading.{Reads, read_of, ◌>>=◌, eof, skip_at}
use Rattle.gimli_base.specs.View.{IsLater}
use Rattle.gimli_base.proofs.Later.{IsLater-none, IsLater-trans, cut-cut, skip_at-later}
use Rattle.gimli_base.proofs.Passed.{skip_at-none}
use Rattle.gimli_base.specs.Width.{form_size}
use Rattle.gimli_base.specs.Offset.{sum_of}
use Rattle.std.specs.Prelude.{nat_lt, IfErr}
use Rattle.gimli_units.specs.Layout.{Layout, byte, number, section_or, address, uleb, sleb, offset}
use Rattle.gimli_units.specs.Layout.{word_offset, reference, offset_leb, offset_leb_and, block}
use Rattle.gimli_units.specs.Layout.{block_leb, text, nothing, constant, forms, layout_in, layout_of}
use Rattle.gimli_units.specs.Taking.{is_variable, is_among, has_variable_size}
use Rattle.gimli_units.specs.Form.{form_at, form_within}
use Rattle.gimli_units.proofs.WidthLaw.{size_of, known_size, form_size-known}
use Rattle.gimli_units.specs.Passing.{pass, pass_at, pass_direct, pass_all}
use Rattle.gimli_units.specs.Passing.{somewhere, without_place, NamesPlaceOf}
use Rattle.gimli_units.proofs.EntryReads.{none_later}
use Rattle.gimli_units.proofs.PassReads.{pass_at-later}
use Rattle.gimli_units.proofs.PassPlaces.{place_later, pass_at_refuses, skip_at_refuses}

abbrev Units : Type 0
Units = Reads (Unit {0})

-- a known size is what passing takes
size_passes : (limit n : ℕ) (e : Encoding) (l : Layout) (v : View) → Some n ≡ size_of e l
    → pass limit e l v ≡ skip_at n v
size_passes limit n e (byte f) v h = let k : n ≡ 1 = cc in ap (λ m. skip_at m v) (sym k)
size_passes limit n e (number m f) v h = let k : n ≡ m = cc in ap (λ m. skip_at m v) (sym k)
size_passes limit n e (section_or m f) v h = let k : n ≡ m = cc in ap (λ m. skip_at m v) (sym k)
size_passes limit n e (address f) v h = let k : n ≡ e.address_size = cc in
    ap (λ m. skip_at m v) (sym k)
size_passes limit n e (offset m f) v h = let k : n ≡ m = cc in ap (λ m. skip_at m v) (sym k)
size_passes limit n e (word_offset f) v h = cc
size_passes limit n e (reference f) v h = cc
size_passes limit n e (nothing x) v h = let k : n ≡ 0 = cc in ap (λ m. skip_at m v) (sym k)
size_passes limit n e (constant f) v h = let k : n ≡ 0 = cc in ap (λ m. skip_at m v) (sym k)
size_passes limit n e (uleb f) v h = cc
size_passes limit n e (sleb f) v h = cc
size_passes limit n e (offset_leb f) v h = cc
size_passes limit n e (offset_leb_and m f) v h = cc
size_passes limit n e (block m f) v h = cc
size_passes limit n e (block_leb f) v h = cc
size_passes limit n e (text f) v h = cc

option_passes : (limit n form : ℕ) (e : Encoding) (l : Option Layout) (v : View)
    → ◌≡◌ {A = Option ℕ} (Some n) (elim l [ Some k ↦ size_of e k | None ↦ None ])
    → ◌≡◌ {A = Units}
    (elim l [ Some k ↦ pass limit e k v | None ↦ Err (UnknownForm (record { 0 = form })) ])
    (skip_at n v)
option_passes limit n form e (Some l) v h = size_passes limit n e l v h
option_passes limit n form e None v h = cc

direct_passes : (limit n form : ℕ) (e : Encoding) (v : View) → Some n ≡ known_size e form
    → pass_direct limit e form v ≡ skip_at n v
unfolding pass_direct known_size
direct_passes limit n form e v h = option_passes limit n form e (layout_of form) v h

-- a form of a known size is passed by it
pub size_passed : (limit n form : ℕ) (e : Encoding) (v : View) → form_size e form ≡ Some n
    → skip_at n v ≡ pass_direct limit e form v
size_passed limit n form e v h =
    sym (direct_passes limit n form e v (sym h ∙ form_size-known e form))

-- a layout has a known size, or a variable one
some_size : (e : Encoding) (l : Layout) → is_variable l ≡ false → size_of e l ≡ None → ⊥
some_size e (byte f) fixed h = cc
some_size e (number n f) fixed h = cc
some_size e (section_or n f) fixed h = cc
some_size e (address f) fixed h = cc
some_size e (offset n f) fixed h = cc
some_size e (word_offset f) fixed h = cc
some_size e (reference f) fixed h = cc
some_size e (nothing x) fixed h = cc
some_size e (constant f) fixed h = cc
some_size e (uleb f) fixed h = cc
some_size e (sleb f) fixed h = cc
some_size e (offset_leb f) fixed h = cc
some_size e (offset_leb_and n f) fixed h = cc
some_size e (block n f) fixed h = cc
some_size e (block_leb f) fixed h = cc
some_size e (text f) fixed h = cc

no_layout : (e : Encoding) (form : ℕ) (rs : List (ℕ × Layout))
    → ◌≡◌ {A = Option ℕ} (elim (layout_in form rs) [ Some l ↦ size_of e l | None ↦ None ]) None
    → is_among is_variable form rs ≡ false → layout_in form rs ≡ None
no_layout e form [] none other = refl
no_layout e form (r ∷ rs) none other =
    sort (form == r.0) (is_variable r.1) refl (no_layout e form rs) none other
  where
    sort : (b t : Bool) → is_variable r.1 ≡ t
        → (◌≡◌ {A = Option ℕ} (elim (layout_in form rs) [ Some l ↦ size_of e l | None ↦ None ]) None
        → is_among is_variable form rs ≡ false → layout_in form rs ≡ None)
        → ◌≡◌ {A = Option ℕ}
        (elim (if b then Some r.1 else layout_in form rs) [ Some l ↦ size_of e l | None ↦ None ])
        None
        → (if t then (if b then true else is_among is_variable form rs)
        else is_among is_variable form rs)
        ≡ false
        → (if b then Some r.1 else layout_in form rs) ≡ None
    sort true true is others h k = absurd (cc)
    sort true false is others h k = absurd (some_size e r.1 is h)
    sort false true is others h k = others h k
    sort false false is others h k = others h k

-- any other form is refused
pub unknown_refused : (limit : ℕ) (e : Encoding) (form : DwForm) (v : View)
    → form_size e form.0 ≡ None → has_variable_size form.0 ≡ false
    → Err (UnknownForm form) ≡ pass_direct limit e form.0 v
unfolding pass_direct has_variable_size known_size layout_of
unknown_refused limit e form v size other =
    let none : layout_of form.0 ≡ None =
    no_layout e form.0 forms (sym (form_size-known e form.0) ∙ size) other in
    sym (ap (λ (o : Option Layout). elim o [
      | Some l ↦ pass limit e l v
      | None ↦ Err (UnknownForm form)
    ]) none)

pub not_indirect : (n form : ℕ) (e : Encoding) → Some n ≡ known_size e form → form ≡ 0x16 → ⊥
unfolding known_size layout_of
not_indirect n form e h is =
    let k : ◌≡◌ {A = Option ℕ} (Some n) (known_size e 0x16) = h ∙ ap (λ f. known_size e f) is in cc

chain_stays : (k form : ℕ) (v : View) → (form == 0x16) ≡ false → form_within k form v ≡ Ok (form, v)
unfolding form_within
chain_stays zero form v t = rw t refl
chain_stays (suc k) form v t = rw t refl

known_passes : (limit n form : ℕ) (e : Encoding) (v : View) → Some n ≡ known_size e form
    → pass_at limit e form v ≡ skip_at n v
unfolding pass_at form_at
known_passes limit n form e v h =
    let t : (form == 0x16) ≡ false = ne_eqb form 0x16 (not_indirect n form e h) in
    rw (chain_stays (length v.bytes) form v t) (direct_passes limit n form e v h)

-- two skips are one, but for the place of a refusal
pub skip_ok : (n : ℕ) (v : View) → n ≤ length v.bytes → skip_at n v ≡ Ok (tt, cut n v)
unfolding skip_at
skip_ok n v h = rw (le-leb n (length v.bytes) h) refl

skip_refused : (n : ℕ) (v : View) → length v.bytes < n → skip_at n v ≡ Err (eof v)
unfolding skip_at
skip_refused n v h = rw (lt-leb n (length v.bytes) h) refl

skip_sum_by : (s t : Bool) (a b : ℕ) (v : View) (rest : View → Units)
    → nat_le a (length v.bytes) ≡ s → nat_le (a + b) (length v.bytes) ≡ t
    → without_place (skip_at a v >>= λ p. skip_at b p.1 >>= λ q. rest q.1)
    ≡ without_place (skip_at (a + b) v >>= λ q. rest q.1)
skip_sum_by true true a b v rest hs ht =
    let x : a ≤ length v.bytes = leb-true a (length v.bytes) hs in
    let y : a + b ≤ length v.bytes = leb-true (a + b) (length v.bytes) ht in
    let l : length (cut a v).bytes ≡ length v.bytes - a = length-drop a v.bytes in
    let z : b ≤ length (cut a v).bytes = omega (arith, x, y, l) in
    rw (skip_ok a v x, skip_ok b (cut a v) z, skip_ok (a + b) v y)
    (ap (λ u. without_place (rest u)) (cut-cut a b v))
skip_sum_by true false a b v rest hs ht =
    let x : a ≤ length v.bytes = leb-true a (length v.bytes) hs in
    let y : length v.bytes < a + b = leb-false (a + b) (length v.bytes) ht in
    let l : length (cut a v).bytes ≡ length v.bytes - a = length-drop a v.bytes in
    let z : length (cut a v).bytes < b = omega (arith, x, y, l) in
    rw (skip_ok a v x, skip_refused b (cut a v) z, skip_refused (a + b) v y) refl
skip_sum_by false true a b v rest hs ht =
    let x : length v.bytes < a = leb-false a (length v.bytes) hs in
    let y : a + b ≤ length v.bytes = leb-true (a + b) (length v.bytes) ht in
    absurd (omega (arith, x, y))
skip_sum_by false false a b v rest hs ht =
    let x : length v.bytes < a = leb-false a (length v.bytes) hs in
    let y : length v.bytes < a + b = leb-false (a + b) (length v.bytes) ht in
    rw (skip_refused a v x, skip_refused (a + b) v y) refl

skip_sum : (a b : ℕ) (v : View) (rest : View → Units)
    → without_place (skip_at a v >>= λ p. skip_at b p.1 >>= λ q. rest q.1)
    ≡ without_place (skip_at (a + b) v >>= λ q. rest q.1)
skip_sum a b v rest =
    skip_sum_by (nat_le a (length v.bytes)) (nat_le (a + b) (length v.bytes)) a b v rest refl refl

bind_same : (r : Units) (f g : View → Units) → ((u : View) → f u ≡ g u)
    → ◌≡◌ {A = Units} (r >>= λ p. f p.1) (r >>= λ p. g p.1)
bind_same (Ok p) f g same = same p.1
bind_same (Err x) f g same = refl

bind_end : (r : Units) → ◌≡◌ {A = Units} (r >>= λ p. Ok (tt, p.1)) r
bind_end (Ok p) = refl
bind_end (Err x) = refl

-- where the loop stands: i ss are done, but for the last `pending` bytes of them, which are still
-- to be passed
pub record Stands (limit : ℕ) (e : Encoding) (ss : List Specification) (all v : View)
    (i pending : ℕ) : Type 0 where
  pub same : without_place (pass_all limit e ss all)
      ≡ without_place (skip_at pending v >>= λ p. pass_all limit e (drop i ss) p.1)
  pub later : IsLater 0 all v

module _ (limit : ℕ) (e : Encoding) (ss : List Specification) (all v : View) (i pending : ℕ)
    (s : Stands limit e ss all v i pending) where
  next : (d : Specification) → i < length ss → d ≡ get_or ss i d → (u : View)
      → pass_all limit e (drop i ss) u
      ≡ (pass_at limit e d.form.0 u >>= λ p. pass_all limit e (drop (i + 1) ss) p.1)
  unfolding pass_all
  next d lt is u = ap (λ fs. pass_all limit e fs u)
      (drop_more ss i d lt ∙ ap (λ x. x ∷ drop (i + 1) ss) (sym is))

  pub turn_known : (d : Specification) (n sum : ℕ) → i < length ss → d ≡ get_or ss i d
      → Some n ≡ form_size e d.form.0 → sum ≡ pending + n → Stands limit e ss all v (i + 1) sum
  turn_known d n sum lt item known is = record {
    same = s.same
        ∙ ap without_place
        (bind_same (skip_at pending v) (λ u. pass_all limit e (drop i ss) u)
        (λ u. skip_at n u >>= λ q. pass_all limit e (drop (i + 1) ss) q.1)
        (λ u. next d lt item u
        ∙ ap (λ r. r >>= λ q. pass_all limit e (drop (i + 1) ss) q.1)
        (known_passes limit n d.form.0 e u (known ∙ form_size-known e d.form.0))))
        ∙ skip_sum pending n v (λ u. pass_all limit e (drop (i + 1) ss) u)
        ∙ ap (λ m. without_place (skip_at m v >>= λ q. pass_all limit e (drop (i + 1) ss) q.1))
        (sym is);
    later = s.later;
  }

  skipped : (x : Unit {0}) (u : View) → Ok (x, u) ≡ skip_at pending v → IsLater 0 v u
  skipped x u h = none_later pending v (skip_at pending v) (skip_at-later pending v) x u h

  -- where one is refused, the place lies in the bytes from the first on
  pub flush_place : (r : Error) → Err r ≡ skip_at pending v → NamesPlaceOf all r
  flush_place r h = place_later all v r s.later (skip_at_refuses pending v r h)

  pub value_place : (form : ℕ) (r : Error) (u : View) (x : Unit {0}) → Ok (x, u) ≡ skip_at pending v
      → Err r ≡ pass_at limit e form u → NamesPlaceOf all r
  value_place form r u x h k =
      place_later all v r s.later
      (place_later v u r (skipped x u h) (pass_at_refuses limit e form u r k))

  pub end_place : (r : Result (Unit {0}) Error) (w : View) → read_of r w ≡ skip_at pending v
      → IfErr r (NamesPlaceOf all)
  end_place (Ok x) w h = tt
  end_place (Err r) w h = flush_place r h

  pub turn_refused : (d : Specification) (r : Error) (u : View) (x : Unit {0}) → i < length ss
      → d ≡ get_or ss i d → Ok (x, u) ≡ skip_at pending v → Err r ≡ pass_at limit e d.form.0 u
      → Err (somewhere r) ≡ without_place (pass_all limit e ss all)
  turn_refused d r u x lt item h k =
      sym (s.same ∙ rw (← h) (ap without_place (next d lt item u) ∙ rw (← k) refl))

  pub turn_passed : (d : Specification) (u w : View) (x y : Unit {0}) → i < length ss
      → d ≡ get_or ss i d → Ok (x, u) ≡ skip_at pending v → Ok (y, w) ≡ pass_at limit e d.form.0 u
      → (m : ℕ) → m ≡ 0 → Stands limit e ss all w (i + 1) m
  turn_passed d u w x y lt item h k m z = record {
    same = s.same ∙ rw (← h)
        (ap without_place (next d lt item u) ∙ rw (← k, z, skip_at-none w) refl);
    later =
        let passed : IsLater 0 v w =
        IsLater-trans 0 0 v u w (skipped x u h) (pass_at-later limit e d.form.0 u y w k) in
        IsLater-trans 0 0 all v w s.later passed;
  }

  pub turn_end : (r : Result (Unit {0}) Error) (w : View) → length ss ≤ i
      → read_of r w ≡ skip_at pending v
      → without_place (read_of r w) ≡ without_place (pass_all limit e ss all)
  unfolding pass_all
  turn_end r w le h =
      let none = ap (λ fs. without_place (skip_at pending v >>= λ p. pass_all limit e fs p.1))
      (drop_all i ss le) in
      sym
      (s.same ∙ none ∙ ap without_place (bind_end (skip_at pending v))
      ∙ ap without_place (sym h))

pub begin : (limit : ℕ) (e : Encoding) (ss : List Specification) (v : View) (m : ℕ) → m ≡ 0
    → Stands limit e ss v v 0 m
begin limit e ss v m z = record { same = rw (z, skip_at-none v) refl; later = IsLater-none v }

sum_by : (t : Bool) (a b s : ℕ) → ◌≡◌ {A = Option ℕ} (Some s) (if t then Some (a + b) else None)
    → s ≡ a + b
sum_by true a b s h = cc
sum_by false a b s h = cc

pub sum_is : (limit a b n s : ℕ) → Some s ≡ sum_of limit a b → b ≡ n → s ≡ a + n
sum_is limit a b n s h e = sum_by (nat_lt (a + b) limit) a b s h ∙ ap (λ m. a + m) e
