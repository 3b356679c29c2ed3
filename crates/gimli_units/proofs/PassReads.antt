-- What the passing of attributes leaves: the same view some bytes later (DWARF 5, 7.5.6).
use Rattle.std.specs.Prelude.{◌≡◌, ℕ, ◌≤◌, ◌==◌, if◌then◌else◌, length, List, [], ◌∷◌, Option, Some}
use Rattle.std.specs.Prelude.{None, Ok, Err}
use Rattle.std.proofs.Common.{refl, sym, ap, ◌∙◌, arith}
use Rattle.gimli_base.specs.declared.common.Encoding.{Encoding}
use Rattle.gimli_base.specs.declared.error.Error.TheVariants.{UnknownForm}
use Rattle.gimli_base.specs.View.{View}
use Rattle.gimli_base.specs.Reading.{Reads, ◌>>=◌, uint_offset_at, text_at, word_size_of, skip_at}
use Rattle.gimli_base.specs.Reading.{skip_leb_at}
use Rattle.gimli_base.proofs.Later.{LeavesLater, IsLater-none, IsLater-length, then_leaves_later}
use Rattle.gimli_base.proofs.Later.{made_leaves_later, ok_leaves_later, err_leaves_later}
use Rattle.gimli_base.proofs.Later.{skip_at-later, skip_leb_at-later, text_at-later}
use Rattle.gimli_base.specs.Reading.{PassesAs}
use Rattle.gimli_base.specs.Abbreviations.{Specification}
use Rattle.gimli_units.specs.Layout.{Layout, byte, number, section_or, address, uleb, sleb, offset}
use Rattle.gimli_units.specs.Layout.{word_offset, reference, offset_leb, offset_leb_and, block}
use Rattle.gimli_units.specs.Layout.{block_leb, text, nothing, constant, layout_of}
use Rattle.gimli_units.specs.Form.{uleb_offset_at, form_at}
use Rattle.gimli_units.proofs.EntryReads.{none_later, uint_offset-later, uleb_offset-later}
use Rattle.gimli_units.proofs.EntryReads.{form_at-later}
use Rattle.gimli_units.specs.Passing.{pass, pass_direct, pass_at, pass_all, without_place}

abbrev Passed : Type 0
Passed = Reads (Unit {0})

skipped-later : (n : ℕ) (v : View) → LeavesLater 0 v (skip_at n v)
skipped-later n v = none_later n v (skip_at n v) (skip_at-later n v)

pub leb-later : (v : View) → LeavesLater 0 v (skip_leb_at v)
leb-later v = none_later 1 v (skip_leb_at v) (skip_leb_at-later v)

-- that many bytes, after their number
block-later : (v : View) (r : Reads ℕ) → LeavesLater 0 v r
    → LeavesLater 0 v (r >>= λ p. skip_at p.0 p.1)
block-later v r h = then_leaves_later 0 0 v r _ h (λ p. skipped-later p.0 p.1)

pass-later : (limit : ℕ) (e : Encoding) (l : Layout) (v : View) → LeavesLater 0 v (pass limit e l v)
pass-later limit e (byte f) v = skipped-later 1 v
pass-later limit e (number n f) v = skipped-later n v
pass-later limit e (section_or n f) v = skipped-later n v
pass-later limit e (address f) v = skipped-later e.address_size v
pass-later limit e (offset n f) v = skipped-later n v
pass-later limit e (word_offset f) v = skipped-later (word_size_of e.format) v
pass-later limit e (reference f) v =
    skipped-later (if e.version == 2 then e.address_size else word_size_of e.format) v
pass-later limit e (nothing x) v = skipped-later 0 v
pass-later limit e (constant f) v = skipped-later 0 v
pass-later limit e (uleb f) v = leb-later v
pass-later limit e (sleb f) v = leb-later v
pass-later limit e (offset_leb f) v = leb-later v
pass-later limit e (offset_leb_and n f) v =
    then_leaves_later 0 0 v (skip_leb_at v) _ (leb-later v) (λ p. skipped-later n p.1)
pass-later limit e (block n f) v =
    block-later v (uint_offset_at limit n v) (uint_offset-later limit n v)
pass-later limit e (block_leb f) v =
    block-later v (uleb_offset_at limit v) (uleb_offset-later limit v)
pass-later limit e (text f) v =
    made_leaves_later 0 v (λ _. tt) (text_at v) (none_later 1 v _ (text_at-later v))

pass_direct-later : (limit : ℕ) (e : Encoding) (form : ℕ) (v : View)
    → LeavesLater 0 v (pass_direct limit e form v)
unfolding pass_direct
pass_direct-later limit e form v = cases (layout_of form)
  where
    cases : (o : Option Layout)
        → LeavesLater {A = Unit {0}} 0 v
        (elim o [ Some l ↦ pass limit e l v | None ↦ Err (UnknownForm (record { 0 = form })) ])
    cases (Some l) = pass-later limit e l v
    cases None = err_leaves_later {A = Unit {0}} 0 v _

pub pass_at-later : (limit : ℕ) (e : Encoding) (form : ℕ) (v : View)
    → LeavesLater 0 v (pass_at limit e form v)
unfolding pass_at
pass_at-later limit e form v =
    then_leaves_later 0 0 v (form_at form v) _ (form_at-later form v)
    (λ p. pass_direct-later limit e p.0 p.1)

pass_all-later : (limit : ℕ) (e : Encoding) (ss : List Specification) (v : View)
    → LeavesLater 0 v (pass_all limit e ss v)
unfolding pass_all
pass_all-later limit e [] v = ok_leaves_later {A = Unit {0}} 0 v (tt, v) (IsLater-none v)
pass_all-later limit e (s ∷ ss) v =
    then_leaves_later 0 0 v (pass_at limit e s.form.0 v) _ (pass_at-later limit e s.form.0 v)
    (λ p. pass_all-later limit e ss p.1)

-- what passes as well, but for the place of a refusal
pub passed-somewhere : (p q : Passed) (w : View) → without_place p ≡ without_place q
    → q ≡ Ok (tt, w) → p ≡ Ok (tt, w)
passed-somewhere (Ok a) (Ok b) w h k = let same : ◌≡◌ {A = Unit {0} × View} a b = cc in
    ap (λ (x : Unit {0} × View). Ok x) same ∙ k
passed-somewhere (Ok a) (Err e) w h k = absurd (cc)
passed-somewhere (Err e) (Ok b) w h k = absurd (cc)
passed-somewhere (Err e) (Err f) w h k = absurd (cc)

-- what these specifications leave is no longer than what was there
pub passed-shorter : (limit : ℕ) (e : Encoding) (ss : List Specification) (v w : View)
    → without_place (Ok (tt, w)) ≡ without_place (pass_all limit e ss v)
    → length w.bytes ≤ length v.bytes
passed-shorter limit e ss v w h =
    let same : pass_all limit e ss v
    ≡ Ok (tt, w) = passed-somewhere (pass_all limit e ss v) (Ok (tt, w)) w (sym h) refl in
    omega (arith, IsLater-length 0 v w (pass_all-later limit e ss v tt w (sym same)))

-- what passes as well leaves what reading leaves
pub reads-somewhere : {A : Type 0} → (p q : Passed) (r : Reads A)
    → without_place p ≡ without_place q → PassesAs q r → PassesAs p r
reads-somewhere p q r h k a w e = passed-somewhere p q w h (k a w e)
