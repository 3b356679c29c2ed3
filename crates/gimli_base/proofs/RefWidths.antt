-- A form of eight bytes whatever the format is none of an address or of an offset of the format.
use Rattle.std.proofs.Common.{◌≡◌, Bool, true, false, refl, sym, ap, ◌∙◌, ℕ}
use Rattle.std.specs.Prelude.{◌==◌, ◌||◌}
use Rattle.std.proofs.lemmas.Bool.{eqb-true}
use Rattle.gimli_base.specs.declared.width.Width.{Width}
use Rattle.gimli_base.specs.declared.width.Width.TheVariants.{Fixed, Address, Word, Reference}
use Rattle.gimli_base.specs.Abbreviations.{Specification}
use Rattle.gimli_base.specs.Steps.{is_ref8}
use Rattle.gimli_base.specs.Width.{width_of, widths}

fixed_ref8 : width_of 0x14 ≡ Fixed 8
unfolding width_of widths
fixed_ref8 = refl

fixed_ref_sup8 : width_of 0x24 ≡ Fixed 8
unfolding width_of widths
fixed_ref_sup8 = refl

-- such a form has eight bytes
fixed : (s : Specification) → is_ref8 s ≡ true → width_of s.form.0 ≡ Fixed 8
fixed s h = cases (s.form.0 == 0x14) (s.form.0 == 0x24) refl refl h
  where
    cases : (a b : Bool) → (s.form.0 == 0x14) ≡ a → (s.form.0 == 0x24) ≡ b → (a || b) ≡ true
        → width_of s.form.0 ≡ Fixed 8
    cases true b i j k = ap width_of (eqb-true s.form.0 0x14 i) ∙ fixed_ref8
    cases false true i j k = ap width_of (eqb-true s.form.0 0x24 j) ∙ fixed_ref_sup8
    cases false false i j k = absurd (cc)

-- so one of another width is none
module _ (s : Specification) where
  pub address_is_none : width_of s.form.0 ≡ Address → is_ref8 s ≡ false
  address_is_none h = cases (is_ref8 s) refl
    where
      cases : (b : Bool) → is_ref8 s ≡ b → b ≡ false
      cases true i = let both : ◌≡◌ {A = Width} Address (Fixed 8) = sym h ∙ fixed s i in absurd (cc)
      cases false i = refl

  pub word_is_none : width_of s.form.0 ≡ Word → is_ref8 s ≡ false
  word_is_none h = cases (is_ref8 s) refl
    where
      cases : (b : Bool) → is_ref8 s ≡ b → b ≡ false
      cases true i = let both : ◌≡◌ {A = Width} Word (Fixed 8) = sym h ∙ fixed s i in absurd (cc)
      cases false i = refl

  pub reference_is_none : width_of s.form.0 ≡ Reference → is_ref8 s ≡ false
  reference_is_none h = cases (is_ref8 s) refl
    where
      cases : (b : Bool) → is_ref8 s ≡ b → b ≡ false
      cases true i = let both : ◌≡◌ {A = Width} Reference (Fixed 8) = sym h ∙ fixed s i in absurd (cc)
      cases false i = refl
