-- A turn in a chain of indirect forms.
use Rattle.std.proofs.Common.{◌≡◌, ℕ, zero, suc, ◌<◌, ◌≤◌, length, false, Ok, Err, refl, sym, ap}
use Rattle.std.proofs.Common.{◌∙◌, arith}
use Rattle.std.specs.Prelude.{◌==◌, ℤ, Bool, true, if◌then◌else◌, is_some, Option, Some, None}
use Rattle.std.proofs.lemmas.Bool.{eqb-true, ne_eqb}
use Rattle.gimli_base.specs.declared.common.Encoding.{Encoding}
use Rattle.gimli_base.specs.declared.error.Error.{Error}
use Rattle.gimli_base.specs.View.{View}
use Rattle.gimli_base.specs.Reading.{Reads, eof, byte_at, uleb16_at, uleb_within}
use Rattle.gimli_base.proofs.Later.{IsLater-length, uleb16_at-later}
use Rattle.gimli_units.specs.Form.{form_within, form_at, declared_number, direct_at, value_at}

uleb16_at-none : (v : View) → length v.bytes ≤ 0 → uleb16_at v ≡ Err (eof v)
unfolding uleb16_at uleb_within byte_at
uleb16_at-none v h = let e : length v.bytes ≡ 0 = omega (arith, h) in rw e refl

pub uleb16_at-shorter : (v : View) (f : ℕ) (w : View) → Ok (f, w) ≡ uleb16_at v
    → length w.bytes < length v.bytes
uleb16_at-shorter v f w h = omega (arith, IsLater-length 1 v w (uleb16_at-later v f w h))

-- the chain's end, where at most so many bytes are left and the form is f
pub record EndsAs (total : Reads ℕ) (f : ℕ) (v : View) : Type 0 where
  pub fuel : ℕ
  pub enough : length v.bytes ≤ fuel
  pub same : total ≡ form_within fuel f v

more : (k : ℕ) (total : Reads ℕ) (v w : View) (f : ℕ) → length v.bytes ≤ k → total ≡ form_within k 0x16 v
    → Ok (f, w) ≡ uleb16_at v → EndsAs total f w
unfolding form_within
more zero total v w f le same h = let lt = uleb16_at-shorter v f w h in
    absurd (omega (arith, lt, le))
more (suc k) total v w f le same h =
    let lt : length w.bytes < length v.bytes = uleb16_at-shorter v f w h in
    record { fuel = k; enough = omega (arith, lt, le); same = same ∙ rw (← h) refl }

pub chain_more : (total : Reads ℕ) (v w : View) (g f : ℕ) → g ≡ 0x16 → EndsAs total g v
    → Ok (f, w) ≡ uleb16_at v → EndsAs total f w
chain_more total v w g f is s h =
    more s.fuel total v w f s.enough (s.same ∙ ap (λ x. form_within s.fuel x v) is) h

refused : (k : ℕ) (total : Reads ℕ) (v : View) (e : Error) → length v.bytes ≤ k
    → total ≡ form_within k 0x16 v → Err e ≡ uleb16_at v → Err e ≡ total
unfolding form_within
refused zero total v e le same h = h ∙ uleb16_at-none v le ∙ sym same
refused (suc k) total v e le same h = sym (same ∙ rw (← h) refl)

pub chain_refused : (total : Reads ℕ) (v : View) (g : ℕ) (e : Error) → g ≡ 0x16 → EndsAs total g v
    → Err e ≡ uleb16_at v → Err e ≡ total
chain_refused total v g e is s h =
    refused s.fuel total v e s.enough (s.same ∙ ap (λ x. form_within s.fuel x v) is) h

ended : (k form : ℕ) (v : View) → (form ≡ 0x16 → ⊥) → form_within k form v ≡ Ok (form, v)
unfolding form_within
ended zero form v ne = let t : (form == 0x16) ≡ false = ne_eqb form 0x16 ne in rw t refl
ended (suc k) form v ne = let t : (form == 0x16) ≡ false = ne_eqb form 0x16 ne in rw t refl

pub chain_end : (total : Reads ℕ) (g : ℕ) (v : View) → (g ≡ 0x16 → ⊥) → EndsAs total g v
    → Ok (g, v) ≡ total
chain_end total g v ne s = sym (s.same ∙ ended s.fuel g v ne)

pub chain_begin : (f : ℕ) (v : View) → EndsAs (form_at f v) f v
unfolding form_at
chain_begin f v = record { fuel = length v.bytes; enough = omega arith; same = refl }

-- the number of a declaration stands, since an indirect one has none
pub number_stands : (form : ℕ) (c : Option ℤ) → is_some c ≡ (form == 0x21)
    → declared_number form c ≡ c
number_stands form None h = if_none (form == 0x16)
  where
    if_none : (t : Bool) → ◌≡◌ {A = Option ℤ} (if t then None else None) None
    if_none true = refl
    if_none false = refl
number_stands form (Some n) h =
    let is : form ≡ 0x21 = eqb-true form 0x21 (sym h) in
    rw is refl

-- a form that is not indirect is the one that is read
pub direct_value : (limit : ℕ) (e : Encoding) (name : ℕ) (c : Option ℤ) (form : ℕ) (v : View)
    → (form ≡ 0x16 → ⊥) → is_some c ≡ (form == 0x21)
    → direct_at limit e name c form v ≡ value_at limit e name c form v
unfolding value_at form_at
direct_value limit e name c form v ne h =
    rw (ended (length v.bytes) form v ne, number_stands form c h) refl
