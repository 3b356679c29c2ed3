-- Attributes of known sizes are passed together, where all their bytes are there.
use Rattle.std.specs.Prelude.{◌≡◌, ℕ, ◌+◌, ◌-◌, ◌<◌, ◌≤◌, length, List, [], ◌∷◌, All}
use Rattle.std.specs.Prelude.{Option, Some, None, Result, Ok, Err}
use Rattle.std.specs.List.{AllByRecursion}
use Rattle.std.proofs.Common.{refl, sym, ap, ◌∙◌, arith, length-drop}
use Rattle.std.proofs.lemmas.List.Elements.{All-drop, recursion_from_All}
use Rattle.gimli_base.specs.declared.common.Encoding.{Encoding}
use Rattle.gimli_base.specs.View.{View, cut}
use Rattle.gimli_base.specs.declared.error.Error.{Error}
use Rattle.gimli_base.specs.Reading.{◌>>=◌, read_of, skip_at}
use Rattle.gimli_base.specs.Width.{form_size, known_sum, attributes_size}
use Rattle.gimli_base.specs.Abbreviations.{Specification, IsWellFormed}
use Rattle.gimli_base.proofs.Later.{cut-cut}
use Rattle.gimli_base.proofs.Passed.{skip_at-none}
use Rattle.gimli_units.specs.Entry.{attribute_at, attributes_at}
use Rattle.gimli_base.specs.Steps.{is_ref8}
use Rattle.gimli_units.specs.Sized.{AreBytes, left_by}
use Rattle.gimli_units.proofs.SkipTurns.{skip_ok}
use Rattle.gimli_units.proofs.SizedReads.{Passed, Readable, attribute_any}
use Rattle.gimli_units.proofs.ReadTurns.{left_by_all}

-- a value of a bytes, and then others of b
module _ (limit : ℕ) (e : Encoding) where
  abbrev Ready : Specification → Type 0
  Ready s = Readable limit e (is_ref8 s)

  abbrev Together : List Specification → Type 0
  Together ss = (n : ℕ) (v : View) → Some n ≡ attributes_size e ss → n ≤ length v.bytes
      → AreBytes v
      → left_by (attributes_at limit e ss v) ≡ Ok (tt, cut n v)

  both : (s : Specification) (ss : List Specification) → Ready s → IsWellFormed s → Together ss
      → (a b : ℕ) (v : View) → Some a ≡ form_size e s.form.0 → Some b ≡ attributes_size e ss
      → a + b ≤ length v.bytes → AreBytes v
      → left_by (attributes_at limit e (s ∷ ss) v) ≡ Ok (tt, cut (a + b) v)
  both s ss ready well others a b v first second le bytes =
      let here : a ≤ length v.bytes = omega (arith, le) in
      let left : length (cut a v).bytes ≡ length v.bytes - a = length-drop a v.bytes in
      let after : b ≤ length (cut a v).bytes = omega (arith, le, left) in
      let one : left_by (attribute_at limit e s v) ≡ Ok (tt, cut a v)
      = attribute_any limit e a (is_ref8 s) ready v bytes s refl well first ∙ skip_ok a v here in
      left_by_all limit e s ss v
      ∙ ap (λ (r : Passed). r >>= λ p. left_by (attributes_at limit e ss p.1)) one
      ∙ others b (cut a v) second after (All-drop (λ x. x < 256) a v.bytes bytes)
      ∙ ap (λ (u : View). Ok (tt, u)) (cut-cut a b v)

  together : (ss : List Specification) → AllByRecursion Ready ss → AllByRecursion IsWellFormed ss
      → Together ss
  unfolding attributes_at
  together [] ready well n v h le bytes =
      let none : n ≡ 0 = cc in
      sym (skip_at-none v) ∙ ap (λ m. skip_at m v) (sym none) ∙ skip_ok n v le
  together (s ∷ ss) ready well n v h le bytes =
      cases (form_size e s.form.0) (attributes_size e ss) refl refl h
      (together ss ready.1 well.1)
    where
      cases : (o p : Option ℕ) → form_size e s.form.0 ≡ o → attributes_size e ss ≡ p
          → Some n ≡ known_sum o p → Together ss
          → left_by (attributes_at limit e (s ∷ ss) v) ≡ Ok (tt, cut n v)
      cases (Some a) (Some b) i j k others =
          let sum : a + b ≡ n = cc in
          both s ss ready.0 well.0 others a b v (sym i) (sym j) (omega (arith, sum, le)) bytes
          ∙ ap (λ m. Ok (tt, cut m v)) sum
      cases (Some a) None i j k others = absurd (cc)
      cases None p i j k others = absurd (cc)

  -- all of them, where the sum of their sizes is known
  pub attributes_together : (ss : List Specification) → AllByRecursion Ready ss
      → All IsWellFormed ss → (n : ℕ) (v : View) → Some n ≡ attributes_size e ss → n ≤ length v.bytes → AreBytes v
      → left_by (attributes_at limit e ss v) ≡ Ok (tt, cut n v)
  attributes_together ss ready well = together ss ready
      (recursion_from_All IsWellFormed ss well)

-- bytes that are there are passed
pub skipped_there : (r : Result (Unit {0}) Error) (w v : View) (n : ℕ) → read_of r w ≡ skip_at n v
    → n ≤ length v.bytes → w ≡ cut n v
skipped_there (Ok u) w v n is le =
    let both : ◌≡◌ {A = Passed} (Ok (u, w)) (Ok (tt, cut n v)) = is ∙ skip_ok n v le in
    let pair : ◌≡◌ {A = Unit {0} × View} (u, w) (tt, cut n v) = cc in
    ap (λ (p : Unit {0} × View). p.1) pair
skipped_there (Err e) w v n is le =
    let x : ◌≡◌ {A = Passed} (Err e) (Ok (tt, cut n v)) = is ∙ skip_ok n v le in
    absurd (cc)
