-- The unit at an offset, by the next unit of what is left there.
use Rattle.std.proofs.Common.{◌≡◌, inl, inr, ℕ, ◌+◌, length}
use Rattle.std.proofs.Common.{Option, Some, None, Result, Ok, Err, refl, sym, ap, ◌∙◌}
use Rattle.std.proofs.lemmas.Bool.Decides.{eqb_tells}
use Rattle.gimli_base.specs.declared.common.Format.{Format}
use Rattle.gimli_base.specs.declared.common.SectionId.{SectionId}
use Rattle.gimli_base.specs.declared.error.Error.{Error}
use Rattle.gimli_base.specs.Offset.{answer_of}
use Rattle.gimli_base.specs.Reading.{Reads, eof, ◌>>=◌, initial_length_at, split_at, skip_at}
use Rattle.gimli_base.specs.Reading.{uint_at, bytes_at}
use Rattle.gimli_base.specs.View.{View, end_of_view}
use Rattle.gimli_units.specs.declared.unit_type.UnitType.{UnitType}
use Rattle.gimli_units.specs.Unit.{UnitView, whole_length}
use Rattle.gimli_headers.specs.Header.{Common, fields_at, unit_at, unit_in}
use Rattle.gimli_base.specs.Address.{without_rest}
use Rattle.gimli_headers.specs.Units.{UnitsPlace, next_unit, header_at}
use Rattle.gimli_c.specs.Units.{at_offset}

-- the unit of an answer, at an offset; where there is none, the input ends
abbrev pub found_unit : ℕ → View → Result (Option UnitView) Error → Result UnitView Error
found_unit n v (Ok (Some u)) = Ok (at_offset n u)
found_unit n v (Ok None) = Err (eof v)
found_unit n v (Err e) = Err e

module _ (limit : ℕ) (section : SectionId) (n : ℕ) where
  in_at : (m : ℕ) (field : ℕ × Format) (r : Reads (Common × UnitType ℕ)) (rest : View)
      → without_rest (unit_in section n field r rest)
      ≡ answer_of (at_offset n) (without_rest (unit_in section m field r rest))
  in_at m field (Ok p) rest = refl
  in_at m field (Err e) rest = refl

  -- a unit that is read with another offset differs in that offset alone
  pub placed : (m : ℕ) (v : View)
      → without_rest (unit_at limit section n v)
      ≡ answer_of (at_offset n) (without_rest (unit_at limit section m v))
  unfolding unit_at
  placed m v = first (initial_length_at limit v)
    where
      second : (field : (ℕ × Format) × View) (s : Reads View)
          → without_rest (s >>= λ own. unit_in section n field.0 (fields_at limit section field.0.1
          own.0) own.1)
          ≡ answer_of (at_offset n)
          (without_rest (s >>= λ own. unit_in section m field.0 (fields_at limit section field.0.1
          own.0) own.1))
      second field (Ok own) = in_at m field.0 (fields_at limit section field.0.1 own.0) own.1
      second field (Err e) = refl

      first : (r : Reads (ℕ × Format))
          → without_rest (r >>= λ field. split_at field.0.0 field.1 >>= λ own.
          unit_in section n field.0 (fields_at limit section field.0.1 own.0) own.1)
          ≡ answer_of (at_offset n)
          (without_rest (r >>= λ field. split_at field.0.0 field.1 >>= λ own.
          unit_in section m field.0 (fields_at limit section field.0.1 own.0) own.1))
      first (Ok field) = second field (split_at field.0.0 field.1)
      first (Err e) = refl

  -- where no byte is left
  pub no_unit : (v : View) → length v.bytes ≡ 0 → without_rest (unit_at limit section n v)
      ≡ Err (eof v)
  unfolding unit_at initial_length_at uint_at bytes_at
  no_unit v none = rw none refl

  -- the next unit of what is left is the one there, at another offset
  next_outcome : (v : View)
      → found_unit n v (next_unit limit section (record { rest = v; offset = 0 })).0
      ≡ without_rest (unit_at limit section n v)
  unfolding next_unit
  next_outcome v = elim (eqb_tells (length v.bytes) 0) [
    | inl none ↦ rw none.0 (sym (no_unit v none.1))
    | inr some ↦ rw some.0 (read (unit_at limit section 0 v) (placed 0 v))
  ]
    where
      read : (r : Reads UnitView)
          → without_rest (unit_at limit section n v) ≡ answer_of (at_offset n) (without_rest r)
          → found_unit n v (elim r as (λ x. Result (Option UnitView) Error × UnitsPlace) [
            | Ok p ↦ (Ok (Some p.0), record { rest = p.1; offset = 0 + whole_length p.0 })
            | Err e ↦ (Err e, record { rest = end_of_view v; offset = 0 })
          ]).0 ≡ without_rest (unit_at limit section n v)
      read (Ok p) e = sym e
      read (Err x) e = sym e

  -- the unit at an offset, by the next unit of what is left there
  pub next_is : (v w : View) (a : Result (Option UnitView) Error) (q : UnitsPlace)
      → Ok (tt, w) ≡ skip_at n v
      → (a, q) ≡ next_unit limit section (record { rest = w; offset = 0 })
      → found_unit n w a ≡ header_at limit section n v
  unfolding header_at
  next_is v w a q there is =
      ap (found_unit n w) (ap (λ (p : Result (Option UnitView) Error × UnitsPlace). p.0) is)
      ∙ next_outcome w ∙ rw (← there) refl

  -- where the offset lies after the end
  pub not_there : (v : View) (e : Error) → Err e ≡ skip_at n v → Err e ≡ header_at limit section n v
  unfolding header_at
  not_there v e is = rw (← is) refl

  -- the unit at an offset has that offset
  pub header_placed : (v : View)
      → header_at limit section n v ≡ answer_of (at_offset n) (header_at limit section n v)
  unfolding header_at
  header_placed v = skipped (skip_at n v)
    where
      skipped : (r : Reads (Unit {0}))
          → without_rest (r >>= λ p. unit_at limit section n p.1)
          ≡ answer_of (at_offset n) (without_rest (r >>= λ p. unit_at limit section n p.1))
      skipped (Ok p) = placed n p.1
      skipped (Err e) = refl

-- an answer that is made twice
pub made_twice : {A B C : Type 0} → (f : A → B) (g : B → C) (r : Result A Error)
    → answer_of (λ x. g (f x)) r ≡ answer_of g (answer_of f r)
made_twice f g (Ok a) = refl
made_twice f g (Err e) = refl
