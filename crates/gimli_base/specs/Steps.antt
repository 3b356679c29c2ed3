-- Steps: the attributes of a declaration as runs whose sizes are known before a byte is read, with
-- one attribute, read by itself, between two runs; any attribute may stand there.
use Rattle.std.specs.Prelude.{◌≡◌, ℕ, ◌+◌, ◌*◌, ◌==◌, ◌||◌, Bool, false, if◌then◌else◌, List, []}
use Rattle.std.specs.Prelude.{◌∷◌, length, take, drop, Some}
use Rattle.std.specs.List.{All}
use Rattle.gimli_base.specs.declared.common.Encoding.{Encoding}
use Rattle.gimli_base.specs.declared.step.Step.{Step}
use Rattle.gimli_base.specs.Abbreviations.{Specification, IsWellFormed}
use Rattle.gimli_base.specs.Reading.{word_size_of}
use Rattle.gimli_base.specs.Width.{attributes_size, form_size, known_sum}

-- how many bytes the values of a step have together; ref_addr (DWARF 5, 7.5.6) has the size of an
-- address in version 2, and else that of an offset
abbrev pub step_size : Encoding → Step → ℕ
step_size e s =
    s.bytes
    + s.addresses * e.address_size
    + s.offsets * word_size_of e.format
    + s.ref_addrs * (if e.version == 2 then e.address_size else word_size_of e.format)

-- its name is DW_AT_sibling
abbrev pub is_sibling : Specification → Bool
is_sibling s = s.name.0 == 0x01

-- its form is ref8 or ref_sup8: an offset of 8 bytes whatever the format
abbrev pub is_ref8 : Specification → Bool
is_ref8 s = s.form.0 == 0x14 || s.form.0 == 0x24

-- the step s stands for the attributes ss: their number, their size under each encoding, and
-- whether one may be a reference of 8 bytes
pub record IsRun (s : Step) (ss : List Specification) : Type 0 where
  pub counted : s.values ≡ length ss
  pub well_formed : All IsWellFormed ss
  pub size : (e : Encoding) → attributes_size e ss ≡ Some (step_size e s)
  pub no_ref8 : s.has_ref8 ≡ 0 → All (λ x. is_ref8 x ≡ false) ss

-- where no DW_AT_sibling was seen before, none of these is one
abbrev pub NoSibling : Bool → List Specification → Type 0
NoSibling seen ss = seen ≡ false → All (λ x. is_sibling x ≡ false) ss

-- after a step the attributes end, and so do the steps, or one attribute stands alone, and the rest
-- goes on
abbrev pub AfterStep : (Specification → List Specification → Type 0) → List Step
    → List Specification → Type 0
AfterStep Rest steps [] = steps ≡ []
AfterStep Rest steps (x ∷ rest) = Rest x rest

-- these steps cover these attributes: a run, one attribute alone, a run, .., a run; `seen` tells
-- whether a DW_AT_sibling came before
abbrev pub AreSteps : Bool → List Step → List Specification → Type 0
AreSteps seen [] ss = ⊥
AreSteps seen (s ∷ steps) ss = IsRun s (take s.values ss) × NoSibling seen (take s.values ss)
    × AfterStep (λ x rest. AreSteps (seen || is_sibling x) steps rest) steps (drop s.values ss)

-- While steps are made: no values,
abbrev pub empty_step : Step
empty_step = record {
  values = 0;
  bytes = 0;
  addresses = 0;
  offsets = 0;
  ref_addrs = 0;
  has_ref8 = 0;
}

-- and the step t is s with one more value, that of x
pub record AddsValue (x : Specification) (s t : Step) : Type 0 where
  pub counted : t.values ≡ s.values + 1
  pub well_formed : IsWellFormed x
  pub size : (e : Encoding)
      → Some (step_size e t) ≡ known_sum (Some (step_size e s)) (form_size e x.form.0)
  pub no_ref8 : t.has_ref8 ≡ 0 → (s.has_ref8 ≡ 0) × (is_ref8 x ≡ false)

-- and t is s, the value of x, and u together
pub record Joins (s : Step) (x : Specification) (u t : Step) : Type 0 where
  pub counted : t.values ≡ s.values + 1 + u.values
  pub well_formed : IsWellFormed x
  pub size : (e : Encoding)
      → Some (step_size e t)
      ≡ known_sum (known_sum (Some (step_size e s)) (form_size e x.form.0)) (Some (step_size e u))
  pub no_ref8 : t.has_ref8 ≡ 0
      → (s.has_ref8 ≡ 0) × (is_ref8 x ≡ false) × (u.has_ref8 ≡ 0)
