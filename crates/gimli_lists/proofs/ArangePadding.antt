-- The padding of a set of ranges of addresses is the least that puts its first tuple at a multiple
-- of the size of a tuple (DWARF 5, 6.1.2).
use Rattle.std.specs.Prelude.{◌≡◌, ℕ, ◌+◌, ◌*◌, ◌%◌, ◌<◌, true, false}
use Rattle.std.proofs.Common.{refl, arith, inl, inr}
use Rattle.std.proofs.lemmas.Bool.Decides.{eqb_tells}
use Rattle.gimli_base.specs.declared.common.Format.{Format}
use Rattle.gimli_base.specs.declared.common.Format.TheVariants.{Dwarf32, Dwarf64}
use Rattle.gimli_base.specs.Reading.{is_size}
use Rattle.gimli_lists.specs.ArangeSets.{fields_size, padding_size}

-- what is said of the padding
abbrev Pads : Format → ℕ → Type 0
Pads format size = ((fields_size format + padding_size format size) % (2 * size) ≡ 0)
    × (padding_size format size < 2 * size)

pads : (format : Format) (size : ℕ) → is_size size ≡ true → Pads format size
pads format size h = elim (eqb_tells size 1) [
  | inl one ↦ rw one.1 (by_format-1 format)
  | inr not_one ↦ elim (eqb_tells size 2) [
    | inl two ↦ rw two.1 (by_format-2 format)
    | inr not_two ↦ elim (eqb_tells size 4) [
      | inl four ↦ rw four.1 (by_format-4 format)
      | inr not_four ↦ elim (eqb_tells size 8) [
        | inl eight ↦ rw eight.1 (by_format-8 format)
        | inr not_eight ↦ absurd
            (let none : false ≡ true = rw (not_one.0, not_two.0, not_four.0, not_eight.0) at h in
            cc)
      ]
    ]
  ]
]
  where
    by_format-1 : (format : Format) → Pads format 1
    by_format-1 Dwarf32 = (refl, omega arith)
    by_format-1 Dwarf64 = (refl, omega arith)

    by_format-2 : (format : Format) → Pads format 2
    by_format-2 Dwarf32 = (refl, omega arith)
    by_format-2 Dwarf64 = (refl, omega arith)

    by_format-4 : (format : Format) → Pads format 4
    by_format-4 Dwarf32 = (refl, omega arith)
    by_format-4 Dwarf64 = (refl, omega arith)

    by_format-8 : (format : Format) → Pads format 8
    by_format-8 Dwarf32 = (refl, omega arith)
    by_format-8 Dwarf64 = (refl, omega arith)

-- with the padding, the fields take a multiple of the size of a tuple
pub padding-aligns : (format : Format) (size : ℕ) → is_size size ≡ true
    → (fields_size format + padding_size format size) % (2 * size) ≡ 0
padding-aligns format size h = (pads format size h).0

-- and no less would do: it is less than a tuple
pub padding-least : (format : Format) (size : ℕ) → is_size size ≡ true
    → padding_size format size < 2 * size
padding-least format size h = (pads format size h).1
