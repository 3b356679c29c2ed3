-- The widths that declarations keep are those of the layouts of forms (DWARF 5, 7.5.6, table 7.6).
use Rattle.std.specs.Prelude.{◌≡◌, ℕ, ◌==◌, Bool, true, false, if◌then◌else◌, List, [], ◌∷◌, map}
use Rattle.std.specs.Prelude.{Option, Some, None}
use Rattle.std.proofs.Common.{refl, ap, ◌∙◌}
use Rattle.gimli_base.specs.declared.common.Encoding.{Encoding}
use Rattle.gimli_base.specs.declared.width.Width.{Width}
use Rattle.gimli_base.specs.declared.width.Width.TheVariants.{Fixed, Address, Word, Reference}
use Rattle.gimli_base.specs.declared.width.Width.TheVariants.{Unknown}
use Rattle.gimli_base.specs.Reading.{word_size_of}
use Rattle.gimli_base.specs.Width.{widths, width_in, width_of, size_in, form_size}
use Rattle.gimli_units.specs.Layout.{Layout, byte, number, section_or, address, uleb, sleb, offset}
use Rattle.gimli_units.specs.Layout.{word_offset, reference, offset_leb, offset_leb_and, block}
use Rattle.gimli_units.specs.Layout.{block_leb, text, nothing, constant, forms, layout_in}
use Rattle.gimli_units.specs.Layout.{layout_of}

-- the number of bytes of a layout, where it does not depend on the bytes
abbrev pub size_of : Encoding → Layout → Option ℕ
size_of e (byte f) = Some 1
size_of e (number n f) = Some n
size_of e (section_or n f) = Some n
size_of e (address f) = Some e.address_size
size_of e (offset n f) = Some n
size_of e (word_offset f) = Some (word_size_of e.format)
size_of e (reference f) = Some (if e.version == 2 then e.address_size else word_size_of e.format)
size_of e (nothing x) = Some 0
size_of e (constant f) = Some 0
size_of e (uleb f) = None
size_of e (sleb f) = None
size_of e (offset_leb f) = None
size_of e (offset_leb_and n f) = None
size_of e (block n f) = None
size_of e (block_leb f) = None
size_of e (text f) = None

-- the number of bytes of a form, where it does not depend on the bytes
unfoldable pub known_size : Encoding → ℕ → Option ℕ
unfolding layout_of
known_size e form = elim (layout_of form) [ Some l ↦ size_of e l | None ↦ None ]

-- the width of a layout
abbrev width_as : Layout → Width
width_as (byte f) = Fixed 1
width_as (number n f) = Fixed n
width_as (section_or n f) = Fixed n
width_as (address f) = Address
width_as (offset n f) = Fixed n
width_as (word_offset f) = Word
width_as (reference f) = Reference
width_as (nothing x) = Fixed 0
width_as (constant f) = Fixed 0
width_as (uleb f) = Unknown
width_as (sleb f) = Unknown
width_as (offset_leb f) = Unknown
width_as (offset_leb_and n f) = Unknown
width_as (block n f) = Unknown
width_as (block_leb f) = Unknown
width_as (text f) = Unknown

-- the table of widths is that of the layouts
widths_as : widths ≡ map (λ r. (r.0, width_as r.1)) forms
unfolding widths forms
widths_as = refl

size_as : (e : Encoding) (l : Layout) → size_in e (width_as l) ≡ size_of e l
size_as e (byte f) = refl
size_as e (number n f) = refl
size_as e (section_or n f) = refl
size_as e (address f) = refl
size_as e (offset n f) = refl
size_as e (word_offset f) = refl
size_as e (reference f) = refl
size_as e (nothing x) = refl
size_as e (constant f) = refl
size_as e (uleb f) = refl
size_as e (sleb f) = refl
size_as e (offset_leb f) = refl
size_as e (offset_leb_and n f) = refl
size_as e (block n f) = refl
size_as e (block_leb f) = refl
size_as e (text f) = refl

found_as : (form : ℕ) (rs : List (ℕ × Layout))
    → width_in form (map (λ r. (r.0, width_as r.1)) rs)
    ≡ elim (layout_in form rs) [ Some l ↦ width_as l | None ↦ Unknown ]
found_as form [] = refl
found_as form (r ∷ rs) = cases (form == r.0) (found_as form rs)
  where
    cases : (t : Bool) → width_in form (map (λ r. (r.0, width_as r.1)) rs)
        ≡ elim (layout_in form rs) [ Some l ↦ width_as l | None ↦ Unknown ]
        → (if t then width_as r.1 else width_in form (map (λ r. (r.0, width_as r.1)) rs))
        ≡ elim (if t then Some r.1 else layout_in form rs) [ Some l ↦ width_as l | None ↦ Unknown ]
    cases true others = refl
    cases false others = others

-- the size that a declaration keeps is that of the form's layout
pub form_size-known : (e : Encoding) (form : ℕ) → form_size e form ≡ known_size e form
unfolding width_of known_size layout_of
form_size-known e form =
    ap (λ ws. size_in e (width_in form ws)) widths_as ∙ ap (λ w. size_in e w) (found_as form forms)
    ∙ cases (layout_in form forms)
  where
    cases : (o : Option Layout)
        → size_in e (elim o [ Some l ↦ width_as l | None ↦ Unknown ])
        ≡ elim o [ Some l ↦ size_of e l | None ↦ None ]
    cases (Some l) = size_as e l
    cases None = refl
