-- How many bytes the value of a form takes, where that is known before it is read (DWARF 5, 7.5.6,
-- table 7.6).
use Rattle.std.specs.Prelude.{ℕ, ◌+◌, ◌==◌, if◌then◌else◌, List, [], ◌∷◌, Option, Some, None}
use Rattle.gimli_base.specs.declared.common.Encoding.{Encoding}
use Rattle.gimli_base.specs.declared.width.Width.{Width}
use Rattle.gimli_base.specs.declared.width.Width.TheVariants.{Fixed, Address, Word, Reference}
use Rattle.gimli_base.specs.declared.width.Width.TheVariants.{Unknown}
use Rattle.gimli_base.specs.Abbreviations.{Specification}
use Rattle.gimli_base.specs.Reading.{word_size_of}

-- every form but indirect, by its code
unfoldable pub widths : List (ℕ × Width)
widths =
    (0x01, Address) ∷  -- addr
    (0x03, Unknown) ∷  -- block2
    (0x04, Unknown) ∷  -- block4
    (0x05, Fixed 2) ∷  -- data2
    (0x06, Fixed 4) ∷  -- data4
    (0x07, Fixed 8) ∷  -- data8
    (0x08, Unknown) ∷  -- string
    (0x09, Unknown) ∷  -- block
    (0x0a, Unknown) ∷  -- block1
    (0x0b, Fixed 1) ∷  -- data1
    (0x0c, Fixed 1) ∷  -- flag
    (0x0d, Unknown) ∷  -- sdata
    (0x0e, Word) ∷  -- strp
    (0x0f, Unknown) ∷  -- udata
    (0x10, Reference) ∷  -- ref_addr
    (0x11, Fixed 1) ∷  -- ref1
    (0x12, Fixed 2) ∷  -- ref2
    (0x13, Fixed 4) ∷  -- ref4
    (0x14, Fixed 8) ∷  -- ref8
    (0x15, Unknown) ∷  -- ref_udata
    (0x17, Word) ∷  -- sec_offset
    (0x18, Unknown) ∷  -- exprloc
    (0x19, Fixed 0) ∷  -- flag_present
    (0x1a, Unknown) ∷  -- strx
    (0x1b, Unknown) ∷  -- addrx
    (0x1c, Fixed 4) ∷  -- ref_sup4
    (0x1d, Word) ∷  -- strp_sup
    (0x1e, Fixed 16) ∷  -- data16
    (0x1f, Word) ∷  -- line_strp
    (0x20, Fixed 8) ∷  -- ref_sig8
    (0x21, Fixed 0) ∷  -- implicit_const
    (0x22, Unknown) ∷  -- loclistx
    (0x23, Unknown) ∷  -- rnglistx
    (0x24, Fixed 8) ∷  -- ref_sup8
    (0x25, Fixed 1) ∷  -- strx1
    (0x26, Fixed 2) ∷  -- strx2
    (0x27, Fixed 3) ∷  -- strx3
    (0x28, Fixed 4) ∷  -- strx4
    (0x29, Fixed 1) ∷  -- addrx1
    (0x2a, Fixed 2) ∷  -- addrx2
    (0x2b, Fixed 3) ∷  -- addrx3
    (0x2c, Fixed 4) ∷  -- addrx4
    (0x1f01, Unknown) ∷  -- GNU_addr_index
    (0x1f02, Unknown) ∷  -- GNU_str_index
    (0x1f20, Word) ∷  -- GNU_ref_alt
    (0x1f21, Word) ∷  -- GNU_strp_alt
    (0x3f01, Unknown) ∷  -- own_addrx_offset
    []

abbrev pub width_in : ℕ → List (ℕ × Width) → Width
width_in form [] = Unknown
width_in form (r ∷ rs) = if form == r.0 then r.1 else width_in form rs

unfoldable pub width_of : ℕ → Width
unfolding widths
width_of form = width_in form widths

-- the number of bytes of a width
abbrev pub size_in : Encoding → Width → Option ℕ
size_in e (Fixed n) = Some n
size_in e Address = Some e.address_size
size_in e Word = Some (word_size_of e.format)
size_in e Reference = Some (if e.version == 2 then e.address_size else word_size_of e.format)
size_in e Unknown = None

-- the number of bytes of a form's value, where it does not depend on the bytes
abbrev pub form_size : Encoding → ℕ → Option ℕ
form_size e form = size_in e (width_of form)

-- the sum of two numbers, where both are known
abbrev pub known_sum : Option ℕ → Option ℕ → Option ℕ
known_sum (Some m) (Some n) = Some (m + n)
known_sum (Some m) None = None
known_sum None n = None

-- the number of bytes of the values of attributes together, where it does not depend on the bytes
abbrev pub attributes_size : Encoding → List Specification → Option ℕ
attributes_size e [] = Some 0
attributes_size e (s ∷ ss) = known_sum (form_size e s.form.0) (attributes_size e ss)
