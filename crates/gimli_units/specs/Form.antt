-- The value of a form at a view, and the view after it (DWARF 5, 7.5.5 and 7.5.6).
use Rattle.std.specs.Prelude.{ℕ, ℤ, zero, suc, ◌==◌, ◌&&◌, ◌||◌, Bool, true, false, if◌then◌else◌}
use Rattle.std.specs.Prelude.{List, [], ◌∷◌, length, Option, Some, None, Ok, Err}
use Rattle.gimli_base.specs.declared.common.Encoding.{Encoding}
use Rattle.gimli_base.specs.declared.error.Error.TheVariants.{UnknownForm, InvalidImplicitConst}
use Rattle.gimli_base.specs.View.{View}
use Rattle.gimli_base.specs.Reading.{Reads, ◌>>=◌, map_read, eof, byte_at, uint_at, split_at}
use Rattle.gimli_base.specs.Reading.{uleb_at}
use Rattle.gimli_base.specs.Reading.{uleb16_at, sleb_at, as_offset, uint_offset_at, offset_at}
use Rattle.gimli_base.specs.Reading.{sized_offset_at, address_at, text_at, word_size_of}
use Rattle.gimli_units.specs.Value.{Value}
use Rattle.gimli_units.specs.declared.value.AttributeValue.TheVariants.{SecOffset}
use Rattle.gimli_units.specs.Layout.{Layout, byte, number, section_or, address, uleb, sleb, offset}
use Rattle.gimli_units.specs.Layout.{word_offset, reference, offset_leb, offset_leb_and, block}
use Rattle.gimli_units.specs.Layout.{block_leb, text, nothing, constant, layout_of}

-- the names whose data4 or data8, where it has the format's width, is an offset into a section
unfoldable pub section_names : List ℕ
section_names =
    0x02 ∷  -- location
    0x10 ∷  -- stmt_list
    0x19 ∷  -- string_length
    0x2a ∷  -- return_addr
    0x2c ∷  -- start_scope
    0x40 ∷  -- frame_base
    0x43 ∷  -- macro_info
    0x46 ∷  -- segment
    0x48 ∷  -- static_link
    0x4a ∷  -- use_location
    0x4d ∷  -- vtable_elem_location
    0x55 ∷  -- ranges
    0x79 ∷  -- macros
    []

abbrev pub is_in : ℕ → List ℕ → Bool
is_in n [] = false
is_in n (x ∷ xs) = if n == x then true else is_in n xs

-- in versions 2 and 3 that of data_member_location is one too
unfoldable pub is_section_name : ℕ → ℕ → Bool
unfolding section_names
is_section_name name version =
    if name == 0x38 then version == 2 || version == 3 else is_in name section_names

-- the next LEB128 number as an offset; offsets are below the limit
abbrev pub uleb_offset_at : ℕ → View → Reads ℕ
uleb_offset_at limit v = as_offset limit (uleb_at v)

-- the bytes after their number
abbrev pub block_after : Reads ℕ → Reads View
block_after count = count >>= λ p. split_at p.0 p.1

-- the value in a layout, under a name and with the number of its declaration
abbrev pub value_in : ℕ → Encoding → ℕ → Option ℤ → Layout → View → Reads Value
value_in limit e name c (byte f) v = map_read f (byte_at v)
value_in limit e name c (number n f) v = map_read f (uint_at n v)
value_in limit e name c (section_or n f) v =
    if word_size_of e.format == n
    && is_section_name name e.version then map_read SecOffset (uint_offset_at limit n v)
    else map_read f (uint_at n v)
value_in limit e name c (address f) v = map_read f (address_at e.address_size v)
value_in limit e name c (uleb f) v = map_read f (uleb_at v)
value_in limit e name c (sleb f) v = map_read f (sleb_at v)
value_in limit e name c (offset n f) v = map_read f (uint_offset_at limit n v)
value_in limit e name c (word_offset f) v = map_read f (offset_at limit e.format v)
value_in limit e name c (reference f) v =
    map_read f
    (if e.version == 2 then sized_offset_at limit e.address_size v else offset_at limit e.format v)
value_in limit e name c (offset_leb f) v = map_read f (uleb_offset_at limit v)
value_in limit e name c (offset_leb_and n f) v =
    uleb_offset_at limit v >>= λ p. map_read (f p.0) (uint_at n p.1)
value_in limit e name c (block n f) v = map_read f (block_after (uint_offset_at limit n v))
value_in limit e name c (block_leb f) v = map_read f (block_after (uleb_offset_at limit v))
value_in limit e name c (text f) v = map_read f (text_at v)
value_in limit e name c (nothing x) v = Ok (x, v)
value_in limit e name c (constant f) v =
    elim c [ Some n ↦ Ok (f n, v) | None ↦ Err InvalidImplicitConst ]

-- the value of a form that is not indirect; a form that is not in the table is refused
unfoldable pub direct_at : ℕ → Encoding → ℕ → Option ℤ → ℕ → View → Reads Value
unfolding layout_of
direct_at limit e name c form v = elim (layout_of form) [
  | Some l ↦ value_in limit e name c l v
  | None ↦ Err (UnknownForm (record { 0 = form }))
]

-- The form that a chain of indirect forms leads to. Each of them takes a byte at least, so that n,
-- the number of bytes, is enough.
unfoldable pub form_within : ℕ → ℕ → View → Reads ℕ
form_within zero form v = if form == 0x16 then Err (eof v) else Ok (form, v)
form_within (suc n) form v =
    if form == 0x16 then (uleb16_at v >>= λ p. form_within n p.0 p.1) else Ok (form, v)

unfoldable pub form_at : ℕ → View → Reads ℕ
form_at form v = form_within (length v.bytes) form v

-- the number that stands in a declaration, which an indirect one has none of
abbrev pub declared_number : ℕ → Option ℤ → Option ℤ
declared_number form c = if form == 0x16 then None else c

-- the value of a form; a chain that ends at implicit_const has no number
unfoldable pub value_at : ℕ → Encoding → ℕ → Option ℤ → ℕ → View → Reads Value
value_at limit e name c form v =
    form_at form v >>= λ p. direct_at limit e name (declared_number form c) p.0 p.1
