-- Passing values, by their known size where reading refuses none whose bytes are there, and where
-- the first DW_AT_sibling among them leads.
use Rattle.std.specs.Prelude.{ℕ, ◌<◌, ◌==◌, ◌&&◌, ◌||◌, not, Bool, if◌then◌else◌}
use Rattle.std.specs.Prelude.{nat_lt, nat_le, All}
use Rattle.std.specs.Prelude.{List, Option, Some, None}
use Rattle.std.specs.Option.{option_map}
use Rattle.gimli_base.specs.declared.common.Encoding.{Encoding}
use Rattle.gimli_base.specs.View.{View}
use Rattle.gimli_base.specs.declared.step.Step.{Step}
use Rattle.gimli_base.specs.Reading.{Reads, is_size, map_read, word_size_of}
use Rattle.gimli_base.specs.Abbreviations.{Specification}
use Rattle.gimli_units.specs.declared.offset.UnitOffset.{UnitOffset}
use Rattle.gimli_units.specs.Entry.{Attr, attribute_at, attributes_at}
use Rattle.gimli_units.specs.Kind.{sibling_of, unit_reference}

-- each byte is below 256, as a reader's are
abbrev pub AreBytes : View → Type 0
AreBytes v = All (λ b. b < 256) v.bytes

-- what a read leaves, its value dropped
abbrev pub left_by : {A : Type 0} → Reads A → Reads (Unit {0})
left_by r = map_read (λ _. tt) r

-- where the first DW_AT_sibling leads, if it is a reference in the unit, of the attributes ss at v
abbrev pub sibling_at : ℕ → Encoding → List Specification → View → Reads (Option ℕ)
sibling_at limit e ss v = map_read sibling_of (attributes_at limit e ss v)

-- where it leads if none of those before them was one (None), and else what was found there: none
-- that is a reference in the unit (Some None), or where it leads
abbrev pub found_or : Option (Option ℕ) → List Attr → Option ℕ
found_or (Some o) xs = o
found_or None xs = sibling_of xs

abbrev pub sibling_after : ℕ → Encoding → List Specification → Option (Option ℕ) → View
    → Reads (Option ℕ)
sibling_after limit e ss found v = map_read (found_or found) (attributes_at limit e ss v)

-- what was found, by the numbers of offsets
abbrev pub found_numbers : {O : Type 0} → (O → ℕ) → Option (Option (UnitOffset O))
    → Option (Option ℕ)
found_numbers f found = option_map (option_map (λ o. f o.0)) found

-- what is found with one attribute more
abbrev pub find_in : Option (Option ℕ) → Attr → Option (Option ℕ)
find_in (Some o) a = Some o
find_in None a = if a.name.0 == 0x01 then Some (unit_reference a.value) else None

abbrev pub found_at : ℕ → Encoding → Specification → Option (Option ℕ) → View
    → Reads (Option (Option ℕ))
found_at limit e s found v = map_read (find_in found) (attribute_at limit e s v)

-- no offset in the values of a step has more than four bytes: it has no reference of 8 bytes, the
-- offsets of the format are short, and so is what has the size of an address in version 2
abbrev pub has_short_offsets : Encoding → Step → Bool
has_short_offsets e s = s.has_ref8 == 0
    && (nat_le (word_size_of e.format) 4 && (not (e.version == 2) || nat_le e.address_size 4))

-- reading refuses no value of a step whose bytes are there: the addresses have a size that can be
-- read, and each offset among the values is below the limit, as all of its bytes can be
abbrev pub reads_all : ℕ → Encoding → Step → Bool
reads_all limit e s = is_size e.address_size
    && (nat_lt 0xffff_ffff_ffff_ffff limit
    || (nat_lt 0xffff_ffff limit && has_short_offsets e s))
