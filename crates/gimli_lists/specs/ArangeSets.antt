-- The sets of ranges of addresses in a section, and the header of each (DWARF 5, 6.1.2 and 7.21).
use Rattle.std.specs.Prelude.{◌≡◌, ℕ, ◌+◌, ◌-◌, ◌*◌, ◌%◌, ◌==◌, ◌||◌, if◌then◌else◌}
use Rattle.std.specs.Prelude.{List, [], ◌∷◌, length, Option, Some, None, Result, Ok, Err}
use Rattle.std.specs.Prelude.{MatchOption, Bool}
use Rattle.std.specs.List.{list_any}
use Rattle.gimli_base.specs.declared.common.Encoding.{Encoding}
use Rattle.gimli_base.specs.declared.common.Format.{Format}
use Rattle.gimli_base.specs.declared.error.Error.{Error}
use Rattle.gimli_base.specs.declared.error.Error.TheVariants.{UnknownVersion}
use Rattle.gimli_base.specs.declared.error.Error.TheVariants.{UnsupportedSegmentSize}
use Rattle.gimli_base.specs.Address.{without_rest}
use Rattle.gimli_base.specs.Chain.{chain, each_answer}
use Rattle.gimli_base.specs.View.{View, cut, end_of_view}
use Rattle.gimli_base.specs.Reading.{Reads, ◌>>=◌, map_read, byte_at, uint_at, offset_at}
use Rattle.gimli_base.specs.Reading.{address_size_at, initial_length_at, initial_length_size_of}
use Rattle.gimli_base.specs.Reading.{word_size_of, skip_at, split_at}
use Rattle.gimli_lists.specs.Aranges.{range_holds, aranges_of}

-- a set: where it begins in its section, how its bytes are read, the number in its length field,
-- the offset of its unit in `.debug_info`, and the bytes of its tuples
pub record ArangeSet : Type 0 where
  pub offset : ℕ
  pub encoding : Encoding
  pub length_field : ℕ
  pub info_offset : ℕ
  pub tuples : View

-- whether a set has a range that holds an address
abbrev pub set_holds : ℕ → ArangeSet → Bool
set_holds address s =
    list_any (range_holds address) (aranges_of s.encoding.address_size s.tuples)

-- the number of bytes before the padding: the length field, the version, the offset of the unit,
-- and the sizes of an address and of a segment selector
abbrev pub fields_size : Format → ℕ
fields_size format = initial_length_size_of format + 2 + word_size_of format + 1 + 1

-- the number of bytes of the padding: the first tuple begins at a multiple of the size of a tuple,
-- which is two addresses
abbrev pub padding_size : Format → ℕ → ℕ
padding_size format size = (2 * size - fields_size format % (2 * size)) % (2 * size)

-- the fields after the length, with the padding: the encoding, and the offset of the unit
unfoldable pub set_fields_at : ℕ → Format → View → Reads (Encoding × ℕ)
set_fields_at limit format v = uint_at 2 v >>= λ version.
    if version.0 == 2 || version.0 == 3
    then
    (offset_at limit format version.1 >>= λ info. address_size_at info.1
    >>= λ size. byte_at size.1 >>= λ segment.
    if segment.0 == 0 then map_read
    (λ _. (record { format = format; version = version.0; address_size = size.0 }, info.0))
    (skip_at (padding_size format size.0) segment.1)
    else Err (UnsupportedSegmentSize segment.0))
    else Err (UnknownVersion version.0)

-- the set of the fields that were read from its own bytes; what is left begins after those
abbrev pub set_in : ℕ → ℕ → Reads (Encoding × ℕ) → View → Reads ArangeSet
set_in offset length_field (Ok fields) rest =
    Ok (
      record {
        offset = offset;
        encoding = fields.0.0;
        length_field = length_field;
        info_offset = fields.0.1;
        tuples = fields.1;
      },
      rest,
    )
set_in offset length_field (Err e) rest = Err e

-- The next set, which begins at an offset of its section: a length, and that many bytes, in which
-- the tuples follow the fields. What is left begins after the set's whole length.
unfoldable pub set_at : ℕ → ℕ → View → Reads ArangeSet
set_at limit offset v =
    initial_length_at limit v >>= λ field. split_at field.0.0 field.1
    >>= λ own. set_in offset field.0.0 (set_fields_at limit field.0.1 own.0) own.1

-- the set at an offset of a section
unfoldable pub set_from : ℕ → ℕ → View → Result ArangeSet Error
set_from limit offset v = without_rest (skip_at offset v >>= λ p. set_at limit offset p.1)

-- where the reading of sets stands: what is left of the section, and the offset at which it begins
pub record SetsPlace : Type 0 where
  pub rest : View
  pub offset : ℕ

-- the number of bytes of a set, with its length field
abbrev pub set_length : ArangeSet → ℕ
set_length s = initial_length_size_of s.encoding.format + s.length_field

-- the place after the whole length of a set
abbrev pub after_set : ArangeSet → SetsPlace → SetsPlace
after_set s p = record { rest = cut (set_length s) p.rest; offset = p.offset + set_length s }

-- what stands at a place: a set, and the place after its whole length, or the end: the refusal of
-- its header, or none where no byte is left
unfoldable pub set_or_end : ℕ → SetsPlace → Result (ArangeSet × SetsPlace) (Option Error)
set_or_end limit p =
    if length p.rest.bytes == 0 then Err None
    else elim (set_at limit p.offset p.rest) [
      | Ok q ↦ Ok (q.0, after_set q.0 p)
      | Err e ↦ Err (Some e)
    ]

-- the sets from a place on, each as an answer, up to the end of the bytes, or to the first header
-- that is refused, which is the last answer; each takes a byte at least, so that the end handed to
-- `chain` never shows
unfoldable pub sets_ahead : ℕ → SetsPlace → List (Result ArangeSet Error)
sets_ahead limit p =
    each_answer (chain (λ q. length q.rest.bytes) (set_or_end limit) None p)

-- the sets of a section, the first at 0
abbrev pub sets_of : ℕ → View → List (Result ArangeSet Error)
sets_of limit v = sets_ahead limit (record { rest = v; offset = 0 })

-- The next answer, and the place that its reading leaves: none where nothing is left, and after a
-- refusal nothing is left.
unfoldable pub next_set : ℕ → SetsPlace → Option (Result ArangeSet Error) × SetsPlace
next_set limit p =
    if length p.rest.bytes == 0 then (None, p)
    else elim (set_at limit p.offset p.rest) [
      | Ok q ↦ (Some (Ok q.0), record { rest = q.1; offset = p.offset + set_length q.0 })
      | Err e ↦ (Some (Err e), record { rest = end_of_view p.rest; offset = p.offset })
    ]

-- What an iterator answers at a place, and the place that it leaves: the next answer. The answers
-- ahead are that one, and then those ahead of the place that is left; where there is no next one,
-- none is ahead.
pub record IsNextSet (limit : ℕ) (p : SetsPlace) (a : Option (Result ArangeSet Error))
    (q : SetsPlace) : Type 0 where
  pub is : (a, q) ≡ next_set limit p
  pub ahead : MatchOption a (sets_ahead limit p ≡ [])
      (λ x. sets_ahead limit p ≡ x ∷ sets_ahead limit q)
