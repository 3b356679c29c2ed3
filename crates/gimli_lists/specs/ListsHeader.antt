-- The header of a section of lists, `.debug_rnglists` or `.debug_loclists` (DWARF 5, 7.28 and
-- 7.29).
use Rattle.std.specs.Prelude.{ℕ, ◌==◌, if◌then◌else◌, Err}
use Rattle.gimli_base.specs.declared.common.Format.{Format}
use Rattle.gimli_base.specs.declared.error.Error.TheVariants.{UnknownVersion}
use Rattle.gimli_base.specs.declared.error.Error.TheVariants.{UnsupportedSegmentSize}
use Rattle.gimli_base.specs.View.{View}
use Rattle.gimli_base.specs.Reading.{Reads, ◌>>=◌, map_read, byte_at, uint_at, address_size_at}
use Rattle.gimli_base.specs.Reading.{initial_length_at, truncate_at}
use Rattle.gimli_lists.specs.declared.lists.ListsHeader.{ListsHeader}

-- the header of these fields
abbrev pub header_of : Format → ℕ → ℕ → ℕ → ListsHeader
header_of format version address_size count =
    record {
      encoding = record { format = format; version = version; address_size = address_size };
      offset_entry_count = count;
    }

-- the fields after the length: the version, the sizes of an address and of a segment selector, and
-- how many offsets follow
unfoldable pub lists_fields_at : Format → View → Reads ListsHeader
lists_fields_at format v = uint_at 2 v >>= λ version.
    if version.0 == 5 then (address_size_at version.1 >>= λ size. byte_at size.1 >>= λ selector.
    if selector.0 == 0 then map_read (λ count. header_of format version.0 size.0 count)
    (uint_at 4 selector.1) else Err (UnsupportedSegmentSize selector.0))
    else Err (UnknownVersion version.0)

-- The next header. The number in its length field is that of the bytes after the field, and only
-- those are left, without the other fields.
unfoldable pub lists_header_at : ℕ → View → Reads ListsHeader
lists_header_at limit v =
    initial_length_at limit v >>= λ field. truncate_at field.0.0 field.1
    >>= λ own. lists_fields_at field.0.1 own.1
