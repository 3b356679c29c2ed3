-- Where the table of offsets begins that lists of a split file have by default (DWARF 5, 7.28 and
-- 7.29).
use Rattle.std.specs.Prelude.{ℕ, ◌+◌, nat_le, if◌then◌else◌}
use Rattle.gimli_base.specs.declared.common.Encoding.{Encoding}
use Rattle.gimli_base.specs.declared.common.Format.{Format}
use Rattle.gimli_base.specs.declared.common.DwarfFileType.{DwarfFileType}
use Rattle.gimli_base.specs.declared.common.DwarfFileType.TheVariants.{Main, Dwo}
use Rattle.gimli_base.specs.Reading.{initial_length_size_of}

-- the number of bytes of the header of a section of lists: the length field, the version, the sizes
-- of an address and of a segment selector, and how many offsets follow
abbrev pub lists_header_size : Format → ℕ
lists_header_size format = initial_length_size_of format + 2 + 1 + 1 + 4

-- in a split file of version 5 or later the table is the first of its section, after the header;
-- else the base is 0
abbrev pub default_base : Encoding → DwarfFileType → ℕ
default_base encoding Main = 0
default_base encoding Dwo =
    if nat_le 5 encoding.version then lists_header_size encoding.format else 0
