-- Sections of texts, and the offset of a text at an index (DWARF 5, 7.26).
use Rattle.std.specs.Prelude.{ℕ, ◌+◌, ◌*◌, Result, Ok}
use Rattle.gimli_base.specs.declared.common.Format.{Format}
use Rattle.gimli_base.specs.declared.error.Error.{Error}
use Rattle.gimli_base.specs.Address.{without_rest}
use Rattle.gimli_base.specs.View.{View}
use Rattle.gimli_base.specs.Reading.{◌>>=◌, as_offset, offset_at, skip_at, word_size_of}
use Rattle.gimli_dwarf.specs.declared.strings.DebugLineStr.{DebugLineStr}
use Rattle.gimli_dwarf.specs.declared.strings.DebugStrOffsets.{DebugStrOffsets}

-- what `.debug_line_str` holds
abbrev pub line_str_content : {R : Type 0} → (R → View) → DebugLineStr R → View
line_str_content view s = view s.section

-- what `.debug_str_offsets` holds
abbrev pub str_offsets_content : {R : Type 0} → (R → View) → DebugStrOffsets R → View
str_offsets_content view s = view s.section

-- The offset of a text at an index of the table that begins at `base`. The number of bytes before
-- it in the table has to be an offset of the reader.
unfoldable pub text_offset : ℕ → Format → ℕ → ℕ → View → Result ℕ Error
text_offset limit format base index v =
    without_rest
    (skip_at base v >>= λ table.
    as_offset limit (Ok (index * word_size_of format, table.1)) >>= λ before.
    skip_at before.0 before.1 >>= λ entry. offset_at limit format entry.1)
