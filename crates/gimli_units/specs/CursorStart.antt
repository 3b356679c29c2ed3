-- Where a cursor stands before its first step (DWARF 5, 2.3).
use Rattle.std.specs.Prelude.{ℕ, pos, Bool, Option, Some, None, Result, Ok}
use Rattle.gimli_base.specs.declared.error.Error.{Error}
use Rattle.gimli_base.specs.Offset.{answer_of}
use Rattle.gimli_base.specs.Table.{Table}
use Rattle.gimli_units.specs.Entry.{null_entry}
use Rattle.gimli_units.specs.RawPlace.{RawPlace}
use Rattle.gimli_units.specs.Unit.{UnitView, entries_of, entries_from}
use Rattle.gimli_units.specs.CursorModel.{CursorView}

-- before the first step there is no current entry, the pair is (0, 0), and nothing was read
abbrev pub before_first : Bool → RawPlace → CursorView
before_first follows p =
    record { raw = p; entry = null_entry; offset = 0; depth = pos 0; follows = follows; reads = 0 }

-- a cursor over all the entries of a unit
abbrev pub cursor_of : UnitView → Table → Bool → CursorView
cursor_of u abbreviations follows = before_first follows (entries_of u abbreviations)

-- a cursor over the entries from an offset on
abbrev pub cursor_from : UnitView → Table → Bool → ℕ → Result CursorView Error
cursor_from u abbreviations follows offset =
    answer_of (before_first follows) (entries_from u abbreviations (Some offset))

-- a reader of the entries from an offset on, or of all
abbrev pub raw_start : UnitView → Table → Option ℕ → Result RawPlace Error
raw_start u abbreviations None = Ok (entries_of u abbreviations)
raw_start u abbreviations (Some offset) = entries_from u abbreviations (Some offset)

-- a cursor over the entries from an offset on, or over all
abbrev pub cursor_start : UnitView → Table → Bool → Option ℕ → Result CursorView Error
cursor_start u abbreviations follows start =
    answer_of (before_first follows) (raw_start u abbreviations start)
