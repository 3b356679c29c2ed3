-- Where a reader of entries stands: what is left, how it is read, the offset of its end, and the
-- depth (DWARF 5, 7.5.2).
use Rattle.std.specs.Prelude.{◌≡◌, ℕ, ℤ, pos, ◌+ℤ◌, ◌-ℤ◌, Bool, Option, Some, None, if◌then◌else◌}
use Rattle.std.specs.Prelude.{Result, IfOk, OnErr}
use Rattle.gimli_base.specs.declared.common.Encoding.{Encoding}
use Rattle.gimli_base.specs.declared.error.Error.{Error}
use Rattle.gimli_base.specs.View.{View}
use Rattle.gimli_base.specs.Reading.{Reads}
use Rattle.gimli_base.specs.Abbreviations.{Declaration}
use Rattle.gimli_base.specs.Table.{Table, codes_of}
use Rattle.gimli_units.specs.Entry.{Entry, is_null, abbreviation_at, entry_at}
use Rattle.gimli_units.specs.Rows.{offset_of_view}

pub record RawPlace : Type 0 where
  pub rest : View
  pub encoding : Encoding
  pub abbreviations : Table
  pub end : ℕ
  pub depth : ℤ

-- the offset of what is read next
abbrev pub next_offset_of : RawPlace → ℕ
next_offset_of p = offset_of_view p.end p.rest

-- a flag adds one to a depth
abbrev pub below_flag : Bool → ℤ → ℤ
below_flag flag depth = if flag then depth +ℤ pos 1 else depth

-- the depth after the code of a declaration, or of a null
abbrev pub depth_read : Option Declaration → ℤ → ℤ
depth_read None depth = depth -ℤ pos 1
depth_read (Some d) depth = below_flag d.has_children depth

-- the depth after an entry: a flag adds one, and a null takes one
abbrev pub depth_after : Entry → ℤ → ℤ
depth_after e depth =
    if is_null e then below_flag e.has_children depth -ℤ pos 1 else below_flag e.has_children depth

-- the declaration of the entry that is next, and what is left after its code
abbrev pub abbreviation_ahead : RawPlace → Reads (Option Declaration)
abbreviation_ahead p = abbreviation_at (codes_of p.abbreviations) p.rest

-- the entry that is next, and what is left after it
abbrev pub entry_ahead : ℕ → RawPlace → Reads Entry
entry_ahead limit p = entry_at limit p.encoding (codes_of p.abbreviations) p.rest

-- A call that reads on: once it has answered, the reader stands at the depth that the answer gives,
-- and of the rest only the bytes that are left have changed; a refused one leaves it as it was.
pub record Advances {A : Type 0} (depth_of : A → ℤ) (old : RawPlace) (outcome : Result A Error)
    (new : RawPlace) : Type 0 where
  pub depth : IfOk outcome (λ a. new.depth ≡ depth_of a)
  pub same : new ≡ record old { rest = new.rest; depth = new.depth }
  pub kept : OnErr outcome (new ≡ old)
