-- What a walk minds of an entry: whether it is a null, whether children follow, and where its
-- sibling reference leads (DWARF 5, 2.3).
use Rattle.std.specs.Prelude.{ℕ, if◌then◌else◌, List, Option, Some, None}
use Rattle.gimli_units.specs.declared.value.AttributeValue.TheVariants.{UnitRef}
use Rattle.gimli_units.specs.Value.{Value}
use Rattle.gimli_units.specs.Entry.{Attr, Entry, is_null, first_of}

pub data Kind : Type 0 where
  null : Kind
  leaf : Kind
  parent : Option ℕ → Kind  -- with where the first DW_AT_sibling leads, if that is a UnitRef

abbrev pub unit_reference : Value → Option ℕ
unit_reference (UnitRef o) = Some o.0
unit_reference x = None

-- where the first DW_AT_sibling leads, if that is a UnitRef
abbrev pub sibling_of : List Attr → Option ℕ
sibling_of attributes =
    elim (first_of 0x01 attributes) [ Some a ↦ unit_reference a.value | None ↦ None ]

abbrev pub kind_of : Entry → Kind
kind_of e = if is_null e then null else if e.has_children then parent (sibling_of e.attributes)
    else leaf
