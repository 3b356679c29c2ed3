-- The statuses of calls: what each number says to a caller of C.
use Rattle.std.specs.Prelude.{◌≡◌, ℕ, ◌+◌}
use Rattle.gimli_base.specs.declared.error.Error.{Error}
use Rattle.gimli_base.specs.Refusal.{number_of}
use Rattle.gimli_dwarf.specs.declared.error.DwarfError.{DwarfError}
use Rattle.gimli_dwarf.specs.declared.error.DwarfError.TheVariants.{Read, MissingBase, InvalidBase}
use Rattle.gimli_dwarf.specs.declared.error.DwarfError.TheVariants.{ExpectedStringAttributeValue}

abbrev pub more : ℕ
more = 0

abbrev pub end : ℕ
end = 1

abbrev pub too_deep : ℕ
too_deep = 2

-- an attribute's value names no list
abbrev pub no_list : ℕ
no_list = 3

-- the codes of a table are not 1, 2, .. in this order
abbrev pub unordered : ℕ
unordered = 4

-- a value counts from a base that the unit does not have
abbrev pub no_base : ℕ
no_base = 5

-- the attribute of a base has a value that no base can have
abbrev pub bad_base : ℕ
bad_base = 6

-- an attribute's value is no text
abbrev pub no_string : ℕ
no_string = 7

-- an attribute's value is no address
abbrev pub no_address : ℕ
no_address = 8

abbrev pub refusal_status : Error → ℕ
refusal_status e = 256 + number_of e

-- a refusal of what is read after the rows
abbrev pub row_refused : Error → ℕ
row_refused e = 512 + number_of e

-- that memory was refused, for a table or for a row
abbrev pub memory_refused : ℕ
memory_refused = 280

abbrev pub row_memory_refused : ℕ
row_memory_refused = 536

-- what holds where memory was not refused
abbrev pub UnlessRefused : ℕ → Type 0 → Type 0
UnlessRefused status P = (status ≡ memory_refused → ⊥) → (status ≡ row_memory_refused → ⊥) → P

-- a value can't be resolved
abbrev pub unresolved : DwarfError → ℕ
unresolved (Read e) = refusal_status e
unresolved (MissingBase name) = no_base
unresolved (InvalidBase name) = bad_base
unresolved ExpectedStringAttributeValue = no_string
