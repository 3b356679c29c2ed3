-- Addresses of a size: which stand for none, by the habit of linkers, their sums, and the address
-- at an index of a table (DWARF 5, 7.27).
use Rattle.std.specs.Prelude.{ℕ, ◌+◌, ◌-◌, ◌*◌, ◌%◌, ◌^◌, nat_le, if◌then◌else◌, Result, Ok, Err}
use Rattle.gimli_base.specs.declared.error.Error.{Error}
use Rattle.gimli_base.specs.declared.error.Error.TheVariants.{AddressOverflow}
use Rattle.gimli_base.specs.View.{View}
use Rattle.gimli_base.specs.Reading.{Reads, ◌>>=◌, as_offset, skip_at, address_at}

-- the address of a size, in bytes, whose bits are all ones
abbrev pub ones_sized : ℕ → ℕ
ones_sized size = 256 ^ size - 1

-- the least address of a size that stands for none: all ones, less one
abbrev pub min_tombstone : ℕ → ℕ
min_tombstone size = 256 ^ size - 2

-- the sum of an address of a size and a length, refused where it needs more bits
abbrev pub sum_sized : ℕ → ℕ → ℕ → Result ℕ Error
sum_sized size address length =
    if nat_le (address + length) (ones_sized size) then Ok (address + length)
    else Err AddressOverflow

-- the sum of an address of a size and a length, without the bits that do not fit
abbrev pub wrapped_sum : ℕ → ℕ → ℕ → ℕ
wrapped_sum size address length = (address + length) % 256 ^ size

-- what was read, without what is left
abbrev pub without_rest : {A : Type 0} → Reads A → Result A Error
without_rest (Ok p) = Ok p.0
without_rest (Err e) = Err e

-- The address at an index of a table of addresses of a size: the table begins at `base`, and the
-- number of bytes before the address has to be an offset of the reader.
unfoldable pub table_address : ℕ → ℕ → ℕ → ℕ → View → Result ℕ Error
table_address limit size base index v =
    without_rest (skip_at base v >>= λ table.
    as_offset limit (Ok (index * size, table.1)) >>= λ before.
    skip_at before.0 before.1 >>= λ entry. address_at size entry.1)
