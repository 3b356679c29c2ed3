-- What each read makes of a view: a value and the view that is left, or a refusal (DWARF 5, 7.2.2,
-- 7.4 and 7.6).
use Rattle.std.specs.Prelude.{Option, ◌≡◌, ℕ, zero, suc, ◌+◌, ◌*◌, ◌-◌, nat_lt, nat_le}
use Rattle.std.specs.Prelude.{if◌then◌else◌, Bool, List, [], ◌∷◌, length, take, reverse}
use Rattle.std.specs.Prelude.{slice_index, Result, Ok, Err, ◌==◌, ◌||◌, ◌&&◌, Some, None, ℤ, pos}
use Rattle.std.specs.Prelude.{◌+ℤ◌, ◌-ℤ◌, ◌*ℤ◌}
use Rattle.std.specs.List.{position}
use Rattle.gimli_base.specs.declared.error.Error.{Error}
use Rattle.gimli_base.specs.declared.error.Error.TheVariants.{UnexpectedEof, BadUnsignedLeb128}
use Rattle.gimli_base.specs.declared.error.Error.TheVariants.{BadSignedLeb128}
use Rattle.gimli_base.specs.declared.error.Error.TheVariants.{UnknownReservedLength}
use Rattle.gimli_base.specs.declared.error.Error.TheVariants.{UnsupportedAddressSize}
use Rattle.gimli_base.specs.declared.error.Error.TheVariants.{UnsupportedOffsetSize, OutOfMemory}
use Rattle.gimli_base.specs.declared.common.Format.{Format}
use Rattle.gimli_base.specs.declared.common.Format.TheVariants.{Dwarf32, Dwarf64}
use Rattle.gimli_base.specs.Offset.{offset_of}
use Rattle.gimli_base.specs.View.{View, cut, front, end_of_view}

-- the input ends before what should begin at the view's first place
abbrev pub eof : View → Error
eof v = UnexpectedEof (record { 0 = v.place })

-- an answer with the view that is left, or a refusal
abbrev pub Reads : Type 0 → Type 0
Reads A = Result (A × View) Error

-- what a call that answered r and left v has read
abbrev pub read_of : {A : Type 0} → Result A Error → View → Reads A
read_of (Ok a) v = Ok (a, v)
read_of (Err e) v = Err e

-- one read, and then another from the view that is left
infixl 10 ◌>>=◌
abbrev pub ◌>>=◌ : {A B : Type 0} → Reads A → (A × View → Reads B) → Reads B
Ok p >>= f = f p
Err e >>= f = Err e

-- what was read, made into another value
abbrev pub map_read : {A B : Type 0} → (A → B) → Reads A → Reads B
map_read f r = r >>= λ p. Ok (f p.0, p.1)

-- passes n bytes
unfoldable pub skip_at : ℕ → View → Reads (Unit {0})
skip_at n v = if nat_le n (length v.bytes) then Ok (tt, cut n v) else Err (eof v)

-- the next n bytes as a view of their own
unfoldable pub split_at : ℕ → View → Reads View
split_at n v = if nat_le n (length v.bytes) then Ok (front n v, cut n v) else Err (eof v)

-- the first n bytes stay
unfoldable pub truncate_at : ℕ → View → Reads (Unit {0})
truncate_at n v = if nat_le n (length v.bytes) then Ok (tt, front n v) else Err (eof v)

-- the number of bytes before a place, where the place is from the first to the end
unfoldable pub lookup_at : ℕ → View → Option ℕ
lookup_at place v = if nat_le v.place place
    && nat_le place (v.place + length v.bytes) then Some (place - v.place) else None

-- the next byte
unfoldable pub byte_at : View → Reads ℕ
byte_at v = if nat_lt 0 (length v.bytes) then Ok (slice_index v.bytes 0, cut 1 v) else Err (eof v)

-- the next n bytes
unfoldable pub bytes_at : ℕ → View → Reads (List ℕ)
bytes_at n v = if nat_le n (length v.bytes) then Ok (take n v.bytes, cut n v) else Err (eof v)

-- the answer of a call that leaves its value x in a place of the caller's
abbrev pub answer_leaving : {A B : Type 0} → A → Result B Error → Result A Error
answer_leaving x (Ok _) = Ok x
answer_leaving x (Err e) = Err e

-- a number to base 256, of which a is read already, and then these digits
abbrev pub digits : ℕ → List ℕ → ℕ
digits a [] = a
digits a (x ∷ xs) = digits (a * 256 + x) xs

-- the number in bytes: the highest comes first in big endian, and last in little endian
abbrev pub number : Bool → List ℕ → ℕ
number big xs = digits 0 (if big then xs else reverse xs)

-- the next n bytes as a number
unfoldable pub uint_at : ℕ → View → Reads ℕ
uint_at n v = map_read (number v.big) (bytes_at n v)

-- an unsigned LEB128 number of at most n + 1 bytes: 7 bits a byte, lowest first, up to a byte below
-- 128; the last byte that there may be is at most `top`
unfoldable pub uleb_within : ℕ → ℕ → View → Reads ℕ
uleb_within top zero v = byte_at v >>= λ p. if nat_le p.0 top then Ok p else Err BadUnsignedLeb128
uleb_within top (suc n) v =
    byte_at v >>= λ p. if nat_lt p.0 128 then Ok p
    else map_read (λ m. p.0 - 128 + 128 * m) (uleb_within top n p.1)

-- the next unsigned LEB128 number of 64 bits: ten bytes, the tenth with one bit
unfoldable pub uleb_at : View → Reads ℕ
uleb_at v = uleb_within 1 9 v

-- the next unsigned LEB128 number of 16 bits: three bytes, the third with two bits
unfoldable pub uleb16_at : View → Reads ℕ
uleb16_at v = uleb_within 3 2 v

-- a signed LEB128 number of at most n + 1 bytes: 7 bits a byte, lowest first, up to a byte below
-- 128, of which the bit of value 64 (0x40) is the sign; the last byte that there may be is 0 or
-- 127, and is the sign alone
unfoldable pub sleb_within : ℕ → View → Reads ℤ
sleb_within zero v =
    byte_at v >>= λ p. if p.0 == 0 then Ok (pos 0, p.1)
    else if p.0 == 127 then Ok (pos 0 -ℤ pos 1, p.1) else Err BadSignedLeb128
sleb_within (suc n) v =
    byte_at v >>= λ p. if nat_lt p.0 64 then Ok (pos p.0, p.1)
    else if nat_lt p.0 128 then Ok (pos p.0 -ℤ pos 128, p.1)
    else map_read (λ z. pos (p.0 - 128) +ℤ (pos 128 *ℤ z)) (sleb_within n p.1)

-- the next signed LEB128 number of 64 bits
unfoldable pub sleb_at : View → Reads ℤ
sleb_at v = sleb_within 9 v

-- passes a LEB128 number of any length: the bytes before the first below 128, and that one
unfoldable pub skip_leb_at : View → Reads (Unit {0})
skip_leb_at v = elim (position (λ b. nat_lt b 128) v.bytes)
    [ Some n ↦ Ok (tt, cut (n + 1) v) | None ↦ Err (eof (end_of_view v)) ]

-- a number that was read, as an offset
abbrev pub as_offset : ℕ → Reads ℕ → Reads ℕ
as_offset limit r = r >>= λ p. elim (offset_of limit p.0) [ Ok o ↦ Ok (o, p.1) | Err e ↦ Err e ]

-- the number of bytes of an offset in a format
abbrev pub word_size_of : Format → ℕ
word_size_of Dwarf32 = 4
word_size_of Dwarf64 = 8

-- the number of bytes of a length field
abbrev pub initial_length_size_of : Format → ℕ
initial_length_size_of Dwarf32 = 4
initial_length_size_of Dwarf64 = 12

-- the next n bytes as an offset
abbrev pub uint_offset_at : ℕ → ℕ → View → Reads ℕ
uint_offset_at limit n v = as_offset limit (uint_at n v)

-- the next offset of a format
unfoldable pub offset_at : ℕ → Format → View → Reads ℕ
offset_at limit format v = uint_offset_at limit (word_size_of format) v

-- a size of 1, 2, 4 or 8
abbrev pub is_size : ℕ → Bool
is_size z = z == 1 || z == 2 || z == 4 || z == 8

-- the next offset of a size that is named
unfoldable pub sized_offset_at : ℕ → ℕ → View → Reads ℕ
sized_offset_at limit z v =
    if is_size z then uint_offset_at limit z v else Err (UnsupportedOffsetSize z)

-- a length, and the format that it shows
unfoldable pub initial_length_at : ℕ → View → Reads (ℕ × Format)
initial_length_at limit v = uint_at 4 v >>= λ p.
    if nat_lt p.0 0xffff_fff0 then map_read (λ n. (n, Dwarf32)) (as_offset limit (Ok p))
    else if p.0 == 0xffff_ffff then map_read (λ n. (n, Dwarf64)) (offset_at limit Dwarf64 p.1)
    else Err UnknownReservedLength

-- the next address of a size that is named
unfoldable pub address_at : ℕ → View → Reads ℕ
address_at z v = if is_size z then uint_at z v else Err (UnsupportedAddressSize z)

-- the next byte, as the size of an address
unfoldable pub address_size_at : View → Reads ℕ
address_size_at v = byte_at v >>= λ p. if is_size p.0 then Ok p
    else Err (UnsupportedAddressSize p.0)

-- the number of bytes before the first that is b; refused where there is none
unfoldable pub find_at : ℕ → View → Result ℕ Error
find_at b v = elim (position (λ x. x == b) v.bytes) [ Some n ↦ Ok n | None ↦ Err (eof v) ]

-- the bytes before the first zero; the zero is passed too
unfoldable pub text_at : View → Reads View
text_at v = elim (find_at 0 v) [
  | Ok n ↦ split_at n v >>= λ p. map_read (λ _. p.0) (byte_at p.1)
  | Err e ↦ Err e
]

-- the bytes at an offset, before the first zero
unfoldable pub text_from : ℕ → View → Result View Error
text_from offset v = elim (skip_at offset v >>= λ p. text_at p.1) [ Ok p ↦ Ok p.0 | Err e ↦ Err e ]

-- p, unless memory was refused
abbrev pub UnlessMemory : {A : Type 0} → Result A Error → Type 0 → Type 0
UnlessMemory (Ok _) p = p
UnlessMemory (Err e) p = (e ≡ OutOfMemory → ⊥) → p

-- a pair, with another first part
abbrev pub map_first : {A B C : Type 0} → (A → B) → A × C → B × C
map_first f p = (f p.0, p.1)

-- what a pass leaves, where the read of the same bytes succeeds
abbrev pub PassesAs : {A : Type 0} → Reads (Unit {0}) → Reads A → Type 0
PassesAs {A} pass r =
    (a : A) (w : View) → ◌≡◌ {A = Reads A} (Ok (a, w)) r
    → ◌≡◌ {A = Reads (Unit {0})} pass (Ok (tt, w))

-- the answer of an iterator as that of a call that may be refused
abbrev pub transpose : {A : Type 0} → Option (Result A Error) → Result (Option A) Error
transpose None = Ok None
transpose (Some (Ok a)) = Ok (Some a)
transpose (Some (Err e)) = Err e
