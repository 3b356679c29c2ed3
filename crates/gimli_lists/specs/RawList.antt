-- Range lists and location lists as they lie in the bytes: entries one after the other, and how
-- they end (DWARF 5, 2.6.2, 2.17.3, 7.7.3 and 7.25; DWARF 4, 2.6.2 and 2.17.3).
use Rattle.std.specs.Prelude.{◌≡◌, ◌⊎◌, ℕ, ◌==◌, ◌&&◌, if◌then◌else◌}
use Rattle.std.specs.Prelude.{length, Option, Some, None, Result, Ok, Err}
use Rattle.gimli_base.specs.declared.error.Error.{Error}
use Rattle.gimli_base.specs.View.{View, end_of_view}
use Rattle.gimli_base.specs.Address.{ones_sized}
use Rattle.gimli_base.specs.Chain.{Chain, no_item, then_item, chain}
use Rattle.gimli_base.specs.Reading.{Reads, ◌>>=◌, map_read, as_offset, uleb_at, address_at}

-- an entry of a list, with what stands after its operands: nothing in a range list, and an
-- expression in a location list, but for a base address
pub data ListEntry (P : Type 0) : Type 0 where
  address_or_offset_pair : (begin end : ℕ) → P → ListEntry P
  base_address : (address : ℕ) → ListEntry P
  base_addressx : (index : ℕ) → ListEntry P
  startx_endx : (begin end : ℕ) → P → ListEntry P
  startx_length : (begin length : ℕ) → P → ListEntry P
  offset_pair : (begin end : ℕ) → P → ListEntry P
  default_location : P → ListEntry P
  start_end : (begin end : ℕ) → P → ListEntry P
  start_length : (begin length : ℕ) → P → ListEntry P

-- how an entry is read: it, or none at the end of the list
abbrev pub EntryReads : Type 0 → Type 0
EntryReads P = View → Reads (Option (ListEntry P))

-- two addresses, one after the other
unfoldable pub pair_at : ℕ → View → Reads (ℕ × ℕ)
pair_at size v = address_at size v
    >>= λ begin. map_read (λ end. (begin.0, end)) (address_at size begin.1)

-- an entry of the old encoding: two addresses, which are the end where both are 0, and a base
-- address where the first is all ones; after another pair stands what `payload` reads
unfoldable pub old_entry_at : {P : Type 0} → (View → Reads P) → ℕ → EntryReads P
old_entry_at payload size v = pair_at size v >>= λ pair.
    if pair.0.0 == 0 && pair.0.1 == 0 then Ok (None, pair.1)
    else if pair.0.0 == ones_sized size then Ok (Some (base_address pair.0.1), pair.1)
    else map_read (λ p. Some (address_or_offset_pair pair.0.0 pair.0.1 p)) (payload pair.1)

-- the index of an address, among those of a unit
abbrev pub index_at : ℕ → View → Reads ℕ
index_at limit v = as_offset limit (uleb_at v)

-- two operands, one after the other, and then what `payload` reads: an entry of these
abbrev pub two_at : {P : Type 0} → (View → Reads P) → (View → Reads ℕ) → (View → Reads ℕ)
    → (ℕ → ℕ → P → ListEntry P) → EntryReads P
two_at payload first second entry v =
    first v >>= λ a. second a.1 >>= λ b. map_read (λ p. Some (entry a.0 b.0 p)) (payload b.1)

-- how entries end: with the entry that says so, where the bytes are used up, or with a refusal
pub data Ending : Type 0 where
  end_of_list : Ending
  used_up : Ending
  refused : Error → Ending

-- entries one after the other, and how they end
abbrev pub RawList : Type 0 → Type 0
RawList P = Chain (ListEntry P) Ending

-- what a read tells of a place: an entry, and what is left after it, or the end
abbrev pub entry_of_read : {P : Type 0} → Reads (Option (ListEntry P))
    → Result (ListEntry P × View) Ending
entry_of_read (Ok p) = elim p.0 [ Some e ↦ Ok (e, p.1) | None ↦ Err end_of_list ]
entry_of_read (Err e) = Err (refused e)

-- what stands at a place: the entry that `next` reads, and what is left after it, or the end, which
-- is `used_up` where no byte is left
unfoldable pub entry_or_end : {P : Type 0} → EntryReads P → View
    → Result (ListEntry P × View) Ending
entry_or_end next v = if length v.bytes == 0 then Err used_up else entry_of_read (next v)

-- the list that begins here: its entries up to the one that ends it, the end of the bytes or the
-- first that is refused; each takes a byte at least, so that the end handed to `chain` never shows
unfoldable pub list_at : {P : Type 0} → EntryReads P → View → RawList P
list_at next v = chain (λ w. length w.bytes) (entry_or_end next) used_up v

-- an answer, and the view that it leaves: after an entry what follows it, after the end and
-- after a refusal nothing
abbrev pub left_by : {P : Type 0} → View → Reads (Option (ListEntry P))
    → Result (Option (ListEntry P)) Error × View
left_by v (Ok p) = elim p.0 [ Some e ↦ (Ok (Some e), p.1) | None ↦ (Ok None, end_of_view v) ]
left_by v (Err e) = (Err e, end_of_view v)

-- the next entry of a list, and what is left of it: none where no byte is left
unfoldable pub next_entry : {P : Type 0} → EntryReads P → View
    → Result (Option (ListEntry P)) Error × View
next_entry next v = if length v.bytes == 0 then (Ok None, v) else left_by v (next v)

-- An answer is that of a list, and leaves the rest: its first entry is in front of the rest, or it
-- has no entry and ends as the answer says, which leaves nothing.
abbrev pub IsFirstOf : {P : Type 0} → Result (Option (ListEntry P)) Error → RawList P → RawList P
    → Type 0
IsFirstOf (Ok None) l rest =
    ((l ≡ no_item end_of_list) ⊎ (l ≡ no_item used_up)) × (rest ≡ no_item used_up)
IsFirstOf (Ok (Some e)) l rest = l ≡ then_item e rest
IsFirstOf (Err e) l rest = (l ≡ no_item (refused e)) × (rest ≡ no_item used_up)
