-- Where lists begin in their sections, and where the reading of one stands (DWARF 5, 2.6.2, 2.17.3,
-- 7.28 and 7.29; DWARF 4, 2.6.2 and 2.17.3).
use Rattle.std.specs.Prelude.{◌≡◌, drop, ℕ, ◌+◌, ◌*◌, ◌<◌, nat_le, if◌then◌else◌, List, [], length}
use Rattle.std.specs.Prelude.{Option, Some, None, unwrap_or, Result, Ok, Err}
use Rattle.std.specs.Option.{option_map, option_or}
use Rattle.gimli_base.specs.declared.common.Encoding.{Encoding}
use Rattle.gimli_base.specs.declared.common.Format.{Format}
use Rattle.gimli_base.specs.declared.common.SectionId.{SectionId}
use Rattle.gimli_base.specs.declared.error.Error.{Error}
use Rattle.gimli_base.specs.Address.{without_rest, table_address}
use Rattle.gimli_base.specs.View.{View}
use Rattle.gimli_base.specs.Reading.{◌>>=◌, map_read, as_offset, lookup_at, offset_at, skip_at}
use Rattle.gimli_base.specs.Reading.{word_size_of}
use Rattle.gimli_lists.specs.declared.lists.ListsFormat.{ListsFormat}
use Rattle.gimli_lists.specs.declared.lists.ListsFormat.TheVariants.{Bare, Coded}
use Rattle.gimli_lists.specs.RawList.{ListEntry, EntryReads, RawList, list_at, next_entry}
use Rattle.gimli_lists.specs.Resolved.{LookUp, Resolved, base_given, base_before, resolve}
use Rattle.gimli_lists.specs.Resolved.{entries_read, entry_answers, resolved_list, answer_then}

-- the bytes of the two sections of lists: that of versions up to 4, and that of later ones
pub record ListSections : Type 0 where
  pub old : View
  pub new : View

-- the section in which a unit's lists lie
abbrev pub section_of : ℕ → ListSections → View
section_of version s = if nat_le version 4 then s.old else s.new

-- how a unit's lists are written, the location lists of split files aside
abbrev pub format_of : ℕ → ListsFormat
format_of version = if nat_le version 4 then Bare else Coded

-- the section, and the number of its bytes before a place; where the place lies in both, the old
-- one
abbrev pub lookup_in : SectionId → SectionId → ℕ → ListSections → Option (SectionId × ℕ)
lookup_in old new place s =
    option_or (option_map (λ n. (old, n)) (lookup_at place s.old))
    (option_map (λ n. (new, n)) (lookup_at place s.new))

-- The offset of a list: the offset at an index of the table that begins at `base`, from there. The
-- number of bytes before it in the table, and the sum, have to be offsets of the reader.
unfoldable pub list_offset : ℕ → Format → ℕ → ℕ → View → Result ℕ Error
list_offset limit format base index v =
    without_rest
    (skip_at base v >>= λ table. as_offset limit (Ok (index * word_size_of format, table.1))
    >>= λ before.
    skip_at before.0 before.1
    >>= λ entry. as_offset limit
    (map_read (λ offset. base + offset) (offset_at limit format entry.1)))

-- where the reading of a list stands: what is left of the section, the encoding of the unit, and
-- how the list is written
pub record RawListPlace : Type 0 where
  pub rest : View
  pub encoding : Encoding
  pub format : ListsFormat

-- the beginning of the list at an offset of the section in which the unit's lists lie
unfoldable pub raw_list_at : ListsFormat → ℕ → Encoding → ListSections → Result RawListPlace Error
raw_list_at format offset encoding s =
    elim (skip_at offset (section_of encoding.version s)) [
      | Ok p ↦ Ok (record { rest = p.1; encoding = encoding; format = format })
      | Err e ↦ Err e
    ]

-- how the entries of a kind of list are read, by how the list is written and the encoding of the
-- unit
abbrev pub Grammar : Type 0 → Type 0
Grammar P = ListsFormat → Encoding → EntryReads P

-- each entry takes a byte at least
abbrev pub TakesBytes : {P : Type 0} → Grammar P → Type 0
TakesBytes {P} grammar =
    (format : ListsFormat) (encoding : Encoding) (v : View) (e : Option (ListEntry P)) (w : View)
    → Ok (e, w) ≡ grammar format encoding v → length w.bytes < length v.bytes

-- the next entry of a place, and the place that is left
unfoldable pub next_raw : {P : Type 0} → Grammar P → RawListPlace
    → Result (Option (ListEntry P)) Error × RawListPlace
next_raw grammar p = let n = next_entry (grammar p.format p.encoding) p.rest in
    (n.0, record p { rest = n.1 })

-- the list, as it is written, that is left at a place
abbrev pub raw_list_ahead : {P : Type 0} → Grammar P → RawListPlace → RawList P
raw_list_ahead grammar p = list_at (grammar p.format p.encoding) p.rest

-- where the reading of what a list stands for is: in the list, with a base address at hand, and a
-- table in the section of addresses
pub record ListPlace : Type 0 where
  pub raw : RawListPlace
  pub base : ℕ
  pub addresses : View
  pub table : ℕ

-- the address at an index of the place's table
abbrev pub look_up_of : ℕ → ListPlace → LookUp
look_up_of limit p = λ index.
    table_address limit p.raw.encoding.address_size p.table index p.addresses

-- what an entry stands for, and the place after it: its base is the one that the entry gives, or
-- the one before
unfoldable pub entry_conversion : {P : Type 0} → ℕ → ListEntry P → ListPlace
    → Result (Option (Resolved P)) Error × ListPlace
entry_conversion limit e p = (
  resolve p.raw.encoding.address_size (look_up_of limit p) p.base e,
  record p { base = unwrap_or (base_given (look_up_of limit p) e) p.base },
)

-- the list that begins at a place
abbrev pub list_ahead : {P : Type 0} → Grammar P → ListPlace → RawList P
list_ahead grammar p = raw_list_ahead grammar p.raw

-- the entries of the list that are left at a place
abbrev pub entries_ahead : {P : Type 0} → Grammar P → ListPlace → List (ListEntry P)
entries_ahead grammar p = (list_ahead grammar p).items

-- the answers of the list that begins at a place, with the base address at hand
unfoldable pub answers_ahead : {P : Type 0} → Grammar P → ℕ → ListPlace
    → List (Result (Resolved P) Error)
answers_ahead grammar limit p =
    resolved_list p.raw.encoding.address_size (look_up_of limit p) p.base (list_ahead grammar p)

-- the answers of the entries that are left at a place, without the refusal that may end the list
abbrev pub entry_answers_ahead : {P : Type 0} → Grammar P → ℕ → ListPlace
    → List (Result (Resolved P) Error)
entry_answers_ahead grammar limit p =
    entry_answers p.raw.encoding.address_size (look_up_of limit p) p.base (entries_ahead grammar p)

-- where no entry is left at p that answers anything, no byte is left at q
abbrev pub IsSpent : {P : Type 0} → Grammar P → ℕ → ListPlace → ListPlace → Type 0
IsSpent grammar limit p q = entry_answers_ahead grammar limit p ≡ [] → length q.raw.rest.bytes ≡ 0

-- q is the place after the next n entries from p on: the others are left, and the base before them
-- is at hand
abbrev pub IsAfterEntries : {P : Type 0} → Grammar P → ℕ → ℕ → ListPlace → ListPlace → Type 0
IsAfterEntries grammar limit n p q =
    (entries_ahead grammar q ≡ drop n (entries_ahead grammar p))
    × (q.base ≡ base_before (look_up_of limit p) p.base (entries_ahead grammar p) n)

-- how many entries are read from a place on for the next answer
abbrev pub read_from : {P : Type 0} → Grammar P → ℕ → ListPlace → ℕ
read_from grammar limit p =
    entries_read p.raw.encoding.address_size (look_up_of limit p) p.base (entries_ahead grammar p)

-- q is a place of the same list as p: all but what is left of it and the base address is p's
abbrev pub InList : ListPlace → ListPlace → Type 0
InList p q = q ≡ record p { raw = record p.raw { rest = q.raw.rest }; base = q.base }

-- a call at p answers a and leaves q: the first of the answers ahead, and the place after the
-- entries that it takes, where nothing is left if none of the entries answers
abbrev pub IsNext : {P : Type 0} → Grammar P → ℕ → ListPlace → Result (Option (Resolved P)) Error
    → ListPlace → Type 0
IsNext grammar limit p a q =
    (answers_ahead grammar limit p ≡ answer_then a (answers_ahead grammar limit q))
    × IsAfterEntries grammar limit (read_from grammar limit p) p q
    × InList p q × IsSpent grammar limit p q

-- an answer that comes in two parts: what is found, and else a refusal, if there is one
abbrev pub in_parts : {A : Type 0} → Option A → Option Error → Result (Option A) Error
in_parts (Some a) _ = Ok (Some a)
in_parts None (Some e) = Err e
in_parts None None = Ok None

-- the beginning of what the list at an offset stands for, with a base address at hand
unfoldable pub list_place_at : ListsFormat → ℕ → Encoding → ℕ → View → ℕ → ListSections
    → Result ListPlace Error
list_place_at format offset encoding base addresses table s =
    elim (raw_list_at format offset encoding s) [
      | Ok p ↦ Ok (record { raw = p; base = base; addresses = addresses; table = table })
      | Err e ↦ Err e
    ]

-- the answers from a place on, where there is one
abbrev pub answers_from : {P : Type 0} → Grammar P → ℕ → Result ListPlace Error
    → Result (List (Result (Resolved P) Error)) Error
answers_from grammar limit (Ok p) = Ok (answers_ahead grammar limit p)
answers_from grammar limit (Err e) = Err e

-- the answers of the list at an offset, with a base address at hand, or the refusal of the offset
unfoldable pub list_answers : {P : Type 0} → Grammar P → ℕ → ListsFormat → ℕ → Encoding → ℕ → View
    → ℕ → ListSections → Result (List (Result (Resolved P) Error)) Error
list_answers grammar limit format offset encoding base addresses table s =
    answers_from grammar limit (list_place_at format offset encoding base addresses table s)
