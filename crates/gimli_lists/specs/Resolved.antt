-- What the entries of a list stand for: each against the last base address that is known before it
-- (DWARF 5, 2.6.2 and 2.17.3).
use Rattle.std.specs.Prelude.{ℕ, ◌+◌, ◌-◌, ◌^◌, nat_lt, ◌&&◌, if◌then◌else◌, Bool, true, false, min}
use Rattle.std.specs.Prelude.{length, List, [], ◌∷◌, ◌++◌, map, take, reverse, Option, Some, None}
use Rattle.std.specs.Prelude.{unwrap_or, Result, Ok, Err, ◌<◌}
use Rattle.std.specs.List.{enumerate_from, filter_map, prefix_len}
use Rattle.std.specs.Option.{option_or}
use Rattle.std.specs.Result.{result_ok}
use Rattle.gimli_base.specs.declared.error.Error.{Error}
use Rattle.gimli_base.specs.Address.{min_tombstone, wrapped_sum}
use Rattle.gimli_lists.specs.RawList.{ListEntry, address_or_offset_pair, base_address}
use Rattle.gimli_lists.specs.RawList.{base_addressx, startx_endx, startx_length, offset_pair}
use Rattle.gimli_lists.specs.RawList.{default_location, start_end, start_length, Ending}
use Rattle.gimli_lists.specs.RawList.{end_of_list, used_up, refused, RawList}

-- the address at an index of a unit's table
abbrev pub LookUp : Type 0
LookUp = ℕ → Result ℕ Error

-- addresses from the first up to the end, which is none of them, and what stands after the entry
pub record Resolved (P : Type 0) : Type 0 where
  pub begin : ℕ
  pub end : ℕ
  pub payload : P

-- the base address that an entry gives, if it gives one and it is found
abbrev pub base_given : {P : Type 0} → LookUp → ListEntry P → Option ℕ
base_given look_up (base_address address) = Some address
base_given look_up (base_addressx index) = result_ok (look_up index)
base_given look_up e = None

-- the base address that the first of these entries gives which gives one
abbrev pub first_base : {P : Type 0} → LookUp → List (ListEntry P) → Option ℕ
first_base look_up [] = None
first_base look_up (e ∷ es) = option_or (base_given look_up e) (first_base look_up es)

-- the base before entry i: of the entries before it, the last that gives one gives it, and else it
-- is the one at hand
abbrev pub base_before : {P : Type 0} → LookUp → ℕ → List (ListEntry P) → ℕ → ℕ
base_before look_up base entries i = unwrap_or (first_base look_up (reverse (take i entries))) base

-- addresses that are kept: they begin below the least address that stands for none, and below their
-- end
abbrev pub resolved_if_kept : {P : Type 0} → ℕ → ℕ → ℕ → P → Option (Resolved P)
resolved_if_kept size begin end payload =
    if nat_lt begin (min_tombstone size)
    && nat_lt begin end then Some (record { begin = begin; end = end; payload = payload })
    else None

-- the same, from a base address on; from one that stands for none nothing is kept
abbrev pub located_from : {P : Type 0} → ℕ → ℕ → ℕ → ℕ → P → Option (Resolved P)
located_from size base begin end payload =
    if nat_lt base (min_tombstone size)
    then resolved_if_kept size (wrapped_sum size base begin) (wrapped_sum size base end) payload
    else None

-- what is made of an address that is found
abbrev pub if_found : {A : Type 0} → Result ℕ Error → (ℕ → Result (Option A) Error)
    → Result (Option A) Error
if_found (Ok address) f = f address
if_found (Err e) f = Err e

-- What an entry stands for, with a base address: addresses, nothing, or the refusal of an address
-- that is looked up. A base address stands for nothing.
abbrev pub resolve : {P : Type 0} → ℕ → LookUp → ℕ → ListEntry P
    → Result (Option (Resolved P)) Error
resolve size look_up base (address_or_offset_pair begin end p) =
    Ok (located_from size base begin end p)
resolve size look_up base (base_address address) = Ok None
resolve size look_up base (base_addressx index) = if_found (look_up index) (λ address. Ok None)
resolve size look_up base (startx_endx begin end p) =
    if_found (look_up begin) (λ b. if_found (look_up end) (λ e. Ok (resolved_if_kept size b e p)))
resolve size look_up base (startx_length begin length p) =
    if_found (look_up begin) (λ b. Ok (resolved_if_kept size b (wrapped_sum size b length) p))
resolve size look_up base (offset_pair begin end p) = Ok (located_from size base begin end p)
resolve size look_up base (default_location p) = Ok (resolved_if_kept size 0 (2 ^ 64 - 1) p)
resolve size look_up base (start_end begin end p) = Ok (resolved_if_kept size begin end p)
resolve size look_up base (start_length begin length p) =
    Ok (resolved_if_kept size begin (wrapped_sum size begin length) p)

-- what each entry stands for: entry i with the base before it
abbrev pub resolve_each : {P : Type 0} → ℕ → LookUp → ℕ → List (ListEntry P)
    → List (Result (Option (Resolved P)) Error)
resolve_each size look_up base entries =
    map (λ p. resolve size look_up (base_before look_up base entries p.0) p.1)
    (enumerate_from 0 entries)

-- an answer, unless it is nothing
abbrev pub some_answer : {A : Type 0} → Result (Option A) Error → Option (Result A Error)
some_answer (Ok None) = None
some_answer (Ok (Some x)) = Some (Ok x)
some_answer (Err e) = Some (Err e)

-- the refusal that ends a list, if one does
abbrev pub last_answer : {A : Type 0} → Ending → List (Result A Error)
last_answer end_of_list = []
last_answer used_up = []
last_answer (refused e) = Err e ∷ []

-- the answers of entries: what they stand for, in order and without those that stand for nothing
abbrev pub entry_answers : {P : Type 0} → ℕ → LookUp → ℕ → List (ListEntry P)
    → List (Result (Resolved P) Error)
entry_answers size look_up base entries =
    filter_map some_answer (resolve_each size look_up base entries)

-- the answers of a list: those of its entries, and then the refusal that ends it
unfoldable pub resolved_list : {P : Type 0} → ℕ → LookUp → ℕ → RawList P
    → List (Result (Resolved P) Error)
resolved_list size look_up base l =
    entry_answers size look_up base l.items ++ last_answer l.ending

-- whether an entry stands for nothing
abbrev pub is_nothing : {A : Type 0} → Result (Option A) Error → Bool
is_nothing (Ok None) = true
is_nothing (Ok (Some x)) = false
is_nothing (Err e) = false

-- how many entries are read for the next answer: those that stand for nothing, and the one after
-- them, if there is one
abbrev pub entries_read : {P : Type 0} → ℕ → LookUp → ℕ → List (ListEntry P) → ℕ
entries_read size look_up base entries =
    min (length entries) (prefix_len is_nothing (resolve_each size look_up base entries) + 1)

-- the answer of a call before others: none where there is no other
abbrev pub answer_then : {A : Type 0} → Result (Option A) Error → List (Result A Error)
    → List (Result A Error)
answer_then (Ok None) others = []
answer_then (Ok (Some x)) others = Ok x ∷ others
answer_then (Err e) others = Err e ∷ others

-- addresses that begin below their end, and below the least address that stands for none
abbrev pub IsSoundRange : {P : Type 0} → ℕ → Resolved P → Type 0
IsSoundRange size r = (r.begin < r.end) × (r.begin < min_tombstone size)
