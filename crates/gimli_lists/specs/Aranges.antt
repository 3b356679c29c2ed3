-- The ranges of addresses of a set: its tuples, and what each stands for (DWARF 5, 6.1.2 and 7.21).
use Rattle.std.specs.Prelude.{◌≡◌, ℕ, zero, suc, ◌+◌, ◌*◌, ◌/◌, ◌==◌, ◌&&◌, nat_lt, nat_le}
use Rattle.std.specs.Prelude.{if◌then◌else◌, is_some, List, [], ◌∷◌, length, take, drop, slice_get}
use Rattle.std.specs.Prelude.{Option, Some, None, option_and_then, MatchOption, Result, Ok}
use Rattle.std.specs.Prelude.{Err, Bool, false}
use Rattle.std.specs.List.{filter_map, position_or_len}
use Rattle.std.specs.Result.{result_transpose}
use Rattle.gimli_base.specs.declared.common.Encoding.{Encoding}
use Rattle.gimli_base.specs.declared.error.Error.{Error}
use Rattle.gimli_base.specs.Address.{min_tombstone, sum_sized}
use Rattle.gimli_base.specs.Offset.{answer_of}
use Rattle.gimli_base.specs.View.{View, cut, end_of_view}
use Rattle.gimli_base.specs.Reading.{number}
use Rattle.gimli_lists.specs.declared.aranges.entries.ArangeEntry.{ArangeEntry}

-- the tuple in a view's first bytes: an address and a length, both of this size
abbrev pub tuple_of : ℕ → View → ℕ × ℕ
tuple_of size v = (number v.big (take size v.bytes), number v.big (take size (drop size v.bytes)))

-- n tuples, one after the other
abbrev pub tuples_in : ℕ → ℕ → View → List (ℕ × ℕ)
tuples_in zero size v = []
tuples_in (suc n) size v = tuple_of size v ∷ tuples_in n size (cut (2 * size) v)

-- the tuples of a set's bytes; a last piece that is shorter than a tuple is none
unfoldable pub tuples_of : ℕ → View → List (ℕ × ℕ)
tuples_of size v = tuples_in (length v.bytes / (2 * size)) size v

-- the next tuple, and what is left after it; none where fewer bytes are left than a tuple has, and
-- then none is left
abbrev pub next_tuple : ℕ → View → Result (Option (ℕ × ℕ)) Error × View
next_tuple size v = if nat_le (2 * size) (length v.bytes)
    then (Ok (Some (tuple_of size v)), cut (2 * size) v) else (Ok None, end_of_view v)

-- a tuple as it stands, without its end; two zeros stand for nothing
abbrev pub raw_entry : ℕ × ℕ → Option ArangeEntry
raw_entry t = if (t.0 == 0 && t.1 == 0) then None
    else Some (record { range = record { begin = t.0; end = 0 }; length = t.1 })

-- the entry of an address and a length with its end; none where the address stands for none
abbrev pub converted_arange : ℕ → ArangeEntry → Result (Option ArangeEntry) Error
converted_arange size e =
    if nat_le (min_tombstone size) e.range.begin then Ok None
    else answer_of
    (λ end.
    Some (record { range = record { begin = e.range.begin; end = end }; length = e.length }))
    (sum_sized size e.range.begin e.length)

-- what a tuple stands for: nothing, a refusal, or a range
abbrev pub answer_to : ℕ → ℕ × ℕ → Option (Result ArangeEntry Error)
answer_to size t = option_and_then (λ e. result_transpose (converted_arange size e)) (raw_entry t)

-- the raw entries of a set
abbrev pub raw_entries : ℕ → View → List ArangeEntry
raw_entries size v = filter_map raw_entry (tuples_of size v)

-- the ranges of a set, each or its refusal
abbrev pub aranges_of : ℕ → View → List (Result ArangeEntry Error)
aranges_of size v = filter_map (answer_to size) (tuples_of size v)

-- the number of tuples before the first that `f` makes something of, or of all
abbrev pub count_before_first : {B : Type 0} → (ℕ × ℕ → Option B) → List (ℕ × ℕ) → ℕ
count_before_first f ts = position_or_len (λ t. is_some (f t)) ts

-- The first that `f` makes of a tuple, and what is left: the bytes after that tuple, or none where
-- there is no such tuple.
unfoldable pub first_of_tuples : {B : Type 0} → (ℕ × ℕ → Option B) → ℕ → View → Option B × View
first_of_tuples f size v =
    let ts = tuples_of size v in
    let n = count_before_first f ts in (
      option_and_then f (slice_get ts n),
      if nat_lt n (length ts) then cut ((n + 1) * (2 * size)) v else end_of_view v,
    )

-- whether a range holds an address; one that is refused holds none
abbrev pub range_holds : ℕ → Result ArangeEntry Error → Bool
range_holds address (Ok e) = nat_le e.range.begin address && nat_lt address e.range.end
range_holds address (Err x) = false

-- where the reading of a set's tuples stands: what is left, and how it is read
pub record ArangesPlace : Type 0 where
  pub rest : View
  pub encoding : Encoding

-- the place with other bytes left
abbrev pub with_rest : ArangesPlace → View → ArangesPlace
with_rest p v = record { rest = v; encoding = p.encoding }

-- the next raw entry of a set, and the place that its reading leaves
abbrev pub next_raw_entry : ArangesPlace → Option ArangeEntry × ArangesPlace
next_raw_entry p = let q = first_of_tuples raw_entry p.encoding.address_size p.rest in
    (q.0, with_rest p q.1)

-- the next range of a set or its refusal, and the place that its reading leaves
abbrev pub next_arange : ArangesPlace → Option (Result ArangeEntry Error) × ArangesPlace
next_arange p =
    let q = first_of_tuples (answer_to p.encoding.address_size) p.encoding.address_size p.rest in
    (q.0, with_rest p q.1)

-- the ranges ahead of a place, each or its refusal
abbrev pub aranges_ahead : ArangesPlace → List (Result ArangeEntry Error)
aranges_ahead p = aranges_of p.encoding.address_size p.rest

-- What an iterator answers at a place, and the place that it leaves: the next range. The ranges
-- ahead are that one, and then those ahead of the place that is left; where there is no next one,
-- none is ahead.
pub record IsNextArange (p : ArangesPlace) (a : Option (Result ArangeEntry Error))
    (q : ArangesPlace) : Type 0 where
  pub is : (a, q) ≡ next_arange p
  pub ahead : MatchOption a (aranges_ahead p ≡ []) (λ x. aranges_ahead p ≡ x ∷ aranges_ahead q)
