-- An entry of a location list takes a byte at least (DWARF 5, 7.7.3; DWARF 4, 2.6.2).
use Rattle.std.proofs.Common.{ℕ, arith}
use Rattle.std.specs.Prelude.{◌==◌, nat_le, None, Some}
use Rattle.gimli_base.specs.declared.common.Encoding.{Encoding}
use Rattle.gimli_base.specs.declared.error.Error.TheVariants.{UnknownLocListsEntry}
use Rattle.gimli_base.specs.View.{View}
use Rattle.gimli_base.specs.Reading.{byte_at, uint_at, uleb_at, address_at, split_at}
use Rattle.gimli_base.proofs.Later.{LeavesLater, IsLater-none, IsLater-length, err_leaves_later}
use Rattle.gimli_base.proofs.Later.{ok_leaves_later, weaker_leaves_later, then_leaves_later}
use Rattle.gimli_base.proofs.Later.{made_leaves_later, if_leaves_later, byte_at-later}
use Rattle.gimli_base.proofs.Later.{uint_at-later}
use Rattle.gimli_base.proofs.Later.{split_at-later}
use Rattle.gimli_lists.specs.declared.lists.ListsFormat.{ListsFormat}
use Rattle.gimli_lists.specs.declared.lists.ListsFormat.TheVariants.{Bare, Coded}
use Rattle.gimli_lists.specs.RawList.{base_address, base_addressx, startx_endx, startx_length}
use Rattle.gimli_lists.specs.RawList.{offset_pair, default_location, start_end, start_length}
use Rattle.gimli_lists.specs.RawList.{index_at}
use Rattle.gimli_lists.specs.LocationEntry.{short_expression_at, expression_at, indexed_length_at}
use Rattle.gimli_lists.specs.LocationEntry.{new_location_at, location_grammar}
use Rattle.gimli_lists.specs.Places.{TakesBytes}
use Rattle.gimli_lists.specs.EntryMoves.{Moves, two_at-moves, old_entry_at-takes, index_at-moves}
use Rattle.gimli_lists.specs.EntryMoves.{address_at-moves, uleb_at-moves}

split_at-moves : (n : ℕ) → Moves (split_at n)
split_at-moves n v = weaker_leaves_later n 0 v (split_at n v) (omega arith) (split_at-later n v)

uint_at-moves : (n : ℕ) → Moves (uint_at n)
uint_at-moves n v = weaker_leaves_later n 0 v (uint_at n v) (omega arith) (uint_at-later n v)

short_expression_at-moves : Moves short_expression_at
short_expression_at-moves v =
    then_leaves_later 0 0 v (uint_at 2 v) _ (uint_at-moves 2 v) (λ n. split_at-moves n.0 n.1)

expression_at-moves : (limit version : ℕ) → Moves (expression_at limit version)
expression_at-moves limit version v =
    if_leaves_later 0 v (nat_le 5 version) _ _
    (then_leaves_later 0 0 v (index_at limit v) _ (index_at-moves limit v)
    (λ n. split_at-moves n.0 n.1)) (short_expression_at-moves v)

indexed_length_at-moves : (version : ℕ) → Moves (indexed_length_at version)
indexed_length_at-moves version v =
    if_leaves_later 0 v (nat_le 5 version) _ _ (uleb_at-moves v) (uint_at-moves 4 v)

new_location_at-takes : (limit version size : ℕ) (v : View)
    → LeavesLater 1 v (new_location_at limit version size v)
unfolding new_location_at
new_location_at-takes limit version size v =
    then_leaves_later 1 0 v (byte_at v) _ (byte_at-later v) (λ p.
    let expression = expression_at-moves limit version in
    let two = two_at-moves (expression_at limit version) expression in
    let index = index_at-moves limit in
    let address = address_at-moves size in
    let uleb = uleb_at-moves in
    if_leaves_later 0 p.1 (p.0 == 0) _ _ (ok_leaves_later 0 p.1 (None, p.1) (IsLater-none p.1))
    (if_leaves_later 0 p.1 (p.0 == 1) _ _
    (made_leaves_later 0 p.1 (λ i. Some (base_addressx i)) (index_at limit p.1) (index p.1))
    (if_leaves_later 0 p.1 (p.0 == 2) _ _
    (two (index_at limit) (index_at limit) startx_endx index index p.1)
    (if_leaves_later 0 p.1 (p.0 == 3) _ _
    (two (index_at limit) (indexed_length_at version) startx_length index
    (indexed_length_at-moves version) p.1)
    (if_leaves_later 0 p.1 (p.0 == 4) _ _ (two uleb_at uleb_at offset_pair uleb uleb p.1)
    (if_leaves_later 0 p.1 (p.0 == 5) _ _
    (made_leaves_later 0 p.1 (λ e. Some (default_location e)) (expression_at limit version p.1)
    (expression p.1))
    (if_leaves_later 0 p.1 (p.0 == 6) _ _
    (made_leaves_later 0 p.1 (λ a. Some (base_address a)) (address_at size p.1) (address p.1))
    (if_leaves_later 0 p.1 (p.0 == 7) _ _
    (two (address_at size) (address_at size) start_end address address p.1)
    (if_leaves_later 0 p.1 (p.0 == 8) _ _
    (two (address_at size) uleb_at start_length address uleb p.1)
    (err_leaves_later 0 p.1 (UnknownLocListsEntry (record { 0 = p.0 }))))))))))))

location_grammar-later : (limit : ℕ) (format : ListsFormat) (encoding : Encoding) (v : View)
    → LeavesLater 1 v (location_grammar limit format encoding v)
location_grammar-later limit Bare encoding v =
    old_entry_at-takes short_expression_at short_expression_at-moves encoding.address_size v
location_grammar-later limit Coded encoding v =
    new_location_at-takes limit encoding.version encoding.address_size v

-- an entry of a location list takes a byte at least
pub location_grammar-takes : (limit : ℕ) → TakesBytes (location_grammar limit)
location_grammar-takes limit format encoding v e w h =
    omega (arith, IsLater-length 1 v w (location_grammar-later limit format encoding v e w h))
