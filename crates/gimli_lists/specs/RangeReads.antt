-- An entry of a range list takes a byte at least (DWARF 5, 7.25; DWARF 4, 2.17.3).
use Rattle.std.proofs.Common.{ℕ, arith}
use Rattle.std.specs.Prelude.{◌==◌, None, Some}
use Rattle.gimli_base.specs.declared.common.Encoding.{Encoding}
use Rattle.gimli_base.specs.declared.error.Error.TheVariants.{UnknownRangeListsEntry}
use Rattle.gimli_base.specs.View.{View}
use Rattle.gimli_base.specs.Reading.{byte_at, uleb_at, address_at}
use Rattle.gimli_base.proofs.Later.{LeavesLater, IsLater-none, IsLater-length, err_leaves_later}
use Rattle.gimli_base.proofs.Later.{ok_leaves_later, then_leaves_later, made_leaves_later}
use Rattle.gimli_base.proofs.Later.{if_leaves_later, byte_at-later}
use Rattle.gimli_lists.specs.declared.lists.ListsFormat.{ListsFormat}
use Rattle.gimli_lists.specs.declared.lists.ListsFormat.TheVariants.{Bare, Coded}
use Rattle.gimli_lists.specs.RawList.{base_address, base_addressx, startx_endx, startx_length}
use Rattle.gimli_lists.specs.RawList.{offset_pair, start_end, start_length, index_at}
use Rattle.gimli_lists.specs.RangeEntry.{nothing_at, new_entry_at, range_grammar}
use Rattle.gimli_lists.specs.Places.{TakesBytes}
use Rattle.gimli_lists.specs.EntryMoves.{Moves, two_at-moves, old_entry_at-takes, index_at-moves}
use Rattle.gimli_lists.specs.EntryMoves.{address_at-moves, uleb_at-moves}

nothing_at-moves : Moves nothing_at
nothing_at-moves v = ok_leaves_later 0 v (tt, v) (IsLater-none v)

new_entry_at-takes : (limit size : ℕ) (v : View) → LeavesLater 1 v (new_entry_at limit size v)
unfolding new_entry_at
new_entry_at-takes limit size v = then_leaves_later 1 0 v (byte_at v) _ (byte_at-later v) (λ p.
    let two = two_at-moves nothing_at nothing_at-moves in
    let index = index_at-moves limit in
    let address = address_at-moves size in
    let uleb = uleb_at-moves in
    if_leaves_later 0 p.1 (p.0 == 0) _ _ (ok_leaves_later 0 p.1 (None, p.1) (IsLater-none p.1))
    (if_leaves_later 0 p.1 (p.0 == 1) _ _
    (made_leaves_later 0 p.1 (λ i. Some (base_addressx i)) (index_at limit p.1) (index p.1))
    (if_leaves_later 0 p.1 (p.0 == 2) _ _
    (two (index_at limit) (index_at limit) startx_endx index index p.1)
    (if_leaves_later 0 p.1 (p.0 == 3) _ _
    (two (index_at limit) uleb_at startx_length index uleb p.1)
    (if_leaves_later 0 p.1 (p.0 == 4) _ _ (two uleb_at uleb_at offset_pair uleb uleb p.1)
    (if_leaves_later 0 p.1 (p.0 == 5) _ _
    (made_leaves_later 0 p.1 (λ a. Some (base_address a)) (address_at size p.1) (address p.1))
    (if_leaves_later 0 p.1 (p.0 == 6) _ _
    (two (address_at size) (address_at size) start_end address address p.1)
    (if_leaves_later 0 p.1 (p.0 == 7) _ _
    (two (address_at size) uleb_at start_length address uleb p.1)
    (err_leaves_later 0 p.1 (UnknownRangeListsEntry (record { 0 = p.0 })))))))))))

range_grammar-later : (limit : ℕ) (format : ListsFormat) (encoding : Encoding) (v : View)
    → LeavesLater 1 v (range_grammar limit format encoding v)
range_grammar-later limit Bare encoding v =
    old_entry_at-takes nothing_at nothing_at-moves encoding.address_size v
range_grammar-later limit Coded encoding v = new_entry_at-takes limit encoding.address_size v

-- an entry of a range list takes a byte at least
pub range_grammar-takes : (limit : ℕ) → TakesBytes (range_grammar limit)
range_grammar-takes limit format encoding v e w h =
    omega (arith, IsLater-length 1 v w (range_grammar-later limit format encoding v e w h))
