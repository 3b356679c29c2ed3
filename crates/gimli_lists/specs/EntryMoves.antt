-- What is read of an entry of a list leaves a later view, and its addresses have its size (DWARF 5,
-- 7.7.3 and 7.25; DWARF 4, 2.6.2 and 2.17.3).
use Rattle.std.proofs.Common.{◌≡◌, ℕ, zero, suc, ◌≤◌, Bool, true, false, Err, refl}
use Rattle.std.proofs.Common.{arith}
use Rattle.std.specs.Prelude.{◌==◌, ◌&&◌, if◌then◌else◌}
use Rattle.gimli_base.specs.declared.error.Error.TheVariants.{UnsupportedAddressSize}
use Rattle.gimli_base.specs.View.{View}
use Rattle.gimli_base.specs.Address.{ones_sized}
use Rattle.gimli_base.specs.Reading.{Reads, uint_at, uleb_at, address_at, is_size}
use Rattle.gimli_base.proofs.Later.{LeavesLater, IsLater-none, err_leaves_later, ok_leaves_later}
use Rattle.gimli_base.proofs.Later.{weaker_leaves_later, then_leaves_later, made_leaves_later}
use Rattle.gimli_base.proofs.Later.{if_leaves_later, uint_at-later, as_offset-later}
use Rattle.gimli_base.proofs.Later.{address_at-later, uleb_at-later}
use Rattle.gimli_lists.specs.RawList.{ListEntry, pair_at, old_entry_at, index_at, two_at}

some_byte : (size : ℕ) → is_size size ≡ true → 1 ≤ size
some_byte zero h = absurd (cc)
some_byte (suc n) h = omega arith

address_at-takes : (size : ℕ) (v : View) → LeavesLater 1 v (address_at size v)
unfolding address_at
address_at-takes size v = cases (is_size size) refl
  where
    cases : (t : Bool) → is_size size ≡ t
        → LeavesLater {A = ℕ} 1 v (if t then uint_at size v else Err (UnsupportedAddressSize size))
    cases true is = weaker_leaves_later size 1 v (uint_at size v) (some_byte size is)
        (uint_at-later size v)
    cases false is = err_leaves_later {A = ℕ} 1 v (UnsupportedAddressSize size)

-- what is read leaves the view or a later one
abbrev pub Moves : {A : Type 0} → (View → Reads A) → Type 0
Moves f = (v : View) → LeavesLater 0 v (f v)

pub uleb_at-moves : Moves uleb_at
uleb_at-moves v = weaker_leaves_later 1 0 v (uleb_at v) (omega arith) (uleb_at-later v)

pub index_at-moves : (limit : ℕ) → Moves (index_at limit)
index_at-moves limit v = as_offset-later 0 limit v (uleb_at v) (uleb_at-moves v)

pub address_at-moves : (size : ℕ) → Moves (address_at size)
address_at-moves size v =
    weaker_leaves_later size 0 v (address_at size v) (omega arith) (address_at-later size v)

module _ {P : Type 0} (payload : View → Reads P) (payload_moves : Moves payload) where
  pub two_at-moves : (first second : View → Reads ℕ) (entry : ℕ → ℕ → P → ListEntry P) → Moves first
      → Moves second → Moves (two_at payload first second entry)
  two_at-moves first second entry m n v =
      then_leaves_later 0 0 v (first v) _ (m v)
      (λ a. then_leaves_later 0 0 a.1 (second a.1) _ (n a.1)
      (λ b. made_leaves_later 0 b.1 _ (payload b.1) (payload_moves b.1)))

  pair_at-takes : (size : ℕ) (v : View) → LeavesLater 1 v (pair_at size v)
  unfolding pair_at
  pair_at-takes size v =
      then_leaves_later 1 0 v (address_at size v) _ (address_at-takes size v)
      (λ a. made_leaves_later 0 a.1 _ (address_at size a.1) (address_at-moves size a.1))

  pub old_entry_at-takes : (size : ℕ) (v : View) → LeavesLater 1 v (old_entry_at payload size v)
  unfolding old_entry_at
  old_entry_at-takes size v = then_leaves_later 1 0 v (pair_at size v) _ (pair_at-takes size v)
      (λ p. if_leaves_later 0 p.1 (p.0.0 == 0 && p.0.1 == 0) _ _
      (ok_leaves_later 0 p.1 _ (IsLater-none p.1))
      (if_leaves_later 0 p.1 (p.0.0 == ones_sized size) _ _
      (ok_leaves_later 0 p.1 _ (IsLater-none p.1))
      (made_leaves_later 0 p.1 _ (payload p.1) (payload_moves p.1))))
