-- A cursor and a tree that begin where the rows of a unit are honest meet what their steps ask
-- (DWARF 5, 2.3).
use Rattle.std.specs.Prelude.{◌≡◌, ℕ, ◌-◌, Bool, true, false, if◌then◌else◌, Option, Some, None}
use Rattle.std.specs.Prelude.{Result, Ok, Err}
use Rattle.std.proofs.Common.{refl, arith, add-zero}
use Rattle.gimli_base.specs.declared.error.Error.{Error}
use Rattle.gimli_base.specs.declared.error.Error.TheVariants.{OffsetOutOfBounds}
use Rattle.gimli_base.specs.Offset.{answer_of}
use Rattle.gimli_base.specs.View.{View, cut}
use Rattle.gimli_base.specs.Table.{Table, codes_of}
use Rattle.gimli_units.specs.Unit.{UnitView, header_size, in_bounds, range_from, entries_in}
use Rattle.gimli_units.specs.Unit.{entries_from}
use Rattle.gimli_units.specs.Honest.{AreHonest}
use Rattle.gimli_units.specs.CursorModel.{CursorView, rows_of}
use Rattle.gimli_units.specs.CursorStart.{before_first, cursor_start}
use Rattle.gimli_units.specs.TreeMoves.{TreeView, before_root, tree_from}
use Rattle.gimli_units.specs.CursorModel.{IsHonestCursor}
use Rattle.gimli_units.proofs.PlaceLaw.{honest_start}
use Rattle.gimli_units.specs.UnitRows.{start_view, IsHonestAt, IsHonestFrom}

module _ (limit : ℕ) (u : UnitView) (t : Table) where
  -- before its first step a cursor is honest, and each step keeps that
  pub honest_cursor : (follows : Bool) (start : Option ℕ) (c : CursorView)
      → Ok c ≡ cursor_start u t follows start
      → IsHonestFrom limit u (codes_of t) (start_view u start)
      → IsHonestCursor limit c
  unfolding entries_from
  honest_cursor follows None c begins honest = let same : c ≡ before_first follows _ = cc in
      rw same (honest_start limit _ refl honest)
  honest_cursor follows (Some offset) c begins honest = cases (range_from u offset) begins honest
    where
      cases : (r : Result View Error) → Ok c ≡ answer_of (before_first follows) (entries_in u t r)
          → IsHonestFrom limit u (codes_of t) r → IsHonestCursor limit c
      cases (Ok v) is h = let same : c ≡ before_first follows _ = cc in
          rw same (honest_start limit _ refl h)
      cases (Err e) is h = absurd (cc)

  honest_root : IsHonestAt limit u (codes_of t) u.entries
      → IsHonestFrom limit u (codes_of t) (range_from u (header_size u))
  unfolding range_from
  honest_root honest = cases (in_bounds u (header_size u))
    where
      whole : cut (header_size u - header_size u) u.entries ≡ u.entries
      whole = let none : header_size u - header_size u ≡ 0 = omega arith in rw (none, add-zero) refl

      cases : (b : Bool) → IsHonestFrom limit u (codes_of t)
          (if b then Ok (cut (header_size u - header_size u) u.entries)
          else Err (OffsetOutOfBounds (header_size u)))
      cases true = rw whole honest
      cases false = tt

  tree_rows : (tree : TreeView) (r : Result View Error)
      → Ok tree ≡ answer_of before_root (entries_in u t r) → IsHonestFrom limit u (codes_of t) r
      → AreHonest tree.start.end (rows_of limit tree.start).rows
  tree_rows tree (Ok v) is h = let same : tree ≡ before_root _ = cc in rw same h
  tree_rows tree (Err e) is h = absurd (cc)

  -- the rows that a tree begins with are honest
  pub honest_tree : (start : Option ℕ) (tree : TreeView) → Ok tree ≡ tree_from u t start
      → IsHonestFrom limit u (codes_of t) (start_view u start)
      → AreHonest tree.start.end (rows_of limit tree.start).rows
  unfolding entries_from
  honest_tree None tree begins honest =
      tree_rows tree (range_from u (header_size u)) begins (honest_root honest)
  honest_tree (Some offset) tree begins honest = tree_rows tree (range_from u offset) begins honest
