-- What a caller learns that asks for the first entry of a node's list (DWARF 5, 2.3).
use Rattle.std.specs.Prelude.{◌≡◌, ℕ, Bool, true, false, Result, Ok}
use Rattle.gimli_base.specs.declared.error.Error.{Error}
use Rattle.gimli_units.specs.TreeMoves.{TreeView, HasGoneOn}

pub record HasEntered (limit : ℕ) (old : TreeView) (outcome : Result Bool Error) (new : TreeView) :
    Type 0 where
  pub some : old.cursor.entry.has_children ≡ true
      → HasGoneOn limit old.cursor.raw.depth old outcome new
  pub none : old.cursor.entry.has_children ≡ false → (outcome ≡ Ok false) × (new ≡ old)
