-- One step of a walker, as a count of its innermost list sees it.
use Rattle.std.proofs.Common.{◌≡◌, ℕ, ◌+◌, ◌<◌, true, false, [], ◌∷◌, Some, None, Ok, Err, refl, ap}
use Rattle.std.proofs.Common.{length}
use Rattle.gimli_base.specs.declared.error.Error.{Error}
use Rattle.gimli_base.specs.declared.error.Error.TheVariants.{OutOfMemory}
use Rattle.gimli_units.specs.TreePlace.{Lists}
use Rattle.gimli_units.specs.CursorModel.{rows_of}
use Rattle.gimli_units.specs.CursorModel.{IsHonestCursor}
use Rattle.gimli_units.specs.TreeWalker.{Standing, HasAskedOne}
use Rattle.test_callers.specs.Subtree.{count_innermost}
use Rattle.test_callers.proofs.Counts.{counts, stays_honest, fewer_left}

module _ (limit : ℕ) (old new : Standing) where
  -- a node was found
  pub node_counts : (lists : Lists) (n : ℕ) → HasAskedOne limit lists old (Ok true) new
      → IsHonestCursor limit old.tree.cursor
      → IsHonestCursor limit new.tree.cursor
      × (count_innermost lists n (rows_of limit old.tree.cursor.raw)
      ≡ count_innermost new.lists (n + 1) (rows_of limit new.tree.cursor.raw))
  node_counts [] n h honest = let k = h.0 in absurd (cc)
  node_counts (None ∷ outer) n h honest = let k = h.0.0 in absurd (cc)
  node_counts (Some d ∷ outer) n h honest =
      let lists = ap (λ (s : Standing). s.lists) h.1 in (
        stays_honest limit d old.tree new.tree (Ok true) h.0 honest true refl,
        rw lists
            (counts limit d old.tree new.tree (Ok true) h.0 honest n),
      )

  pub node_fewer : (lists : Lists) → HasAskedOne limit lists old (Ok true) new
      → length new.tree.cursor.raw.rest.bytes < length old.tree.cursor.raw.rest.bytes
  node_fewer [] h = let k = h.0 in absurd (cc)
  node_fewer (None ∷ outer) h = let k = h.0.0 in absurd (cc)
  node_fewer (Some d ∷ outer) h = fewer_left limit d old.tree new.tree h.0

  -- the list is at its end
  pub end_counts : (lists : Lists) (n : ℕ) → HasAskedOne limit lists old (Ok false) new
      → IsHonestCursor limit old.tree.cursor
      → count_innermost lists n (rows_of limit old.tree.cursor.raw) ≡ Ok n
  end_counts [] n h honest = refl
  end_counts (None ∷ outer) n h honest = refl
  end_counts (Some d ∷ outer) n h honest = counts limit d old.tree new.tree (Ok false) h.0 honest n

  -- what stands next is refused
  pub fault_counts : (lists : Lists) (n : ℕ) (e : Error) → HasAskedOne limit lists old (Err e) new
      → IsHonestCursor limit old.tree.cursor → (e ≡ OutOfMemory → ⊥)
      → count_innermost lists n (rows_of limit old.tree.cursor.raw) ≡ Err e
  fault_counts [] n e h honest fine = let k = h.0 in absurd (cc)
  fault_counts (None ∷ outer) n e h honest fine = let k = h.0.0 in absurd (cc)
  fault_counts (Some d ∷ outer) n e h honest fine =
      counts limit d old.tree new.tree (Err e) h.0 honest n fine
