-- The first sibling reference that is false, and the least offset at which one stands (DWARF 5,
-- 2.3).
use Rattle.std.specs.Prelude.{◌≡◌, ℕ, ◌==◌, Bool, true, false, not, if◌then◌else◌, List, [], ◌∷◌}
use Rattle.std.specs.Prelude.{Option, Some, None, ◌⊎◌, ◌≤◌}
use Rattle.gimli_units.specs.Rows.{Row}
use Rattle.gimli_units.specs.Honest.{past_closer, usable_target, IsHonest}

-- a reference that leads to t does not lead just past a closer, or there is none
abbrev pub misses : ℕ → Option ℕ → Bool
misses t None = true
misses t (Some p) = not (p == t)

-- a row, with the rows after it, whose reference can be followed and does not lead just past the
-- closer
abbrev pub is_false : ℕ → Row → List Row → Bool
is_false end r rest = elim (usable_target end r) [
  | None ↦ false
  | Some t ↦ misses t (past_closer r.depth rest)
]

-- the offset of the first row whose reference is false
abbrev pub first_false : ℕ → List Row → Option ℕ
first_false end [] = None
first_false end (r ∷ rest) = if is_false end r rest then Some r.offset else first_false end rest

-- at this offset stands one of these rows, and it is not honest
abbrev pub IsFalseAt : ℕ → ℕ → List Row → Type 0
IsFalseAt end offset [] = ⊥
IsFalseAt end offset (r ∷ rest) =
    ((r.offset ≡ offset) × (IsHonest end r rest → ⊥)) ⊎ IsFalseAt end offset rest

-- and at none before it
abbrev pub IsLeastFalse : ℕ → ℕ → List Row → Type 0
IsLeastFalse end offset rows =
    IsFalseAt end offset rows × ((other : ℕ) → IsFalseAt end other rows → offset ≤ other)
