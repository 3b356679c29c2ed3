-- Sibling references, and when they are honest: when each leads just past what closes its entry's
-- children (DWARF 5, 2.3).
use Rattle.std.specs.Prelude.{◌≡◌, ℕ, ℤ, pos, ◌+ℤ◌, Bool, true, false, ◌&&◌, nat_le, int_le}
use Rattle.std.specs.Prelude.{if◌then◌else◌, List, [], ◌∷◌, Option, Some, None}
use Rattle.std.specs.Ordering.{int_eq}
use Rattle.gimli_units.specs.Entry.{is_null}
use Rattle.gimli_units.specs.Kind.{Kind, null, leaf, parent, kind_of}
use Rattle.gimli_units.specs.Rows.{Row}

-- a null that closes the children of a row of this depth
abbrev pub closes : ℤ → Row → Bool
closes depth r = is_null r.entry && int_eq r.depth (depth +ℤ pos 1)

-- the offset just past the closer, which is the first null one deeper among the rows that follow
abbrev pub past_closer : ℤ → List Row → Option ℕ
past_closer depth [] = None
past_closer depth (r ∷ rest) = if closes depth r then Some r.next else past_closer depth rest

-- where the reference of an entry with children leads
abbrev pub target : Kind → Option ℕ
target null = None
target leaf = None
target (parent to) = to

abbrev pub within : ℕ → ℕ → Option ℕ → Option ℕ
within low high None = None
within low high (Some t) = if nat_le low t && nat_le t high then Some t else None

-- where it leads, if it can be followed: not before what is after the row, and not past the end of
-- the bytes
abbrev pub usable_target : ℕ → Row → Option ℕ
usable_target end r = within r.next end (target (kind_of r.entry))

-- a row, with the rows after it: if its reference can be followed, it leads just past the closer
abbrev pub IsHonest : ℕ → Row → List Row → Type 0
IsHonest end r rest = (t : ℕ) → usable_target end r ≡ Some t → past_closer r.depth rest ≡ Some t

-- each row is honest
abbrev pub AreHonest : ℕ → List Row → Type 0
AreHonest end [] = Unit {0}
AreHonest end (r ∷ rest) = IsHonest end r rest × AreHonest end rest

-- each row of at least this depth, before the first of it, is honest
abbrev pub AreHonestUntil : ℕ → ℤ → List Row → Type 0
AreHonestUntil end depth [] = Unit {0}
AreHonestUntil end depth (r ∷ rest) =
    int_eq r.depth depth ≡ false
    → (int_le depth r.depth ≡ true → IsHonest end r rest) × AreHonestUntil end depth rest
