-- What a check of sibling references holds: the entries whose children are not closed yet, and the
-- first false reference (DWARF 5, 2.3).
use Rattle.std.specs.Prelude.{◌≡◌, ℕ, ℤ, pos, ◌+ℤ◌, ◌≤ℤ◌, if◌then◌else◌, List, [], ◌∷◌, map, Option}
use Rattle.std.specs.Prelude.{Some, None}
use Rattle.std.specs.Option.{option_map}
use Rattle.gimli_units.specs.Entry.{is_null}
use Rattle.gimli_units.specs.Kind.{kind_of}
use Rattle.gimli_units.specs.Rows.{Row}
use Rattle.gimli_units.specs.Honest.{past_closer, target}
use Rattle.gimli_units.specs.FirstFalse.{misses, first_false}
use Rattle.gimli_headers.specs.declared.siblings.Open.{Open}
use Rattle.gimli_headers.specs.declared.siblings.Check.{Check}
use Rattle.gimli_headers.specs.declared.siblings.Passed.{Passed}

-- an entry whose children are not closed yet: where it stands, its depth, and where its reference
-- leads
pub record OpenRow : Type 0 where
  pub offset : ℕ
  pub depth : ℤ
  pub target : ℕ

-- a check: the open entries, the innermost last, and the offset of the first false reference that
-- is closed
pub record Checked : Type 0 where
  pub opens : List OpenRow
  pub first : Option ℕ

abbrev pub open_of : {O : Type 0} → (O → ℕ) → Open O → OpenRow
open_of g o = record { offset = g o.offset.0; depth = o.depth; target = g o.target.0 }

-- a check that code holds
abbrev pub check_held : {O A : Type 0} → (O → ℕ) → Check O A → Checked
check_held g c =
    record { opens = map (open_of g) c.open.items; first = option_map (λ o. g o.0) c.first }

-- a row, of which this was read, with the offset of what is after it
pub record IsPassedRow {O : Type 0} (g : O → ℕ) (x : Passed O) (after : ℕ) (r : Row) : Type 0 where
  pub null : is_null r.entry ≡ x.is_null
  pub offset : r.offset ≡ g x.offset.0
  pub next : r.next ≡ after
  pub depth : r.depth ≡ x.depth
  pub to_sibling : target (kind_of r.entry) ≡ option_map (λ o. g o.0) x.sibling

-- the depth of the outermost of these, or one that is given
abbrev pub outermost_depth : ℤ → List OpenRow → ℤ
outermost_depth depth [] = depth
outermost_depth depth (x ∷ xs) = x.depth

-- each is less deep than the one inside it, and the innermost than a place of this depth
abbrev pub Rise : ℤ → List OpenRow → Type 0
Rise depth [] = Unit {0}
Rise depth (x ∷ xs) = ((x.depth +ℤ pos 1) ≤ℤ outermost_depth depth xs) × Rise depth xs

-- the offset of the outermost of these whose reference is false, where these rows follow; or
-- else what is given
abbrev pub first_open : List OpenRow → List Row → Option ℕ → Option ℕ
first_open [] rest other = other
first_open (x ∷ xs) rest other =
    if misses x.target (past_closer x.depth rest) then Some x.offset else first_open xs rest other

abbrev pub or_else : Option ℕ → Option ℕ → Option ℕ
or_else (Some o) other = Some o
or_else None other = other

-- what a check answers where these rows are left: an open entry, or else what was found, or else
-- one of the rows
abbrev pub judgement : ℕ → Checked → List Row → Option ℕ
judgement end c rest = first_open c.opens rest (or_else c.first (first_false end rest))
