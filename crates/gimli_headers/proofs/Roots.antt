-- The rows of a unit from its first entry on.
use Rattle.std.proofs.Common.{◌≡◌, ℕ, ◌-◌, ◌<◌, ◌≤◌, pos, true, false, [], None, Ok, Err, refl, ap}
use Rattle.std.proofs.Common.{◌∙◌, arith, length, ◌⊎◌, inl, inr, add-zero}
use Rattle.std.specs.Prelude.{nat_le, nat_lt}
use Rattle.std.proofs.lemmas.Bool.{le-leb, lt-ltb, le-ltb, cases_lt}
use Rattle.gimli_base.specs.declared.error.Error.{Error}
use Rattle.gimli_base.specs.declared.error.Error.TheVariants.{OffsetOutOfBounds}
use Rattle.gimli_base.specs.View.{View, cut}
use Rattle.gimli_base.specs.Table.{Table, codes_of}
use Rattle.gimli_units.specs.Entry.{entry_at}
use Rattle.gimli_units.specs.RawPlace.{RawPlace}
use Rattle.gimli_units.specs.Rows.{Ahead}
use Rattle.gimli_units.proofs.RowSteps.{ahead_ended}
use Rattle.gimli_units.specs.Unit.{UnitView, whole_length, header_size, range_from, entries_in}
use Rattle.gimli_units.specs.Unit.{entries_from, entries_of}
use Rattle.gimli_units.specs.UnitRows.{unit_rows}
use Rattle.gimli_headers.proofs.UnitReads.{some_size}

cut_none : (v : View) → cut 0 v ≡ v
cut_none v = rw add-zero refl

-- where the unit has entries' bytes, the first is in bounds
range_root : (u : UnitView) → header_size u < whole_length u
    → range_from u (header_size u) ≡ Ok u.entries
unfolding range_from
range_root u lt =
    let first : nat_le (header_size u) (header_size u)
    ≡ true = le-leb (header_size u) (header_size u) (omega arith) in
    let second : nat_lt (header_size u) (whole_length u)
    ≡ true = lt-ltb (header_size u) (whole_length u) lt in
    let zero : header_size u - header_size u ≡ 0 = omega arith in
    rw (first, second, zero) (ap Ok (cut_none u.entries))

range_nowhere : (u : UnitView) → whole_length u ≤ header_size u
    → range_from u (header_size u) ≡ Err (OffsetOutOfBounds (header_size u))
unfolding range_from
range_nowhere u ge =
    let first : nat_le (header_size u) (header_size u)
    ≡ true = le-leb (header_size u) (header_size u) (omega arith) in
    let second : nat_lt (header_size u) (whole_length u)
    ≡ false = le-ltb (header_size u) (whole_length u) ge in
    rw (first, second) refl

root_cases : (u : UnitView) (t : Table)
    → ((length u.entries.bytes ≡ 0)
    × (entries_from u t None ≡ Err (OffsetOutOfBounds (header_size u))))
    ⊎ (entries_from u t None ≡ Ok (entries_of u t))
unfolding entries_from
root_cases u t = elim (cases_lt (header_size u) (whole_length u)) [
  | inl lt ↦ inr (ap (entries_in u t) (range_root u lt))
  | inr ge ↦
      inl (omega (arith, ge, some_size u.encoding.format), ap (entries_in u t) (range_nowhere u ge))
]

-- a reader from the root on stands before all the rows
pub root_is : (u : UnitView) (t : Table) (p : RawPlace) → Ok p ≡ entries_from u t None
    → p ≡ entries_of u t
root_is u t p is = elim (root_cases u t) [
  | inl none ↦ absurd (let e : Ok p ≡ Err (OffsetOutOfBounds (header_size u)) = is ∙ none.1 in cc)
  | inr read ↦ (let e : Ok p ≡ Ok (entries_of u t) = is ∙ read in cc)
]

-- where there is none, there is no row
pub root_none : (limit : ℕ) (u : UnitView) (t : Table) (e : Error) → Err e ≡ entries_from u t None
    → unit_rows limit u (codes_of t) ≡ []
root_none limit u t e is = elim (root_cases u t) [
  | inl none ↦ ap (λ (a : Ahead). a.rows)
      (ahead_ended (entry_at limit u.encoding (codes_of t)) (whole_length u) (pos 0) u.entries
      none.0)
  | inr read ↦ absurd (let x : Err e ≡ Ok (entries_of u t) = is ∙ read in cc)
]
