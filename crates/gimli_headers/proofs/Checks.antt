-- What the answer of the check of sibling references says of a unit.
use Rattle.std.proofs.Common.{◌≡◌, ℕ, ◌≤◌, List, [], Option, Some, None, Result, Ok, Err, refl, sym}
use Rattle.std.proofs.Common.{ap, ◌∙◌, length}
use Rattle.std.specs.Prelude.{IfOk, IfSome, ◌↔◌}
use Rattle.std.specs.Option.{option_map}
use Rattle.gimli_base.specs.declared.error.Error.{Error}
use Rattle.gimli_base.specs.Abbreviations.{Map}
use Rattle.gimli_base.specs.Table.{Table, codes_of}
use Rattle.gimli_units.specs.RawPlace.{RawPlace}
use Rattle.gimli_units.specs.Rows.{Row}
use Rattle.gimli_units.specs.CursorModel.{rows_of}
use Rattle.gimli_units.specs.Unit.{UnitView, whole_length, entries_of}
use Rattle.gimli_units.specs.UnitRows.{unit_rows, start_view, IsHonestAt, IsHonestFrom, StandsAt}
use Rattle.gimli_units.specs.FirstFalse.{first_false}
use Rattle.gimli_units.proofs.LeastFalse.{none_false, honest_none}
use Rattle.gimli_units.specs.FirstFalse.{IsLeastFalse}
use Rattle.gimli_units.proofs.LeastFalse.{least_false}
use Rattle.gimli_units.proofs.RowLaw.{honest_starts}

-- a check from the root on is one of the unit
pub exact : {O : Type 0}
    → (limit : ℕ) (u : UnitView) (t : Table) (p : RawPlace) (f : O → ℕ)
    (r : Result (Option O) Error) → p ≡ entries_of u t
    → IfOk r (λ o. option_map f o ≡ first_false p.end (rows_of limit p).rows)
    → IfOk r (λ o. option_map f o ≡ first_false (whole_length u) (unit_rows limit u (codes_of t)))
exact limit u t p f (Ok o) same h =
    h ∙ ap (λ (q : RawPlace). first_false q.end (rows_of limit q).rows) same
exact limit u t p f (Err e) same h = tt

-- where there is no row, there is none
pub if_exact : (end : ℕ) (rows : List Row) → rows ≡ []
    → ◌≡◌ {A = Option ℕ} None (first_false end rows)
if_exact end rows none = sym (ap (first_false end) none)

none_of : {O : Type 0} → (f : O → ℕ) (o : Option O) → option_map f o ≡ None → o ≡ None
none_of f None h = refl
none_of f (Some x) h = absurd (cc)

module _ {O : Type 0} (limit : ℕ) (u : UnitView) (declared : Map) where
  -- none is answered exactly where the rows are honest
  pub if_honest : (f : O → ℕ) (r : Result (Option O) Error)
      → IfOk r (λ o. option_map f o ≡ first_false (whole_length u) (unit_rows limit u declared))
      → IfOk r (λ o. (o ≡ None) ↔ IsHonestAt limit u declared u.entries)
  if_honest f (Ok o) h = (
    (λ none. none_false (whole_length u) (unit_rows limit u declared)
        (sym h ∙ ap (option_map f) none)),
    (λ honest. none_of f o (h ∙ honest_none (whole_length u) (unit_rows limit u declared) honest)),
  )
  if_honest f (Err e) h = tt

  -- what is answered is the least
  pub if_least : (f : O → ℕ) (r : Result (Option O) Error)
      → IfOk r (λ o. option_map f o ≡ first_false (whole_length u) (unit_rows limit u declared))
      → IfOk r
      (λ o. IfSome o (λ x. IsLeastFalse (whole_length u) (f x) (unit_rows limit u declared)))
  if_least f (Ok None) h = tt
  if_least f (Ok (Some x)) h = least_false limit u declared (f x) (sym h)
  if_least f (Err e) h = tt

  -- and they are then honest from the offset of each
  pub if_starts : length u.entries.bytes ≤ whole_length u
      → (f : O → ℕ) (r : Result (Option O) Error)
      → IfOk r (λ o. option_map f o ≡ first_false (whole_length u) (unit_rows limit u declared))
      → r ≡ Ok None → (offset : ℕ) → StandsAt offset (unit_rows limit u declared)
      → IsHonestFrom limit u declared (start_view u (Some offset))
  if_starts fits f (Ok o) h is offset there =
      let none : o ≡ None = cc in
      honest_starts limit u declared fits
      (none_false (whole_length u) (unit_rows limit u declared)
      (sym h ∙ ap (option_map f) none)) offset there
  if_starts fits f (Err e) h is offset there = absurd (cc)
