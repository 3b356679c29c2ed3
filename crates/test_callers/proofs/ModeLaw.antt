-- Where the rows of a unit are honest, both kinds of cursor answer the same.
use Rattle.std.proofs.Common.{◌≡◌, ℕ, ◌≤◌, List, Option, Some, None, Result, Ok, Err, true, false}
use Rattle.std.proofs.Common.{length, refl}
use Rattle.std.specs.Prelude.{is_some}
use Rattle.gimli_base.specs.declared.error.Error.{Error}
use Rattle.gimli_base.specs.View.{View}
use Rattle.gimli_base.specs.Abbreviations.{Map}
use Rattle.gimli_units.specs.Unit.{UnitView, whole_length}
use Rattle.gimli_units.specs.UnitRows.{unit_rows, start_view, IsHonestAt, IsHonestFrom}
use Rattle.gimli_units.proofs.RowLaw.{honest_starts}
use Rattle.gimli_walk.specs.declared.cursor.CursorStep.{CursorStep}
use Rattle.gimli_walk.specs.Cursors.{Answer, answers_at}
use Rattle.gimli_walk.specs.Runs.{RunAnswers}
use Rattle.gimli_walk.specs.TrueAnswers.{IsRunFrom}
use Rattle.test_callers.specs.Modes.{BeginsAtRow, AreSame}

-- a test of an option
pub nothing : {T : Type 0} → (o : Option T) → is_some o ≡ false → o ≡ None
nothing None h = refl
nothing (Some x) h = absurd (cc)

module _ (limit : ℕ) (u : UnitView) (declared : Map) where
  -- the rows from a start are honest
  pub honest_begins : length u.entries.bytes ≤ whole_length u
      → IsHonestAt limit u declared u.entries → (start : Option ℕ)
      → BeginsAtRow start (unit_rows limit u declared)
      → IsHonestFrom limit u declared (start_view u start)
  honest_begins fits honest None there = honest
  honest_begins fits honest (Some offset) there =
      honest_starts limit u declared fits honest offset there

  pub same_modes : (steps : List CursorStep) (from : Result View Error) (a b : RunAnswers Answer)
      → IsHonestFrom limit u declared from
      → IsRunFrom limit u declared true steps from (Ok a)
      → IsRunFrom limit u declared false steps from (Ok b) → AreSame a b
  same_modes steps (Ok v) a b honest follows plain = (
    answers_at limit u declared steps v,
    follows.answers (λ f any. honest),
    plain.answers
        (λ f. absurd (cc)),
  )
  same_modes steps (Err e) a b honest follows plain = absurd follows
