-- What a step does to a cursor, whatever the references, and the answers that come of it.
use Rattle.std.specs.Prelude.{◌≡◌, ℕ, Bool, true, false, List, [], ◌∷◌, Some, Result, Ok, Err}
use Rattle.gimli_base.specs.declared.error.Error.{Error}
use Rattle.gimli_base.specs.declared.error.Error.TheVariants.{OutOfMemory}
use Rattle.gimli_base.specs.Reading.{UnlessMemory}
use Rattle.gimli_units.specs.Entry.{is_null}
use Rattle.gimli_units.specs.RawPlace.{next_offset_of}
use Rattle.gimli_units.specs.CursorPlace.{some_of, first_of_rows}
use Rattle.gimli_units.specs.CursorModel.{CursorView, Goes, IsHonestFor, followed_to, rows_from}
use Rattle.gimli_units.specs.CursorModel.{IsSameUnit, IsTrueEntry, IsRefused, IsNotFound, IsFurther}
use Rattle.gimli_units.specs.SearchSteps.{Stands}
use Rattle.gimli_walk.specs.declared.cursor.CursorStep.{CursorStep}
use Rattle.gimli_walk.specs.Cursors.{Answer, step_of, is_sibling}

-- a step
pub record HasStepped (limit : ℕ) (s : CursorStep) (old : CursorView) (outcome : Result Bool Error)
    (new : CursorView) : Type 0 where
  pub moves : (is_sibling s ≡ true → old.follows ≡ true → IsHonestFor limit old.depth old)
      → UnlessMemory outcome (Goes limit (step_of old.raw.end s) old outcome new)
  pub true_entry : outcome ≡ Ok true → IsTrueEntry limit old new
  pub idle : is_sibling s ≡ true → is_null old.entry ≡ true → (outcome ≡ Ok false) × (new ≡ old)
  pub beside : is_sibling s ≡ true → outcome ≡ Ok true
      → (new.depth ≡ old.depth) × (is_null new.entry ≡ false)
  pub not_found : is_sibling s ≡ true → outcome ≡ Ok false → is_null old.entry ≡ false
      → IsNotFound limit old.depth old.offset old new
  pub none : (outcome ≡ Ok true → ⊥) → is_null new.entry ≡ true
  pub refused : (e : Error) → outcome ≡ Err e → IsRefused limit old e new
  pub taken : is_sibling s ≡ true → (t : ℕ) → followed_to old ≡ Some t
      → Stands limit outcome new
      (first_of_rows old.raw.end old.depth old.offset (rows_from limit old.raw t old.depth))
  pub further : IsFurther old new
  pub unit : IsSameUnit old new

-- the answer of a step after which a cursor stands here
abbrev pub answer_at : Result Bool Error → CursorView → Answer
answer_at outcome c =
    record {
      outcome = outcome;
      current = some_of c.entry;
      offset = c.offset;
      depth = c.depth;
      next_offset = next_offset_of c.raw;
      next_depth = c.raw.depth;
    }

-- a step, and its answer, where no memory was refused
pub record HasAnswered (limit : ℕ) (s : CursorStep) (old : CursorView) (a : Answer)
    (new : CursorView) : Type 0 where
  pub step : HasStepped limit s old a.outcome new
  pub is : a ≡ answer_at a.outcome new
  pub fine : a.outcome ≡ Err OutOfMemory → ⊥

-- the first answers of a cursor to these steps
abbrev pub HasRun : ℕ → CursorView → List CursorStep → List Answer → Type 0
HasRun limit c steps [] = Unit {0}
HasRun limit c [] (a ∷ rest) = ⊥
HasRun limit c (s ∷ steps) (a ∷ rest) =
    (new : CursorView) × HasAnswered limit s c a new × HasRun limit new steps rest
