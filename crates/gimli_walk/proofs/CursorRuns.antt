-- The answers of a run, step by step.
use Rattle.std.proofs.Common.{◌≡◌, ℕ, ◌+◌, ℤ, List, [], ◌∷◌, drop, Option, IfSome}
use Rattle.gimli_units.specs.CursorModel.{CursorView}
use Rattle.gimli_walk.specs.declared.cursor.CursorStep.{CursorStep}
use Rattle.gimli_walk.specs.Cursors.{Answer}
use Rattle.gimli_walk.specs.CursorTurns.{HasAnswered, HasRun}

-- one more answer
pub run_more : (limit : ℕ) (here new : CursorView) (steps : List CursorStep) (i : ℕ)
    (s : CursorStep) (a : Answer) → drop i steps ≡ s ∷ drop (i + 1) steps
    → HasAnswered limit s here a new
    → (rest : List Answer) → HasRun limit new (drop (i + 1) steps) rest
    → HasRun limit here (drop i steps) (a ∷ rest)
run_more limit here new steps i s a next answered rest more = rw next (new, answered, more)

-- no answer
pub run_none : (limit : ℕ) (here : CursorView) (left : List CursorStep) → HasRun limit here left []
run_none limit here [] = tt
run_none limit here (s ∷ left) = tt

-- a pair may be said by what equals it
pub same_pair : {E : Type 0} (o : Option E) (offset : E → ℕ) (depth : E → ℤ) (n m : ℕ) (d b : ℤ)
    → m ≡ n → b ≡ d
    → IfSome o (λ e. (offset e ≡ n) × (depth e ≡ d))
    → IfSome o (λ e. (offset e ≡ m) × (depth e ≡ b))
same_pair o offset depth n m d b offsets depths is = rw (offsets, depths) is
