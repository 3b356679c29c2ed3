-- The answers of a tree's run, step by step.
use Rattle.std.proofs.Common.{◌≡◌, ℕ, ◌+◌, Bool, List, [], ◌∷◌, drop, Result, Ok, Err, ap}
use Rattle.std.specs.Prelude.{OnOk}
use Rattle.gimli_units.specs.TreePlace.{Lists, StepAnswer}
use Rattle.gimli_units.specs.TreeMoves.{TreeView}
use Rattle.gimli_units.specs.TreeWalker.{Standing, left_from, are_some, left_answer}
use Rattle.gimli_walk.specs.declared.tree.TreeStep.{TreeStep}
use Rattle.gimli_walk.specs.declared.tree.TreeStep.TheVariants.{Leave}
use Rattle.gimli_walk.specs.TreeTurns.{HasTurned, HasTreeRun}

-- what follows where an answer was told
pub on_ok : {A E P Q : Type 0} → (r : Result A E) → (P → Q) → OnOk r P → OnOk r Q
on_ok (Ok a) f p = f p
on_ok (Err e) f p = tt

-- one more answer
pub tree_run_more : (limit : ℕ) (here new : Standing) (steps : List TreeStep) (i : ℕ)
    (s : TreeStep) (a : StepAnswer) → drop i steps ≡ s ∷ drop (i + 1) steps
    → HasTurned limit s here a new
    → (rest : List StepAnswer) → HasTreeRun limit new (drop (i + 1) steps) rest
    → HasTreeRun limit here (drop i steps) (a ∷ rest)
tree_run_more limit here new steps i s a next turned rest more = rw next (new, turned, more)

-- no answer
pub tree_run_none : (limit : ℕ) (here : Standing) (left : List TreeStep)
    → HasTreeRun limit here left []
tree_run_none limit here [] = tt
tree_run_none limit here (s ∷ left) = tt

-- a list was left, or there was none
pub leave_turned : (limit : ℕ) (tree : TreeView) (new : Standing) (on b : Bool) (lists : Lists)
    → b ≡ are_some lists
    → new ≡ left_from lists (record { tree = tree; is_on = on; lists = lists })
    → HasTurned limit Leave (record { tree = tree; is_on = on; lists = lists }) (left_answer b) new
leave_turned limit tree new on b [] same stands = (ap left_answer same, stands)
leave_turned limit tree new on b (list ∷ outer) same stands = (ap left_answer same, stands)
