-- What the text of a tree's walk says, whatever the references (DWARF 5, 2.3).
use Rattle.std.specs.Prelude.{◌≡◌, ℕ, Bool, List, length, Option, None, Err}
use Rattle.std.specs.Io.KnownBytes.{Appends}
use Rattle.gimli_base.specs.declared.error.Error.{Error}
use Rattle.gimli_base.specs.Refusal.{number_of}
use Rattle.gimli_base.specs.Abbreviations.{Map}
use Rattle.gimli_units.specs.Unit.{UnitView}
use Rattle.gimli_units.specs.TreePlace.{StepAnswer}
use Rattle.gimli_walk.specs.declared.tree.TreeStep.{TreeStep}
use Rattle.gimli_walk.specs.Lines.{error_line, memory_line, WroteRun}
use Rattle.gimli_walk.specs.Cursors.{HoldsFrom, IsStopped}
use Rattle.gimli_walk.specs.Trees.{step_answers_text, tree_view}
use Rattle.gimli_walk.specs.TrueStepAnswers.{AreTrueStepAnswers, AreRoots, root_at, AreTurnedFrom, AreGrowing}
use Rattle.gimli_walk.specs.TrueStepAnswers.{AreTakenAfter}

-- The lines of true answers to these steps, each Root of which answers the tree's root: all of
-- them, or, where memory was refused, the first, and then the line that says so. Or that line
-- alone, or the tree's start is refused.
pub data WroteTrueTree (limit : ℕ) (u : UnitView) (declared : Map) (steps : List TreeStep)
    (old new : Option (List ℕ)) (status : ℕ) : Type 0 where
  tree_lines : (all : List StepAnswer) (stopped : Bool)
      → AreTrueStepAnswers limit u declared steps all
      → HoldsFrom (tree_view u None)
      (λ v. AreRoots (root_at limit u declared v) steps all
      × AreTurnedFrom limit u declared v steps all) → AreGrowing None steps all
      → AreTakenAfter limit u declared None steps all
      → IsStopped stopped (length all) (length steps)
      → WroteRun old new (step_answers_text all) stopped status
      → WroteTrueTree limit u declared steps old new status
  no_line : Appends old new memory_line → status ≡ 1
      → WroteTrueTree limit u declared steps old new status
  no_tree : (e : Error) → tree_view u None ≡ Err e → Appends old new (error_line (number_of e))
      → status ≡ 1 → WroteTrueTree limit u declared steps old new status
