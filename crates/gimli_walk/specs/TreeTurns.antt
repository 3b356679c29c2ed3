-- What a step does to a tree, whatever the references, and the answers that come of it.
use Rattle.std.specs.Prelude.{◌≡◌, ℕ, ℤ, Bool, true, false, List, [], ◌∷◌, Option, Result, Err}
use Rattle.gimli_base.specs.declared.error.Error.{Error}
use Rattle.gimli_base.specs.declared.error.Error.TheVariants.{OutOfMemory}
use Rattle.gimli_units.specs.TreePlace.{Lists, StepAnswer, a_node, list_end, has_entered, has_left}
use Rattle.gimli_units.specs.TreePlace.{no_node, a_fault, children_of}
use Rattle.gimli_units.specs.TreeMoves.{TreeView, node_at, HasBegun}
use Rattle.gimli_units.specs.TreeWalker.{Standing, at_none, begun_answer, after_begun, WasAsked}
use Rattle.gimli_units.specs.TreeWalker.{asked_answer, after_asked}
use Rattle.gimli_walk.specs.declared.tree.TreeStep.{TreeStep}
use Rattle.gimli_walk.specs.declared.tree.Word.{Word}
use Rattle.gimli_walk.specs.declared.tree.Word.TheVariants.{End, Entered, Left as LeftWord}
use Rattle.gimli_walk.specs.declared.tree.Word.TheVariants.{NoNode, Fault}
use Rattle.gimli_walk.specs.declared.tree.TreeStep.TheVariants.{Root, Next, Enter, Leave}

-- the root was asked for
pub record HasRooted (limit : ℕ) (old : TreeView) (answer : StepAnswer) (new : Standing)
    : Type 0 where
  pub outcome : Result (Unit {0}) Error
  pub begun : HasBegun limit old outcome new.tree
  pub fine : outcome ≡ Err OutOfMemory → ⊥
  pub is : answer ≡ begun_answer outcome new.tree
  pub stands : new ≡ after_begun outcome new.tree

-- a list was asked for its next node
pub record HasAsked (limit : ℕ) (list : Option ℤ) (outer : Lists) (old : TreeView)
    (answer : StepAnswer) (new : Standing) : Type 0 where
  pub outcome : Result Bool Error
  pub asked : WasAsked limit list old outcome new.tree
  pub fine : outcome ≡ Err OutOfMemory → ⊥
  pub is : answer ≡ asked_answer outcome new.tree
  pub stands : new ≡ after_asked list outer outcome new.tree

-- nothing was there
abbrev pub HasNothing : Standing → StepAnswer → Standing → Type 0
HasNothing old answer new = (answer ≡ no_node) × (new ≡ old)

abbrev pub HasTurned : ℕ → TreeStep → Standing → StepAnswer → Standing → Type 0
HasTurned limit Root old answer new = HasRooted limit old.tree answer new
HasTurned limit Next old answer new = elim old.lists [
  | [] ↦ HasNothing old answer new
  | list ∷ outer ↦ HasAsked limit list outer old.tree answer new
]
HasTurned limit Enter old answer new = elim old.is_on [
  | true ↦ (answer ≡ has_entered)
      × (new ≡ at_none old.tree (children_of (node_at old.tree) ∷ old.lists))
  | false ↦ HasNothing old answer new
]
HasTurned limit Leave old answer new = elim old.lists [
  | [] ↦ HasNothing old answer new
  | list ∷ outer ↦ (answer ≡ has_left) × (new ≡ at_none old.tree outer)
]

-- a step was made, and its answer was told
abbrev pub HasAnsweredTurn : ℕ → TreeStep → Standing → Standing → (List StepAnswer → Type 0)
    → Type 0
HasAnsweredTurn limit step old new IsAnswered =
    (a : StepAnswer) × HasTurned limit step old a new × IsAnswered (a ∷ [])

-- an answer that is no node
abbrev pub word_answer : Word → StepAnswer
word_answer End = list_end
word_answer Entered = has_entered
word_answer LeftWord = has_left
word_answer NoNode = no_node
word_answer (Fault e) = a_fault e

-- where a walker stands on a node, that is the answer
abbrev pub standing_answer : Standing → StepAnswer
standing_answer s = elim s.is_on [ true ↦ a_node (node_at s.tree) | false ↦ list_end ]

-- the first answers to these steps
abbrev pub HasTreeRun : ℕ → Standing → List TreeStep → List StepAnswer → Type 0
HasTreeRun limit s steps [] = Unit {0}
HasTreeRun limit s [] (a ∷ rest) = ⊥
HasTreeRun limit s (step ∷ steps) (a ∷ rest) =
    (new : Standing) × HasTurned limit step s a new × HasTreeRun limit new steps rest
