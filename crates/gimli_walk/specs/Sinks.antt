-- What a sink of answers was told, and what a run told it.
use Rattle.std.specs.Prelude.{◌≡◌, ℕ, Bool, true, false, ◌||◌, List, ◌++◌, map, length, Option}
use Rattle.std.specs.Prelude.{Result, Ok, Err}
use Rattle.std.specs.List.{All, concat, list_any}
use Rattle.std.specs.Io.KnownBytes.{Appends}
use Rattle.gimli_walk.specs.declared.lines.Stop.{Stop}
use Rattle.gimli_walk.specs.declared.lines.Stop.TheVariants.{Memory, Write}
use Rattle.gimli_walk.specs.Lines.{Text}
use Rattle.gimli_walk.specs.Cursors.{IsStopped}

-- answers that code holds were added, which stand for these, and each of which keeps a fact
pub record HasCollected {X T : Type 0} (see : X → T) (Keeps : X → Type 0) (old : List X)
    (answer : List T) (new : List X) : Type 0 where
  pub added : List X
  pub is : new ≡ old ++ added
  pub are : map see added ≡ answer
  pub keep : All Keeps added

-- the lines of these answers were written, and whether one was a refusal is kept
pub record HasLined {T : Type 0} (line : T → List ℕ) (refuses : T → Bool) (old : Option (List ℕ))
    (was : Bool) (answer : List T) (new : Option (List ℕ)) (is : Bool) : Type 0 where
  pub lines : Appends old new (concat (map line answer))
  pub refused : is ≡ (was || list_any refuses answer)

-- the answers that a run over these steps told, before it was stopped or came to its end
pub record AnsweredSteps {T : Type 0} (Run Received : List T → Type 0) (steps : ℕ)
    (stopped : Bool) : Type 0 where
  pub all : List T
  pub are_answered : Received all
  pub runs : Run all
  pub count : IsStopped stopped (length all) steps

-- a run that may be stopped, for memory or, where the sink writes, by a fault
abbrev pub HasAnsweredSteps : {T : Type 0} → (List T → Type 0) → (List T → Type 0) → Bool → ℕ
    → Result (Unit {0}) Stop → Type 0
HasAnsweredSteps Run Received writes steps (Ok u) = AnsweredSteps Run Received steps false
HasAnsweredSteps Run Received writes steps (Err Memory) = AnsweredSteps Run Received steps true
HasAnsweredSteps Run Received writes steps (Err Write) = writes ≡ true

-- the lines of what a run told, and their status, where it was not stopped
abbrev pub HasWrittenSteps : {T : Type 0} → (List T → Type 0) → (List T → Text) → Option (List ℕ)
    → Option (List ℕ) → ℕ → Result ℕ Stop → Type 0
HasWrittenSteps Run text old new steps (Ok status) =
    AnsweredSteps Run
    (λ all. Appends old new (concat (text all).lines) × (status ≡ (text all).status)) steps false
HasWrittenSteps Run text old new steps (Err Memory) =
    AnsweredSteps Run (λ all. Appends old new (concat (text all).lines)) steps true
HasWrittenSteps Run text old new steps (Err Write) = Unit {0}
