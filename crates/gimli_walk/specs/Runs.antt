-- The answers of a run: all of them, or the first ones where memory was refused.
use Rattle.std.specs.Prelude.{◌≡◌, ◌<◌, Bool, true, false, List, ◌++◌, map, length}
use Rattle.std.specs.Prelude.{Result, Ok, Err}
use Rattle.gimli_base.specs.declared.error.Error.{Error}
use Rattle.gimli_walk.specs.declared.run.Run.{Run}

-- xs are the first of all
abbrev pub IsFront : {T : Type 0} → List T → List T → Type 0
IsFront {T} xs all = (rest : List T) × (all ≡ xs ++ rest)

-- what a run told, and whether it was stopped
pub record RunAnswers (T : Type 0) : Type 0 where
  pub answers : List T
  pub stopped : Bool

abbrev pub run_of : {T : Type 0} → List T → Bool → RunAnswers T
run_of answers stopped = record { answers = answers; stopped = stopped }

-- what a run that code holds tells, by what its answers stand for
abbrev pub answers_of_run : {X T A : Type 0} → (X → T) → Run X A → RunAnswers T
answers_of_run f run = run_of (map f run.answers.items) run.stopped

-- a run told the first of these answers: fewer where it was stopped, and else all of them
pub record IsRunOf {T : Type 0} (run : RunAnswers T) (all : List T) : Type 0 where
  pub front : IsFront run.answers all
  pub fewer : run.stopped ≡ true → length run.answers < length all
  pub whole : run.stopped ≡ false → run.answers ≡ all

-- a run of answers that may be refused is refused as they are
abbrev pub RunsAs : {T : Type 0} → Result (RunAnswers T) Error → Result (List T) Error → Type 0
RunsAs (Ok run) (Ok all) = IsRunOf run all
RunsAs (Ok run) (Err e) = ⊥
RunsAs (Err x) (Ok all) = ⊥
RunsAs (Err x) (Err e) = x ≡ e
