-- What a run has told, answer by answer.
use Rattle.std.proofs.Common.{◌≡◌, ℕ, ◌+◌, ◌<◌, ◌++◌, Bool, true, false, List, [], ◌∷◌, map, length}
use Rattle.std.proofs.Common.{length-append, Result, Ok, Err, refl, ap, ◌∙◌, append_assoc, arith}
use Rattle.std.proofs.lemmas.List.{append-nil, length-map}
use Rattle.std.proofs.lemmas.List.Elements.{All-cons, All-nil}
use Rattle.std.specs.List.{All}
use Rattle.std.specs.Result.{is_err}
use Rattle.gimli_walk.specs.declared.lines.Stop.{Stop}
use Rattle.gimli_walk.specs.declared.lines.Stop.TheVariants.{Memory, Write}
use Rattle.gimli_walk.specs.Cursors.{IsStopped}
use Rattle.gimli_walk.specs.Sinks.{HasCollected, AnsweredSteps, HasAnsweredSteps}

-- What a run has told so far: whatever is answered to the steps that are left completes it.
pub record AnsweredSoFar {T : Type 0} (Run Left Received : List T → Type 0) (index : ℕ) : Type 0 where
  pub all : List T
  pub are_answered : Received all
  pub completes : (rest : List T) → Left rest → Run (all ++ rest)
  pub count : length all ≡ index

module _ {T : Type 0} (Run : List T → Type 0) where
  pub so_far_none : (Received : List T → Type 0) → Received [] → AnsweredSoFar Run Run Received 0
  so_far_none Received h = record { all = []; are_answered = h; completes = λ rest run. run; count = refl }

  -- one more answer is told
  pub so_far_more : (Left Next Received After : List T → Type 0) (i : ℕ) (a : T)
      → (so : AnsweredSoFar Run Left Received i) → ((rest : List T) → Next rest → Left (a ∷ rest))
      → After (so.all ++ a ∷ [])
      → AnsweredSoFar Run Next After (i + 1)
  so_far_more Left Next Received After i a so next h = record {
    all = so.all ++ a ∷ [];
    are_answered = h;
    completes = λ rest run.
        rw (append_assoc so.all (a ∷ []) rest) (so.completes (a ∷ rest) (next rest run));
    count = let n = so.count in omega (arith, n, length-append so.all (a ∷ []));
  }

  -- the run comes to its end
  pub so_far_whole : (Left Received : List T → Type 0) (i steps : ℕ) → AnsweredSoFar Run Left Received i
      → Left [] → i ≡ steps → AnsweredSteps Run Received steps false
  so_far_whole Left Received i steps so none is =
      record {
        all = so.all;
        are_answered = so.are_answered;
        runs = rw (append-nil so.all) at (so.completes [] none);
        count = so.count ∙ is;
      }

  -- the run is stopped
  pub so_far_stopped : (Left Received After : List T → Type 0) (i steps : ℕ)
      → (so : AnsweredSoFar Run Left Received i) → Left [] → i < steps → After so.all
      → AnsweredSteps Run After steps true
  so_far_stopped Left Received After i steps so none lt h =
      record {
        all = so.all;
        are_answered = h;
        runs = rw (append-nil so.all) at (so.completes [] none);
        count = let n = so.count in omega (arith, n, lt);
      }

  -- the same by why it is stopped
  pub so_far_refused : (Left Received After : List T → Type 0) (writes : Bool) (i steps : ℕ) (s : Stop)
      → (so : AnsweredSoFar Run Left Received i) → Left [] → i < steps
      → (s ≡ Memory → After so.all) → (s ≡ Write → writes ≡ true)
      → HasAnsweredSteps Run After writes steps (Err s)
  so_far_refused Left Received After writes i steps Memory so none lt h fault =
      so_far_stopped Left Received After i steps so none lt (h refl)
  so_far_refused Left Received After writes i steps Write so none lt h fault = fault refl

module _ {X T : Type 0} (see : X → T) (Keeps : X → Type 0) where
  -- one answer is collected
  pub collected_one : (xs new : List X) (x : X) (a : T) → new ≡ xs ++ x ∷ [] → see x ≡ a → Keeps x
      → HasCollected see Keeps xs (a ∷ []) new
  collected_one xs new x a is seen_is keeps =
      record {
        added = x ∷ [];
        is = is;
        are = ap (λ y. y ∷ []) seen_is;
        keep = All-cons Keeps x [] keeps (All-nil Keeps);
      }

  -- what was collected from no answer on
  pub collected_all : (Run : List T → Type 0) (steps : ℕ) (none items : List X) (stopped : Bool)
      (r : Result (Unit {0}) Stop)
      → none ≡ [] → stopped ≡ is_err r
      → HasAnsweredSteps Run (λ all. HasCollected see Keeps none all items) false steps r
      → Run (map see items) × All Keeps items × IsStopped stopped (length items) steps
  collected_all Run steps none items stopped r empty is h = cases r is h
    where
      parts : (stop : Bool) → stopped ≡ stop
          → AnsweredSteps Run (λ all. HasCollected see Keeps none all items) steps stop
          → Run (map see items) × All Keeps items × IsStopped stopped (length items) steps
      parts stop same answer =
          let some = answer.are_answered in
          let one : items ≡ some.added = some.is ∙ ap (λ l. l ++ some.added) empty in
          let seen_all : map see items ≡ answer.all = ap (map see) one ∙ some.are in
          let as_many : length items
          ≡ length answer.all =
          (let k = length-map items see in let l = ap length seen_all in omega (arith, k, l)) in
          (rw seen_all answer.runs, rw one some.keep, rw (same, as_many) answer.count)

      cases : (q : Result (Unit {0}) Stop) → stopped ≡ is_err q
          → HasAnsweredSteps Run (λ all. HasCollected see Keeps none all items) false steps q
          → Run (map see items) × All Keeps items × IsStopped stopped (length items) steps
      cases (Ok u) same answer = parts false same answer
      cases (Err Memory) same answer = parts true same answer
      cases (Err Write) same answer = absurd (cc)
