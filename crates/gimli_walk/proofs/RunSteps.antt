-- A run over an iterator whose items are those of a list is a run of the list.
use Rattle.std.specs.Prelude.{◌≡◌, ◌<◌, Bool, true, false, List, [], ◌∷◌, ◌++◌, map, length, Option}
use Rattle.std.specs.Prelude.{None, Some, MatchOption}
use Rattle.std.specs.Iterator.{Yields, Drains}
use Rattle.std.proofs.Common.{sym, ap, ◌∙◌, arith, length-append}
use Rattle.std.proofs.lemmas.List.{append-nil, length-map}
use Rattle.gimli_walk.specs.Runs.{IsFront, IsRunOf, run_of}

-- an iterator whose items are the first of a list, one by one, until the list has none
module _ {S A B : Type 0} (steps : S → Option A → S → Type 0) (view : A → B) (left : S → List B)
    (first : (s : S) (r : Option A) (t : S) → steps s r t
    → MatchOption r (left s ≡ []) (λ x. left s ≡ view x ∷ left t)) where
  yielded : (s : S) (xs : List A) (t : S) → Yields steps s xs t → left s ≡ map view xs ++ left t
  yielded s [] t h = ap left h
  yielded s (x ∷ xs) t h = first s (Some x) h.0 h.1 ∙ ap (λ ys. view x ∷ ys) (yielded h.0 xs t h.2)

  -- what was yielded is a front of the list
  pub front-from_yields : (s : S) (xs : List A) → ((t : S) × Yields steps s xs t)
      → IsFront (map view xs) (left s)
  front-from_yields s xs h = (left h.0, yielded s xs h.0 h.1)

  -- what an iterator yields up to its end is the list
  pub whole-from_drains : (s : S) (xs : List A) → Drains steps s xs → map view xs ≡ left s
  whole-from_drains s xs h =
      let last = h.1 in
      sym
      (yielded s xs last.0 last.1 ∙ ap (λ ys. map view xs ++ ys) (first last.0 None h.0 last.2)
      ∙ append-nil (map view xs))

  -- what was yielded before the last item is fewer
  fewer-from_yields : (s : S) (xs : List A) → ((x : A) × (t : S) × Yields steps s (xs ++ x ∷ []) t)
      → length (map view xs) < length (left s)
  fewer-from_yields s xs (x, t, h) =
      let is = ap length (yielded s (xs ++ x ∷ []) t h) in
      let all = length-append (map view (xs ++ x ∷ [])) (left t) in
      omega (
        arith,
        is,
        all,
        length-map (xs ++ x ∷ []) view,
        length-map xs view,
        length-append xs (x ∷ []),
      )

  -- a run over such an iterator
  pub run-from_yields : (s : S) (xs : List A) (stopped : Bool) → ((t : S) × Yields steps s xs t)
      → (stopped ≡ true → ((x : A) × (t : S) × Yields steps s (xs ++ x ∷ []) t))
      → (stopped ≡ false → Drains steps s xs) → IsRunOf (run_of (map view xs) stopped) (left s)
  run-from_yields s xs stopped front fewer whole =
      record {
        front = front-from_yields s xs front;
        fewer = λ k. fewer-from_yields s xs (fewer k);
        whole = λ k. whole-from_drains s xs (whole k);
      }
