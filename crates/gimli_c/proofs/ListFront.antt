-- Answers of a list that were written.
use Rattle.std.proofs.Common.{◌≡◌, ℕ, ◌+◌, ◌<◌, ◌≤◌, List, [], ◌∷◌, ◌++◌, map, take, drop, length}
use Rattle.std.proofs.Common.{slice_set, Option, Some, None, Result, Ok, Err, refl, sym, ap, ◌∙◌}
use Rattle.std.proofs.Common.{arith, length-append}
use Rattle.std.proofs.lemmas.List.{length-map, map-append, append-nil, take_all, take-append-le}
use Rattle.std.proofs.lemmas.List.{drop_all}
use Rattle.gimli_base.specs.declared.error.Error.{Error}
use Rattle.gimli_c.specs.Lists.{before_refusal, first_refusal, list_end_status, list_status}
use Rattle.gimli_c.specs.Lists.{IsListed}
use Rattle.gimli_c.specs.Status.{end, row_refused}
use Rattle.gimli_c.proofs.Slots.{slot}

-- these answers before others
abbrev pub before_answers : {X : Type 0} → List X → List (Result X Error) → List (Result X Error)
before_answers [] rest = rest
before_answers (x ∷ xs) rest = Ok x ∷ before_answers xs rest

-- `n` answers were counted, and written as far as there is room
pub record ListFront {X Y : Type 0} (f : X → Y) (start now : List (Result X Error))
    (old new : List Y) (n : ℕ) : Type 0 where
  pub taken : List X
  pub count : length taken ≡ n
  pub ahead : start ≡ before_answers taken now
  pub rows : new ≡ map f (take (length old) taken) ++ drop n old

take_none : {X : Type 0} → (n : ℕ) → ◌≡◌ {A = List X} (take n []) []
take_none {X} n = take_all {A = X} n [] (omega arith)

before-append : {X : Type 0} → (xs : List X) (x : X) (rest : List (Result X Error))
    → before_answers (xs ++ x ∷ []) rest ≡ before_answers xs (Ok x ∷ rest)
before-append [] x rest = refl
before-append (y ∷ ys) x rest = ap (λ t. Ok y ∷ t) (before-append ys x rest)

before-taken : {X : Type 0} → (xs : List X) (rest : List (Result X Error))
    → before_refusal (before_answers xs rest) ≡ xs ++ before_refusal rest
before-taken [] rest = refl
before-taken (x ∷ xs) rest = ap (λ t. x ∷ t) (before-taken xs rest)

refusal-taken : {X : Type 0} → (xs : List X) (rest : List (Result X Error))
    → first_refusal (before_answers xs rest) ≡ first_refusal rest
refusal-taken [] rest = refl
refusal-taken (x ∷ xs) rest = refusal-taken xs rest

module _ {X Y : Type 0} (f : X → Y) where
  -- nothing is written yet
  pub front_none : (start : List (Result X Error)) (old : List Y)
      → ListFront f start start old old 0
  front_none start old =
      record {
        taken = [];
        count = refl;
        ahead = refl;
        rows = ap (λ (t : List X). map f t ++ old) (sym (take_none (length old)));
      }

  module _ (start now rest : List (Result X Error)) (old new : List Y) (n : ℕ) (x : X) where
    -- one more is written
    pub front_written : (y : Y) → ListFront f start now old new n → now ≡ Ok x ∷ rest → n
        < length old → y ≡ f x
        → ListFront f start rest old (slice_set new n y) (n + 1)
    front_written y p is room value =
        let all : take (length old) p.taken ≡ p.taken =
        take_all (length old) p.taken (omega (arith, p.count, room)) in
        let longer : length (p.taken ++ x ∷ []) ≡ n + 1 =
        rw (length-append) (ap (λ k. k + 1) p.count) in
        let more : take (length old) (p.taken ++ x ∷ []) ≡ p.taken ++ x ∷ [] =
        take_all (length old) (p.taken ++ x ∷ []) (omega (arith, longer, room)) in
        let before = rw all at p.rows in
        record {
          taken = p.taken ++ x ∷ [];
          count = longer;
          ahead = p.ahead ∙ ap (before_answers p.taken) is ∙ sym (before-append p.taken x rest);
          rows = ap (λ t. slice_set t n y) before
              ∙ slot (map f p.taken) old n y (length-map p.taken f ∙ p.count) room ∙ rw (
                more,
                map-append,
                value,
              ) refl;
        }

    -- one more is counted, for which there is no room
    pub front_counted : ListFront f start now old new n → now ≡ Ok x ∷ rest → length old ≤ n
        → ListFront f start rest old new (n + 1)
    front_counted p is full =
        let longer : length (p.taken ++ x ∷ []) ≡ n + 1 =
        rw (length-append) (ap (λ k. k + 1) p.count) in
        let same : take (length old) (p.taken ++ x ∷ []) ≡ take (length old) p.taken =
        take-append-le (length old) p.taken (x ∷ []) (omega (arith, p.count, full)) in
        let none : drop n old ≡ [] = drop_all n old full in
        let none_more : drop (n + 1) old ≡ [] = drop_all (n + 1) old (omega (arith, full)) in
        record {
          taken = p.taken ++ x ∷ [];
          count = longer;
          ahead = p.ahead ∙ ap (before_answers p.taken) is ∙ sym (before-append p.taken x rest);
          rows = p.rows ∙ rw (none, none_more, same) refl;
        }

  module _ (start now : List (Result X Error)) (old new : List Y) (n : ℕ)
      (p : ListFront f start now old new n) where
    outcome : (last : Option Error) → before_refusal now ≡ [] → first_refusal now ≡ last
        → IsListed f start old new n (list_status (length old) n (list_end_status last))
    outcome last none refusal =
        let all : before_refusal start ≡ p.taken =
        ap before_refusal p.ahead ∙ before-taken p.taken now ∙ rw (none, append-nil) refl in
        let ends : first_refusal start ≡ last = ap first_refusal p.ahead ∙ refusal-taken p.taken now
        ∙ refusal in
        record {
          rows = rw all p.rows;
          whole = rw all (sym p.count);
          status_is = rw ends refl;
        }

    -- the list ends
    pub list_ended : now ≡ [] → IsListed f start old new n (list_status (length old) n end)
    list_ended is = outcome None (ap before_refusal is) (ap first_refusal is)

    -- the next answer is a refusal
    pub list_refused : (e : Error) (rest : List (Result X Error)) → now ≡ Err e ∷ rest
        → IsListed f start old new n (list_status (length old) n (row_refused e))
    list_refused e rest is = outcome (Some e) (ap before_refusal is) (ap first_refusal is)
