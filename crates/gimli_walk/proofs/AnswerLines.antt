-- The lines of a run, as a text.
use Rattle.std.proofs.Common.{◌≡◌, ℕ, ◌≤◌, ◌++◌, Bool, true, false, List, [], ◌∷◌, length, map}
use Rattle.std.proofs.Common.{take, Option, None, Result, Ok, Err, refl, sym, ap, ◌∙◌, inl}
use Rattle.std.specs.Prelude.{IfOk}
use Rattle.std.specs.List.{concat}
use Rattle.std.specs.Io.KnownBytes.{Appends}
use Rattle.std.proofs.lemmas.List.{length-map, map-append}
use Rattle.gimli_base.specs.declared.error.Error.{Error}
use Rattle.gimli_base.specs.View.{View}
use Rattle.gimli_base.specs.Abbreviations.{Map}
use Rattle.gimli_units.specs.Unit.{UnitView, whole_length}
use Rattle.gimli_walk.specs.declared.cursor.CursorStep.{CursorStep}
use Rattle.gimli_base.specs.Table.{Table, codes_of}
use Rattle.gimli_units.specs.CursorModel.{CursorView}
use Rattle.gimli_units.specs.CursorStart.{cursor_of}
use Rattle.gimli_walk.specs.Runs.{run_of, IsRunOf, RunsAs}
use Rattle.gimli_walk.specs.Lines.{WroteRun, memory_line}
use Rattle.gimli_walk.specs.CursorTurns.{HasRun}
use Rattle.gimli_walk.specs.Sinks.{AnsweredSteps}
use Rattle.gimli_units.specs.UnitRows.{IsHonestAt}
use Rattle.gimli_walk.specs.Cursors.{Answer, answers_at, answers_text, answer_line, status_of}
use Rattle.gimli_walk.specs.Cursors.{run_answers, any_sibling, HoldsFrom, IsStopped, IsCut}
use Rattle.gimli_walk.specs.Text.{Wrote, all_lines, some_lines, WroteSteps, WroteTrue}
use Rattle.gimli_walk.proofs.WrittenLines.{Appends-trans}
use Rattle.gimli_walk.proofs.AnswerTruth.{run_from}

pub take_front : {T : Type 0} → (xs ys : List T) → take (length xs) (xs ++ ys) ≡ xs
take_front [] [] = refl
take_front [] (y ∷ ys) = refl
take_front (x ∷ xs) ys = ap (λ l. x ∷ l) (take_front xs ys)

pub is_cut : (stopped : Bool) (count steps : ℕ) → IsStopped stopped count steps
    → IsCut stopped count steps
is_cut true count steps h = inl h
is_cut false count steps h = h

-- the lines of a run are those of all answers, or some from the front
pub run_wrote : {X : Type 0}
    → (line : X → List ℕ) (status_by : List X → ℕ) (old new : Option (List ℕ)) (xs all : List X)
    (stopped : Bool) (status : ℕ) → IsRunOf (run_of xs stopped) all
    → WroteRun old new (record { lines = map line xs; status = status_by xs }) stopped status
    → Wrote old new (record { lines = map line all; status = status_by all }) status
run_wrote line status_by old new xs all false status run h =
    rw (← run.whole refl) (all_lines h.0 h.1)
run_wrote {X} line status_by old new xs all true status run h =
    let rest = run.front.0 in
    let lines : take (length xs) (map line all) ≡ map line xs =
    ap (λ (l : List X). take (length xs) (map line l)) run.front.1
    ∙ ap (take (length xs)) (map-append line xs rest)
    ∙ ap (λ n. take n (map line xs ++ map line rest)) (sym (length-map xs line))
    ∙ take_front (map line xs) (map line rest) in
    some_lines (length xs) (rw (length-map all line) (run.fewer refl)) (rw lines h.0) h.1

-- the text of a run from the first entry of a unit on
pub run_text : (limit : ℕ) (u : UnitView) (declared : Map) (steps : List CursorStep)
    (old new : Option (List ℕ)) (xs : List Answer) (stopped : Bool) (status : ℕ)
    → RunsAs (Ok (run_of xs stopped)) (run_answers limit u declared None steps)
    → WroteRun old new (answers_text xs) stopped status
    → Wrote old new (answers_text (answers_at limit u declared steps u.entries)) status
run_text limit u declared steps old new xs stopped status runs h =
    run_wrote answer_line status_of old new xs (answers_at limit u declared steps u.entries) stopped
    status runs h

-- what follows from an answer's fact follows of the answer
pub if_ok : {E : Type 0} {P Q : ℕ → Type 0} → (r : Result ℕ E) → ((n : ℕ) → P n → Q n) → IfOk r P
    → IfOk r Q
if_ok (Ok n) f p = f n p
if_ok (Err e) f p = p

-- two facts of a start are one
pub both_from : (P Q : View → Type 0) (r : Result View Error) → HoldsFrom r P → HoldsFrom r Q
    → HoldsFrom r (λ v. P v × Q v)
both_from P Q (Ok v) p q = (p, q)
both_from P Q (Err e) p q = p

module _ (limit : ℕ) (u : UnitView) (follows : Bool) (steps : List CursorStep)
    (old new : Option (List ℕ)) where
  -- what a run from the first entry on told was written
  pub answer_wrote : (t : Table) (c : CursorView) (status : ℕ)
      → length u.entries.bytes ≤ whole_length u → c ≡ cursor_of u t follows
      → AnsweredSteps (HasRun limit c steps)
      (λ all. Appends old new (concat (map answer_line all)) × (status ≡ status_of all))
      (length steps) false → WroteSteps limit u (codes_of t) follows steps old new status
  answer_wrote t c status fits is answer = record {
    run = run_of answer.all false;
    answer = run_from limit u t follows None steps answer.all false (length answer.all) c fits (ap Ok is)
        answer.runs refl answer.count;
    written = answer.are_answered;
  }

  -- and then the line that says that memory was refused
  pub answer_stopped : (t : Table) (c : CursorView) (mid : Option (List ℕ))
      → length u.entries.bytes ≤ whole_length u → c ≡ cursor_of u t follows
      → AnsweredSteps (HasRun limit c steps) (λ all. Appends old mid (concat (map answer_line all)))
      (length steps) true → Appends mid new memory_line
      → WroteSteps limit u (codes_of t) follows steps old new 1
  answer_stopped t c mid fits is answer h = record {
    run = run_of answer.all true;
    answer = run_from limit u t follows None steps answer.all true (length answer.all) c fits (ap Ok is)
        answer.runs refl answer.count;
    written = (
      Appends-trans old mid new (concat (map answer_line answer.all)) memory_line answer.are_answered h,
      refl,
    );
  }

  module _ {E : Type 0} (declared : Map) (r : Result ℕ E) where
    -- the lines are those of the definition's answers, where the run's are
    pub steps_text : (follows ≡ true → any_sibling steps ≡ true
        → IsHonestAt limit u declared u.entries)
        → IfOk r (λ status. WroteSteps limit u declared follows steps old new status)
        → IfOk r
        (λ status. Wrote old new (answers_text (answers_at limit u declared steps u.entries))
        status)
    steps_text honest h =
        if_ok r
        (λ status w. run_text limit u declared steps old new w.run.answers w.run.stopped status
        (w.answer.answers honest) w.written) h

    pub steps_true : IfOk r (λ status. WroteSteps limit u declared follows steps old new status)
        → IfOk r (λ status. WroteTrue limit u declared follows steps old new status)
    steps_true h = if_ok r (λ status w. record {
      all = w.run.answers;
      stopped = w.run.stopped;
      count = is_cut w.run.stopped _ _ w.answer.stopped;
      are_true = w.answer.are_true;
      are_stepped = w.answer.are_stepped;
      are_taken = w.answer.are_taken;
      written = w.written;
    }) h
