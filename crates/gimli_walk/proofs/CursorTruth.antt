-- What the answers of a run are where the rows are honest: the definition's.
use Rattle.std.proofs.Common.{◌≡◌, ℕ, suc, ◌<◌, ◌≤◌, ◌++◌, ℤ, pos, Bool, true, false, List, [], ◌∷◌}
use Rattle.std.proofs.Common.{length, length-append, Option, Some, None, Result, Ok, Err, refl, sym}
use Rattle.std.proofs.Common.{ap, ◌∙◌, arith}
use Rattle.std.specs.Prelude.{◌||◌}
use Rattle.gimli_base.specs.declared.error.Error.{Error}
use Rattle.gimli_base.specs.declared.error.Error.TheVariants.{OutOfMemory}
use Rattle.gimli_base.specs.Reading.{UnlessMemory}
use Rattle.gimli_base.specs.Table.{Table, codes_of}
use Rattle.std.proofs.lemmas.List.{append-nil}
use Rattle.gimli_base.specs.Offset.{answer_of}
use Rattle.gimli_base.specs.View.{View}
use Rattle.gimli_units.specs.RawPlace.{RawPlace}
use Rattle.gimli_units.specs.Unit.{UnitView, whole_length, range_from, entries_in, entries_from}
use Rattle.gimli_units.specs.CursorStart.{before_first, raw_start, cursor_start}
use Rattle.gimli_units.specs.CursorPlace.{Place, Moved, some_of, next_offset}
use Rattle.gimli_units.specs.CursorModel.{CursorView, rows_of, place_of, Goes}
use Rattle.gimli_units.proofs.CursorLaw.{StandsIn, start_stands}
use Rattle.gimli_units.specs.CursorModel.{IsHonestCursor}
use Rattle.gimli_units.proofs.PlaceLaw.{honest_start, offset_is, depth_is}
use Rattle.gimli_units.proofs.PlaceLaw.{honest_for, honest_next, honest_dfs, honest_sibling}
use Rattle.gimli_walk.specs.declared.cursor.CursorStep.{CursorStep}
use Rattle.gimli_walk.specs.declared.cursor.CursorStep.TheVariants.{NextEntry, NextDfs, NextSibling}
use Rattle.gimli_walk.specs.Runs.{IsFront, run_of, IsRunOf, RunsAs}
use Rattle.gimli_units.specs.UnitRows.{unit_rows_at, start_view, IsHonestFrom}
use Rattle.gimli_walk.specs.Cursors.{Answer, step_of, answer_of_move, answers, start_of, answers_at}
use Rattle.gimli_walk.specs.Cursors.{run_answers, IsStopped, is_sibling, any_sibling}
use Rattle.gimli_walk.specs.CursorTurns.{answer_at, HasRun}

pub unless_fine : {A P : Type 0} → (r : Result A Error) → UnlessMemory r P
    → (r ≡ Err OutOfMemory → ⊥) → P
unless_fine (Ok a) p fine = p
unless_fine (Err e) p fine = p (λ m. fine (ap Err m))

or_first : (a b : Bool) → a ≡ true → (a || b) ≡ true
or_first true b h = refl
or_first false b h = absurd (cc)

or_second : (a b : Bool) → b ≡ true → (a || b) ≡ true
or_second true b h = refl
or_second false b h = h

module _ (limit : ℕ) where
  -- a step from honest rows leads to honest rows
  honest_step : (s : CursorStep) (c new : CursorView) (outcome : Result Bool Error)
      → new.raw.end ≡ c.raw.end → IsHonestCursor limit c
      → Goes limit (step_of c.raw.end s) c outcome new → IsHonestCursor limit new
  honest_step NextEntry c new outcome same h is = honest_next limit c new outcome same h is
  honest_step NextDfs c new outcome same h is = honest_dfs limit c new outcome same h is
  honest_step NextSibling c new outcome same h is = honest_sibling limit c new outcome same h is

  -- the answer of a step tells where the cursor stands
  pub seen_at : (outcome : Result Bool Error) (new : CursorView)
      → answer_at outcome new
      ≡ answer_of_move (record { outcome = outcome; place = place_of limit new })
  seen_at outcome new =
      let f : ℕ → ℤ → Answer = λ o d.
      record {
        outcome = outcome;
        current = some_of new.entry;
        offset = new.offset;
        depth = new.depth;
        next_offset = o;
        next_depth = d;
      } in
      ap (λ o. f o new.raw.depth) (offset_is limit new.raw)
      ∙ ap (λ d. f (next_offset (rows_of limit new.raw)) d) (depth_is limit new.raw)

  -- the answer of a step is that of the place
  pub answer_is : (s : CursorStep) (c new : CursorView) (outcome : Result Bool Error)
      → Goes limit (step_of c.raw.end s) c outcome new
      → answer_at outcome new ≡ answer_of_move (step_of c.raw.end s (place_of limit c))
  answer_is s c new outcome is = seen_at outcome new ∙ ap answer_of_move is

  -- where the rows are honest, if any step looks for a sibling, a run gives the first of the
  -- definition's answers
  pub run_front : (steps : List CursorStep) (c : CursorView) (all : List Answer)
      → HasRun limit c steps all
      → (any_sibling steps ≡ true → c.follows ≡ true → IsHonestCursor limit c)
      → IsFront all (answers c.raw.end steps (place_of limit c))
  run_front [] c [] run honest = ([], refl)
  run_front [] c (a ∷ all) run honest = absurd run
  run_front (s ∷ steps) c [] run honest = (answers c.raw.end (s ∷ steps) (place_of limit c), refl)
  run_front (s ∷ steps) c (a ∷ all) (new, answered, more) honest =
      let step = answered.step in
      let goes = unless_fine a.outcome
      (step.moves
      (λ is follows. honest_for limit c
      (honest (or_first (is_sibling s) (any_sibling steps) is) follows))) answered.fine in
      let after : any_sibling steps ≡ true → new.follows ≡ true
      → IsHonestCursor limit new =
      λ any follows. honest_step s c new a.outcome step.unit.end
      (honest (or_second (is_sibling s) (any_sibling steps) any)
      (sym step.unit.follows ∙ follows)) goes in
      let rest = run_front steps new all more after in
      let first : a ≡ answer_of_move (step_of c.raw.end s (place_of limit c)) = answered.is
      ∙ answer_is s c new a.outcome goes in
      let place : place_of limit new
      ≡ (step_of c.raw.end s (place_of limit c)).place = ap (λ (m : Moved). m.place) goes in
      let others : answers c.raw.end steps (step_of c.raw.end s (place_of limit c)).place
      ≡ answers new.raw.end steps (place_of limit new) =
      ap (answers c.raw.end steps) (sym place)
      ∙ ap (λ (e : ℕ). answers e steps (place_of limit new)) (sym step.unit.end) in (
        rest.0,
        ap (λ xs. answer_of_move (step_of c.raw.end s (place_of limit c)) ∷ xs) (others ∙ rest.1)
            ∙ ap (λ x. x ∷ (all ++ rest.0)) (sym first),
      )

-- there is an answer to each step
pub answers_length : (end : ℕ) (steps : List CursorStep) (p : Place)
    → length (answers end steps p) ≡ length steps
answers_length end [] p = refl
answers_length end (s ∷ steps) p = ap suc (answers_length end steps (step_of end s p).place)

-- a front of the same length is the whole
pub front_whole : {T : Type 0} → (xs all : List T) → IsFront xs all → length xs ≡ length all
    → xs ≡ all
front_whole {T} xs all (rest, is) same = cases rest is
  where
    cases : (rest : List T) → all ≡ xs ++ rest → xs ≡ all
    cases [] is = sym (is ∙ append-nil xs)
    cases (x ∷ rest) is =
        absurd (let long = ap length is ∙ length-append xs (x ∷ rest) in omega (arith, long, same))

-- the first of answers that are as many as the steps are a run of them, by how it ended
pub run_of_front : {T : Type 0} → (xs all : List T) (stopped : Bool) (count steps : ℕ)
    → IsFront xs all → count ≡ length xs → length all ≡ steps → IsStopped stopped count steps
    → IsRunOf (run_of xs stopped) all
run_of_front xs all true count steps front counted long stop =
    record {
      front = front;
      fewer = λ k. omega (arith, counted, long, stop);
      whole = λ k. absurd (cc);
    }
run_of_front xs all false count steps front counted long stop =
    record {
      front = front;
      fewer = λ k. absurd (cc);
      whole = λ k. front_whole xs all front (sym counted ∙ stop ∙ sym long);
    }

-- the place that a cursor starts from is that of a view of the unit
pub start_is : (u : UnitView) (t : Table) (start : Option ℕ) (p : RawPlace)
    → Ok p ≡ raw_start u t start
    → (v : View) × (start_view u start ≡ Ok v)
    × (p
    ≡ record {
      rest = v;
      encoding = u.encoding;
      abbreviations = t;
      end = whole_length u;
      depth = pos 0;
    })
unfolding entries_from
start_is u t None p is = (u.entries, refl, cc)
start_is u t (Some o) p is = cases (range_from u o) is
  where
    cases : (r : Result View Error) → Ok p ≡ entries_in u t r
        → (v : View) × (r ≡ Ok v)
        × (p
        ≡ record {
          rest = v;
          encoding = u.encoding;
          abbreviations = t;
          end = whole_length u;
          depth = pos 0;
        })
    cases (Ok v) e = (v, refl, cc)
    cases (Err x) e = absurd (cc)

module _ (limit : ℕ) (u : UnitView) (t : Table) (start : Option ℕ) (steps : List CursorStep) where
  -- a run of a cursor gives the first of the definition's answers
  pub run_as : (follows : Bool) (c : CursorView) (all : List Answer) (stopped : Bool) (count : ℕ)
      → Ok c ≡ cursor_start u t follows start → HasRun limit c steps all
      → count ≡ length all → IsStopped stopped count (length steps)
      → (any_sibling steps ≡ true → follows ≡ true
      → IsHonestFrom limit u (codes_of t) (start_view u start))
      → RunsAs (Ok (run_of all stopped)) (run_answers limit u (codes_of t) start steps)
  run_as follows c all stopped count begins run counted stop honest =
      cases (raw_start u t start) refl begins
    where
      cases : (r : Result RawPlace Error) → r ≡ raw_start u t start
          → Ok c ≡ answer_of (before_first follows) r
          → RunsAs (Ok (run_of all stopped)) (run_answers limit u (codes_of t) start steps)
      cases (Err x) is e = absurd (cc)
      cases (Ok p) is e =
          let one : c ≡ before_first follows p = cc in
          let s = start_is u t start p is in
          let at : c ≡ before_first follows
          (record {
            rest = s.0;
            encoding = u.encoding;
            abbreviations = t;
            end = whole_length u;
            depth = pos 0;
          }) = one ∙ ap (before_first follows) s.2 in
          let run_at = rw at at run in
          let honest_at = rw s.1 at honest in
          let front : IsFront all (answers_at limit u (codes_of t) steps s.0) =
          run_front limit steps _ all run_at
          (λ any f. honest_start limit _ refl (honest_at any f)) in
          let p0 : Place = start_of (unit_rows_at limit u (codes_of t) (pos 0) s.0) in
          rw s.1
          (run_of_front all (answers_at limit u (codes_of t) steps s.0) stopped count
          (length steps) front counted (answers_length (whole_length u) steps p0) stop)

  -- and it is refused where they are
  pub run_refused : (follows : Bool) (e : Error) → Err e ≡ cursor_start u t follows start
      → RunsAs (Err e) (run_answers limit u (codes_of t) start steps)
  unfolding entries_from
  run_refused follows e is = first start is
    where
      range : (r : Result View Error) → Err e ≡ answer_of (before_first follows) (entries_in u t r)
          → RunsAs (Err e) (answer_of (answers_at limit u (codes_of t) steps) r)
      range (Ok v) k = absurd (cc)
      range (Err x) k = cc

      first : (o : Option ℕ) → Err e ≡ cursor_start u t follows o
          → RunsAs (Err e) (run_answers limit u (codes_of t) o steps)
      first None k = absurd (cc)
      first (Some o) k = at_offset o k
        where
          at_offset : (o : ℕ) → Err e ≡ cursor_start u t follows (Some o)
              → RunsAs (Err e) (run_answers limit u (codes_of t) (Some o) steps)
          at_offset o k = range (range_from u o) k

  pub start_refused : (follows : Bool) (e : Error) → Err e ≡ cursor_start u t follows start
      → start_view u start ≡ Err e
  unfolding entries_from
  start_refused follows e is = first start is
    where
      range : (r : Result View Error) → Err e ≡ answer_of (before_first follows) (entries_in u t r)
          → r ≡ Err e
      range (Ok v) k = absurd (cc)
      range (Err x) k = cc

      first : (o : Option ℕ) → Err e ≡ cursor_start u t follows o → start_view u o ≡ Err e
      first None k = absurd (cc)
      first (Some o) k = range (range_from u o) k

  -- a cursor stands in its unit from the first
  pub start_in : (follows : Bool) (c : CursorView) → length u.entries.bytes ≤ whole_length u
      → Ok c ≡ cursor_start u t follows start → StandsIn u t c × (c.follows ≡ follows)
  start_in follows c fits begins = cases (raw_start u t start) refl begins
    where
      cases : (r : Result RawPlace Error) → r ≡ raw_start u t start
          → Ok c ≡ answer_of (before_first follows) r → StandsIn u t c × (c.follows ≡ follows)
      cases (Err x) is e = absurd (cc)
      cases (Ok p) is e =
          let one : c ≡ before_first follows p = cc in
          rw one (start_stands u t follows start p fits is, refl)

-- how a run ended
pub stopped_is : (stopped : Bool) (count steps : ℕ) → (stopped ≡ true → count < steps)
    → (stopped ≡ false → count ≡ steps) → IsStopped stopped count steps
stopped_is true count steps some all = some refl
stopped_is false count steps some all = all refl
