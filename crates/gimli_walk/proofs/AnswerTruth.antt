-- What the answers of a run are whatever the references: true, and each that of its step from the
-- place after the one before.
use Rattle.std.proofs.Common.{◌≡◌, ℕ, ◌-◌, ◌≤◌, pos, Bool, true, false, List, [], ◌∷◌, length}
use Rattle.std.proofs.Common.{Option, Some, None, Result, Ok, Err, inl, inr, ◌⊎◌, refl, sym, ap}
use Rattle.std.proofs.Common.{◌∙◌, subst, arith, add-zero}
use Rattle.std.specs.Prelude.{◌&&◌, nat_le, if◌then◌else◌}
use Rattle.std.proofs.lemmas.Bool.{leb-true}
use Rattle.gimli_base.specs.declared.error.Error.{Error}
use Rattle.gimli_base.specs.Table.{Table, codes_of}
use Rattle.gimli_base.proofs.Both.{both}
use Rattle.gimli_base.specs.Offset.{answer_of}
use Rattle.gimli_base.specs.View.{View, cut}
use Rattle.gimli_units.specs.Entry.{Entry, is_null}
use Rattle.gimli_units.specs.RawPlace.{RawPlace, next_offset_of}
use Rattle.gimli_units.specs.Rows.{Ahead, ahead_at, offset_of_view}
use Rattle.gimli_units.specs.Unit.{UnitView, whole_length, entries_of}
use Rattle.gimli_units.specs.CursorStart.{before_first, raw_start, cursor_start}
use Rattle.gimli_units.specs.Kind.{kind_of}
use Rattle.gimli_units.specs.Honest.{IsHonest, AreHonestUntil, target, within, usable_target}
use Rattle.gimli_units.specs.CursorPlace.{Place, some_of, next_of_depth, first_of_rows}
use Rattle.gimli_units.specs.CursorModel.{CursorView, next_of, rows_of, rows_from, view_from}
use Rattle.gimli_units.specs.CursorModel.{place_of, last_row, followed_to, IsHonestFor, IsTrueEntry}
use Rattle.gimli_units.specs.CursorModel.{IsNotFound, IsOver}
use Rattle.gimli_units.proofs.CursorLaw.{StandsIn, step_stands, unit_rows, entry_law, null_law}
use Rattle.gimli_units.proofs.CursorLaw.{refusal_law}
use Rattle.gimli_units.proofs.TreeLaw.{unit_bytes}
use Rattle.gimli_units.specs.TreePlace.{Node}
use Rattle.gimli_units.proofs.PlaceLaw.{offset_is}
use Rattle.gimli_walk.specs.declared.cursor.CursorStep.{CursorStep}
use Rattle.gimli_walk.specs.declared.cursor.CursorStep.TheVariants.{NextEntry, NextDfs, NextSibling}
use Rattle.gimli_walk.specs.Runs.{run_of, RunsAs}
use Rattle.gimli_units.specs.UnitRows.{unit_rows_at, start_view, IsHonestFrom}
use Rattle.gimli_walk.specs.Cursors.{Answer, step_of, answer_of_move, start_of, answers_at}
use Rattle.gimli_walk.specs.Cursors.{HoldsFrom}
use Rattle.gimli_walk.specs.Cursors.{IsStopped, is_sibling, any_sibling}
use Rattle.gimli_walk.specs.TrueAnswers.{IsAfterEntry, IsTrueAnswer, AreTrueAnswers, place_after}
use Rattle.gimli_walk.specs.TrueAnswers.{IsHonestBeside, IsNoSibling, a_null, at_end, IsStepped}
use Rattle.gimli_walk.specs.TrueAnswers.{AreStepped, usable_of, IsTaken, AreTakenFrom, AreTaken}
use Rattle.gimli_walk.specs.TrueAnswers.{IsRunFrom}
use Rattle.gimli_walk.specs.CursorTurns.{answer_at, HasAnswered, HasRun}
use Rattle.gimli_walk.proofs.CursorTruth.{unless_fine, seen_at, answer_is, start_is, start_in}
use Rattle.gimli_walk.proofs.CursorTruth.{start_refused, run_as}

-- what is read next stands at the next offset
pub here_is : (p : RawPlace) → view_from p (next_offset_of p) ≡ p.rest
here_is p = let none : next_offset_of p - next_offset_of p ≡ 0 = omega arith in
    ap (λ n. cut n p.rest) none ∙ rw add-zero refl

-- where a reference leads is not before what is after its row
pub low_bound : (low high : ℕ) (o : Option ℕ) (to : ℕ) → within low high o ≡ Some to → low ≤ to
low_bound low high None to is = absurd (cc)
low_bound low high (Some x) to is = cases (nat_le low x && nat_le x high) refl is
  where
    cases : (b : Bool) → (nat_le low x && nat_le x high) ≡ b
        → ◌≡◌ {A = Option ℕ} (if b then Some x else None) (Some to) → low ≤ to
    cases true h k = let same : x ≡ to = cc in
        rw (← same) (leb-true low x (both (nat_le low x) (nat_le x high) h).0)
    cases false h k = absurd (cc)

-- a current entry is no null
current_is : (e x : Entry) → some_of e ≡ Some x → (e ≡ x) × (is_null e ≡ false)
current_is e x is = cases (is_null e) refl is
  where
    cases : (b : Bool) → is_null e ≡ b
        → ◌≡◌ {A = Option Entry} (if b then None else Some e) (Some x)
        → (e ≡ x) × (is_null e ≡ false)
    cases true h k = absurd (cc)
    cases false h k = let one : e ≡ x = cc in (one, h)

null_of : (e : Entry) → some_of e ≡ None → is_null e ≡ true
null_of e is = cases (is_null e) refl is
  where
    cases : (b : Bool) → is_null e ≡ b → ◌≡◌ {A = Option Entry} (if b then None else Some e) None
        → is_null e ≡ true
    cases true h k = h
    cases false h k = absurd (cc)

module _ (limit : ℕ) (u : UnitView) (t : Table)
    (fits : length u.entries.bytes ≤ whole_length u) where
  -- an entry that is current was answered
  on_entry : (s : CursorStep) (c new : CursorView) (a : Answer) → HasAnswered limit s c a new
      → (e : Entry) → a.current ≡ Some e
      → (new.entry ≡ e) × (is_null new.entry ≡ false) × IsTrueEntry limit c new
  on_entry s c new a answered e is =
      let k = current_is new.entry e (sym (ap (λ (x : Answer). x.current) answered.is) ∙ is) in
      (k.0, k.1, answered.step.true_entry (took a.outcome refl k.1))
    where
      took : (r : Result Bool Error) → a.outcome ≡ r → is_null new.entry ≡ false
          → a.outcome ≡ Ok true
      took (Ok true) is h = is
      took (Ok false) is h =
          let x : false ≡ true = sym h
          ∙ answered.step.none
          (λ k. let y : ◌≡◌ {A = Result Bool Error} (Ok false) (Ok true) = sym is ∙ k in cc) in
          absurd (cc)
      took (Err e) is h =
          let x : false ≡ true = sym h
          ∙ answered.step.none
          (λ k. let y : ◌≡◌ {A = Result Bool Error} (Err e) (Ok true) = sym is ∙ k in cc) in
          absurd (cc)

  -- what is read next stands after an entry, or a null, that was read
  after_entry : (c new : CursorView) (o : Result Bool Error) → StandsIn u t c
      → new.raw.end ≡ c.raw.end → IsTrueEntry limit c new
      → IsAfterEntry limit u (codes_of t) (answer_at o new) new.entry
  after_entry c new o stands same y = record {
    rest = new.raw.rest;
    read = y.is ∙ unit_bytes limit u t fits c stands new.offset y.after;
    next_offset = ap (λ n. offset_of_view n new.raw.rest) (same ∙ stands.end);
    next_depth = y.depth;
  }

  -- an answer is true
  true_answer : (s : CursorStep) (c new : CursorView) (a : Answer) → StandsIn u t c
      → HasAnswered limit s c a new → IsTrueAnswer limit u (codes_of t) a
  true_answer s c new a stands answered =
      let at = ap (λ (x : Answer). x.offset) answered.is in
      let end = answered.step.unit.end ∙ stands.end in
      record {
        entry = λ e is. let k = on_entry s c new a answered e is in
            rw (at, ← k.0) (entry_law limit u t fits c stands new answered.step.unit.end k.2 k.1);
        after = λ e is.
            let k = on_entry s c new a answered e is in
            rw (answered.is, ← k.0)
            (after_entry c new a.outcome stands answered.step.unit.end k.2);
        null = λ yes_it none.
            let null_is = null_of new.entry
            (sym (ap (λ (x : Answer). x.current) answered.is) ∙ none) in
            rw at
            (null_law limit u t fits c stands new answered.step.unit.end
            (answered.step.true_entry yes_it) null_is);
        none = λ never. ap (λ (x : Answer). x.current) answered.is
            ∙ rw (answered.step.none never) refl;
        refusal = λ x fails.
            let r = answered.step.refused x fails in
            let over = r.over in (
              rw at
                  (refusal_law limit u t fits c stands new x (λ m. answered.fine (fails ∙ ap Err m))
                  r),
              (
                ap (λ (y : Answer). y.next_offset) answered.is ∙ omega (arith, over, end),
                ap (λ (y : Answer). y.next_depth) answered.is ∙ r.depth
                    ∙ sym (ap (λ (y : Answer). y.depth) answered.is),
              ),
            );
      }

  -- all answers are
  pub run_true : (steps : List CursorStep) (c : CursorView) (all : List Answer) → StandsIn u t c
      → HasRun limit c steps all → AreTrueAnswers limit u (codes_of t) all
  run_true steps c [] stands run = tt
  run_true [] c (a ∷ all) stands run = absurd run
  run_true (s ∷ steps) c (a ∷ all) stands (new, answered, more) = (
    true_answer s c new a stands answered,
    run_true steps new all
        (step_stands u t c new stands answered.step.unit answered.step.further) more,
  )

  -- the place of a cursor is the one after its answer
  pub rows_here : (c : CursorView) → StandsIn u t c
      → rows_of limit c.raw ≡ rows_from limit (entries_of u t) (next_offset_of c.raw) c.raw.depth
  rows_here c stands =
      sym (ap (λ v. ahead_at (next_of limit c.raw) c.raw.end c.raw.depth v) (here_is c.raw))
      ∙ unit_rows limit u t fits c stands (next_offset_of c.raw) c.raw.depth (omega arith)

  place_answer : (o : Result Bool Error) (c : CursorView) → StandsIn u t c
      → place_after limit u (codes_of t) (answer_at o c) ≡ place_of limit c
  place_answer o c stands =
      let f : Ahead → Place = λ a.
      record { ahead = a; current = some_of c.entry; offset = c.offset; depth = c.depth } in
      ap f (sym (rows_here c stands))

  -- where nothing is current, a step to a sibling does not move
  idle_is : (end : ℕ) (c : CursorView) → is_null c.entry ≡ true
      → next_of_depth end (place_of limit c)
      ≡ record { outcome = Ok false; place = place_of limit c }
  unfolding next_of_depth
  idle_is end c null = rw null refl

  -- what is asked of a place is what is asked of a cursor
  honest_beside : (c : CursorView) → c.raw.end ≡ whole_length u → is_null c.entry ≡ false
      → IsHonestBeside (whole_length u) (place_of limit c) → IsHonestFor limit c.depth c
  honest_beside c end entry h =
      let rows = (rows_of limit c.raw).rows in
      let k = h c.entry (rw entry refl) in
      let node : Node = record { entry = c.entry; offset = c.offset; depth = c.depth } in
      let P : ℕ → Type 0 = λ n.
      IsHonest (whole_length u)
      (record { offset = c.offset; next = n; depth = c.depth; entry = c.entry }) rows in
      let Q : ℕ → Type 0 = λ n.
      IsHonest n
      (record {
        offset = c.offset;
        next = next_offset_of c.raw;
        depth = c.depth;
        entry = c.entry;
      }) rows in
      let A : ℕ → Type 0 = λ n. AreHonestUntil n c.depth rows in
      record {
        current = λ deep. subst Q (sym end)
            (subst P (sym (offset_is limit c.raw)) (k.0 node refl deep));
        ahead = subst A (sym end) k.1;
      }

  -- where references are followed that are honest, and for the other steps, an answer is the
  -- definition's
  moved : (s : CursorStep) (c new : CursorView) (a : Answer) → StandsIn u t c
      → HasAnswered limit s c a new
      → (c.follows ≡ true → is_sibling s ≡ true
      → IsHonestBeside (whole_length u) (place_of limit c))
      → a ≡ answer_of_move (step_of (whole_length u) s (place_of limit c))
  moved s c new a stands answered honest = cases s refl (is_null c.entry) refl
    where
      gone : (is_sibling s ≡ true → c.follows ≡ true → IsHonestFor limit c.depth c)
          → a ≡ answer_of_move (step_of (whole_length u) s (place_of limit c))
      gone h =
          let goes = unless_fine a.outcome (answered.step.moves h) answered.fine in
          answered.is ∙ answer_is limit s c new a.outcome goes
          ∙ ap (λ n. answer_of_move (step_of n s (place_of limit c))) stands.end

      still : is_sibling s ≡ true → is_null c.entry ≡ true
          → a ≡ answer_of_move (next_of_depth (whole_length u) (place_of limit c))
      still sibling null =
          let k = answered.step.idle sibling null in
          answered.is ∙ ap (λ o. answer_at o new) k.0 ∙ ap (answer_at (Ok false)) k.1
          ∙ seen_at limit (Ok false) c ∙ ap answer_of_move (sym (idle_is (whole_length u) c null))

      cases : (x : CursorStep) → s ≡ x → (b : Bool) → is_null c.entry ≡ b
          → a ≡ answer_of_move (step_of (whole_length u) s (place_of limit c))
      cases NextEntry is b null =
          gone (λ k. let x : false ≡ true = sym (ap is_sibling is) ∙ k in absurd (cc))
      cases NextDfs is b null =
          gone (λ k. let x : false ≡ true = sym (ap is_sibling is) ∙ k in absurd (cc))
      cases NextSibling is true null = rw is (still (ap is_sibling is) null)
      cases NextSibling is false null =
          gone (λ k follows. honest_beside c stands.end null (honest follows k))

  -- no sibling was found
  not_found : (c new : CursorView) (a : Answer) (o : Result Bool Error) → StandsIn u t c
      → new.raw.end ≡ c.raw.end → a ≡ answer_at o new → IsNotFound limit c.depth c.offset c new
      → (a.depth ≡ c.depth) × IsNoSibling limit u (codes_of t) (place_of limit c) a
  not_found c new a o stands same is (null, deep, either) = rw is (deep, cases either)
    where
      cases : IsTrueEntry limit c new ⊎ (IsOver new × (new.offset ≡ c.offset))
          → IsNoSibling limit u (codes_of t) (place_of limit c) (answer_at o new)
      cases (inl y) = a_null (rw (← offset_is limit c.raw) y.after) new.entry null
          (after_entry c new o stands same y)
      cases (inr (over, at)) = let end = stands.end in at_end (omega (arith, over, same, end)) at

  stepped : (s : CursorStep) (c new : CursorView) (a : Answer) → StandsIn u t c
      → HasAnswered limit s c a new
      → IsStepped limit u (codes_of t) c.follows s (place_of limit c) a
  stepped s c new a stands answered =
      let at = ap (λ (x : Answer). x.offset) answered.is in
      record {
        is = moved s c new a stands answered;
        ahead = λ yes_it. rw (at, ← offset_is limit c.raw)
            ((answered.step.true_entry yes_it).after);
        refused_ahead = λ x fails.
            rw (at, ← offset_is limit c.raw) ((answered.step.refused x fails).after);
        beside = λ sibling yes_it.
            let k = answered.step.beside sibling yes_it in (
              ap (λ (x : Answer). x.depth) answered.is ∙ k.0,
              new.entry,
              ap (λ (x : Answer). x.current) answered.is ∙ rw k.1 refl,
            );
        no_sibling = λ sibling no e is.
            not_found c new a a.outcome stands answered.step.unit.end answered.is
            (answered.step.not_found sibling no (current_is c.entry e is).1);
      }

  -- all answers are those of their steps
  pub run_stepped : (steps : List CursorStep) (c : CursorView) (all : List Answer) → StandsIn u t c
      → HasRun limit c steps all
      → AreStepped limit u (codes_of t) c.follows (place_of limit c) steps all
  run_stepped [] c all stands run = tt
  run_stepped (s ∷ steps) c [] stands run = tt
  run_stepped (s ∷ steps) c (a ∷ all) stands (new, answered, more) =
      let inside = step_stands u t c new stands answered.step.unit answered.step.further in
      let place = ap (place_after limit u (codes_of t)) answered.is
      ∙ place_answer a.outcome new inside in
      let P : Place → Type 0 = λ p. AreStepped limit u (codes_of t) c.follows p steps all in
      let Q : Bool → Type 0 = λ f. AreStepped limit u (codes_of t) f (place_of limit new) steps all
      in (
        stepped s c new a stands answered,
        subst P (sym place)
            (subst Q answered.step.unit.follows (run_stepped steps new all inside more)),
      )

  -- from a start, too
  pub run_stepped_from : (follows : Bool) (start : Option ℕ) (steps : List CursorStep)
      (c : CursorView) (all : List Answer) → StandsIn u t c → c.follows ≡ follows
      → Ok c ≡ cursor_start u t follows start → HasRun limit c steps all
      → HoldsFrom (start_view u start)
      (λ v. AreStepped limit u (codes_of t) follows
      (start_of (unit_rows_at limit u (codes_of t) (pos 0) v)) steps all)
  run_stepped_from follows start steps c all stands same begins run =
      cases (raw_start u t start) refl begins
    where
      cases : (r : Result RawPlace Error) → r ≡ raw_start u t start
          → Ok c ≡ answer_of (before_first follows) r
          → HoldsFrom (start_view u start)
          (λ v. AreStepped limit u (codes_of t) follows
          (start_of (unit_rows_at limit u (codes_of t) (pos 0) v)) steps all)
      cases (Err x) is e = absurd (cc)
      cases (Ok p) is e =
          let one : c ≡ before_first follows p = cc in
          let s = start_is u t start p is in
          let at : c ≡ before_first follows
          (record {
            rest = s.0;
            encoding = u.encoding;
            abbreviations = t;
            end = whole_length u;
            depth = pos 0;
          }) = one ∙ ap (before_first follows) s.2 in
          rw s.1 (rw at at (run_stepped steps c all stands run))

  -- a reference that an answer's entry has is the cursor's
  usable_is : (o : Result Bool Error) (c : CursorView) → c.raw.end ≡ whole_length u → (to : ℕ)
      → usable_of (whole_length u) (answer_at o c) ≡ Some to
      → usable_target c.raw.end (last_row c) ≡ Some to
  usable_is o c same to = cases (is_null c.entry) refl
    where
      cases : (b : Bool) → is_null c.entry ≡ b
          → ◌≡◌ {A = Option ℕ}
          (elim (if b then None else Some c.entry) [
            | None ↦ None
            | Some e ↦
                usable_target (whole_length u)
                (record {
                  offset = c.offset;
                  next = next_offset_of c.raw;
                  depth = c.depth;
                  entry = e;
                })
          ]) (Some to)
          → usable_target c.raw.end (last_row c) ≡ Some to
      cases true h is = absurd (cc)
      cases false h is = let P : ℕ → Type 0 = λ n. usable_target n (last_row c) ≡ Some to in
          subst P (sym same) is

  -- references are followed
  pub run_taken_from : (steps : List CursorStep) (o : Result Bool Error) (c : CursorView)
      (all : List Answer) → StandsIn u t c → c.follows ≡ true → HasRun limit c steps all
      → AreTakenFrom limit u (codes_of t) (answer_at o c) steps all
  run_taken_from [] o c all stands follows run = tt
  run_taken_from (s ∷ steps) o c [] stands follows run = tt
  run_taken_from (s ∷ steps) o c (b ∷ all) stands follows (new, answered, more) = (
    taken,
    rw answered.is
        (run_taken_from steps b.outcome new all
        (step_stands u t c new stands answered.step.unit answered.step.further)
        (answered.step.unit.follows ∙ follows) more),
  )
    where
      taken : IsTaken limit u (codes_of t) s (answer_at o c) b
      taken sibling to to_sibling =
          let used = usable_is o c stands.end to to_sibling in
          let follow : followed_to c ≡ Some to = rw follows used in
          let low = low_bound (next_offset_of c.raw) c.raw.end (target (kind_of c.entry)) to used in
          let at = unless_fine b.outcome (answered.step.taken sibling to follow) answered.fine in
          answered.is ∙ seen_at limit b.outcome new ∙ ap answer_of_move at
          ∙ ap (λ n. answer_of_move
          (first_of_rows n c.depth c.offset (rows_from limit c.raw to c.depth)))
          stands.end
          ∙ ap (λ a. answer_of_move (first_of_rows (whole_length u) c.depth c.offset a))
          (unit_rows limit u t fits c stands to c.depth low)

  pub run_taken : (steps : List CursorStep) (c : CursorView) (all : List Answer) → StandsIn u t c
      → c.follows ≡ true → HasRun limit c steps all → AreTaken limit u (codes_of t) steps all
  run_taken [] c all stands follows run = tt
  run_taken (s ∷ steps) c [] stands follows run = tt
  run_taken (s ∷ steps) c (a ∷ all) stands follows (new, answered, more) =
      rw answered.is
      (run_taken_from steps a.outcome new all
      (step_stands u t c new stands answered.step.unit answered.step.further)
      (answered.step.unit.follows ∙ follows) more)

module _ (limit : ℕ) (u : UnitView) (t : Table) (follows : Bool) (start : Option ℕ)
    (steps : List CursorStep) where
  -- what a run from a start promises
  pub run_from : (all : List Answer) (stopped : Bool) (count : ℕ) (c : CursorView)
      → length u.entries.bytes ≤ whole_length u → Ok c ≡ cursor_start u t follows start
      → HasRun limit c steps all
      → count ≡ length all → IsStopped stopped count (length steps)
      → IsRunFrom limit u (codes_of t) follows steps (start_view u start) (Ok (run_of all stopped))
  run_from all stopped count c fits begins run counted stop =
      let inside = start_in limit u t start steps follows c fits begins in
      parts (start_view u start)
      (λ h. run_as limit u t start steps follows c all stopped count begins run counted stop
      (λ any f. h f any))
      (run_true limit u t fits steps c all inside.0 run)
      (run_stepped_from limit u t fits follows start steps c all inside.0 inside.1 begins run)
      (λ f. run_taken limit u t fits steps c all inside.0 (inside.1 ∙ f) run) (rw (← counted) stop)
    where
      parts : (r : Result View Error)
          → ((follows ≡ true → any_sibling steps ≡ true → IsHonestFrom limit u (codes_of t) r)
          → RunsAs (Ok (run_of all stopped)) (answer_of (answers_at limit u (codes_of t) steps) r))
          → AreTrueAnswers limit u (codes_of t) all
          → HoldsFrom r
          (λ v. AreStepped limit u (codes_of t) follows
          (start_of (unit_rows_at limit u (codes_of t) (pos 0) v)) steps all)
          → (follows ≡ true → AreTaken limit u (codes_of t) steps all)
          → IsStopped stopped (length all) (length steps)
          → IsRunFrom limit u (codes_of t) follows steps r (Ok (run_of all stopped))
      parts (Ok v) answers are_true are_stepped are_taken stopped =
          record {
            answers = answers;
            are_true = are_true;
            are_stepped = are_stepped;
            are_taken = are_taken;
            stopped = stopped;
          }
      parts (Err e) answers are_true are_stepped are_taken stopped = are_stepped

  -- and one that is refused
  pub refused_from : (e : Error) → Err e ≡ cursor_start u t follows start
      → IsRunFrom limit u (codes_of t) follows steps (start_view u start) (Err e)
  refused_from e is = rw (start_refused limit u t start steps follows e is) refl
