-- What the steps of a tree do whatever the references: each answer leads from a place to a place.
use Rattle.std.proofs.Common.{◌≡◌, ℕ, ◌≤◌, ℤ, pos, Bool, true, false, List, [], ◌∷◌, length, Option}
use Rattle.std.proofs.Common.{Some, None, Result, Ok, Err, inl, inr, refl, sym, ap, ◌∙◌, subst}
use Rattle.std.proofs.Common.{arith}
use Rattle.std.specs.Prelude.{int_le, if◌then◌else◌}
use Rattle.gimli_base.specs.declared.error.Error.{Error}
use Rattle.gimli_base.specs.declared.error.Error.TheVariants.{OutOfMemory}
use Rattle.gimli_base.specs.Table.{Table, codes_of}
use Rattle.gimli_units.specs.Entry.{is_null, entry_at}
use Rattle.gimli_units.specs.RawPlace.{RawPlace, next_offset_of, depth_after}
use Rattle.gimli_units.specs.Rows.{Ahead, ahead_at}
use Rattle.gimli_units.specs.Unit.{UnitView, whole_length}
use Rattle.gimli_units.specs.Kind.{kind_of}
use Rattle.gimli_units.specs.Honest.{IsHonest, AreHonestUntil, usable_target, target}
use Rattle.gimli_units.specs.CursorPlace.{next_offset, first_of_rows}
use Rattle.gimli_units.specs.CursorModel.{CursorView, rows_of, rows_from, place_of, last_row}
use Rattle.gimli_units.specs.CursorModel.{followed_to, IsHonestFor, IsNotFound}
use Rattle.gimli_units.proofs.CursorLaw.{StandsIn, step_stands, unit_rows, refusal_law}
use Rattle.gimli_units.proofs.PlaceLaw.{offset_is, null_honest}
use Rattle.gimli_units.proofs.TreeLaw.{unit_bytes}
use Rattle.gimli_units.specs.TreePlace.{Node, Lists, TreePlace, StepAnswer, a_node, found_in}
use Rattle.gimli_units.specs.TreeMoves.{TreeView, before_root, tree_from, node_at, gone_on}
use Rattle.gimli_units.specs.TreeMoves.{HasBegun, HasGoneOn}
use Rattle.gimli_walk.specs.declared.tree.TreeStep.{TreeStep}
use Rattle.gimli_walk.specs.declared.tree.TreeStep.TheVariants.{Root, Next, Enter, Leave}
use Rattle.gimli_base.specs.View.{View}
use Rattle.gimli_base.specs.Offset.{answer_of}
use Rattle.gimli_walk.specs.Runs.{run_of, RunsAs}
use Rattle.gimli_walk.specs.Trees.{tree_step, tree_view, tree_answers_at}
use Rattle.gimli_units.specs.UnitRows.{unit_rows_from, IsHonestFrom}
use Rattle.gimli_walk.specs.Cursors.{HoldsFrom, IsStopped}
use Rattle.gimli_walk.specs.TrueAnswers.{IsHonestAhead}
use Rattle.gimli_walk.specs.TrueStepAnswers.{Reached, IsListFound, true_node, true_null, true_end}
use Rattle.gimli_walk.specs.TrueStepAnswers.{true_fault, IsTurned, AreTurned, AreRoots, root_at}
use Rattle.gimli_walk.specs.TrueStepAnswers.{AreTurnedFrom, IsTreeRunFrom}
use Rattle.gimli_units.specs.TreeWalker.{Standing, at_none, standing_place, begun_answer, asked_answer}
use Rattle.gimli_units.specs.TreeWalker.{after_asked}
use Rattle.gimli_walk.specs.TreeTurns.{HasAsked, HasTurned, HasTreeRun}
use Rattle.gimli_walk.proofs.CursorTruth.{unless_fine}
use Rattle.gimli_walk.proofs.AnswerTruth.{rows_here, low_bound}
use Rattle.gimli_walk.proofs.TreeTruth.{moved_to, asked_is, turn_is, turn_same}
use Rattle.gimli_walk.proofs.TreeAnswered.{IsIn, turn_in, tree_start, tree_is, first_in, run_tree_as}
use Rattle.gimli_walk.proofs.TreeAnswered.{run_tree_true, run_tree_roots, run_tree_growing}
use Rattle.gimli_walk.proofs.TreeAnswered.{run_tree_taken, tree_refused}

-- the entry that was read last, if it was no null
abbrev last_of : TreeView → Option Node
last_of t = if is_null t.cursor.entry then None else Some (node_at t)

-- where a run stands
abbrev pub reached : ℕ → Standing → Reached
reached limit s = record {
  place =
      record {
        ahead = rows_of limit s.tree.cursor.raw;
        node = if s.is_on then Some (node_at s.tree) else None;
        lists = s.lists;
      };
  last = last_of s.tree;
}

module _ (limit : ℕ) where
  place_is : (s : Standing) → standing_place limit s ≡ (reached limit s).place
  place_is s = cases s.is_on refl
    where
      cases : (b : Bool) → s.is_on ≡ b → standing_place limit s ≡ (reached limit s).place
      cases true is = rw is refl
      cases false is = rw is refl

  same_last : (old new : TreeView) → new ≡ old → last_of new ≡ last_of old
  same_last old new is = ap last_of is

  -- what is asked of a place is what is asked of its cursor
  honest_within : (s : Standing) (d : ℤ) (end : ℕ) → s.tree.cursor.raw.end ≡ end
      → IsHonestAhead end d (last_of s.tree) (rows_of limit s.tree.cursor.raw)
      → IsHonestFor limit d s.tree.cursor
  honest_within s d end same h =
      record {
        current = λ deep. current (is_null c.entry) refl deep;
        ahead = subst A (sym same) h.1;
      }
    where
      c : CursorView
      c = s.tree.cursor

      A : ℕ → Type 0
      A n = AreHonestUntil n d (rows_of limit c.raw).rows

      P : ℕ → Type 0
      P n = IsHonest end (record { offset = c.offset; next = n; depth = c.depth; entry = c.entry })
          (rows_of limit c.raw).rows

      Q : ℕ → Type 0
      Q n = IsHonest n (last_row c) (rows_of limit c.raw).rows

      current : (b : Bool) → is_null c.entry ≡ b → int_le d c.depth ≡ true
          → IsHonest c.raw.end (last_row c) (rows_of limit c.raw).rows
      current true null deep = null_honest limit c (rows_of limit c.raw).rows null
      current false null deep =
          subst Q (sym same)
          (subst P (sym (offset_is limit c.raw)) (h.0 (node_at s.tree) (rw null refl) deep))

  module _ (u : UnitView) (t : Table) (fits : length u.entries.bytes ≤ whole_length u) where
    -- an open list was asked, whatever the references
    found_asked : (s new : Standing) (answer : StepAnswer) (d : ℤ) (outer : Lists)
        (outcome : Result Bool Error) → StandsIn u t s.tree.cursor
        → HasGoneOn limit d s.tree outcome new.tree → (outcome ≡ Err OutOfMemory → ⊥)
        → answer ≡ asked_answer outcome new.tree → new ≡ after_asked (Some d) outer outcome new.tree
        → IsListFound limit u (codes_of t) d outer (reached limit s) answer (reached limit new)
    found_asked s new answer d outer (Ok true) here g fine is stands =
        let y = g.sought.yes refl in
        let c = new.tree.cursor in
        let inside = step_stands u t s.tree.cursor c here g.sought.unit g.sought.further in
        let rows : rows_of limit c.raw
        ≡ ahead_at (entry_at limit u.encoding (codes_of t)) (whole_length u)
        (depth_after c.entry c.depth) c.raw.rest =
        rw (inside.encoding, inside.abbreviations, inside.end, y.0.depth) refl in
        let f : Ahead → Reached = λ a.
        record {
          place =
              record { ahead = a; node = Some (node_at new.tree); lists = Some d ∷ outer };
          last =
              Some (node_at new.tree);
        } in
        let some : last_of new.tree ≡ Some (node_at new.tree) = rw y.1 refl in
        let g : Option Node → Reached = λ l.
        record {
          place =
              record {
                ahead = rows_of limit c.raw;
                node = Some (node_at new.tree);
                lists = Some d ∷ outer;
              };
          last = l;
        } in
        true_node (node_at new.tree) c.raw.rest is
        (rw (← offset_is limit s.tree.cursor.raw) y.0.after) y.2 y.1
        (y.0.is ∙ unit_bytes limit u t fits s.tree.cursor here c.offset y.0.after)
        (ap (reached limit) stands ∙ ap g some ∙ ap f rows)
    found_asked s new answer d outer (Ok false) here g fine is stands = cases (g.sought.no refl)
      where
        c : CursorView
        c = new.tree.cursor

        inside : StandsIn u t c
        inside = step_stands u t s.tree.cursor c here g.sought.unit g.sought.further

        f : Ahead → Reached
        f a =
            record { place = record { ahead = a; node = None; lists = None ∷ outer }; last = None }

        none : is_null c.entry ≡ true → reached limit new ≡ f (rows_of limit c.raw)
        none null =
            let g' : Option Node → Reached = λ l.
            record {
              place =
                  record { ahead = rows_of limit c.raw; node = None; lists = None ∷ outer };
              last =
                  l;
            } in
            let last : last_of new.tree ≡ None = rw null refl in
            ap (reached limit) stands ∙ ap g' last

        cases : IsNotFound limit d s.tree.cursor.offset s.tree.cursor c
            → IsListFound limit u (codes_of t) d outer (reached limit s) answer (reached limit new)
        cases (null, deep, inl y) =
            let rows : rows_of limit c.raw
            ≡ ahead_at (entry_at limit u.encoding (codes_of t)) (whole_length u)
            (depth_after c.entry d) c.raw.rest =
            rw (inside.encoding, inside.abbreviations, inside.end, y.depth, deep) refl in
            true_null c.entry c.offset c.raw.rest is
            (rw (← offset_is limit s.tree.cursor.raw) y.after) null
            (y.is ∙ unit_bytes limit u t fits s.tree.cursor here c.offset y.after)
            (none null ∙ ap f rows)
        cases (null, deep, inr (over, at)) =
            let end = inside.end in
            let at_end : next_offset_of c.raw ≡ whole_length u = omega (arith, over, end) in
            true_end c.raw.depth is
            (none null ∙ ap f (rows_here limit u t fits c inside)
            ∙ ap (λ n. f (unit_rows_from limit u (codes_of t) n c.raw.depth)) at_end)
    found_asked s new answer d outer (Err e) here g fine is stands =
        let c = new.tree.cursor in
        let r = g.sought.refused e refl in
        let over = r.over in
        let inside = step_stands u t s.tree.cursor c here g.sought.unit g.sought.further in
        let end = inside.end in
        let none : last_of new.tree ≡ None = rw r.none refl in
        let at_end : next_offset_of c.raw ≡ whole_length u = omega (arith, over, end) in
        let f : Ahead → Reached = λ a.
        record {
          place = record { ahead = a; node = None; lists = Some d ∷ outer };
          last = None;
        } in
        let g' : Option Node → Reached = λ l.
        record {
          place =
              record { ahead = rows_of limit c.raw; node = None; lists = Some d ∷ outer };
          last =
              l;
        } in
        true_fault e c.offset c.raw.depth is (rw (← offset_is limit s.tree.cursor.raw) r.after)
        (refusal_law limit u t fits s.tree.cursor here c e (λ m. fine (ap Err m)) r)
        (ap (reached limit) stands ∙ ap g' none ∙ ap f (rows_here limit u t fits c inside)
        ∙ ap (λ n. f (unit_rows_from limit u (codes_of t) n c.raw.depth)) at_end)

    -- what a search answered is what it found
    gone_found : (d : ℤ) (outer : Lists) (outcome : Result Bool Error) (x : TreeView)
        → (outcome ≡ Ok true → is_null x.cursor.entry ≡ false)
        → (outcome ≡ Ok false → is_null x.cursor.entry ≡ true)
        → gone_on limit d outer outcome x
        ≡ found_in d outer (record { outcome = outcome; place = place_of limit x.cursor })
    gone_found d outer (Ok true) x some none = rw (some refl) refl
    gone_found d outer (Ok false) x some none = rw (none refl) refl
    gone_found d outer (Err e) x some none = refl

    last_is : (x : TreeView) (n : Node) → last_of x ≡ Some n → node_at x ≡ n
    last_is x n is = cases (is_null x.cursor.entry) refl is
      where
        cases : (b : Bool) → is_null x.cursor.entry ≡ b
            → ◌≡◌ {A = Option Node} (if b then None else Some (node_at x)) (Some n) → node_at x ≡ n
        cases true null k = absurd (cc)
        cases false null k = cc

    -- a reference that can be followed is taken
    there_is : (s new : Standing) (answer : StepAnswer) (d : ℤ) (outer : Lists) → StandsIn u t s.tree.cursor
        → s.tree.cursor.follows ≡ true → HasAsked limit (Some d) outer s.tree answer new
        → (n : Node) → last_of s.tree ≡ Some n → n.depth ≡ d → (to : ℕ)
        → usable_target (whole_length u)
        (record {
          offset = n.offset;
          next = next_offset (rows_of limit s.tree.cursor.raw);
          depth = n.depth;
          entry = n.entry;
        }) ≡ Some to
        → record { answer = answer; place = (reached limit new).place }
        ≡ found_in d outer
        (first_of_rows (whole_length u) d n.offset (unit_rows_from limit u (codes_of t) to d))
    there_is s new answer d outer here follows r n last deep to to_sibling =
        let c = s.tree.cursor in
        let sought = r.asked.sought in
        let one : node_at s.tree ≡ n = last_is s.tree n last in
        let at : c.offset ≡ n.offset = ap (λ (x : Node). x.offset) one in
        let level : c.depth ≡ d = ap (λ (x : Node). x.depth) one ∙ deep in
        let reference : ℕ → ℕ
        → Option ℕ = λ e x. usable_target e
        (record { offset = c.offset; next = x; depth = c.depth; entry = c.entry }) in
        let used : usable_target c.raw.end (last_row c) ≡ Some to =
        ap (λ e. reference e (next_offset_of c.raw)) here.end
        ∙ ap (reference (whole_length u)) (offset_is limit c.raw)
        ∙ ap
        (λ (x : Node). usable_target (whole_length u)
        (record {
          offset = x.offset;
          next = next_offset (rows_of limit c.raw);
          depth = x.depth;
          entry = x.entry;
        })) one ∙ to_sibling in
        let follow : followed_to c ≡ Some to = rw follows used in
        let low = low_bound (next_offset_of c.raw) c.raw.end (target (kind_of c.entry)) to used in
        let there = unless_fine r.outcome (sought.there to follow level) r.fine in
        ap (λ (x : TreePlace). record { answer = answer; place = x }) (sym (place_is new))
        ∙ ap (λ x. moved_to limit x new) r.is
        ∙ ap (λ x. moved_to limit (asked_answer r.outcome new.tree) x) r.stands
        ∙ asked_is limit d outer r.outcome new.tree
        ∙ gone_found d outer r.outcome new.tree (λ is. (sought.yes is).1) (λ is. (sought.no is).0)
        ∙ ap (found_in d outer) there
        ∙ ap (λ k. found_in d outer (first_of_rows k d c.offset (rows_from limit c.raw to d)))
        here.end
        ∙ ap
        (λ o. found_in d outer
        (first_of_rows (whole_length u) d o (rows_from limit c.raw to d))) at
        ∙ ap (λ a. found_in d outer (first_of_rows (whole_length u) d n.offset a))
        (unit_rows limit u t fits c here to d low)

    -- a step, whatever the references
    module _ (p : RawPlace) (end : p.end ≡ whole_length u) where
      -- what the definition says of a step is said of the places
      moved_is : (s : Standing) (step : TreeStep) (answer : StepAnswer) (new : Standing) → s.tree.start ≡ p
          → moved_to limit answer new
          ≡ tree_step s.tree.start.end (rows_of limit s.tree.start) step (standing_place limit s)
          → record { answer = answer; place = (reached limit new).place }
          ≡ tree_step (whole_length u) (rows_of limit p) step (reached limit s).place
      moved_is s step answer new same is =
          ap (λ (x : TreePlace). record { answer = answer; place = x }) (sym (place_is new)) ∙ is
          ∙ ap (λ (x : RawPlace). tree_step x.end (rows_of limit x) step (standing_place limit s))
          same
          ∙ ap (λ n. tree_step n (rows_of limit p) step (standing_place limit s)) end
          ∙ ap (tree_step (whole_length u) (rows_of limit p) step) (place_is s)

      root_last : (s new : Standing) (answer : StepAnswer) (outcome : Result (Unit {0}) Error)
          → HasBegun limit s.tree outcome new.tree → answer ≡ begun_answer outcome new.tree
          → (n : Node) → answer ≡ a_node n → last_of new.tree ≡ Some n
      root_last s new answer (Ok k) b is n it = let y = b.yes refl in
          let one : node_at new.tree ≡ n = cc in rw (y.1, one) refl
      root_last s new answer (Err e) b is n it = absurd (cc)

      -- where a run stands, by its parts
      abbrev at_part : Bool → Lists → Standing → Reached
      at_part b lists s = reached limit (record { tree = s.tree; is_on = b; lists = lists })

      turned : (b : Bool) (lists : Lists) (s : Standing) (step : TreeStep) (answer : StepAnswer)
          (new : Standing) → s ≡ record { tree = s.tree; is_on = b; lists = lists }
          → s.tree.start ≡ p → StandsIn u t s.tree.cursor → s.tree.cursor.follows ≡ true
          → HasTurned limit step (record { tree = s.tree; is_on = b; lists = lists }) answer new
          → IsTurned limit u (codes_of t) (rows_of limit p) step (at_part b lists s) answer
          (reached limit new)
      turned b lists s step answer new is same here follows r = cases b lists step is r
        where
          goes : (b : Bool) (lists : Lists) (step : TreeStep)
              → s ≡ record { tree = s.tree; is_on = b; lists = lists }
              → HasTurned limit step (record { tree = s.tree; is_on = b; lists = lists }) answer new
              → ((d : ℤ) (outer : Lists) → step ≡ Next → lists ≡ Some d ∷ outer
              → IsHonestFor limit d s.tree.cursor)
              → record { answer = answer; place = (reached limit new).place }
              ≡ tree_step (whole_length u) (rows_of limit p) step (at_part b lists s).place
          goes b lists step is r honest =
              moved_is s step answer new same (turn_is limit b lists s step answer new is r honest)
              ∙ ap
              (λ (x : Standing). tree_step (whole_length u) (rows_of limit p) step
              (reached limit x).place) is

          cases : (b : Bool) (lists : Lists) (step : TreeStep)
              → s ≡ record { tree = s.tree; is_on = b; lists = lists }
              → HasTurned limit step (record { tree = s.tree; is_on = b; lists = lists }) answer new
              → IsTurned limit u (codes_of t) (rows_of limit p) step (at_part b lists s) answer
              (reached limit new)
          cases b lists Root is r = (
            goes b lists Root is r (λ d outer e k. absurd (cc)),
            root_last s new answer r.outcome r.begun r.is,
          )
          cases b [] Next is r = (
            goes b [] Next is r (λ d outer e k. absurd (cc)),
            same_last s.tree new.tree (ap (λ (x : Standing). x.tree) r.1),
          )
          cases b (None ∷ outer) Next is r = (
            goes b (None ∷ outer) Next is r (λ d o e k. absurd (cc)),
            same_last s.tree new.tree r.asked.1,
          )
          cases b (Some d ∷ outer) Next is r = record {
            is = λ honest. goes b (Some d ∷ outer) Next is r
                (λ e o k at. let one : d ≡ e = cc in
                rw (← one) (honest_within s d (whole_length u) here.end honest));
            there = there_is s new answer d outer here follows r;
            found =
                subst
                (λ (o : Reached). IsListFound limit u (codes_of t) d outer o answer
                (reached limit new))
                (ap (reached limit) is)
                (found_asked s new answer d outer r.outcome here r.asked r.fine r.is r.stands);
          }
          cases true lists Enter is r = (
            goes true lists Enter is r (λ d outer e k. absurd (cc)),
            same_last s.tree new.tree (ap (λ (x : Standing). x.tree) r.1),
          )
          cases false lists Enter is r = (
            goes false lists Enter is r (λ d outer e k. absurd (cc)),
            same_last s.tree new.tree (ap (λ (x : Standing). x.tree) r.1),
          )
          cases b [] Leave is r = (
            goes b [] Leave is r (λ d outer e k. absurd (cc)),
            same_last s.tree new.tree (ap (λ (x : Standing). x.tree) r.1),
          )
          cases b (list ∷ outer) Leave is r = (
            goes b (list ∷ outer) Leave is r (λ d o e k. absurd (cc)),
            same_last s.tree new.tree (ap (λ (x : Standing). x.tree) r.1),
          )

      -- all steps
      pub run_turned : (steps : List TreeStep) (s : Standing) (all : List StepAnswer) → s.tree.start ≡ p
          → IsIn limit u t fits s → HasTreeRun limit s steps all
          → AreTurned limit u (codes_of t) (rows_of limit p) (reached limit s) steps all
      run_turned [] s all same inside run = tt
      run_turned (step ∷ steps) s [] same inside run = tt
      run_turned (step ∷ steps) s (a ∷ all) same inside (new, r, more) =
          let k = turn_in limit u t fits s step a new inside r in (
            reached limit new,
            turned s.is_on s.lists s step a new refl same inside.here
                inside.follows r,
            run_turned steps new all
                (turn_same limit s.is_on s.lists s step a new r ∙ same) k.0 more,
          )

-- the answers of a run are those of its steps, from the tree's start on
pub run_tree_turned : (limit : ℕ) (u : UnitView) (t : Table)
    (fits : length u.entries.bytes ≤ whole_length u) (start : Option ℕ) (steps : List TreeStep)
    (tree : TreeView) (all : List StepAnswer)
    → Ok tree ≡ tree_from u t start → HasTreeRun limit (at_none tree []) steps all
    → HoldsFrom (tree_view u start) (λ v. AreTurnedFrom limit u (codes_of t) v steps all)
run_tree_turned limit u t fits start steps tree all begins run =
    let i = tree_is u t start tree begins in
    let s = tree_start u t start i.0 i.1 in
    let at : tree ≡ before_root
    (record {
      rest = s.0;
      encoding = u.encoding;
      abbreviations = t;
      end = whole_length u;
      depth = pos 0;
    }) = i.2 ∙ ap before_root s.2 in
    let inside = rw at at (first_in limit u t fits start steps tree all begins run) in
    rw s.1 (run_turned limit u t fits _ refl steps _ all refl inside (rw at at run))

module _ (limit : ℕ) (u : UnitView) (t : Table) (start : Option ℕ) (steps : List TreeStep) where
  -- what a run from a start promises
  pub tree_run_from : (all : List StepAnswer) (stopped : Bool) (count : ℕ) (tree : TreeView)
      → length u.entries.bytes ≤ whole_length u → Ok tree ≡ tree_from u t start
      → HasTreeRun limit (at_none tree []) steps all → count ≡ length all
      → IsStopped stopped count (length steps)
      → IsTreeRunFrom limit u (codes_of t) steps (tree_view u start) (Ok (run_of all stopped))
  tree_run_from all stopped count tree fits begins run counted stop =
      parts (tree_view u start)
      (λ h. run_tree_as limit u t fits start steps tree all begins run stopped count counted
      stop h)
      (run_tree_roots limit u t fits start steps tree all begins run)
      (run_tree_turned limit u t fits start steps tree all begins run)
    where
      parts : (r : Result View Error)
          → (IsHonestFrom limit u (codes_of t) r
          → RunsAs (Ok (run_of all stopped))
          (answer_of (tree_answers_at limit u (codes_of t) steps) r))
          → HoldsFrom r (λ v. AreRoots (root_at limit u (codes_of t) v) steps all)
          → HoldsFrom r (λ v. AreTurnedFrom limit u (codes_of t) v steps all)
          → IsTreeRunFrom limit u (codes_of t) steps r (Ok (run_of all stopped))
      parts (Ok v) answers are_roots are_turned = record {
        answers = answers;
        are_true = run_tree_true limit u t fits start steps tree all begins run;
        are_roots = are_roots;
        are_turned = are_turned;
        are_growing = run_tree_growing limit u t fits start steps tree all begins run;
        are_taken = run_tree_taken limit u t fits start steps tree all begins run;
        stopped = rw (← counted) stop;
      }
      parts (Err e) answers are_roots are_turned = are_roots

  -- and one that is refused
  pub tree_refused_from : (e : Error) → Err e ≡ tree_from u t start
      → IsTreeRunFrom limit u (codes_of t) steps (tree_view u start) (Err e)
  tree_refused_from e is = rw (tree_refused u t start e is) refl
