-- What the answers of a run of a tree are, whatever the references: true, with growing offsets, and
-- references are taken.
use Rattle.std.proofs.Common.{◌≡◌, ℕ, ◌-◌, ◌<◌, ◌≤◌, ℤ, pos, Bool, true, false, List, [], ◌∷◌}
use Rattle.std.proofs.Common.{length, Option, Some, None, Result, Ok, Err, refl, sym, ap, ◌∙◌}
use Rattle.std.proofs.Common.{arith}
use Rattle.std.specs.Prelude.{if◌then◌else◌, unwrap_or}
use Rattle.gimli_base.specs.declared.error.Error.{Error}
use Rattle.gimli_base.specs.declared.error.Error.TheVariants.{OutOfMemory}
use Rattle.gimli_base.specs.Offset.{answer_of}
use Rattle.gimli_base.proofs.Later.{IsLater-length}
use Rattle.gimli_base.specs.Reading.{Reads}
use Rattle.gimli_base.specs.Table.{Table, codes_of}
use Rattle.gimli_base.specs.View.{View, cut}
use Rattle.gimli_units.specs.Entry.{Entry, is_null, entry_at}
use Rattle.gimli_units.specs.RawPlace.{RawPlace, next_offset_of}
use Rattle.gimli_units.specs.Rows.{Ahead}
use Rattle.gimli_units.specs.Kind.{kind_of}
use Rattle.gimli_units.specs.Honest.{target, usable_target}
use Rattle.gimli_units.specs.Unit.{UnitView, whole_length, header_size, range_from, entries_in}
use Rattle.gimli_units.specs.Unit.{entries_from, some_entry}
use Rattle.gimli_units.specs.CursorPlace.{first_of_rows}
use Rattle.gimli_units.specs.CursorModel.{CursorView, next_of, rows_of, rows_from, place_of}
use Rattle.gimli_units.specs.CursorModel.{last_row, followed_to, IsSameUnit, IsFurther}
use Rattle.gimli_units.specs.CursorStart.{before_first}
use Rattle.gimli_units.proofs.CursorLaw.{StandsIn, start_stands, step_stands, in_unit, unit_rows}
use Rattle.gimli_units.proofs.CursorLaw.{entry_law, refusal_law}
use Rattle.gimli_units.proofs.TreeLaw.{unit_reads, unit_bytes}
use Rattle.gimli_units.specs.TreePlace.{Node, Lists, StepAnswer, a_node, list_end, a_fault, has_entered}
use Rattle.gimli_units.specs.TreePlace.{has_left, no_node, TreeMoved, to_root, found_in}
use Rattle.gimli_units.specs.TreeMoves.{TreeView, before_root, tree_from, node_at, HasBegun}
use Rattle.gimli_units.specs.TreeMoves.{HasGoneOn}
use Rattle.gimli_walk.specs.declared.tree.TreeStep.{TreeStep}
use Rattle.gimli_walk.specs.declared.tree.TreeStep.TheVariants.{Root, Next, Enter, Leave}
use Rattle.gimli_walk.specs.Runs.{IsFront, run_of, RunsAs}
use Rattle.gimli_units.specs.UnitRows.{unit_rows_at, IsHonestFrom}
use Rattle.gimli_walk.specs.Cursors.{HoldsFrom, IsStopped}
use Rattle.gimli_walk.specs.Trees.{tree_answers_at, before_steps, tree_view, run_tree_answers}
use Rattle.gimli_walk.specs.TrueStepAnswers.{IsTrueStepAnswer, AreTrueStepAnswers, AreRoots, root_at, last_node}
use Rattle.gimli_walk.specs.TrueStepAnswers.{IsPast, IsPastLast, AreGrowing, is_next, is_root}
use Rattle.gimli_walk.specs.TrueStepAnswers.{IsTakenFrom, IsTakenAfter, AreTakenAfter}
use Rattle.gimli_units.specs.TreeWalker.{Standing, at_none, begun_answer, asked_answer, after_asked}
use Rattle.gimli_walk.specs.TreeTurns.{HasAsked, HasTurned, HasTreeRun}
use Rattle.gimli_walk.proofs.CursorTruth.{unless_fine, run_of_front}
use Rattle.gimli_walk.proofs.AnswerTruth.{here_is, low_bound}
use Rattle.gimli_walk.proofs.TreeTruth.{turn_same, tree_front, tree_answers_length}

-- the next offset never falls
pub later_offset : (old new : CursorView) → IsSameUnit old new → IsFurther old new
    → next_offset_of old.raw ≤ next_offset_of new.raw
later_offset old new same further =
    let fewer = IsLater-length 0 old.raw.rest new.raw.rest further in
    let end = same.end in
    omega (arith, fewer, end)

module _ (limit : ℕ) (u : UnitView) (t : Table)
    (fits : length u.entries.bytes ≤ whole_length u) where
  -- the entry that a cursor stands on, and its reader is right after it
  abbrev StandsOn : CursorView → Type 0
  StandsOn c = Ok (c.entry, c.raw.rest)
      ≡ entry_at limit u.encoding (codes_of t) (cut (c.offset - header_size u) u.entries)

  -- A run stands in the unit; where it stands on a node, the reader is right after it, and after
  -- the last node.
  pub record IsIn (s : Standing) : Type 0 where
    pub start : StandsIn u t (before_first true s.tree.start)
    pub here : StandsIn u t s.tree.cursor
    pub follows : s.tree.cursor.follows ≡ true

  -- what a turn keeps
  record Kept (s : Standing) (step : TreeStep) (answer : StepAnswer) (new : Standing) : Type 0 where
    is_in : IsIn new
    is_true : IsTrueStepAnswer limit u (codes_of t) step answer
    offset : (o : ℕ) → o < next_offset_of s.tree.cursor.raw → o < next_offset_of new.tree.cursor.raw

  same_kept : (s new : Standing) (step : TreeStep) (answer answer' : StepAnswer) → answer ≡ answer'
      → new.tree ≡ s.tree → IsIn s → IsTrueStepAnswer limit u (codes_of t) step answer'
      → Kept s step answer new
  same_kept s new step answer answer' is same inside true_one = record {
    is_in = rw same (record { start = inside.start; here = inside.here; follows = inside.follows });
    is_true = rw is true_one;
    offset = λ o h. rw same h;
  }

  root_in : (s new : Standing) (outcome : Result (Unit {0}) Error)
      → HasBegun limit s.tree outcome new.tree → IsIn s → IsIn new
  root_in s new outcome b inside = record {
    start = rw b.start inside.start;
    here = step_stands u t (before_first true s.tree.start) new.tree.cursor inside.start b.unit
        b.further;
    follows = b.unit.follows;
  }

  root_true : (s new : Standing) (outcome : Result (Unit {0}) Error)
      → HasBegun limit s.tree outcome new.tree → (outcome ≡ Err OutOfMemory → ⊥) → IsIn s
      → IsTrueStepAnswer limit u (codes_of t) Root (begun_answer outcome new.tree)
  root_true s new (Ok k) b fine inside =
      let y = b.yes refl in
      entry_law limit u t fits (before_first true s.tree.start) inside.start new.tree.cursor
      b.unit.end y.0 y.1
  root_true s new (Err e) b fine inside =
      let p = s.tree.start in
      let no = b.refused e refl in
      let end = inside.start.end in
      let before = no.before in (
        next_offset_of p,
        in_unit limit u t fits (before_first true p) inside.start (next_offset_of p) (omega arith)
            (omega (arith, before, end)),
        unit_reads limit u t fits (before_first true p) inside.start (next_offset_of p)
            (omega arith) (omega (arith, before, end))
            ∙ ap (λ v. some_entry (next_offset_of p) (next_of limit p v)) (here_is p)
            ∙ no.is (λ m. fine (ap Err m)),
      )

  next_kept : (s new : Standing) (d : ℤ) (outcome : Result Bool Error)
      → HasGoneOn limit d s.tree outcome new.tree → (outcome ≡ Err OutOfMemory → ⊥) → IsIn s
      → IsIn new × IsTrueStepAnswer limit u (codes_of t) Next (asked_answer outcome new.tree)
  next_kept s new d outcome g fine inside = (
    record {
      start = rw g.start inside.start;
      here = step_stands u t s.tree.cursor new.tree.cursor inside.here g.sought.unit
          g.sought.further;
      follows = g.sought.unit.follows ∙ inside.follows;
    },
    cases outcome g fine,
  )
    where
      cases : (r : Result Bool Error) → HasGoneOn limit d s.tree r new.tree
          → (r ≡ Err OutOfMemory → ⊥) → IsTrueStepAnswer limit u (codes_of t) Next (asked_answer r new.tree)
      cases (Ok true) g fine = let y = g.sought.yes refl in
          entry_law limit u t fits s.tree.cursor inside.here new.tree.cursor g.sought.unit.end y.0
          y.1
      cases (Ok false) g fine = tt
      cases (Err e) g fine = (
        new.tree.cursor.offset,
        refusal_law limit u t fits s.tree.cursor inside.here new.tree.cursor e
            (λ m. fine (ap Err m)) (g.sought.refused e refl),
      )

  asked_kept : (s new : Standing) (answer : StepAnswer) (list : Option ℤ) (outer : Lists) → IsIn s
      → HasAsked limit list outer s.tree answer new → Kept s Next answer new
  asked_kept s new answer None outer inside r =
      same_kept s new Next answer list_end (r.is ∙ ap (λ x. asked_answer x new.tree) r.asked.0)
      r.asked.1 inside tt
  asked_kept s new answer (Some d) outer inside r =
      let k = next_kept s new d r.outcome r.asked r.fine inside in
      record {
        is_in = k.0;
        is_true = rw r.is k.1;
        offset =
            λ o h.
            let l = later_offset s.tree.cursor new.tree.cursor r.asked.sought.unit
            r.asked.sought.further in omega (arith, h, l);
      }

  -- a step but Root keeps all this
  kept : (b : Bool) (lists : Lists) (s : Standing) (step : TreeStep) (answer : StepAnswer) (new : Standing)
      → is_root step ≡ false → IsIn s
      → HasTurned limit step (record { tree = s.tree; is_on = b; lists = lists }) answer new
      → Kept s step answer new
  kept b lists s Root answer new other inside turned = absurd (cc)
  kept b [] s Next answer new other inside turned =
      same_kept s new Next answer no_node turned.0 (ap (λ (x : Standing). x.tree) turned.1) inside tt
  kept b (list ∷ outer) s Next answer new other inside turned =
      asked_kept s new answer list outer inside turned
  kept true lists s Enter answer new other inside turned =
      same_kept s new Enter answer has_entered turned.0 (ap (λ (x : Standing). x.tree) turned.1)
      inside tt
  kept false lists s Enter answer new other inside turned =
      same_kept s new Enter answer no_node turned.0 (ap (λ (x : Standing). x.tree) turned.1) inside tt
  kept b [] s Leave answer new other inside turned =
      same_kept s new Leave answer no_node turned.0 (ap (λ (x : Standing). x.tree) turned.1) inside tt
  kept b (list ∷ outer) s Leave answer new other inside turned =
      same_kept s new Leave answer has_left turned.0 (ap (λ (x : Standing). x.tree) turned.1) inside
      tt

  pub turn_in : (s : Standing) (step : TreeStep) (answer : StepAnswer) (new : Standing) → IsIn s
      → HasTurned limit step s answer new → IsIn new × IsTrueStepAnswer limit u (codes_of t) step answer
  turn_in s Root answer new inside r = (
    root_in s new r.outcome r.begun inside,
    rw r.is (root_true s new r.outcome r.begun r.fine inside),
  )
  turn_in s Next answer new inside turned =
      let k = kept s.is_on s.lists s Next answer new refl inside turned in (k.is_in, k.is_true)
  turn_in s Enter answer new inside turned =
      let k = kept s.is_on s.lists s Enter answer new refl inside turned in (k.is_in, k.is_true)
  turn_in s Leave answer new inside turned =
      let k = kept s.is_on s.lists s Leave answer new refl inside turned in (k.is_in, k.is_true)

  -- all answers are true
  pub tree_true : (steps : List TreeStep) (s : Standing) (all : List StepAnswer)
      → HasTreeRun limit s steps all → IsIn s → AreTrueStepAnswers limit u (codes_of t) steps all
  tree_true [] s [] run inside = tt
  tree_true [] s (a ∷ all) run inside = absurd run
  tree_true (step ∷ steps) s [] run inside = tt
  tree_true (step ∷ steps) s (a ∷ all) (new, turned, more) inside =
      let k = turn_in s step a new inside turned in
      (k.1, tree_true steps new all more k.0)

  -- each root is the tree's
  rooted_is : (outcome : Result (Unit {0}) Error) (old new : TreeView)
      → HasBegun limit old outcome new → (outcome ≡ Err OutOfMemory → ⊥)
      → begun_answer outcome new ≡ (to_root old.start.end (rows_of limit old.start)).answer
  rooted_is (Ok k) old new b fine = ap (λ (m : TreeMoved). m.answer) (unless_fine (Ok k) b.goes fine)
  rooted_is (Err e) old new b fine =
      ap (λ (m : TreeMoved). m.answer) (unless_fine (Err e) b.goes fine)

  is_rooted : (p : RawPlace) (s : Standing) (step : TreeStep) (answer : StepAnswer) (new : Standing)
      → s.tree.start ≡ p → HasTurned limit step s answer new → is_root step ≡ true
      → answer ≡ (to_root p.end (rows_of limit p)).answer
  is_rooted p s Root answer new same r root =
      r.is ∙ rooted_is r.outcome s.tree new.tree r.begun r.fine
      ∙ ap (λ (x : RawPlace). (to_root x.end (rows_of limit x)).answer) same
  is_rooted p s Next answer new same r root = absurd (cc)
  is_rooted p s Enter answer new same r root = absurd (cc)
  is_rooted p s Leave answer new same r root = absurd (cc)

  pub tree_roots : (p : RawPlace) (steps : List TreeStep) (s : Standing) (all : List StepAnswer)
      → s.tree.start ≡ p → HasTreeRun limit s steps all
      → AreRoots (to_root p.end (rows_of limit p)).answer steps all
  tree_roots p [] s [] same run = tt
  tree_roots p [] s (a ∷ all) same run = tt
  tree_roots p (step ∷ steps) s [] same run = tt
  tree_roots p (step ∷ steps) s (a ∷ all) same (new, turned, more) = (
    is_rooted p s step a new same turned,
    tree_roots p steps new all (turn_same limit s.is_on s.lists s step a new turned ∙ same)
        more,
  )

  -- the last node stands before what is read next
  abbrev IsAfterLast : Option ℕ → Standing → Type 0
  IsAfterLast last s =
      elim last [ None ↦ Unit {0} | Some o ↦ o < next_offset_of s.tree.cursor.raw ]

  pub record Grown (last : Option ℕ) (s : Standing) (step : TreeStep) (answer : StepAnswer)
      (new : Standing) : Type 0 where
    pub past : IsPastLast last step answer
    pub after : IsAfterLast (last_node last step answer) new

  quiet_past : (last : Option ℕ) (step : TreeStep) (answer : StepAnswer) → ((o : ℕ) → IsPast o answer)
      → IsPastLast last step answer
  quiet_past None step answer h = tt
  quiet_past (Some o) step answer h = λ other. h o

  root_past : (last : Option ℕ) (answer : StepAnswer) → IsPastLast last Root answer
  root_past None answer = tt
  root_past (Some o) answer = λ other. absurd (cc)

  kept_after : (last : Option ℕ) (s new : Standing)
      → ((o : ℕ) → o < next_offset_of s.tree.cursor.raw → o < next_offset_of new.tree.cursor.raw)
      → IsAfterLast last s → IsAfterLast last new
  kept_after None s new h b = tt
  kept_after (Some o) s new h b = h o b

  rooted_grown : (last : Option ℕ) (s new : Standing) (answer : StepAnswer)
      (outcome : Result (Unit {0}) Error) → HasBegun limit s.tree outcome new.tree
      → answer ≡ begun_answer outcome new.tree → Grown last s Root answer new
  rooted_grown last s new answer (Ok k) b is = let y = b.yes refl in
      rw is (record { past = root_past last (a_node (node_at new.tree)); after = y.0.before })
  rooted_grown last s new answer (Err e) b is =
      rw is (record { past = root_past last (a_fault e); after = tt })

  next_grown : (last : Option ℕ) (s new : Standing) (answer : StepAnswer) (d : ℤ)
      (outcome : Result Bool Error) → HasGoneOn limit d s.tree outcome new.tree
      → answer ≡ asked_answer outcome new.tree → IsAfterLast last s
      → ((o : ℕ) → o < next_offset_of s.tree.cursor.raw → o < next_offset_of new.tree.cursor.raw)
      → Grown last s Next answer new
  next_grown last s new answer d (Ok true) g is b further =
      let y = g.sought.yes refl in
      rw is (record { past = past last b; after = y.0.before })
    where
      past : (last : Option ℕ) → IsAfterLast last s
          → IsPastLast last Next (a_node (node_at new.tree))
      past None b = tt
      past (Some o) b = λ other. let after = (g.sought.yes refl).0.after in omega (arith, b, after)
  next_grown last s new answer d (Ok false) g is b further =
      rw is
      (record {
        past = quiet_past last Next list_end (λ o. tt);
        after = kept_after last s new further b;
      })
  next_grown last s new answer d (Err e) g is b further =
      rw is
      (record {
        past = quiet_past last Next (a_fault e) (λ o. tt);
        after = kept_after last s new further b;
      })

  still_after : (last : Option ℕ) (s new : Standing) → new.tree ≡ s.tree → IsAfterLast last s
      → IsAfterLast last new
  still_after last s new same b = kept_after last s new (λ o h. rw same h) b

  asked_grown : (last : Option ℕ) (s new : Standing) (answer : StepAnswer) (list : Option ℤ) (outer : Lists)
      → HasAsked limit list outer s.tree answer new → IsAfterLast last s → Grown last s Next answer new
  asked_grown last s new answer None outer r b =
      rw (r.is ∙ ap (λ x. asked_answer x new.tree) r.asked.0)
      (record {
        past = quiet_past last Next list_end (λ o. tt);
        after = still_after last s new r.asked.1 b;
      })
  asked_grown last s new answer (Some d) outer r b =
      next_grown last s new answer d r.outcome r.asked r.is b
      (λ o h.
      let l = later_offset s.tree.cursor new.tree.cursor r.asked.sought.unit
      r.asked.sought.further in omega (arith, h, l))

  turn_grown : (is_on : Bool) (lists : Lists) (last : Option ℕ) (s : Standing) (step : TreeStep)
      (answer : StepAnswer) (new : Standing)
      → HasTurned limit step (record { tree = s.tree; is_on = is_on; lists = lists }) answer new
      → IsAfterLast last s → Grown last s step answer new
  turn_grown is_on lists last s Root answer new r b =
      rooted_grown last s new answer r.outcome r.begun r.is
  turn_grown is_on [] last s Next answer new r b =
      rw r.0
      (record {
        past = quiet_past last Next no_node (λ o. tt);
        after = still_after last s new (ap (λ (x : Standing). x.tree) r.1) b;
      })
  turn_grown is_on (list ∷ outer) last s Next answer new r b =
      asked_grown last s new answer list outer r b
  turn_grown true lists last s Enter answer new r b =
      rw r.0
      (record {
        past = quiet_past last Enter has_entered (λ o. tt);
        after = still_after last s new (ap (λ (x : Standing). x.tree) r.1) b;
      })
  turn_grown false lists last s Enter answer new r b =
      rw r.0
      (record {
        past = quiet_past last Enter no_node (λ o. tt);
        after = still_after last s new (ap (λ (x : Standing). x.tree) r.1) b;
      })
  turn_grown is_on [] last s Leave answer new r b =
      rw r.0
      (record {
        past = quiet_past last Leave no_node (λ o. tt);
        after = still_after last s new (ap (λ (x : Standing). x.tree) r.1) b;
      })
  turn_grown is_on (list ∷ outer) last s Leave answer new r b =
      rw r.0
      (record {
        past = quiet_past last Leave has_left (λ o. tt);
        after = still_after last s new (ap (λ (x : Standing). x.tree) r.1) b;
      })

  -- offsets of nodes grow
  pub tree_growing : (steps : List TreeStep) (s : Standing) (all : List StepAnswer) (last : Option ℕ)
      → HasTreeRun limit s steps all → IsAfterLast last s → AreGrowing last steps all
  tree_growing [] s all last run b = tt
  tree_growing (step ∷ steps) s [] last run b = tt
  tree_growing (step ∷ steps) s (a ∷ all) last (new, turned, more) b =
      let g = turn_grown s.is_on s.lists last s step a new turned b in
      (g.past, tree_growing steps new all (last_node last step a) more g.after)

  -- a node that Next gave: the tree stands on it, right after it, in a list of its depth
  abbrev IsHeld : StepAnswer → Standing → Type 0
  IsHeld (a_node n) s =
      StandsOn s.tree.cursor × (node_at s.tree ≡ n)
      × ((outer : Lists) × (s.lists ≡ Some n.depth ∷ outer))
  IsHeld answer s = Unit {0}

  abbrev HoldsLast : Option StepAnswer → Standing → Type 0
  HoldsLast before s = elim before [ None ↦ Unit {0} | Some a ↦ IsHeld a s ]

  answer_found : (start : RawPlace) (d : ℤ) (outcome : Result Bool Error) (c : CursorView)
      → (outcome ≡ Ok true → is_null c.entry ≡ false)
      → (outcome ≡ Ok false → is_null c.entry ≡ true)
      → asked_answer outcome (record { start = start; cursor = c })
      ≡ (found_in d [] (record { outcome = outcome; place = place_of limit c })).answer
  answer_found start d (Ok true) c some none = rw (some refl) refl
  answer_found start d (Ok false) c some none = rw (none refl) refl
  answer_found start d (Err e) c some none = refl

  taken_here : (n : Node) (s new : Standing) (answer : StepAnswer) (outer : Lists) → IsIn s
      → StandsOn s.tree.cursor → node_at s.tree ≡ n
      → HasAsked limit (Some n.depth) outer s.tree answer new
      → IsTakenFrom limit u (codes_of t) (a_node n) answer
  taken_here n s new answer outer inside on same r e w to reads to_sibling =
      let c = s.tree.cursor in
      let at : c.offset ≡ n.offset = ap (λ (x : Node). x.offset) same in
      let deep : c.depth ≡ n.depth = ap (λ (x : Node). x.depth) same in
      let read : ◌≡◌ {A = Reads Entry} (Ok (c.entry, c.raw.rest)) (Ok (e, w)) = on
      ∙ ap (λ o. entry_at limit u.encoding (codes_of t) (cut (o - header_size u) u.entries)) at
      ∙ sym reads in
      let one : ◌≡◌ {A = Entry × View} (c.entry, c.raw.rest) (e, w) = cc in
      let entry : c.entry ≡ e = ap (λ (x : Entry × View). x.0) one in
      let rest : c.raw.rest ≡ w = ap (λ (x : Entry × View). x.1) one in
      let used : usable_target c.raw.end (last_row c)
      ≡ Some to = rw (inside.here.end, entry, rest) to_sibling in
      let follow : followed_to c ≡ Some to = rw inside.follows used in
      let low = low_bound (next_offset_of c.raw) c.raw.end (target (kind_of c.entry)) to used in
      let there = unless_fine r.outcome (r.asked.sought.there to follow deep) r.fine in
      let sought = r.asked.sought in
      r.is ∙ answer_found new.tree.start n.depth r.outcome new.tree.cursor (λ is. (sought.yes is).1)
      (λ is. (sought.no is).0)
      ∙ ap (λ m. (found_in n.depth [] m).answer) there
      ∙ ap
      (λ k.
      (found_in n.depth []
      (first_of_rows k n.depth c.offset (rows_from limit c.raw to n.depth))).answer)
      inside.here.end
      ∙ ap
      (λ o.
      (found_in n.depth []
      (first_of_rows (whole_length u) n.depth o (rows_from limit c.raw to n.depth))).answer) at
      ∙ ap (λ a. (found_in n.depth [] (first_of_rows (whole_length u) n.depth n.offset a)).answer)
      (unit_rows limit u t fits c inside.here to n.depth low)

  taken : (a : StepAnswer) (s new : Standing) (answer : StepAnswer) → IsIn s → IsHeld a s
      → HasTurned limit Next s answer new → IsTakenFrom limit u (codes_of t) a answer
  taken (a_node n) s new answer inside held turned = lists s.lists refl turned
    where
      lists : (xs : Lists) → s.lists ≡ xs
          → HasTurned limit Next (record { tree = s.tree; is_on = s.is_on; lists = xs }) answer new
          → IsTakenFrom limit u (codes_of t) (a_node n) answer
      lists [] is r = let x : ◌≡◌ {A = Lists} [] (Some n.depth ∷ held.2.0) = sym is ∙ held.2.1 in
          absurd (cc)
      lists (None ∷ outer) is r =
          let x : ◌≡◌ {A = Lists} (None ∷ outer) (Some n.depth ∷ held.2.0) = sym is ∙ held.2.1 in
          absurd (cc)
      lists (Some d ∷ outer) is r =
          let x : ◌≡◌ {A = Lists} (Some d ∷ outer) (Some n.depth ∷ held.2.0) = sym is ∙ held.2.1 in
          let same : d ≡ n.depth = cc in
          taken_here n s new answer outer inside held.0 held.1 (rw same at r)
  taken list_end s new answer inside held turned = tt
  taken has_entered s new answer inside held turned = tt
  taken has_left s new answer inside held turned = tt
  taken no_node s new answer inside held turned = tt
  taken (a_fault e) s new answer inside held turned = tt

  taken_after : (before : Option StepAnswer) (s : Standing) (step : TreeStep) (answer : StepAnswer)
      (new : Standing) → IsIn s → HoldsLast before s → HasTurned limit step s answer new
      → IsTakenAfter limit u (codes_of t) before step answer
  taken_after None s step answer new inside held turned = tt
  taken_after (Some a) s Root answer new inside held turned = λ k. absurd (cc)
  taken_after (Some a) s Next answer new inside held turned =
      λ k. taken a s new answer inside held turned
  taken_after (Some a) s Enter answer new inside held turned = λ k. absurd (cc)
  taken_after (Some a) s Leave answer new inside held turned = λ k. absurd (cc)

  next_held : (s new : Standing) (answer : StepAnswer) (d : ℤ) (outer : Lists) (outcome : Result Bool Error)
      → IsIn s → HasGoneOn limit d s.tree outcome new.tree → answer ≡ asked_answer outcome new.tree
      → new ≡ after_asked (Some d) outer outcome new.tree → IsHeld answer new
  next_held s new answer d outer (Ok true) inside g is stands =
      let y = g.sought.yes refl in
      let on = y.0.is ∙ unit_bytes limit u t fits s.tree.cursor inside.here new.tree.cursor.offset
      y.0.after in
      rw is (
        on,
        refl,
        (outer, ap (λ (x : Standing). x.lists) stands ∙ ap (λ k. Some k ∷ outer) (sym y.2)),
      )
  next_held s new answer d outer (Ok false) inside g is stands = rw is tt
  next_held s new answer d outer (Err e) inside g is stands = rw is tt

  held : (lists : Lists) (s : Standing) (step : TreeStep) (answer : StepAnswer) (new : Standing) → IsIn s
      → HasTurned limit step (record { tree = s.tree; is_on = s.is_on; lists = lists }) answer new
      → HoldsLast (if is_next step then Some answer else None) new
  held lists s Root answer new inside turned = tt
  held [] s Next answer new inside turned = rw turned.0 tt
  held (None ∷ outer) s Next answer new inside r =
      rw (r.is ∙ ap (λ x. asked_answer x new.tree) r.asked.0) tt
  held (Some d ∷ outer) s Next answer new inside r =
      next_held s new answer d outer r.outcome inside r.asked r.is r.stands
  held lists s Enter answer new inside turned = tt
  held lists s Leave answer new inside turned = tt

  -- references are taken
  pub tree_taken : (steps : List TreeStep) (s : Standing) (all : List StepAnswer) (before : Option StepAnswer)
      → HasTreeRun limit s steps all → IsIn s → HoldsLast before s
      → AreTakenAfter limit u (codes_of t) before steps all
  tree_taken [] s all before run inside last = tt
  tree_taken (step ∷ steps) s [] before run inside last = tt
  tree_taken (step ∷ steps) s (a ∷ all) before (new, turned, more) inside last =
      let k = turn_in s step a new inside turned in (
        taken_after before s step a new inside last turned,
        tree_taken steps new all (if is_next step then Some a else None) more k.0
            (held s.lists s step a new inside turned),
      )

-- how a run starts
pub tree_start : (u : UnitView) (t : Table) (start : Option ℕ) (p : RawPlace)
    → Ok p ≡ entries_from u t start
    → (v : View) × (tree_view u start ≡ Ok v)
    × (p
    ≡ record {
      rest = v;
      encoding = u.encoding;
      abbreviations = t;
      end = whole_length u;
      depth = pos 0;
    })
unfolding entries_from
tree_start u t start p is = cases (range_from u (unwrap_or start (header_size u))) is
  where
    cases : (r : Result View Error) → Ok p ≡ entries_in u t r
        → (v : View) × (r ≡ Ok v)
        × (p
        ≡ record {
          rest = v;
          encoding = u.encoding;
          abbreviations = t;
          end = whole_length u;
          depth = pos 0;
        })
    cases (Ok v) e = (v, refl, cc)
    cases (Err x) e = absurd (cc)

-- a tree is one of the entries from its start
pub tree_is : (u : UnitView) (t : Table) (start : Option ℕ) (tree : TreeView)
    → Ok tree ≡ tree_from u t start
    → (p : RawPlace) × (Ok p ≡ entries_from u t start) × (tree ≡ before_root p)
tree_is u t start tree = cases (entries_from u t start)
  where
    cases : (r : Result RawPlace Error) → Ok tree ≡ answer_of before_root r
        → (p : RawPlace) × (Ok p ≡ r) × (tree ≡ before_root p)
    cases (Ok p) e = (p, refl, cc)
    cases (Err x) e = absurd (cc)

pub tree_refused : (u : UnitView) (t : Table) (start : Option ℕ) (e : Error)
    → Err e ≡ tree_from u t start → tree_view u start ≡ Err e
unfolding entries_from
tree_refused u t start e = cases (range_from u (unwrap_or start (header_size u)))
  where
    cases : (r : Result View Error) → Err e ≡ answer_of before_root (entries_in u t r) → r ≡ Err e
    cases (Ok v) k = absurd (cc)
    cases (Err x) k = cc

-- it stands in the unit from the first
stands_first : (u : UnitView) (t : Table) (start : Option ℕ) (p : RawPlace)
    → length u.entries.bytes ≤ whole_length u → Ok p ≡ entries_from u t start
    → StandsIn u t (before_first true p)
unfolding entries_from
stands_first u t None p fits is = start_stands u t true (Some (header_size u)) p fits is
stands_first u t (Some o) p fits is = start_stands u t true (Some o) p fits is

module _ (limit : ℕ) (u : UnitView) (t : Table) (fits : length u.entries.bytes ≤ whole_length u)
    (start : Option ℕ) (steps : List TreeStep) (tree : TreeView) (all : List StepAnswer)
    (begins : Ok tree ≡ tree_from u t start)
    (run : HasTreeRun limit (at_none tree []) steps all) where
  pub first_in : IsIn limit u t fits (at_none tree [])
  first_in =
      let i = tree_is u t start tree begins in
      let stands = stands_first u t start i.0 fits i.1 in
      rw i.2 (record { start = stands; here = stands; follows = refl })

  pub run_tree_true : AreTrueStepAnswers limit u (codes_of t) steps all
  run_tree_true = tree_true limit u t fits steps (at_none tree []) all run first_in

  pub run_tree_roots : HoldsFrom (tree_view u start)
      (λ v. AreRoots (root_at limit u (codes_of t) v) steps all)
  run_tree_roots =
      let i = tree_is u t start tree begins in
      let s = tree_start u t start i.0 i.1 in
      let at : tree.start
      ≡ record {
        rest = s.0;
        encoding = u.encoding;
        abbreviations = t;
        end = whole_length u;
        depth = pos 0;
      } = ap (λ (x : TreeView). x.start) i.2 ∙ s.2 in
      rw s.1 (tree_roots limit u t fits _ steps (at_none tree []) all at run)

  pub run_tree_growing : AreGrowing None steps all
  run_tree_growing = tree_growing limit u t fits steps (at_none tree []) all None run tt

  pub run_tree_taken : AreTakenAfter limit u (codes_of t) None steps all
  run_tree_taken = tree_taken limit u t fits steps (at_none tree []) all None run first_in tt

  pub run_tree_as : (stopped : Bool) (count : ℕ) → count ≡ length all
      → IsStopped stopped count (length steps)
      → IsHonestFrom limit u (codes_of t) (tree_view u start)
      → RunsAs (Ok (run_of all stopped)) (run_tree_answers limit u (codes_of t) start steps)
  run_tree_as stopped count counted stop honest =
      let i = tree_is u t start tree begins in
      let s = tree_start u t start i.0 i.1 in
      let at : tree ≡ before_root
      (record {
        rest = s.0;
        encoding = u.encoding;
        abbreviations = t;
        end = whole_length u;
        depth = pos 0;
      }) = i.2 ∙ ap before_root s.2 in
      let run_at = rw at at run in
      let honest_at = rw s.1 at honest in
      let front : IsFront all (tree_answers_at limit u (codes_of t) steps s.0) =
      tree_front limit steps _ all run_at
      (record {
        start = honest_at;
        end = refl;
        here = λ k. let off : false ≡ true = k refl in
            absurd (cc);
      }) in
      let rows : Ahead = unit_rows_at limit u (codes_of t) (pos 0) s.0 in
      let long = tree_answers_length limit (whole_length u) rows steps (before_steps rows) in
      rw s.1
      (run_of_front all (tree_answers_at limit u (codes_of t) steps s.0) stopped count
      (length steps) front counted long stop)

pub run_tree_refused : (limit : ℕ) (u : UnitView) (t : Table) (start : Option ℕ)
    (steps : List TreeStep) (e : Error) → Err e ≡ tree_from u t start
    → RunsAs (Err e) (run_tree_answers limit u (codes_of t) start steps)
run_tree_refused limit u t start steps e is = let no = tree_refused u t start e is in rw no refl
