-- What the answers of a run of a tree are where the rows are honest: the definition's.
use Rattle.std.proofs.Common.{◌≡◌, ℕ, suc, ◌++◌, ℤ, pos, Bool, true, false, List, [], ◌∷◌, length}
use Rattle.std.proofs.Common.{Option, Some, None, Result, Ok, Err, refl, sym, ap, ◌∙◌}
use Rattle.gimli_base.specs.declared.error.Error.{Error}
use Rattle.gimli_units.specs.RawPlace.{RawPlace}
use Rattle.gimli_units.specs.Rows.{Ahead}
use Rattle.gimli_units.specs.Honest.{AreHonest}
use Rattle.gimli_units.specs.CursorModel.{rows_of, IsHonestFor}
use Rattle.gimli_units.specs.CursorModel.{IsHonestCursor}
use Rattle.gimli_units.proofs.TreeLaw.{honest_at, honest_sought, honest_first}
use Rattle.gimli_units.specs.TreePlace.{Lists, TreePlace, StepAnswer, list_end, has_entered, has_left}
use Rattle.gimli_units.specs.TreePlace.{no_node, children_of, TreeMoved, to_next, to_enter}
use Rattle.gimli_units.specs.TreePlace.{to_leave}
use Rattle.gimli_units.specs.TreeMoves.{TreeView, node_at, in_lists, root_moved, gone_on, HasBegun}
use Rattle.gimli_walk.specs.declared.tree.TreeStep.{TreeStep}
use Rattle.gimli_walk.specs.declared.tree.TreeStep.TheVariants.{Root, Next, Enter, Leave}
use Rattle.gimli_walk.specs.Runs.{IsFront}
use Rattle.gimli_walk.specs.Trees.{tree_step, tree_answers}
use Rattle.gimli_walk.proofs.CursorTruth.{unless_fine}
use Rattle.gimli_units.specs.TreeWalker.{Standing, at_node, at_none, standing_place, begun_answer}
use Rattle.gimli_units.specs.TreeWalker.{after_begun, asked_answer, after_asked}
use Rattle.gimli_walk.specs.TreeTurns.{HasTurned, HasTreeRun}

abbrev pub moved_to : ℕ → StepAnswer → Standing → TreeMoved
moved_to limit answer s = record { answer = answer; place = standing_place limit s }

module _ (limit : ℕ) where
  begun_is : (outcome : Result (Unit {0}) Error) (t : TreeView)
      → moved_to limit (begun_answer outcome t) (after_begun outcome t) ≡ root_moved limit outcome t
  begun_is (Ok u) t = refl
  begun_is (Err e) t = refl

  pub asked_is : (d : ℤ) (outer : Lists) (outcome : Result Bool Error) (t : TreeView)
      → moved_to limit (asked_answer outcome t) (after_asked (Some d) outer outcome t)
      ≡ gone_on limit d outer outcome t
  asked_is d outer (Ok true) t = refl
  asked_is d outer (Ok false) t = refl
  asked_is d outer (Err e) t = refl

  -- the place, whether the tree stands on a node or not
  next_same : (b : Bool) (t : TreeView) (lists : Lists) (end : ℕ) (list : Option ℤ) (outer : Lists)
      → lists ≡ list ∷ outer
      → to_next end (standing_place limit (record { tree = t; is_on = b; lists = lists }))
      ≡ to_next end (in_lists limit t (list ∷ outer))
  unfolding to_next
  next_same true t lists end list outer is = rw is refl
  next_same false t lists end list outer is = rw is refl

  no_next : (b : Bool) (t : TreeView) (end : ℕ)
      → to_next end (standing_place limit (record { tree = t; is_on = b; lists = [] }))
      ≡ moved_to limit no_node (record { tree = t; is_on = b; lists = [] })
  unfolding to_next
  no_next true t end = refl
  no_next false t end = refl

  closed_next : (t : TreeView) (outer : Lists) (end : ℕ)
      → to_next end (in_lists limit t (None ∷ outer))
      ≡ moved_to limit list_end (at_none t (None ∷ outer))
  unfolding to_next
  closed_next t outer end = refl

  leaves : (b : Bool) (t : TreeView) (list : Option ℤ) (outer : Lists)
      → to_leave (standing_place limit (record { tree = t; is_on = b; lists = list ∷ outer }))
      ≡ moved_to limit has_left (at_none t outer)
  unfolding to_leave
  leaves true t list outer = refl
  leaves false t list outer = refl

  no_leave : (b : Bool) (t : TreeView)
      → to_leave (standing_place limit (record { tree = t; is_on = b; lists = [] }))
      ≡ moved_to limit no_node (record { tree = t; is_on = b; lists = [] })
  unfolding to_leave
  no_leave true t = refl
  no_leave false t = refl

  enters_node : (t : TreeView) (lists : Lists) → to_enter (standing_place limit (at_node t lists))
      ≡ moved_to limit has_entered (at_none t (children_of (node_at t) ∷ lists))
  unfolding to_enter
  enters_node t lists = refl

  no_enter : (t : TreeView) (lists : Lists)
      → to_enter (standing_place limit (at_none t lists)) ≡ moved_to limit no_node (at_none t lists)
  unfolding to_enter
  no_enter t lists = refl

  -- The rows of a tree are honest: all from its start on; and where there is a node or a list,
  -- those from where it stands on.
  pub record IsHonestStanding (s : Standing) : Type 0 where
    pub start : AreHonest s.tree.start.end (rows_of limit s.tree.start).rows
    pub end : s.tree.cursor.raw.end ≡ s.tree.start.end
    pub here : (s.lists ≡ [] → s.is_on ≡ true) → IsHonestCursor limit s.tree.cursor

  -- a step answers as the definition says; the next node of an open list where the references are
  -- honest
  pub turn_is : (b : Bool) (lists : Lists) (s : Standing) (step : TreeStep) (answer : StepAnswer)
      (new : Standing) → s ≡ record { tree = s.tree; is_on = b; lists = lists }
      → HasTurned limit step (record { tree = s.tree; is_on = b; lists = lists }) answer new
      → ((d : ℤ) (outer : Lists) → step ≡ Next → lists ≡ Some d ∷ outer
      → IsHonestFor limit d s.tree.cursor)
      → moved_to limit answer new
      ≡ tree_step s.tree.start.end (rows_of limit s.tree.start) step (standing_place limit s)
  turn_is b lists s Root answer new is r honest =
      ap (λ x. moved_to limit x new) r.is
      ∙ ap (λ x. moved_to limit (begun_answer r.outcome new.tree) x) r.stands
      ∙ begun_is r.outcome new.tree ∙ unless_fine r.outcome r.begun.goes r.fine
  turn_is b [] s Next answer new is turned honest =
      ap (λ x. moved_to limit x new) turned.0 ∙ ap (λ x. moved_to limit no_node x) turned.1
      ∙ sym (no_next b s.tree s.tree.start.end)
      ∙ ap (λ x. to_next s.tree.start.end (standing_place limit x)) (sym is)
  turn_is b (None ∷ outer) s Next answer new is r honest =
      let answer_is : answer ≡ list_end = r.is ∙ ap (λ x. asked_answer x new.tree) r.asked.0 in
      let stands : new ≡ at_none s.tree (None ∷ outer) = r.stands
      ∙ ap (λ x. after_asked None outer x new.tree) r.asked.0
      ∙ ap (λ x. at_none x (None ∷ outer)) r.asked.1 in
      ap (λ x. moved_to limit x new) answer_is ∙ ap (λ x. moved_to limit list_end x) stands
      ∙ sym
      (next_same s.is_on s.tree s.lists s.tree.start.end None outer
      (ap (λ (x : Standing). x.lists) is) ∙ closed_next s.tree outer s.tree.start.end)
  turn_is b (Some d ∷ outer) s Next answer new is r honest =
      ap (λ x. moved_to limit x new) r.is
      ∙ ap (λ x. moved_to limit (asked_answer r.outcome new.tree) x) r.stands
      ∙ asked_is d outer r.outcome new.tree
      ∙ unless_fine r.outcome (r.asked.goes (honest d outer refl refl) outer) r.fine
      ∙ sym
      (next_same s.is_on s.tree s.lists s.tree.start.end (Some d) outer
      (ap (λ (x : Standing). x.lists) is))
  turn_is true lists s Enter answer new is turned honest =
      ap (λ x. moved_to limit x new) turned.0 ∙ ap (λ x. moved_to limit has_entered x) turned.1
      ∙ sym (enters_node s.tree lists) ∙ ap (λ x. to_enter (standing_place limit x)) (sym is)
  turn_is false lists s Enter answer new is turned honest =
      ap (λ x. moved_to limit x new) turned.0 ∙ ap (λ x. moved_to limit no_node x) turned.1
      ∙ sym (no_enter s.tree lists) ∙ ap (λ x. to_enter (standing_place limit x)) (sym is)
  turn_is b [] s Leave answer new is turned honest =
      ap (λ x. moved_to limit x new) turned.0 ∙ ap (λ x. moved_to limit no_node x) turned.1
      ∙ sym (no_leave b s.tree) ∙ ap (λ x. to_leave (standing_place limit x)) (sym is)
  turn_is b (list ∷ outer) s Leave answer new is turned honest =
      ap (λ x. moved_to limit x new) turned.0 ∙ ap (λ x. moved_to limit has_left x) turned.1
      ∙ sym (leaves b s.tree list outer) ∙ ap (λ x. to_leave (standing_place limit x)) (sym is)

  -- the tree's start stays
  pub turn_same : (is_on : Bool) (lists : Lists) (s : Standing) (step : TreeStep) (answer : StepAnswer)
      (new : Standing) → HasTurned limit step
      (record { tree = s.tree; is_on = is_on; lists = lists }) answer new
      → new.tree.start ≡ s.tree.start
  turn_same is_on lists s Root answer new r = r.begun.start
  turn_same is_on [] s Next answer new r = ap (λ (x : Standing). x.tree.start) r.1
  turn_same is_on (None ∷ outer) s Next answer new r = ap (λ (x : TreeView). x.start) r.asked.1
  turn_same is_on (Some d ∷ outer) s Next answer new r = r.asked.start
  turn_same true lists s Enter answer new r = ap (λ (x : Standing). x.tree.start) r.1
  turn_same false lists s Enter answer new r = ap (λ (x : Standing). x.tree.start) r.1
  turn_same is_on [] s Leave answer new r = ap (λ (x : Standing). x.tree.start) r.1
  turn_same is_on (list ∷ outer) s Leave answer new r = ap (λ (x : Standing). x.tree.start) r.1

  -- where nothing is read, honest rows stay honest
  still_honest : (s new : Standing) → new.tree ≡ s.tree
      → ((new.lists ≡ [] → new.is_on ≡ true) → s.lists ≡ [] → s.is_on ≡ true) → IsHonestStanding s
      → IsHonestStanding new
  still_honest s new same keeps h =
      rw same (record { start = h.start; end = h.end; here = λ k. h.here (keeps k) })

  root_honest : (s new : Standing) (outcome : Result (Unit {0}) Error) → IsHonestStanding s
      → HasBegun limit s.tree outcome new.tree → new ≡ after_begun outcome new.tree
      → IsHonestStanding new
  root_honest s new (Ok u) h b stands = record {
    start = rw b.start h.start;
    end = rw b.start b.unit.end;
    here = λ k. honest_first limit s.tree.start new.tree.cursor b.first.0 (pos 0) 0 b.unit.end
        h.start b.first.1;
  }
  root_honest s new (Err e) h b stands = record {
    start = rw b.start h.start;
    end = rw b.start b.unit.end;
    here =
        λ k.
        let off : false ≡ true = ap (λ (x : Standing). x.is_on) (sym stands)
        ∙ k (ap (λ (x : Standing). x.lists) stands) in absurd (cc);
  }

  -- a step from honest rows leads to honest rows
  honest_turn : (b : Bool) (lists : Lists) (s : Standing) (step : TreeStep) (answer : StepAnswer)
      (new : Standing) → s ≡ record { tree = s.tree; is_on = b; lists = lists } → IsHonestStanding s
      → HasTurned limit step (record { tree = s.tree; is_on = b; lists = lists }) answer new
      → IsHonestStanding new
  honest_turn b lists s Root answer new is h r = root_honest s new r.outcome h r.begun r.stands
  honest_turn b [] s Next answer new is h turned = rw (turned.1 ∙ sym is) h
  honest_turn b (None ∷ outer) s Next answer new is h r =
      still_honest s new r.asked.1
      (λ k none. let x : (None ∷ outer) ≡ [] = sym (ap (λ (y : Standing). y.lists) is) ∙ none in
      absurd (cc)) h
  honest_turn b (Some d ∷ outer) s Next answer new is h r =
      let honest =
      h.here
      (λ none. let x : (Some d ∷ outer) ≡ [] = sym (ap (λ (y : Standing). y.lists) is) ∙ none in
      absurd (cc)) in
      let moved = unless_fine r.outcome
      (r.asked.sought.found (λ f. honest_at limit s.tree.cursor d honest)) r.fine in
      record {
        start = rw r.asked.start h.start;
        end = rw r.asked.start (r.asked.sought.unit.end ∙ h.end);
        here = λ k. honest_sought limit s.tree.cursor new.tree.cursor r.outcome d
            s.tree.cursor.offset r.asked.sought.unit.end honest moved;
      }
  honest_turn true lists s Enter answer new is h turned =
      still_honest s new (ap (λ (x : Standing). x.tree) turned.1)
      (λ k none. ap (λ (x : Standing). x.is_on) is) h
  honest_turn false lists s Enter answer new is h turned = rw (turned.1 ∙ sym is) h
  honest_turn b [] s Leave answer new is h turned = rw (turned.1 ∙ sym is) h
  honest_turn b (list ∷ outer) s Leave answer new is h turned =
      still_honest s new (ap (λ (x : Standing). x.tree) turned.1)
      (λ k none. let x : (list ∷ outer) ≡ [] = sym (ap (λ (y : Standing). y.lists) is) ∙ none in
      absurd (cc)) h

  -- what is asked for the next node of an open list
  honest_list : (s : Standing) → IsHonestStanding s → (d : ℤ) (outer : Lists)
      → s.lists ≡ Some d ∷ outer → IsHonestFor limit d s.tree.cursor
  honest_list s h d outer at =
      honest_at limit s.tree.cursor d
      (h.here (λ none. let x : (Some d ∷ outer) ≡ [] = sym at ∙ none in absurd (cc)))

  -- where the rows are honest a run gives the first of the definition's answers
  pub tree_front : (steps : List TreeStep) (s : Standing) (all : List StepAnswer)
      → HasTreeRun limit s steps all → IsHonestStanding s
      → IsFront all
      (tree_answers s.tree.start.end (rows_of limit s.tree.start) steps
      (standing_place limit s))
  tree_front [] s [] run h = ([], refl)
  tree_front [] s (a ∷ all) run h = absurd run
  tree_front (step ∷ steps) s [] run h = (
    tree_answers s.tree.start.end (rows_of limit s.tree.start) (step ∷ steps)
        (standing_place limit s),
    refl,
  )
  tree_front (step ∷ steps) s (a ∷ all) (new, turned, more) h =
      let is = turn_is s.is_on s.lists s step a new refl turned
      (λ d outer e at. honest_list s h d outer at) in
      let same = turn_same s.is_on s.lists s step a new turned in
      let rest = tree_front steps new all more
      (honest_turn s.is_on s.lists s step a new refl h turned) in
      let end = s.tree.start.end in
      let rows = rows_of limit s.tree.start in
      let first : a ≡ (tree_step end rows step (standing_place limit s)).answer =
      ap (λ (m : TreeMoved). m.answer) is in
      let place : standing_place limit new
      ≡ (tree_step end rows step (standing_place limit s)).place =
      ap (λ (m : TreeMoved). m.place) is in
      let others : tree_answers end rows steps
      (tree_step end rows step (standing_place limit s)).place
      ≡ tree_answers new.tree.start.end (rows_of limit new.tree.start) steps
      (standing_place limit new) =
      ap (tree_answers end rows steps) (sym place)
      ∙ ap
      (λ (p : RawPlace). tree_answers p.end (rows_of limit p) steps (standing_place limit new))
      (sym same) in (
        rest.0,
        ap (λ xs. (tree_step end rows step (standing_place limit s)).answer ∷ xs)
            (others ∙ rest.1) ∙ ap (λ x. x ∷ (all ++ rest.0)) (sym first),
      )

  pub tree_answers_length : (end : ℕ) (rows : Ahead) (steps : List TreeStep) (p : TreePlace)
      → length (tree_answers end rows steps p) ≡ length steps
  tree_answers_length end rows [] p = refl
  tree_answers_length end rows (s ∷ steps) p =
      ap suc (tree_answers_length end rows steps (tree_step end rows s p).place)
