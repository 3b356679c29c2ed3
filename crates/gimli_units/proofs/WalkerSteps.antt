-- The steps of a walker are those of its place.
use Rattle.std.proofs.Common.{◌≡◌, ℕ, ℤ, Bool, true, false, [], ◌∷◌, Option, Some, None, Result, Ok}
use Rattle.std.proofs.Common.{Err, refl, ◌∙◌, arith}
use Rattle.std.specs.Prelude.{IfOk}
use Rattle.gimli_base.specs.declared.error.Error.{Error}
use Rattle.gimli_base.specs.Reading.{UnlessMemory}
use Rattle.gimli_units.specs.CursorModel.{IsOver}
use Rattle.gimli_units.specs.TreePlace.{Lists, no_node, list_end, to_next, to_enter, to_leave}
use Rattle.gimli_units.specs.TreeMoves.{TreeView, in_lists, gone_on}
use Rattle.gimli_units.specs.TreeWalker.{Standing, at_none, standing_place, moved_to, asked_answer}
use Rattle.gimli_units.specs.TreeWalker.{after_asked, HasAskedOne, IsHonestIn, walker_answer}
use Rattle.gimli_units.specs.TreeWalker.{entered_from, entered_answer, left_from, are_some, left_answer}
use Rattle.gimli_units.proofs.Onward.{unless_then}

pub if_ok : {A : Type 0} {P Q : A → Type 0} → (r : Result A Error) → IfOk r P
    → ((a : A) → P a → Q a) → IfOk r Q
if_ok (Ok a) p f = f a p
if_ok (Err e) p f = tt

module _ (limit : ℕ) where
  left_at : (t : TreeView) (on : Bool) (lists : Lists)
      → moved_to limit (left_answer (are_some lists))
      (left_from lists (record { tree = t; is_on = on; lists = lists }))
      ≡ to_leave (standing_place limit (record { tree = t; is_on = on; lists = lists }))
  unfolding to_leave
  left_at t true [] = refl
  left_at t false [] = refl
  left_at t true (list ∷ outer) = refl
  left_at t false (list ∷ outer) = refl

  pub left_goes : (old new : Standing) (b : Bool)
      → (b ≡ are_some old.lists) × (new ≡ left_from old.lists old)
      → moved_to limit (left_answer b) new ≡ to_leave (standing_place limit old)
  left_goes old new b h = rw (h.0, h.1) (left_at old.tree old.is_on old.lists)

  entered_at : (t : TreeView) (on : Bool) (lists : Lists)
      → moved_to limit (entered_answer on)
      (entered_from (record { tree = t; is_on = on; lists = lists }))
      ≡ to_enter (standing_place limit (record { tree = t; is_on = on; lists = lists }))
  unfolding to_enter
  entered_at t true lists = refl
  entered_at t false lists = refl

  pub entered_goes : (old new : Standing) (b : Bool) → (b ≡ old.is_on) × (new ≡ entered_from old)
      → moved_to limit (entered_answer b) new ≡ to_enter (standing_place limit old)
  entered_goes old new b h = rw (h.0, h.1) (entered_at old.tree old.is_on old.lists)

  none_at : (t : TreeView) (on : Bool) (end : ℕ)
      → moved_to limit no_node (record { tree = t; is_on = on; lists = [] })
      ≡ to_next end (standing_place limit (record { tree = t; is_on = on; lists = [] }))
  unfolding to_next
  none_at t true end = refl
  none_at t false end = refl

  closed_at : (t : TreeView) (on : Bool) (outer : Lists) (end : ℕ)
      → moved_to limit list_end (at_none t (None ∷ outer))
      ≡ to_next end (standing_place limit (record { tree = t; is_on = on; lists = None ∷ outer }))
  unfolding to_next
  closed_at t true outer end = refl
  closed_at t false outer end = refl

  closed_goes : (t : TreeView) (on : Bool) (outer : Lists) (end : ℕ) (outcome : Result Bool Error)
      (n : TreeView) (new : Standing) → outcome ≡ Ok false → n ≡ t
      → new ≡ after_asked None outer outcome n
      → UnlessMemory outcome
      (moved_to limit (asked_answer outcome n) new
      ≡ to_next end
      (standing_place limit (record { tree = t; is_on = on; lists = None ∷ outer })))
  closed_goes t on outer end (Ok true) n new is same stands = absurd (cc)
  closed_goes t on outer end (Ok false) n new is same stands =
      rw (stands, same) (closed_at t on outer end)
  closed_goes t on outer end (Err e) n new is same stands = absurd (cc)

  open_at : (t : TreeView) (on : Bool) (list : Option ℤ) (outer : Lists) (end : ℕ)
      → to_next end (in_lists limit t (list ∷ outer))
      ≡ to_next end (standing_place limit (record { tree = t; is_on = on; lists = list ∷ outer }))
  unfolding to_next
  open_at t true list outer end = refl
  open_at t false list outer end = refl

  as_gone : (d : ℤ) (outer : Lists) (outcome : Result Bool Error) (n : TreeView) (new : Standing)
      → new ≡ after_asked (Some d) outer outcome n
      → moved_to limit (asked_answer outcome n) new ≡ gone_on limit d outer outcome n
  as_gone d outer (Ok true) n new h = rw h refl
  as_gone d outer (Ok false) n new h = rw h refl
  as_gone d outer (Err e) n new h = rw h refl

  asked_at : (t : TreeView) (on : Bool) (lists : Lists) (outcome : Result Bool Error)
      (new : Standing) → HasAskedOne limit lists (record { tree = t; is_on = on; lists = lists })
      outcome new
      → IsHonestIn limit lists t
      → UnlessMemory outcome
      (moved_to limit (walker_answer lists outcome new.tree) new
      ≡ to_next t.start.end
      (standing_place limit (record { tree = t; is_on = on; lists = lists })))
  asked_at t on [] outcome new h honest = rw (h.0, h.1) (none_at t on t.start.end)
  asked_at t on (None ∷ outer) outcome new h honest =
      closed_goes t on outer t.start.end outcome new.tree new h.0.0 h.0.1 h.1
  asked_at t on (Some d ∷ outer) outcome new h honest =
      unless_then outcome (h.0.goes honest outer)
      (λ k. as_gone d outer outcome new.tree new h.1 ∙ k
      ∙ open_at t on (Some d) outer t.start.end)

  pub asked_goes : (old new : Standing) (outcome : Result Bool Error)
      → HasAskedOne limit old.lists old outcome new → IsHonestIn limit old.lists old.tree
      → UnlessMemory outcome
      (moved_to limit (walker_answer old.lists outcome new.tree) new
      ≡ to_next old.tree.start.end (standing_place limit old))
  asked_goes old new outcome h honest = asked_at old.tree old.is_on old.lists outcome new h honest

  -- where nothing is left to read, every list is at its end
  over_at : (t : TreeView) (lists : Lists) (on : Bool) (outcome : Result Bool Error)
      (new : Standing) → HasAskedOne limit lists (record { tree = t; is_on = on; lists = lists })
      outcome new → IsOver t.cursor → outcome ≡ Ok false
  over_at t [] on outcome new h over = h.0
  over_at t (None ∷ outer) on outcome new h over = h.0.0
  over_at t (Some d ∷ outer) on (Ok true) new h over =
      let more = h.0.sought.counted (λ e. absurd (cc)) in
      let few = h.0.sought.few in
      absurd (omega (arith, more, few, over))
  over_at t (Some d ∷ outer) on (Ok false) new h over = refl
  over_at t (Some d ∷ outer) on (Err e) new h over =
      let r = h.0.sought.refused e refl in
      let after = r.after in
      let before = r.before in
      absurd (omega (arith, after, before, over))

  pub asked_over : (old new : Standing) (outcome : Result Bool Error)
      → HasAskedOne limit old.lists old outcome new → IsOver old.tree.cursor → outcome ≡ Ok false
  asked_over old new outcome h over = over_at old.tree old.lists old.is_on outcome new h over
