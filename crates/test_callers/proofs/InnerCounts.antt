-- One step of a walker into a node's list and out of it, as a count of the list around it sees it.
use Rattle.std.proofs.Common.{◌≡◌, ℕ, ◌+◌, ◌<◌, ℤ, pos, Bool, true, false, [], ◌∷◌, Option, Some}
use Rattle.std.proofs.Common.{None, Result, Ok, Err, refl, ap, ◌∙◌, arith, length}
use Rattle.std.specs.Prelude.{◌+ℤ◌, if◌then◌else◌}
use Rattle.gimli_base.specs.declared.error.Error.{Error}
use Rattle.gimli_base.specs.declared.error.Error.TheVariants.{OutOfMemory}
use Rattle.gimli_units.specs.Entry.{is_null}
use Rattle.gimli_units.specs.RawPlace.{depth_after}
use Rattle.gimli_units.specs.TreePlace.{Lists, children_of}
use Rattle.gimli_units.specs.CursorModel.{rows_of}
use Rattle.gimli_units.specs.CursorModel.{IsHonestCursor}
use Rattle.gimli_units.specs.TreeMoves.{TreeView, node_at, HasGoneOn}
use Rattle.gimli_units.specs.TreeWalker.{Standing, IsWalker, after_asked, WasAsked, HasAskedOne}
use Rattle.gimli_units.specs.TreeWalker.{entered_from, left_from}
use Rattle.test_callers.specs.Subtree.{count_innermost}
use Rattle.test_callers.specs.Enters.{HasEntered}
use Rattle.test_callers.proofs.Counts.{counts, stays_honest, fewer_left}
use Rattle.test_callers.proofs.Inside.{entered_left, entered_honest, entered_count, entered_fails}

at_depth : (limit : ℕ) (t n : TreeView) (outcome : Result Bool Error) (a b : ℤ) → a ≡ b
    → HasGoneOn limit b t outcome n → HasGoneOn limit a t outcome n
at_depth limit t n outcome a b same h = rw same h

asked_flag : (limit : ℕ) (flag : Bool) (d : ℤ) (t n : TreeView) (outcome : Result Bool Error)
    → WasAsked limit (if flag then Some d else None) t outcome n
    → (flag ≡ true → HasGoneOn limit d t outcome n)
    × (flag ≡ false → (outcome ≡ Ok false) × (n ≡ t))
asked_flag limit true d t n outcome h = ((λ e. h), (λ e. absurd (cc)))
asked_flag limit false d t n outcome h = ((λ e. absurd (cc)), (λ e. h))

module _ (limit : ℕ) (t : TreeView) (entry : is_null t.cursor.entry ≡ false)
    (after : t.cursor.raw.depth ≡ depth_after t.cursor.entry t.cursor.depth) where
  below_it : t.cursor.entry.has_children ≡ true → t.cursor.raw.depth ≡ t.cursor.depth +ℤ pos 1
  below_it flag = rw (after, entry, flag) refl

  asked_inner : (outcome : Result Bool Error) (n : TreeView)
      → WasAsked limit (children_of (node_at t)) t outcome n → HasEntered limit t outcome n
  asked_inner outcome n h =
      let k = asked_flag limit t.cursor.entry.has_children (t.cursor.depth +ℤ pos 1) t n outcome h
      in
      record {
        some = λ flag. at_depth limit t n outcome t.cursor.raw.depth
            (t.cursor.depth +ℤ pos 1) (below_it flag) (k.0 flag);
        none = k.1;
      }

module _ (limit : ℕ) (old mid new : Standing) (sound : IsWalker old) (on : old.is_on ≡ true)
    (entered : mid ≡ entered_from old) where
  entered_is : mid
      ≡ record {
        tree = old.tree;
        is_on = false;
        lists = children_of (node_at old.tree)
            ∷ old.lists;
      }
  entered_is = entered ∙ rw on refl

  asked_is : (outcome : Result Bool Error) → HasAskedOne limit mid.lists mid outcome new
      → WasAsked limit (children_of (node_at old.tree)) old.tree outcome new.tree
      × (new ≡ after_asked (children_of (node_at old.tree)) old.lists outcome new.tree)
  asked_is outcome h = rw entered_is at h

  pub was_entered : (outcome : Result Bool Error) → HasAskedOne limit mid.lists mid outcome new
      → HasEntered limit old.tree outcome new.tree
  was_entered outcome h =
      let null = sound.node on in asked_inner limit old.tree null (sound.tree.sound.after null)
      outcome new.tree (asked_is outcome h).0

  left_lists : (list : Option ℤ) (b : Bool) (n : TreeView) (s last : Standing)
      → s ≡ after_asked list old.lists (Ok b) n → last ≡ left_from s.lists s
      → (last.tree ≡ n) × (last.lists ≡ old.lists)
  left_lists list true n s last is out =
      let e = out
      ∙ ap (λ (x : Standing). left_from x.lists x) is
      in (ap (λ (x : Standing). x.tree) e, ap (λ (x : Standing). x.lists) e)
  left_lists list false n s last is out =
      let e = out
      ∙ ap (λ (x : Standing). left_from x.lists x) is
      in (ap (λ (x : Standing). x.tree) e, ap (λ (x : Standing). x.lists) e)

  pub was_left : (b : Bool) (last : Standing) → HasAskedOne limit mid.lists mid (Ok b) new
      → last ≡ left_from new.lists new → (last.tree ≡ new.tree) × (last.lists ≡ old.lists)
  was_left b last h out =
      left_lists (children_of (node_at old.tree)) b new.tree new last (asked_is (Ok b) h).1 out

module _ (limit : ℕ) (old new last : Standing) where
  pub node_on : (lists : Lists) → HasAskedOne limit lists old (Ok true) new → new.is_on ≡ true
  node_on [] h = let k = h.0 in absurd (cc)
  node_on (None ∷ outer) h = let k = h.0.0 in absurd (cc)
  node_on (Some d ∷ outer) h = ap (λ (s : Standing). s.is_on) h.1

  pub inner_counts : (lists : Lists) (n : ℕ) (b : Bool) → HasAskedOne limit lists old (Ok true) new
      → HasEntered limit new.tree (Ok b) last.tree → last.lists ≡ new.lists
      → IsHonestCursor limit old.tree.cursor
      → IsHonestCursor limit last.tree.cursor
      × (count_innermost lists n (rows_of limit old.tree.cursor.raw)
      ≡ count_innermost last.lists (n + 1) (rows_of limit last.tree.cursor.raw))
  inner_counts [] n b h inner same honest = let k = h.0 in absurd (cc)
  inner_counts (None ∷ outer) n b h inner same honest = let k = h.0.0 in absurd (cc)
  inner_counts (Some d ∷ outer) n b h inner same honest =
      let y = h.0.sought.yes refl in
      let after = rw y.2 at y.0.depth in
      let lists = same ∙ ap (λ (s : Standing). s.lists) h.1 in
      let mid = stays_honest limit d old.tree new.tree (Ok true) h.0 honest true refl in (
        entered_honest limit d new.tree last.tree y.1 after b inner mid,
        rw lists (counts limit d old.tree new.tree (Ok true) h.0 honest n
            ∙ entered_count limit d new.tree last.tree y.1 after b inner mid (n + 1)),
      )

  pub inner_fewer : (lists : Lists) (outcome : Result Bool Error)
      → HasAskedOne limit lists old (Ok true) new → HasEntered limit new.tree outcome last.tree
      → length last.tree.cursor.raw.rest.bytes < length old.tree.cursor.raw.rest.bytes
  inner_fewer [] outcome h inner = let k = h.0 in absurd (cc)
  inner_fewer (None ∷ outer) outcome h inner = let k = h.0.0 in absurd (cc)
  inner_fewer (Some d ∷ outer) outcome h inner =
      let y = h.0.sought.yes refl in
      let after = rw y.2 at y.0.depth in
      let left = entered_left limit d new.tree last.tree y.1 after outcome inner in
      let fewer = fewer_left limit d old.tree new.tree h.0 in
      omega (arith, left, fewer)

  pub inner_fails : (lists : Lists) (n : ℕ) (e : Error) → HasAskedOne limit lists old (Ok true) new
      → HasEntered limit new.tree (Err e) last.tree → (e ≡ OutOfMemory → ⊥)
      → IsHonestCursor limit old.tree.cursor
      → count_innermost lists n (rows_of limit old.tree.cursor.raw) ≡ Err e
  inner_fails [] n e h inner fine honest = let k = h.0 in absurd (cc)
  inner_fails (None ∷ outer) n e h inner fine honest = let k = h.0.0 in absurd (cc)
  inner_fails (Some d ∷ outer) n e h inner fine honest =
      let y = h.0.sought.yes refl in
      let after = rw y.2 at y.0.depth in
      let mid = stays_honest limit d old.tree new.tree (Ok true) h.0 honest true refl in
      counts limit d old.tree new.tree (Ok true) h.0 honest n
      ∙ entered_fails limit d new.tree last.tree y.1 after e inner mid fine (n + 1)
