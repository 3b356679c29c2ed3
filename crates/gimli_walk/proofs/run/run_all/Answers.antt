use Rattle.std.proofs.Common.{◌≡◌, false, List, [], ◌∷◌, ◌++◌, Option, Some, refl, rules, sym, ◌∙◌}
use Rattle.std.specs.Result.{is_ok}
use Rattle.std.specs.Iterator.{Yields}
use Rattle.gimli_walk.proofs.run.run_all.Goals as goal

-- one more call
one_more : {S A : Type 0} → (steps : S → Option A → S → Type 0) (s t u : S) (xs : List A) (x : A)
    → Yields steps s xs t → steps t (Some x) u
    → Yields steps s (xs ++ x ∷ []) u
one_more steps s t u [] x h k = (u, rw h k, refl)
one_more steps s t u (y ∷ ys) x h k = (h.0, h.1, one_more steps h.0 t u ys x h.2 k)

pub returns-then-is_err-clause-fewer : goal.returns-then-is_err-clause-fewer
returns-then-is_err-clause-fewer g c k =
    let refused : is_ok c.push.result ≡ false = search rules in
    let same : c.push.new.self.items
    ≡ c.items.yielded = rw refused at c.push.ensures.items ∙ c.items.invariant in (
      c.in-Some.item,
      c.next.new.self,
      rw (same, sym c.into_iter-item-iterator.ensures.into_iter_gives)
          (one_more g.I.Iterator.next_gives _ _ _ _ _ c.items.yielded_by c.in-Some.ensures.steps),
    )
