-- Writes after a front.
use Rattle.std.proofs.Common.{◌≡◌, ℕ, suc, ◌+◌, ◌<◌, ◌≤◌, List, [], ◌∷◌, ◌++◌, take, drop, length}
use Rattle.std.proofs.Common.{get_or, slice_set, refl, sym, ap, ◌∙◌, arith, add-one}
use Rattle.std.proofs.Common.{append_assoc, length-append}
use Rattle.std.proofs.Math.Seq.{set-append_seam, take-append_seam, drop-append-add, drop-cons}
use Rattle.std.proofs.lemmas.List.{length-take-le, take_more, drop-drop}

slot_at : {X : Type 0} → (xs old : List X) (x : X) → length xs < length old
    → slice_set (xs ++ drop (length xs) old) (length xs) x ≡ (xs ++ x ∷ [])
    ++ drop (length xs + 1) old
slot_at {X} xs old x h =
    ap (λ (t : List X). slice_set (xs ++ t) (length xs) x) (drop-cons old (length xs) x h)
    ∙ set-append_seam xs _ (drop (suc (length xs)) old) x
    ∙ rw (append_assoc, add-one) refl

-- a write after a front
pub slot : {X : Type 0} → (xs old : List X) (n : ℕ) (x : X) → length xs ≡ n → n < length old
    → slice_set (xs ++ drop n old) n x ≡ (xs ++ x ∷ []) ++ drop (n + 1) old
slot xs old n x e h = rw (← e) (slot_at xs old x (rw e h))

-- one more of a list is written, from a place on
pub slot_more : {X : Type 0} → (xs old new : List X) (from i : ℕ) (x d : X) → i < length xs
    → from + length xs ≤ length old
    → new ≡ (take from old ++ take i xs) ++ drop (from + i) old → x ≡ get_or xs i d
    → slice_set new (from + i) x ≡ (take from old ++ take (i + 1) xs) ++ drop (from + (i + 1)) old
slot_more {X} xs old new from i x d h room is value =
    let front : length (take from old ++ take i xs) ≡ from + i =
    rw (
      length-append,
      length-take-le from old (omega (arith, room)),
      length-take-le i xs (omega (arith, h)),
    ) refl in
    let place : from + i + 1 ≡ from + (i + 1) = omega arith in
    let one : take (i + 1) xs ≡ take i xs ++ x ∷ [] =
    take_more xs i d h ∙ ap (λ (y : X). take i xs ++ y ∷ []) (sym value) in
    ap (λ (t : List X). slice_set t (from + i) x) is
    ∙ slot (take from old ++ take i xs) old (from + i) x front (omega (arith, h, room))
    ∙ rw (place, one) (simp append_assoc)

-- more is written after what was
pub written_more : {Y : Type 0} → (done more old new : List Y) (used : ℕ) → length done ≡ used
    → new ≡ (take used (done ++ drop used old) ++ more) ++ drop (used + length more) (done
    ++ drop used old)
    → new ≡ (done ++ more) ++ drop (used + length more) old
written_more {Y} done more old new used e is = is ∙ rw (← e) (same)
  where
    same : (take (length done) (done ++ drop (length done) old) ++ more)
        ++ drop (length done + length more) (done ++ drop (length done) old)
        ≡ (done ++ more) ++ drop (length done + length more) old
    same = rw (
      take-append_seam done (drop (length done) old),
      drop-append-add done (drop (length done) old) (length more),
      drop-drop (length more) (length done) old,
    ) refl
