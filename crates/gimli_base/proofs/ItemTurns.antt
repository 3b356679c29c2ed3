-- A turn of a loop that reads items one after the other.
use Rattle.std.specs.Prelude.{◌≡◌, ℕ, zero, suc, ◌<◌, List, [], ◌∷◌, ◌++◌, length, Option, Some}
use Rattle.std.specs.Prelude.{None, Result, Ok, Err}
use Rattle.std.proofs.Common.{refl, sym, ap, ◌∙◌, arith, append_assoc}
use Rattle.std.proofs.lemmas.List.{append-nil}
use Rattle.gimli_base.specs.declared.error.Error.{Error}
use Rattle.gimli_base.specs.View.{View}
use Rattle.gimli_base.specs.Reading.{Reads, eof}
use Rattle.gimli_base.specs.Chain.{then_others, chain_within, chain}
use Rattle.gimli_base.specs.Items.{Items, item_of_read, items_at, all_items}
use Rattle.gimli_base.specs.View.{IsLater}
use Rattle.gimli_base.proofs.Later.{LeavesLater, IsLater-trans, ok_leaves_later}
use Rattle.gimli_base.proofs.Later.{err_leaves_later}
-- what stands between two turns: the items so far, and those that are left
pub use Rattle.gimli_base.specs.Items.{before, items_within, ItemsSoFar}

pub items_begin : {A : Type 0} → (next : View → Reads (Option A)) (v : View)
    → ItemsSoFar next (items_at next v) [] v
unfolding items_at chain
items_begin next v =
    record {
      cut_short = Err (eof v);
      fuel = suc (length v.bytes);
      enough = omega arith;
      same = refl;
    }

with_first : {A : Type 0} → (xs : List A) (a : A) (r : Items A)
    → before xs (before (a ∷ []) r) ≡ before (xs ++ a ∷ []) r
with_first xs a r = rw (append_assoc xs (a ∷ []) r.items) refl

-- the first item, and those after it, or the end
within_first : {A : Type 0}
    → (next : View → Reads (Option A)) (cut_short : Result View Error) (n : ℕ) (v : View)
    (r : Reads (Option A)) → r ≡ next v
    → items_within next cut_short (suc n) v ≡ then_others (item_of_read r) (items_within next cut_short n)
unfolding chain_within
within_first next cut_short n v r h =
    ap (λ x. then_others (item_of_read x) (items_within next cut_short n)) (sym h)

pub items_more : {A : Type 0}
    → (next : View → Reads (Option A)) (all : Items A) (xs : List A) (v : View) (a : A) (w : View)
    → ItemsSoFar next all xs v → Ok (Some a, w) ≡ next v → length w.bytes < length v.bytes
    → ItemsSoFar next all (xs ++ a ∷ []) w
items_more {A} next all xs v a w s h lt = more s.fuel s.enough s.same
  where
    more : (fuel : ℕ) → length v.bytes < fuel → all ≡ before xs (items_within next s.cut_short fuel v)
        → ItemsSoFar next all (xs ++ a ∷ []) w
    more zero enough same = absurd (omega (arith, enough))
    more (suc n) enough same = record {
      cut_short = s.cut_short;
      fuel = n;
      enough = omega (arith, enough, lt);
      same = same ∙ ap (before xs) (within_first next s.cut_short n v (Ok (Some a, w)) h)
          ∙ with_first xs a (items_within next s.cut_short n w);
    }

-- the items are over, by a refusal or by the mark
ended : {A : Type 0} → (next : View → Reads (Option A)) (all : Items A) (xs : List A) (v : View)
    (ending : Result View Error) (s : ItemsSoFar next all xs v)
    → ((n : ℕ) → items_within next s.cut_short (suc n) v ≡ record { items = []; ending = ending })
    → all ≡ record { items = xs; ending = ending }
ended {A} next all xs v ending s h = by s.fuel s.enough s.same
  where
    by : (fuel : ℕ) → length v.bytes < fuel → all ≡ before xs (items_within next s.cut_short fuel v)
        → all ≡ record { items = xs; ending = ending }
    by zero enough same = absurd (omega (arith, enough))
    by (suc n) enough same = same ∙ ap (before xs) (h n) ∙ rw (append-nil xs) refl

pub items_refused : {A : Type 0}
    → (next : View → Reads (Option A)) (all : Items A) (xs : List A) (v : View) (e : Error)
    → ItemsSoFar next all xs v → Err e ≡ next v → all ≡ record { items = xs; ending = Err e }
items_refused next all xs v e s h =
    ended next all xs v (Err e) s (λ n. within_first next s.cut_short n v (Err e) h)

pub items_end : {A : Type 0}
    → (next : View → Reads (Option A)) (all : Items A) (xs : List A) (v w : View)
    → ItemsSoFar next all xs v → Ok (None, w) ≡ next v → all ≡ record { items = xs; ending = Ok w }
items_end next all xs v w s h =
    ended next all xs v (Ok w) s (λ n. within_first next s.cut_short n v (Ok (None, w)) h)

before-later : {A : Type 0} → (a : A) (v : View) (r : Items A) → LeavesLater 0 v (all_items r)
    → LeavesLater 0 v (all_items (before (a ∷ []) r))
before-later {A} a v r h = cases r.ending h
  where
    cases : (ending : Result View Error)
        → LeavesLater 0 v (all_items (record { items = r.items; ending = ending }))
        → LeavesLater 0 v (all_items (record { items = a ∷ r.items; ending = ending }))
    cases (Ok w) k = ok_leaves_later 0 v (a ∷ r.items, w) (k r.items w refl)
    cases (Err e) k = err_leaves_later {A = List A} 0 v e

within-later : {A : Type 0} → (next : View → Reads (Option A)) (before : View)
    → ((v : View) → LeavesLater 0 v (next v)) → (n : ℕ) (v : View)
    → LeavesLater 0 v (all_items (items_within next (Err (eof before)) n v))
unfolding chain_within
within-later {A} next before h zero v = err_leaves_later {A = List A} 0 v _
within-later {A} next before h (suc n) v =
    cases (next v) (h v) (λ u. within-later next before h n u)
  where
    cases : (r : Reads (Option A)) → LeavesLater 0 v r
        → ((u : View) → LeavesLater 0 u (all_items (items_within next (Err (eof before)) n u)))
        → LeavesLater 0 v
        (all_items (then_others (item_of_read r) (items_within next (Err (eof before)) n)))
    cases (Err e) k others = err_leaves_later {A = List A} 0 v e
    cases (Ok p) k others = item p.0 (k p.0 p.1 refl)
      where
        item : (o : Option A) → IsLater 0 v p.1
            → LeavesLater 0 v
            (all_items
            (then_others (item_of_read (Ok (o, p.1))) (items_within next (Err (eof before)) n)))
        item None l = ok_leaves_later 0 v ([], p.1) l
        item (Some a) l = before-later a v (items_within next (Err (eof before)) n p.1)
            (λ x w e. IsLater-trans 0 0 v p.1 w l (others p.1 x w e))

-- where each item leaves a later view, so do all
pub whole-later : {A : Type 0} → (next : View → Reads (Option A))
    → ((v : View) → LeavesLater 0 v (next v)) → (v : View)
    → LeavesLater 0 v (all_items (items_at next v))
unfolding items_at chain
whole-later next h v = within-later next v h (suc (length v.bytes)) v
