-- The laws of a sink: told nothing it stays, and told twice it holds both, one after the other.
use Rattle.std.specs.Prelude.{◌≡◌, ℕ, Bool, true, false, ◌||◌, List, [], ◌∷◌, ◌++◌, map, Option}
use Rattle.std.specs.Prelude.{None, Some}
use Rattle.std.proofs.Common.{refl, sym, ap, ◌∙◌, append_assoc}
use Rattle.std.proofs.lemmas.List.{append-nil, map-append}
use Rattle.std.proofs.lemmas.List.Elements.{All-append, All-nil}
use Rattle.std.proofs.lemmas.List.Folds.{concat-append}
use Rattle.std.specs.List.{list_any}
use Rattle.std.specs.Io.KnownBytes.{Appends}
use Rattle.gimli_walk.specs.Sinks.{HasCollected, HasLined}

module _ {X T : Type 0} (see : X → T) (Keeps : X → Type 0) where
  pub collected_none : (xs : List X) → HasCollected see Keeps xs [] xs
  collected_none xs =
      record { added = []; is = sym (append-nil xs); are = refl; keep = All-nil Keeps }

  pub collected_more : (a b c : List X) (xs ys : List T) → HasCollected see Keeps a xs b
      → HasCollected see Keeps b ys c → HasCollected see Keeps a (xs ++ ys) c
  collected_more a b c xs ys h k = record {
    added = h.added ++ k.added;
    is = k.is ∙ ap (λ l. l ++ k.added) h.is ∙ append_assoc a h.added k.added;
    are = map-append see h.added k.added ∙ ap (λ l. l ++ map see k.added) h.are
        ∙ ap (λ l. xs ++ l) k.are;
    keep = All-append Keeps h.added k.added h.keep k.keep;
  }

module _ {T : Type 0} (line : T → List ℕ) (refuses : T → Bool) where
  pub lined_none : (old : Option (List ℕ)) (was : Bool) → HasLined line refuses old was [] old was
  lined_none old was = record { lines = nothing old; refused = sym (or_false was) }
    where
      nothing : (a : Option (List ℕ)) → Appends a a []
      nothing None = tt
      nothing (Some p) = sym (append-nil p)

      or_false : (b : Bool) → (b || false) ≡ b
      or_false true = refl
      or_false false = refl

  any_more : (was : Bool) (xs ys : List T)
      → ((was || list_any refuses xs) || list_any refuses ys) ≡ (was || list_any refuses (xs ++ ys))
  any_more true xs ys = refl
  any_more false [] ys = refl
  any_more false (x ∷ xs) ys = cases (refuses x) refl (any_more false xs ys)
    where
      cases : (r : Bool) → refuses x ≡ r
          → (list_any refuses xs || list_any refuses ys) ≡ list_any refuses (xs ++ ys)
          → (list_any refuses (x ∷ xs) || list_any refuses ys) ≡ list_any refuses ((x ∷ xs) ++ ys)
      cases true e more = rw e refl
      cases false e more = rw e more

  pub lined_more : (a : Option (List ℕ)) (was : Bool) (b : Option (List ℕ)) (mid : Bool)
      (c : Option (List ℕ)) (is : Bool) (xs ys : List T) → HasLined line refuses a was xs b mid
      → HasLined line refuses b mid ys c is
      → HasLined line refuses a was (xs ++ ys) c is
  lined_more a was b mid c is xs ys h k = record {
    lines = rw (map-append line xs ys, concat-append (map line xs) (map line ys))
        (both a b c _ _ h.lines k.lines);
    refused = k.refused ∙ ap (λ r. r || list_any refuses ys) h.refused ∙ any_more was xs ys;
  }
    where
      both : (p q r : Option (List ℕ)) (s t : List ℕ) → Appends p q s → Appends q r t
          → Appends p r (s ++ t)
      both None q r s t h k = tt
      both (Some p) None r s t h k = absurd h
      both (Some p) (Some q) None s t h k = absurd k
      both (Some p) (Some q) (Some r) s t h k = k ∙ ap (λ z. z ++ t) h ∙ append_assoc p s t
