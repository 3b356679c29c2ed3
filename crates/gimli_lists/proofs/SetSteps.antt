-- The sets ahead of a place, as the reading of a header moves it.
use Rattle.std.specs.Prelude.{◌≡◌, ℕ, ◌+◌, ◌<◌, ◌==◌, true, false, [], ◌∷◌}
use Rattle.std.specs.Prelude.{◌++◌, length, Option, Some, None, Result, Ok, Err}
use Rattle.std.specs.Option.{option_to_list, option_transpose}
use Rattle.std.proofs.Common.{refl, sym, ap, ◌∙◌, arith, inl, inr}
use Rattle.std.proofs.lemmas.Bool.{ne_eqb}
use Rattle.std.proofs.lemmas.Bool.Decides.{eqb_tells}
use Rattle.gimli_base.specs.declared.error.Error.{Error}
use Rattle.gimli_base.specs.View.{View, end_of_view}
use Rattle.gimli_base.specs.Reading.{Reads}
use Rattle.gimli_lists.specs.ArangeSets.{ArangeSet, SetsPlace, set_length, after_set, set_at}
use Rattle.gimli_lists.specs.ArangeSets.{set_or_end, sets_ahead, next_set}
use Rattle.gimli_base.specs.Chain.{each_answer}
use Rattle.gimli_base.proofs.ChainSteps.{chain_ended, chain_more}
use Rattle.gimli_lists.proofs.SetReads.{set_at-read, set_at-shorter}

module _ (limit : ℕ) where
  abbrev size : SetsPlace → ℕ
  size p = length p.rest.bytes

  abbrev Standing : Type 0
  Standing = Result (ArangeSet × SetsPlace) (Option Error)

  -- where no byte is left there is no set
  ahead_ended : (p : SetsPlace) → length p.rest.bytes ≡ 0 → sets_ahead limit p ≡ []
  unfolding sets_ahead set_or_end
  ahead_ended p none =
      let t : (length p.rest.bytes == 0) ≡ true = rw none refl in
      ap each_answer (chain_ended size (set_or_end limit) None p None (rw t refl))

  -- a refusal is the last answer
  ahead_refused : (p : SetsPlace) (e : Error) → (length p.rest.bytes ≡ 0 → ⊥)
      → Err e ≡ set_at limit p.offset p.rest → sets_ahead limit p ≡ Err e ∷ []
  unfolding sets_ahead set_or_end
  ahead_refused p e some h =
      let t : (length p.rest.bytes == 0) ≡ false = ne_eqb (length p.rest.bytes) 0 some in
      ap each_answer (chain_ended size (set_or_end limit) None p (Some e) (rw (t, ← h) refl))

  -- fewer bytes are left after a set
  shorter : (p : SetsPlace) (s : ArangeSet) (w : View) → Ok (s, w) ≡ set_at limit p.offset p.rest
      → length (after_set s p).rest.bytes < length p.rest.bytes
  shorter p s w h =
      let left = set_at-shorter limit p.offset p.rest s w h in
      let rest = ap (λ (v : View). length v.bytes) (set_at-read limit p.offset p.rest s w h).rest in
      omega (arith, left, rest)

  smaller : (p : SetsPlace) (s : ArangeSet) (q : SetsPlace) → Ok (s, q) ≡ set_or_end limit p
      → size q < size p
  unfolding set_or_end
  smaller p s q h = elim (eqb_tells (length p.rest.bytes) 0) [
    | inl none ↦
        let is : ◌≡◌ {A = Standing} (Ok (s, q)) (Err None) = rw none.0 at h in absurd (cc)
    | inr some ↦ by (set_at limit p.offset p.rest) refl (rw some.0 at h)
  ]
    where
      by : (r : Reads ArangeSet) → r ≡ set_at limit p.offset p.rest
          → ◌≡◌ {A = Standing} (Ok (s, q))
          (elim r [ Ok x ↦ Ok (x.0, after_set x.0 p) | Err e ↦ Err (Some e) ])
          → size q < size p
      by (Ok x) is same =
          let pair : (s, q) ≡ (x.0, after_set x.0 p) = cc in
          let left : q ≡ after_set x.0 p = ap (λ (y : ArangeSet × SetsPlace). y.1) pair in
          let less = shorter p x.0 x.1 is in
          rw left less
      by (Err e) is same = absurd (cc)

  -- a set, and then those after its whole length
  ahead_more : (p : SetsPlace) (s : ArangeSet) (w : View) → (length p.rest.bytes ≡ 0 → ⊥)
      → Ok (s, w) ≡ set_at limit p.offset p.rest
      → sets_ahead limit p ≡ Ok s ∷ sets_ahead limit (after_set s p)
  unfolding sets_ahead set_or_end
  ahead_more p s w some h =
      let t : (length p.rest.bytes == 0) ≡ false = ne_eqb (length p.rest.bytes) 0 some in
      ap each_answer
      (chain_more size (set_or_end limit) smaller None p s (after_set s p) (rw (t, ← h) refl))

  abbrev Next : Type 0
  Next = Option (Result ArangeSet Error) × SetsPlace

  abbrev next_by : SetsPlace → Reads ArangeSet → Next
  next_by p r = elim r [
    | Ok q ↦ (Some (Ok q.0), record { rest = q.1; offset = p.offset + set_length q.0 })
    | Err e ↦ (Some (Err e), record { rest = end_of_view p.rest; offset = p.offset })
  ]

  -- what `next` answers is the first of the answers ahead, and the others are ahead of the place
  -- that it leaves
  pub ahead_next : (p : SetsPlace)
      → sets_ahead limit p ≡ option_to_list (next_set limit p).0
      ++ sets_ahead limit (next_set limit p).1
  unfolding next_set
  ahead_next p = elim (eqb_tells (length p.rest.bytes) 0) [
    | inl none ↦ rw none.0 refl
    | inr some ↦ rw some.0 (read (set_at limit p.offset p.rest) refl some.1)
  ]
    where
      read : (r : Reads ArangeSet) → r ≡ set_at limit p.offset p.rest
          → (length p.rest.bytes ≡ 0 → ⊥)
          → sets_ahead limit p ≡ option_to_list (next_by p r).0 ++ sets_ahead limit (next_by p r).1
      read (Err e) is some =
          ahead_refused p e some is
          ∙ ap (λ ss. Err e ∷ ss)
          (sym (ahead_ended (record { rest = end_of_view p.rest; offset = p.offset }) refl))
      read (Ok q) is some =
          let place = ap (λ w. record { rest = w; offset = p.offset + set_length q.0 })
          (set_at-read limit p.offset p.rest q.0 q.1 is).rest in
          ahead_more p q.0 q.1 some is ∙ ap (λ l. Ok q.0 ∷ sets_ahead limit l) (sym place)

  none_left : (p q : SetsPlace) → ◌≡◌ {A = Next} (None, q) (next_set limit p)
      → length p.rest.bytes ≡ 0
  unfolding next_set
  none_left p q h = elim (eqb_tells (length p.rest.bytes) 0) [
    | inl none ↦ none.1
    | inr some ↦ absurd (read (set_at limit p.offset p.rest) (rw some.0 at h))
  ]
    where
      read : (r : Reads ArangeSet) → ◌≡◌ {A = Next} (None, q) (next_by p r) → ⊥
      read (Err e) is = cc (ap (λ (n : Next). n.0) is)
      read (Ok x) is = cc (ap (λ (n : Next). n.0) is)

  -- where there is no next set, none is ahead
  pub ahead_none : (p : SetsPlace) → Ok None ≡ option_transpose (next_set limit p).0
      → sets_ahead limit p ≡ []
  ahead_none p h = by (next_set limit p) refl h
    where
      by : (n : Next) → n ≡ next_set limit p → Ok None ≡ option_transpose n.0
          → sets_ahead limit p ≡ []
      by (None, q) is h = ahead_ended p (none_left p q is)
      by (Some (Ok s), q) is h = absurd (cc)
      by (Some (Err e), q) is h = absurd (cc)
