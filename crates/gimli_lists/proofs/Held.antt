-- The search for an address, range by range.
use Rattle.std.proofs.Common.{◌≡◌, ℕ, suc, ◌+◌, Bool, false, List, [], ◌∷◌}
use Rattle.std.proofs.Common.{Option, None, Some, Result, Ok, Err, refl, ap}
use Rattle.std.proofs.Common.{arith}
use Rattle.std.specs.Prelude.{is_some, slice_get, option_and_then}
use Rattle.std.specs.List.{list_any, filter_map, position_or_len}
use Rattle.std.specs.Option.{option_transpose}
use Rattle.gimli_lists.specs.Aranges.{ArangesPlace, answer_to, tuples_of, first_of_tuples}
use Rattle.gimli_lists.specs.Aranges.{next_arange, aranges_of, range_holds}

-- what an option of an answer is, by the answer of an option
transposed_none : {A E : Type 0} (o : Option (Result A E)) → Ok None ≡ option_transpose o
    → o ≡ None
transposed_none None h = refl
transposed_none (Some (Ok a)) h = absurd (cc)
transposed_none (Some (Err e)) h = absurd (cc)

-- where nothing is found first, nothing is made of any
none_made : {X B : Type 0} (f : X → Option B) (ts : List X)
    → option_and_then f (slice_get ts (position_or_len (λ t. is_some (f t)) ts)) ≡ None
    → filter_map f ts ≡ []
none_made f [] h = refl
none_made {X} {B} f (t ∷ ts) h = cases (f t) refl (none_made f ts)
  where
    cases : (o : Option B) → f t ≡ o
        → (option_and_then f (slice_get ts (position_or_len (λ t. is_some (f t)) ts)) ≡ None
        → filter_map f ts ≡ []) → filter_map f (t ∷ ts) ≡ []
    cases None e more =
        let one : 1 + position_or_len (λ t. is_some (f t)) ts
        ≡ suc (position_or_len (λ t. is_some (f t)) ts) = omega arith in
        rw e (more (rw (e, one) at h))
    cases (Some b) e more = absurd (let k = rw e at h in cc)

module _ (address : ℕ) where
  -- whether a range that is ahead of a place holds the address
  abbrev pub ahead_holds : ArangesPlace → Bool
  ahead_holds p = list_any (range_holds address) (aranges_of p.encoding.address_size p.rest)

  pub holds_none : (p : ArangesPlace) → Ok None ≡ option_transpose (next_arange p).0
      → ahead_holds p ≡ false
  unfolding first_of_tuples
  holds_none p h =
      let none = transposed_none (next_arange p).0 h in
      ap (list_any (range_holds address))
      (none_made (answer_to p.encoding.address_size) (tuples_of p.encoding.address_size p.rest)
      none)
