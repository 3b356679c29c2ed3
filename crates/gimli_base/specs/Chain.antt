-- Items that lie one after the other, and how they end, as DWARF lays out declarations, entries,
-- units, sets of ranges and lists (DWARF 5, 6.1.2, 7.5, 7.7.3, 7.21 and 7.25).
use Rattle.std.specs.Prelude.{ℕ, zero, suc, List, [], ◌∷◌, ◌++◌, map, Option, Some, None, Result}
use Rattle.std.specs.Prelude.{Ok, Err}
use Rattle.gimli_base.specs.declared.error.Error.{Error}

-- items, and how they end
pub record Chain (A E : Type 0) : Type 0 where
  pub items : List A
  pub ending : E

-- no item
abbrev pub no_item : {A E : Type 0} → E → Chain A E
no_item ending = record { items = []; ending = ending }

-- an item before others
abbrev pub then_item : {A E : Type 0} → A → Chain A E → Chain A E
then_item a c = record { items = a ∷ c.items; ending = c.ending }

-- the item that stands at a place, and those from the place after it on; or no item, where `Err`
-- tells how they end, by a refusal or not
abbrev pub then_others : {P A E : Type 0} → Result (A × P) E → (P → Chain A E) → Chain A E
then_others (Ok p) others = then_item p.0 (others p.1)
then_others (Err e) others = no_item e

-- at most n items from a place on; where n are taken, `cut_short` is their end
unfoldable pub chain_within : {P A E : Type 0} → (P → Result (A × P) E) → E → ℕ → P → Chain A E
chain_within at cut_short zero p = no_item cut_short
chain_within at cut_short (suc n) p = then_others (at p) (chain_within at cut_short n)

-- The items from a place on: `at` tells what stands at each, an item with the place after it, or
-- the end. Where each place has a smaller size than the one before it, there are no more items than
-- the size of the first, and `cut_short` never shows.
unfoldable pub chain : {P A E : Type 0} → (P → ℕ) → (P → Result (A × P) E) → E → P → Chain A E
chain size at cut_short p = chain_within at cut_short (suc (size p)) p

-- each item as an answer, and then the refusal, if one ends them
abbrev pub each_answer : {A : Type 0} → Chain A (Option Error) → List (Result A Error)
each_answer c = map Ok c.items ++ elim c.ending [ None ↦ [] | Some e ↦ Err e ∷ [] ]
