-- Items that are read one after the other, up to a mark that ends them, as the declarations of
-- abbreviations and the attributes of each are laid out (DWARF 5, 7.5.3).
use Rattle.std.specs.Prelude.{◌≡◌, ℕ, ◌<◌, ◌++◌, List, length, Option, Some, None, Result, Ok, Err}
use Rattle.gimli_base.specs.declared.error.Error.{Error}
use Rattle.gimli_base.specs.View.{View}
use Rattle.gimli_base.specs.Reading.{Reads, eof}
use Rattle.gimli_base.specs.Chain.{Chain, chain, chain_within}

-- the items, and what is left after the mark that ends them, or the refusal in its place
abbrev pub Items : Type 0 → Type 0
Items A = Chain A (Result View Error)

-- what a read tells of a place: an item, and what is left after it, or the end
abbrev pub item_of_read : {A : Type 0} → Reads (Option A) → Result (A × View) (Result View Error)
item_of_read (Ok p) = elim p.0 [ Some a ↦ Ok (a, p.1) | None ↦ Err (Ok p.1) ]
item_of_read (Err e) = Err (Err e)

-- the items that `next` reads up to none; each takes a byte at least, so that the refusal handed to
-- `chain` never shows
unfoldable pub items_at : {A : Type 0} → (View → Reads (Option A)) → View → Items A
items_at next v = chain (λ w. length w.bytes) (λ w. item_of_read (next w)) (Err (eof v)) v

-- the items, where nothing was refused, and what is left after their mark
abbrev pub all_items : {A : Type 0} → Items A → Reads (List A)
all_items r = elim r.ending [ Ok w ↦ Ok (r.items, w) | Err e ↦ Err e ]

-- items before others
abbrev pub before : {A : Type 0} → List A → Items A → Items A
before xs r = record { items = xs ++ r.items; ending = r.ending }

-- n items at most, and how they end
abbrev pub items_within : {A : Type 0} → (View → Reads (Option A)) → Result View Error → ℕ → View
    → Items A
items_within next cut_short n v = chain_within (λ w. item_of_read (next w)) cut_short n v

-- after the items xs the view v is left, and the rest of the items is read there
pub record ItemsSoFar {A : Type 0} (next : View → Reads (Option A)) (all : Items A) (xs : List A)
    (v : View) : Type 0 where
  pub cut_short : Result View Error
  pub fuel : ℕ
  pub enough : length v.bytes < fuel
  pub same : all ≡ before xs (items_within next cut_short fuel v)
