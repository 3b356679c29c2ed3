-- A list as its reading moves along it, and its answers with the base address that is at hand
-- (DWARF 5, 2.6.2 and 2.17.3).
use Rattle.std.specs.Prelude.{◌≡◌, ℕ, suc, ◌+◌, ◌-◌, ◌^◌, ◌<◌, ◌==◌, nat_lt, ◌&&◌}
use Rattle.std.specs.Prelude.{if◌then◌else◌, Bool, true, false, List, [], ◌∷◌, ◌++◌, map, min, take}
use Rattle.std.specs.Prelude.{reverse, length, Option, Some, None, unwrap_or, Result, Ok, Err, IfOk}
use Rattle.std.specs.List.{All, enumerate_from, filter_map, prefix_len}
use Rattle.std.specs.Option.{option_or}
use Rattle.std.proofs.Common.{refl, sym, ap, ◌∙◌, arith, inl, inr, ◌≡◌, ℕ, nat_lt, Bool, true}
use Rattle.std.proofs.Common.{false, Ok, Err}
use Rattle.std.proofs.lemmas.List.{reverse-append}
use Rattle.std.proofs.lemmas.List.Elements.{All-nil, All-cons, All-append, All-same}
use Rattle.std.proofs.lemmas.Bool.{ne_eqb, ltb-true}
use Rattle.std.proofs.lemmas.Bool.Decides.{eqb_tells}
use Rattle.gimli_base.specs.declared.error.Error.{Error}
use Rattle.gimli_base.specs.View.{View}
use Rattle.gimli_base.specs.Reading.{Reads, uint_at, address_at, is_size}
use Rattle.gimli_lists.specs.RawList.{ListEntry, address_or_offset_pair, base_address}
use Rattle.gimli_lists.specs.RawList.{base_addressx, startx_endx, startx_length, offset_pair}
use Rattle.gimli_lists.specs.RawList.{default_location, start_end, start_length, EntryReads, Ending}
use Rattle.gimli_lists.specs.RawList.{end_of_list, used_up, refused, RawList}
use Rattle.gimli_lists.specs.RawList.{entry_of_read, entry_or_end, list_at}
use Rattle.gimli_base.specs.Chain.{no_item, then_item}
use Rattle.gimli_base.proofs.ChainSteps.{chain_ended, chain_more}
use Rattle.gimli_base.specs.Address.{min_tombstone, wrapped_sum}
use Rattle.gimli_lists.specs.Resolved.{LookUp, Resolved, resolved_if_kept, located_from, if_found}
use Rattle.gimli_lists.specs.Resolved.{base_given, first_base, base_before, resolve, resolve_each}
use Rattle.gimli_lists.specs.Resolved.{some_answer, last_answer, is_nothing, entries_read}
use Rattle.gimli_lists.specs.Resolved.{entry_answers, resolved_list, IsSoundRange}
use Rattle.gimli_base.specs.declared.error.Error.TheVariants.{UnsupportedAddressSize}

-- the first base of entries with one more at their end
first_base-last : {P : Type 0} → (look_up : LookUp) (es : List (ListEntry P)) (e : ListEntry P)
    → first_base look_up (es ++ e ∷ []) ≡ option_or (first_base look_up es) (base_given look_up e)
first_base-last look_up [] e = none (base_given look_up e)
  where
    none : (o : Option ℕ) → option_or o None ≡ o
    none None = refl
    none (Some a) = refl
first_base-last look_up (x ∷ es) e = either (base_given look_up x) (first_base-last look_up es e)
  where
    either : (o : Option ℕ)
        → first_base look_up (es ++ e ∷ [])
        ≡ option_or (first_base look_up es) (base_given look_up e)
        → option_or o (first_base look_up (es ++ e ∷ []))
        ≡ option_or (option_or o (first_base look_up es)) (base_given look_up e)
    either None h = h
    either (Some a) h = refl

-- the base after an entry: the one that it gives, or the one before it
abbrev pub base_after : {P : Type 0} → LookUp → ℕ → ListEntry P → ℕ
base_after look_up base e = unwrap_or (base_given look_up e) base

-- after an entry, the base before a later entry is that of the entries between, with the base
-- after the entry at hand
pub base_before-later : {P : Type 0}
    → (look_up : LookUp) (base : ℕ) (e : ListEntry P) (es : List (ListEntry P)) (i : ℕ)
    → base_before look_up base (e ∷ es) (suc i)
    ≡ base_before look_up (base_after look_up base e) es i
base_before-later look_up base e es i =
    let turned : reverse (e ∷ take i es)
    ≡ reverse (take i es) ++ e ∷ [] = reverse-append (e ∷ []) (take i es) in
    ap (λ xs. unwrap_or (first_base look_up xs) base) turned
    ∙ ap (λ o. unwrap_or o base) (first_base-last look_up (reverse (take i es)) e)
    ∙ either (first_base look_up (reverse (take i es))) (base_given look_up e)
  where
    either : (a b : Option ℕ) → unwrap_or (option_or a b) base ≡ unwrap_or a (unwrap_or b base)
    either None b = refl
    either (Some x) b = refl

-- an answer before others, unless it is nothing
abbrev pub then_answers : {A : Type 0} → Result (Option A) Error → List (Result A Error)
    → List (Result A Error)
then_answers (Ok None) others = others
then_answers (Ok (Some x)) others = Ok x ∷ others
then_answers (Err e) others = Err e ∷ others

module _ {P : Type 0} (size : ℕ) (look_up : LookUp) where
  resolve_later : (base : ℕ) (e : ListEntry P) (all : List (ListEntry P)) (k : ℕ)
      (es : List (ListEntry P))
      → map (λ p. resolve size look_up (base_before look_up base (e ∷ all) p.0) p.1)
      (enumerate_from (suc k) es)
      ≡ map
      (λ p. resolve size look_up (base_before look_up (base_after look_up base e) all p.0) p.1)
      (enumerate_from k es)
  resolve_later base e all k [] = refl
  resolve_later base e all k (x ∷ es) =
      let f : ℕ × ListEntry P → Result (Option (Resolved P)) Error = λ p.
      resolve size look_up (base_before look_up base (e ∷ all) p.0) p.1 in
      let next : suc k + 1 ≡ suc (k + 1) = omega arith in
      ap (λ b. resolve size look_up b x ∷ map f (enumerate_from (suc k + 1) es))
      (base_before-later look_up base e all k)
      ∙ ap
      (λ n. resolve size look_up (base_before look_up (base_after look_up base e) all k) x
      ∷ map f (enumerate_from n es)) next
      ∙ ap
      (λ rs. resolve size look_up (base_before look_up (base_after look_up base e) all k) x
      ∷ rs) (resolve_later base e all (k + 1) es)

  -- the answers of entries are the first one's, and then those of the others with the base after
  -- it
  pub entry_answers-first : (base : ℕ) (e : ListEntry P) (es : List (ListEntry P))
      → entry_answers size look_up base (e ∷ es)
      ≡ then_answers (resolve size look_up base e)
      (entry_answers size look_up (base_after look_up base e) es)
  entry_answers-first base e es =
      let first = resolve size look_up base e in
      ap (λ rs. filter_map some_answer (first ∷ rs)) (resolve_later base e es 0 es)
      ∙ either first (resolve_each size look_up (base_after look_up base e) es)
    where
      either : (r : Result (Option (Resolved P)) Error)
          (rs : List (Result (Option (Resolved P)) Error))
          → filter_map some_answer (r ∷ rs) ≡ then_answers r (filter_map some_answer rs)
      either (Ok None) rs = refl
      either (Ok (Some x)) rs = refl
      either (Err e) rs = refl

  -- and so are those of a list
  pub resolved_list-first : (base : ℕ) (e : ListEntry P) (l : RawList P)
      → resolved_list size look_up base (then_item e l)
      ≡ then_answers (resolve size look_up base e)
      (resolved_list size look_up (base_after look_up base e) l)
  unfolding resolved_list
  resolved_list-first base e l =
      ap (λ rs. rs ++ last_answer l.ending) (entry_answers-first base e l.items)
      ∙ either (resolve size look_up base e)
      (entry_answers size look_up (base_after look_up base e) l.items)
    where
      either : (r : Result (Option (Resolved P)) Error) (rs : List (Result (Resolved P) Error))
          → then_answers r rs ++ last_answer l.ending ≡ then_answers r (rs ++ last_answer l.ending)
      either (Ok None) rs = refl
      either (Ok (Some x)) rs = refl
      either (Err e) rs = refl

  -- an entry that stands for nothing is read before the others
  pub entries_read-more : (base : ℕ) (e : ListEntry P) (es : List (ListEntry P))
      → Ok None ≡ resolve size look_up base e
      → entries_read size look_up base (e ∷ es)
      ≡ suc (entries_read size look_up (base_after look_up base e) es)
  entries_read-more base e es h =
      let others = resolve_each size look_up (base_after look_up base e) es in
      let sum : min (length (e ∷ es)) (1 + prefix_len is_nothing others + 1)
      ≡ suc (min (length es) (prefix_len is_nothing others + 1)) = omega arith in
      ap
      (λ rs. min (length (e ∷ es))
      (prefix_len is_nothing (resolve size look_up base e ∷ rs) + 1))
      (resolve_later base e es 0 es)
      ∙ ap (λ r. min (length (e ∷ es)) (prefix_len is_nothing (r ∷ others) + 1)) (sym h) ∙ sum

  -- an entry that stands for something is read alone
  pub entries_read-one : (base : ℕ) (e : ListEntry P) (es : List (ListEntry P))
      → is_nothing (resolve size look_up base e) ≡ false
      → entries_read size look_up base (e ∷ es) ≡ 1
  entries_read-one base e es h =
      let one : min (length (e ∷ es)) (0 + 1) ≡ 1 = omega arith in
      rw h one

  -- of no entry there is the refusal alone
  pub resolved_list-none : (base : ℕ) (ending : Ending)
      → resolved_list {P = P} size look_up base (no_item ending) ≡ last_answer ending
  unfolding resolved_list
  resolved_list-none base ending = refl

-- a result that tells of what it gives, if it gives something
abbrev pub GivesSound : {P : Type 0} → ℕ → Result (Option (Resolved P)) Error → Type 0
GivesSound size (Ok None) = Unit {0}
GivesSound size (Ok (Some x)) = IsSoundRange size x
GivesSound size (Err e) = Unit {0}

module _ {P : Type 0} (size : ℕ) where
  located-sound : (begin end : ℕ) (payload : P)
      → GivesSound size (Ok (resolved_if_kept size begin end payload))
  located-sound begin end payload =
      cases (nat_lt begin (min_tombstone size)) (nat_lt begin end) refl refl
    where
      cases : (s t : Bool) → nat_lt begin (min_tombstone size) ≡ s → nat_lt begin end ≡ t
          → GivesSound size
          (Ok
          (if s && t then Some (record { begin = begin; end = end; payload = payload })
          else None))
      cases true true low less = (ltb-true begin end less, ltb-true begin (min_tombstone size) low)
      cases true false low less = tt
      cases false t low less = tt

  located_from-sound : (base begin end : ℕ) (payload : P)
      → GivesSound size (Ok (located_from size base begin end payload))
  located_from-sound base begin end payload = cases (nat_lt base (min_tombstone size))
    where
      cases : (t : Bool) → GivesSound size
          (Ok
          (if t then resolved_if_kept size (wrapped_sum size base begin) (wrapped_sum size base end)
          payload
          else None))
      cases true = located-sound (wrapped_sum size base begin) (wrapped_sum size base end) payload
      cases false = tt

  found-sound : (r : Result ℕ Error) (f : ℕ → Result (Option (Resolved P)) Error)
      → ((a : ℕ) → GivesSound size (f a)) → GivesSound size (if_found r f)
  found-sound (Ok a) f h = h a
  found-sound (Err e) f h = tt

  -- what an entry stands for begins below its end, and below the addresses that stand for none
  pub resolve-sound : (look_up : LookUp) (base : ℕ) (e : ListEntry P)
      → GivesSound size (resolve size look_up base e)
  resolve-sound look_up base (address_or_offset_pair begin end p) =
      located_from-sound base begin end p
  resolve-sound look_up base (base_address address) = tt
  resolve-sound look_up base (base_addressx index) =
      found-sound (look_up index) (λ a. Ok None) (λ a. tt)
  resolve-sound look_up base (startx_endx begin end p) =
      found-sound (look_up begin) _
      (λ b. found-sound (look_up end) (λ e. Ok (resolved_if_kept size b e p))
      (λ e. located-sound b e p))
  resolve-sound look_up base (startx_length begin length p) =
      found-sound (look_up begin) (λ b. Ok (resolved_if_kept size b (wrapped_sum size b length) p))
      (λ b. located-sound b (wrapped_sum size b length) p)
  resolve-sound look_up base (offset_pair begin end p) = located_from-sound base begin end p
  resolve-sound look_up base (default_location p) = located-sound 0 (2 ^ 64 - 1) p
  resolve-sound look_up base (start_end begin end p) = located-sound begin end p
  resolve-sound look_up base (start_length begin length p) =
      located-sound begin (wrapped_sum size begin length) p

-- what holds of the ranges among answers
abbrev pub AllSound : {P : Type 0} → ℕ → List (Result (Resolved P) Error) → Type 0
AllSound size answers = All (λ a. IfOk a (IsSoundRange size)) answers

module _ {P : Type 0} (size : ℕ) (look_up : LookUp) where
  abbrev Sound : Result (Resolved P) Error → Type 0
  Sound a = IfOk a (IsSoundRange size)

  then_answers-sound : (r : Result (Option (Resolved P)) Error)
      (others : List (Result (Resolved P) Error)) → GivesSound size r → AllSound size others
      → AllSound size (then_answers r others)
  then_answers-sound (Ok None) others h k = k
  then_answers-sound (Ok (Some x)) others h k = All-cons Sound (Ok x) others h k
  then_answers-sound (Err e) others h k = All-cons Sound (Err e) others tt k

  entry_answers-sound : (base : ℕ) (es : List (ListEntry P))
      → AllSound size (entry_answers size look_up base es)
  entry_answers-sound base [] = All-nil Sound
  entry_answers-sound base (e ∷ es) =
      All-same Sound (entry_answers size look_up base (e ∷ es)) _
      (entry_answers-first size look_up base e es)
      (then_answers-sound (resolve size look_up base e) _ (resolve-sound size look_up base e)
      (entry_answers-sound (base_after look_up base e) es))

  last_answer-sound : (ending : Ending) → AllSound {P = P} size (last_answer ending)
  last_answer-sound end_of_list = All-nil Sound
  last_answer-sound used_up = All-nil Sound
  last_answer-sound (refused e) = All-cons Sound (Err e) [] tt (All-nil Sound)

  -- each range among the answers of a list begins below its end, and below the addresses that stand
  -- for none
  pub resolved_list-sound : (base : ℕ) (l : RawList P)
      → AllSound size (resolved_list size look_up base l)
  unfolding resolved_list
  resolved_list-sound base l =
      All-append Sound (entry_answers size look_up base l.items) (last_answer l.ending)
      (entry_answers-sound base l.items) (last_answer-sound l.ending)

-- the list of a view, where each entry takes a byte at least
module _ {P : Type 0} (next : EntryReads P)
    (shorter : (v : View) (e : Option (ListEntry P)) (w : View) → Ok (e, w) ≡ next v
    → length w.bytes < length v.bytes) where
  abbrev size : View → ℕ
  size v = length v.bytes

  abbrev Standing : Type 0
  Standing = Result (ListEntry P × View) Ending

  -- where a byte is left, what is read tells what stands there
  by_read : (v : View) (r : Reads (Option (ListEntry P))) → (length v.bytes ≡ 0 → ⊥) → r ≡ next v
      → entry_of_read r ≡ entry_or_end next v
  unfolding entry_or_end
  by_read v r some h =
      let t : (length v.bytes == 0) ≡ false = ne_eqb (length v.bytes) 0 some in rw (t, ← h) refl

  list_over : (v : View) (e : Ending) → Err e ≡ entry_or_end next v → list_at next v ≡ no_item e
  unfolding list_at
  list_over v e h = chain_ended size (entry_or_end next) used_up v e h

  -- where no byte is left there is no entry
  pub list_ended : (v : View) → length v.bytes ≡ 0 → list_at next v ≡ no_item used_up
  unfolding entry_or_end
  list_ended v none =
      let t : (length v.bytes == 0) ≡ true = rw none refl in list_over v used_up (rw t refl)

  -- the end of a list ends it
  pub list_end : (v w : View) → (length v.bytes ≡ 0 → ⊥) → Ok (None, w) ≡ next v
      → list_at next v ≡ no_item end_of_list
  list_end v w some h = list_over v end_of_list (by_read v (Ok (None, w)) some h)

  -- a refusal ends a list
  pub list_refused : (v : View) (e : Error) → (length v.bytes ≡ 0 → ⊥) → Err e ≡ next v
      → list_at next v ≡ no_item (refused e)
  list_refused v e some h = list_over v (refused e) (by_read v (Err e) some h)

  none_stands : (v : View) (e : ListEntry P) (w : View) → length v.bytes ≡ 0
      → Ok (e, w) ≡ entry_or_end next v → ⊥
  unfolding entry_or_end
  none_stands v e w none h =
      let t : (length v.bytes == 0) ≡ true = rw none refl in
      let same : ◌≡◌ {A = Standing} (Ok (e, w)) (Err used_up) = rw t at h in cc

  -- fewer bytes are left after an entry
  smaller : (v : View) (e : ListEntry P) (w : View) → Ok (e, w) ≡ entry_or_end next v
      → size w < size v
  smaller v e w h = elim (eqb_tells (length v.bytes) 0) [
    | inl none ↦ absurd (none_stands v e w none.1 h)
    | inr some ↦ by (next v) refl (h ∙ sym (by_read v (next v) some.1 refl))
  ]
    where
      by : (r : Reads (Option (ListEntry P))) → r ≡ next v → Ok (e, w) ≡ entry_of_read r
          → size w < size v
      by (Ok (Some x, y)) is same =
          let pair : (e, w) ≡ (x, y) = cc in
          let left : w ≡ y = ap (λ (z : ListEntry P × View). z.1) pair in
          let less = shorter v (Some x) y is in
          rw left less
      by (Ok (None, y)) is same = absurd (cc)
      by (Err x) is same = absurd (cc)

  -- an entry, and then those after it
  pub list_more : (v : View) (e : ListEntry P) (w : View) → (length v.bytes ≡ 0 → ⊥)
      → Ok (Some e, w) ≡ next v → list_at next v ≡ then_item e (list_at next w)
  unfolding list_at
  list_more v e w some h =
      chain_more size (entry_or_end next) smaller used_up v e w
      (by_read v (Ok (Some e, w)) some h)

-- an address is read in a size that there is
pub address_at-sized : (size : ℕ) (v : View) (p : ℕ × View) → Ok p ≡ address_at size v
    → is_size size ≡ true
unfolding address_at
address_at-sized size v p h = cases (is_size size) refl h
  where
    cases : (t : Bool) → is_size size ≡ t
        → ◌≡◌ {A = Reads ℕ} (Ok p) (if t then uint_at size v else Err (UnsupportedAddressSize size))
        → is_size size ≡ true
    cases true is h = is
    cases false is h = absurd (cc)

-- 0 is below the least tombstone of each size
pub zero-address : (size : ℕ) → is_size size ≡ true → nat_lt 0 (min_tombstone size) ≡ true
zero-address size h = elim (eqb_tells size 1) [
  | inl one ↦ rw one.1 refl
  | inr not_one ↦ elim (eqb_tells size 2) [
    | inl two ↦ rw two.1 refl
    | inr not_two ↦ elim (eqb_tells size 4) [
      | inl four ↦ rw four.1 refl
      | inr not_four ↦ elim (eqb_tells size 8) [
        | inl eight ↦ rw eight.1 refl
        | inr not_eight ↦ absurd
            (let none : false ≡ true = rw (not_one.0, not_two.0, not_four.0, not_eight.0) at h in
            cc)
      ]
    ]
  ]
]
