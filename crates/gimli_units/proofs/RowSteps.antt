-- The rows ahead of a place, as the reading of an entry moves it (DWARF 5, 2.3).
use Rattle.std.specs.Prelude.{◌≡◌, ℕ, ◌+◌, ◌<◌, ◌==◌, ℤ, pos, ◌+ℤ◌, ◌-ℤ◌, Bool}
use Rattle.std.specs.Prelude.{true, false, cond, if◌then◌else◌, List, [], ◌∷◌, ◌++◌, length}
use Rattle.std.specs.Prelude.{count_by, Option, Some, None, Result, Ok, Err}
use Rattle.std.specs.List.{fold}
use Rattle.std.proofs.Common.{refl, sym, ap, ◌∙◌, arith, append_assoc, inl, inr}
use Rattle.std.proofs.lemmas.Int.{ints}
use Rattle.std.proofs.lemmas.Bool.{ne_eqb}
use Rattle.std.proofs.lemmas.Bool.Decides.{eqb_tells}
use Rattle.std.proofs.lemmas.List.{append-nil}
use Rattle.gimli_base.specs.declared.error.Error.{Error}
use Rattle.gimli_base.specs.View.{View}
use Rattle.gimli_base.specs.Reading.{Reads}
use Rattle.gimli_units.specs.Entry.{Entry, is_null}
use Rattle.gimli_units.specs.RawPlace.{below_flag, depth_after}
use Rattle.gimli_units.specs.Rows.{Sited, EntriesEnd, Row, Ahead, offset_of_view, no_row}
use Rattle.gimli_units.specs.Rows.{sited_or_end, entries_at, depth_after_all, rows_after, ahead_at}
use Rattle.gimli_base.specs.Chain.{no_item, then_item}
use Rattle.gimli_base.proofs.ChainSteps.{chain_ended, chain_more}

-- a row before others
abbrev pub then_row : Row → Ahead → Ahead
then_row r a =
    record { rows = r ∷ a.rows; refusal = a.refusal; stop = a.stop; stop_depth = a.stop_depth }

one_more : (null flag : Bool) (start : ℤ) (flags nulls : ℕ)
    → start +ℤ (pos (flags + cond flag 1 0) -ℤ pos (nulls + cond null 1 0))
    ≡ (if null then below_flag flag (start +ℤ (pos flags -ℤ pos nulls)) -ℤ pos 1
    else below_flag flag (start +ℤ (pos flags -ℤ pos nulls)))
one_more true true start flags nulls = omega (arith, ints)
one_more true false start flags nulls = omega (arith, ints)
one_more false true start flags nulls = omega (arith, ints)
one_more false false start flags nulls = omega (arith, ints)

count_last : (p : Sited → Bool) (xs : List Sited) (x : Sited) (a : ℕ)
    → fold (λ n y. n + cond (p y) 1 0) a (xs ++ x ∷ [])
    ≡ fold (λ n y. n + cond (p y) 1 0) a xs + cond (p x) 1 0
count_last p [] x a = refl
count_last p (y ∷ ys) x a = count_last p ys x (a + cond (p y) 1 0)

-- the carried depth is the counted one: after one more entry it is one more after a flag, and one
-- less after a null
pub depth_after_all-append : (start : ℤ) (before : List Sited) (s : Sited)
    → depth_after_all start (before ++ s ∷ []) ≡ depth_after s.entry (depth_after_all start before)
unfolding depth_after_all
depth_after_all-append start before s =
    rw (
      count_last (λ x. x.entry.has_children) before s 0,
      count_last (λ x. is_null x.entry) before s 0,
    )
    (one_more (is_null s.entry) s.entry.has_children start
    (count_by (λ x. x.entry.has_children) before) (count_by (λ x. is_null x.entry) before))

depth_after_all-none : (start : ℤ) → depth_after_all start [] ≡ start
unfolding depth_after_all
depth_after_all-none start = omega (arith, ints)

one_after : (s t : ℤ) (bs cs : List Sited) (x : Sited) → depth_after_all s bs ≡ depth_after_all t cs
    → depth_after_all s (bs ++ x ∷ []) ≡ depth_after_all t (cs ++ x ∷ [])
one_after s t bs cs x e =
    depth_after_all-append s bs x ∙ ap (depth_after x.entry) e ∙ sym (depth_after_all-append t cs x)

-- where the depths of two places are the same, so are those of the rows from there on
same_depths : (s t : ℤ) (bs cs : List Sited) (rest : List Sited)
    → depth_after_all s bs ≡ depth_after_all t cs → rows_after s bs rest ≡ rows_after t cs rest
unfolding rows_after
same_depths s t bs cs [] e = refl
same_depths s t bs cs (x ∷ rest) e =
    rw (e, same_depths s t (bs ++ x ∷ []) (cs ++ x ∷ []) rest (one_after s t bs cs x e)) refl

same_stop : (s t : ℤ) (bs cs rest : List Sited) → depth_after_all s bs ≡ depth_after_all t cs
    → depth_after_all s (bs ++ rest) ≡ depth_after_all t (cs ++ rest)
same_stop s t bs cs [] e = rw (append-nil bs, append-nil cs) e
same_stop s t bs cs (x ∷ rest) e =
    rw (← append_assoc bs (x ∷ []) rest, ← append_assoc cs (x ∷ []) rest)
    (same_stop s t (bs ++ x ∷ []) (cs ++ x ∷ []) rest (one_after s t bs cs x e))

first_after : (depth : ℤ) (s : Sited)
    → depth_after_all depth (s ∷ []) ≡ depth_after_all (depth_after s.entry depth) []
first_after depth s =
    depth_after_all-append depth [] s ∙ ap (depth_after s.entry) (depth_after_all-none depth)
    ∙ sym (depth_after_all-none (depth_after s.entry depth))

-- the depths of the entries after a first one are counted from the depth after it
rows-first : (depth : ℤ) (s : Sited) (rest : List Sited)
    → rows_after depth [] (s ∷ rest)
    ≡ record { offset = s.offset; next = s.next; depth = depth; entry = s.entry }
    ∷ rows_after (depth_after s.entry depth) [] rest
unfolding rows_after
rows-first depth s rest =
    rw (
      depth_after_all-none depth,
      same_depths depth (depth_after s.entry depth) (s ∷ []) [] rest (first_after depth s),
    ) refl

module _ (next : View → Reads Entry) (end : ℕ) where
  abbrev size : View → ℕ
  size v = length v.bytes

  abbrev cut_short : EntriesEnd
  cut_short = record { refusal = None; stop = end }

  abbrev ending : View → Option Error → EntriesEnd
  ending v refusal = record { refusal = refusal; stop = offset_of_view end v }

  abbrev site : View → Entry → View → Sited
  site v e w = record { offset = offset_of_view end v; next = offset_of_view end w; entry = e }

  -- what ends the entries
  entries_ended : (v : View) (e : EntriesEnd) → Err e ≡ sited_or_end next end v
      → entries_at next end v ≡ no_item e
  unfolding entries_at
  entries_ended v e h = chain_ended size (sited_or_end next end) cut_short v e h

  -- where no byte is left there is no row
  pub ahead_ended : (depth : ℤ) (v : View) → length v.bytes ≡ 0
      → ahead_at next end depth v ≡ no_row None (offset_of_view end v) depth
  unfolding ahead_at sited_or_end rows_after
  ahead_ended depth v none =
      let t : (length v.bytes == 0) ≡ true = rw none refl in
      let is : Err (ending v None) ≡ sited_or_end next end v = rw t refl in
      rw (entries_ended v (ending v None) is, depth_after_all-none depth) refl

  -- a refusal ends the rows
  pub ahead_refused : (depth : ℤ) (v : View) (e : Error) → (length v.bytes ≡ 0 → ⊥) → Err e ≡ next v
      → ahead_at next end depth v ≡ no_row (Some e) (offset_of_view end v) depth
  unfolding ahead_at sited_or_end rows_after
  ahead_refused depth v e some h =
      let t : (length v.bytes == 0) ≡ false = ne_eqb (length v.bytes) 0 some in
      let is : Err (ending v (Some e)) ≡ sited_or_end next end v = rw (t, ← h) refl in
      rw (entries_ended v (ending v (Some e)) is, depth_after_all-none depth) refl

  module _ (shorter : (v w : View) (e : Entry) → Ok (e, w) ≡ next v
      → length w.bytes < length v.bytes) where
    abbrev Standing : Type 0
    Standing = Result (Sited × View) EntriesEnd

    -- fewer bytes are left after an entry
    smaller : (v : View) (s : Sited) (w : View) → Ok (s, w) ≡ sited_or_end next end v
        → size w < size v
    unfolding sited_or_end
    smaller v s w h = elim (eqb_tells (length v.bytes) 0) [
      | inl none ↦
          let is : ◌≡◌ {A = Standing} (Ok (s, w)) (Err (ending v None)) = rw none.0 at h in
          absurd (cc)
      | inr some ↦ by (next v) refl (rw some.0 at h)
    ]
      where
        by : (r : Reads Entry) → r ≡ next v
            → ◌≡◌ {A = Standing} (Ok (s, w))
            (elim r [ Ok p ↦ Ok (site v p.0 p.1, p.1) | Err e ↦ Err (ending v (Some e)) ])
            → size w < size v
        by (Ok p) is same =
            let pair : (s, w) ≡ (site v p.0 p.1, p.1) = cc in
            let left : w ≡ p.1 = ap (λ (x : Sited × View). x.1) pair in
            let less = shorter v p.1 p.0 is in
            rw left less
        by (Err e) is same = absurd (cc)

    -- an entry is a row, and the others are ahead of what is left
    pub ahead_more : (depth : ℤ) (v : View) (e : Entry) (w : View) → (length v.bytes ≡ 0 → ⊥)
        → Ok (e, w) ≡ next v
        → ahead_at next end depth v
        ≡ then_row
        (record {
          offset = offset_of_view end v;
          next = offset_of_view end w;
          depth = depth;
          entry = e;
        }) (ahead_at next end (depth_after e depth) w)
    unfolding ahead_at entries_at sited_or_end
    ahead_more depth v e w some h =
        let t : (length v.bytes == 0) ≡ false = ne_eqb (length v.bytes) 0 some in
        let is : Ok (site v e w, w) ≡ sited_or_end next end v = rw (t, ← h) refl in
        let rest : List Sited = (entries_at next end w).items in
        let all : entries_at next end v ≡ then_item (site v e w) (entries_at next end w) =
        chain_more size (sited_or_end next end) smaller cut_short v (site v e w) w is in
        let stop = same_stop depth (depth_after e depth) (site v e w ∷ []) [] rest
        (first_after depth (site v e w)) in
        rw (all, rows-first depth (site v e w) rest, stop) refl
