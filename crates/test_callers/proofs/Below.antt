-- A walk over the entries of a list and below them reads each row once, and follows no reference.
use Rattle.std.proofs.Common.{◌≡◌, ℕ, suc, zero, ◌+◌, ◌<◌, ◌≤◌, ℤ, pos, Bool, true, false, List, []}
use Rattle.std.proofs.Common.{◌∷◌, Option, Some, None, Result, Ok, Err, refl, sym, ap, ◌∙◌, arith}
use Rattle.std.proofs.Common.{length, ◌⊎◌, inl, inr}
use Rattle.std.specs.Prelude.{not, if◌then◌else◌, int_le, ◌+ℤ◌, ◌-ℤ◌}
use Rattle.std.proofs.lemmas.Int.{ints}
use Rattle.std.proofs.lemmas.Bool.Decides.{Decides-int_eq}
use Rattle.gimli_base.specs.declared.error.Error.{Error}
use Rattle.gimli_base.specs.declared.error.Error.TheVariants.{OutOfMemory}
use Rattle.gimli_base.specs.Reading.{UnlessMemory}
use Rattle.gimli_base.specs.Table.{codes_of}
use Rattle.gimli_base.proofs.Later.{IsLater-length}
use Rattle.gimli_units.specs.Entry.{Entry, is_null}
use Rattle.gimli_units.specs.RawPlace.{RawPlace, below_flag}
use Rattle.gimli_units.specs.Rows.{Row, Ahead}
use Rattle.gimli_units.proofs.RowSteps.{ahead_ended}
use Rattle.gimli_units.specs.Honest.{usable_target, IsHonest, AreHonestUntil}
use Rattle.gimli_units.specs.CursorPlace.{Place, Moved, some_of, is_entry, has_depth, arrive}
use Rattle.gimli_units.specs.CursorPlace.{skip_until, seek}
use Rattle.gimli_units.specs.CursorModel.{CursorView, next_of, rows_of, place_of, last_row}
use Rattle.gimli_units.specs.CursorModel.{view_from, IsHonestFor, IsOver, IsSound, IsTrueEntry}
use Rattle.gimli_units.proofs.PlaceLaw.{depth_is, null_honest}
use Rattle.gimli_units.specs.TreePlace.{Lists, TreeMoved, children_of}
use Rattle.gimli_units.specs.TreeMoves.{TreeView, node_at, HasBegun, HasGoneOn}
use Rattle.gimli_units.specs.TreeWalker.{Standing, after_begun, HasAskedOne, entered_from}
use Rattle.gimli_units.specs.TreeWalker.{left_from}
use Rattle.gimli_units.proofs.Flagless.{entry_at-flagless}
use Rattle.gimli_units.proofs.Splits.{at_least}
use Rattle.test_callers.specs.Subtree.{counted_below, count_all, entries_counted, levels_of}
use Rattle.test_callers.specs.Subtree.{rest_of, AreNested, IsReady}
use Rattle.test_callers.proofs.Counts.{Heads}

clash : false ≡ true → ⊥
clash e = absurd (cc)

-- the first row ahead of a place has its depth
heads_at : (depth : ℤ) (rows : List Row) (stop : ℤ)
    → depth ≡ (elim rows [ [] ↦ stop | r ∷ rest ↦ r.depth ]) → Heads depth rows
heads_at depth [] stop h = tt
heads_at depth (r ∷ rest) stop h = (Decides-int_eq r.depth depth).1 (sym h)

pub heads_here : (limit : ℕ) (p : RawPlace) → Heads p.depth (rows_of limit p).rows
heads_here limit p =
    heads_at p.depth (rows_of limit p).rows (rows_of limit p).stop_depth (depth_is limit p)

skip_heads : (depth : ℤ) (rows : List Row) → Heads depth rows
    → skip_until (has_depth depth) rows ≡ rows
skip_heads depth [] h = refl
skip_heads depth (r ∷ rest) h = rw h refl

honest_heads : (end : ℕ) (depth : ℤ) (rows : List Row) → Heads depth rows
    → AreHonestUntil end depth rows
honest_heads end depth [] h = tt
honest_heads end depth (r ∷ rest) h = λ other. absurd (clash (sym other ∙ h))

-- so that the references are honest where a row of the place's depth is sought
module _ (limit : ℕ) (c : CursorView) (s : IsSound c) where
  leaf_honest : is_null c.entry ≡ false → c.entry.has_children ≡ false
      → IsHonest c.raw.end (last_row c) (rows_of limit c.raw).rows
  leaf_honest entry flag t to_sibling =
      let nowhere : usable_target c.raw.end (last_row c) ≡ None = rw (entry, flag) refl in
      let e : ◌≡◌ {A = Option ℕ} None (Some t) = sym nowhere ∙ to_sibling in absurd (cc)

  too_deep : (flag : Bool) → c.entry.has_children ≡ flag → is_null c.entry ≡ false
      → int_le c.raw.depth c.depth ≡ true
      → IsHonest c.raw.end (last_row c) (rows_of limit c.raw).rows
  too_deep true flag entry deep =
      let after : c.raw.depth ≡ c.depth +ℤ pos 1 = s.after entry ∙ rw (entry, flag) refl in
      let low = at_least c.raw.depth c.depth deep in
      absurd (omega (arith, ints, after, low))
  too_deep false flag entry deep = leaf_honest entry flag

  current_honest : (null : Bool) → is_null c.entry ≡ null → int_le c.raw.depth c.depth ≡ true
      → IsHonest c.raw.end (last_row c) (rows_of limit c.raw).rows
  current_honest true null deep = null_honest limit c (rows_of limit c.raw).rows null
  current_honest false entry deep = too_deep c.entry.has_children refl entry deep

  pub honest_here : IsHonestFor limit c.raw.depth c
  honest_here =
      record {
        current = λ deep. current_honest (is_null c.entry) refl deep;
        ahead =
            honest_heads c.raw.end c.raw.depth (rows_of limit c.raw).rows
            (heads_here limit c.raw);
      }

none_below : (k n : ℕ) → counted_below k None n [] ≡ Ok n
none_below zero n = refl
none_below (suc k) n = refl

-- what is counted after the first row
abbrev pub below_after : ℕ → ℕ → Result Bool Error → Ahead → Option Entry → Result ℕ Error
below_after k n (Ok true) a None = Ok n
below_after k n (Ok true) a (Some e) =
    counted_below (if e.has_children then suc (suc k) else suc k) a.refusal (n + 1) a.rows
below_after k n (Ok false) a e = counted_below k a.refusal n a.rows
below_after k n (Err e) a x = Err e

arrives_below : (k n end : ℕ) (depth : ℤ) (rows rs : List Row) (refusal : Option Error) (stop : ℕ)
    (stop_depth : ℤ) (o : ℕ) (outcome : Result Bool Error) (p : Place)
    → record { outcome = outcome; place = p }
    ≡ arrive end
    (record { rows = rows; refusal = refusal; stop = stop; stop_depth = stop_depth }) o
    depth is_entry rs
    → counted_below (suc k) refusal n rs ≡ below_after k n outcome p.ahead p.current
arrives_below k n end depth rows [] None stop stop_depth o outcome p is =
    let r : outcome ≡ Ok false = ap (λ (m : Moved). m.outcome) is in
    let left : p.ahead.rows ≡ [] = ap (λ (m : Moved). m.place.ahead.rows) is in
    let none : p.ahead.refusal ≡ None = ap (λ (m : Moved). m.place.ahead.refusal) is in
    rw (r, left, none) (sym (none_below k n))
arrives_below k n end depth rows [] (Some e) stop stop_depth o outcome p is =
    let r : outcome ≡ Err e = ap (λ (m : Moved). m.outcome) is in rw r refl
arrives_below k n end depth rows (x ∷ rest) refusal stop stop_depth o outcome p is =
    let r : outcome ≡ Ok (not (is_null x.entry)) = ap (λ (m : Moved). m.outcome) is in
    let a : p.ahead
    ≡ record { rows = rest; refusal = refusal; stop = stop; stop_depth = stop_depth } = ap
    (λ (m : Moved). m.place.ahead) is in
    let e : p.current ≡ some_of x.entry = ap (λ (m : Moved). m.place.current) is in
    rw (r, a, e) (cases (is_null x.entry))
  where
    cases : (b : Bool)
        → (if b then counted_below k refusal n rest else counted_below
        (if x.entry.has_children then suc (suc k) else suc k) refusal (n + 1) rest)
        ≡ below_after k n (Ok (not b))
        (record { rows = rest; refusal = refusal; stop = stop; stop_depth = stop_depth })
        (if b then None else Some x.entry)
    cases true = refl
    cases false = refl

seeks_below : (k n end : ℕ) (depth : ℤ) (a : Ahead) (o : ℕ) (outcome : Result Bool Error)
    (p : Place) → Heads depth a.rows → record { outcome = outcome; place = p } ≡ seek end depth o a
    → counted_below (suc k) a.refusal n a.rows ≡ below_after k n outcome p.ahead p.current
unfolding seek
seeks_below k n end depth a o outcome p h is =
    arrives_below k n end depth a.rows a.rows a.refusal a.stop a.stop_depth o outcome p
    (is ∙ ap (λ rs. arrive end a o depth is_entry rs) (skip_heads depth a.rows h))

-- a step of an open list whose depth is that of what is read next
module _ (limit : ℕ) (d : ℤ) (old new : TreeView) (outcome : Result Bool Error)
    (h : HasGoneOn limit d old outcome new) (sound : IsSound old.cursor)
    (same : d ≡ old.cursor.raw.depth) where
  pub step_below : (k n : ℕ)
      → UnlessMemory outcome
      (counted_below (suc k) (rows_of limit old.cursor.raw).refusal n
      (rows_of limit old.cursor.raw).rows
      ≡ below_after k n outcome (rows_of limit new.cursor.raw)
      (some_of new.cursor.entry))
  step_below k n =
      cases outcome (h.sought.found (λ f. rw same (honest_here limit old.cursor sound)))
    where
      cases : (r : Result Bool Error)
          → UnlessMemory r
          (record { outcome = r; place = place_of limit new.cursor }
          ≡ seek old.cursor.raw.end d old.cursor.offset (rows_of limit old.cursor.raw))
          → UnlessMemory r
          (counted_below (suc k) (rows_of limit old.cursor.raw).refusal n
          (rows_of limit old.cursor.raw).rows
          ≡ below_after k n r (rows_of limit new.cursor.raw) (some_of new.cursor.entry))
      cases (Ok b) is =
          seeks_below k n old.cursor.raw.end d (rows_of limit old.cursor.raw) old.cursor.offset
          (Ok b) (place_of limit new.cursor) (rw same (heads_here limit old.cursor.raw)) is
      cases (Err e) is =
          λ fine. seeks_below k n old.cursor.raw.end d (rows_of limit old.cursor.raw)
          old.cursor.offset (Err e) (place_of limit new.cursor)
          (rw same (heads_here limit old.cursor.raw)) (is fine)

-- nothing is left: no entry is counted
over_below : (limit : ℕ) (p : RawPlace) (k n : ℕ) → length p.rest.bytes ≡ 0
    → counted_below k (rows_of limit p).refusal n (rows_of limit p).rows ≡ Ok n
over_below limit p k n over =
    rw (ahead_ended (next_of limit p) p.end p.depth p.rest over) (none_below k n)

-- a node that is entered
entered_levels : (flag : Bool) (depth : ℤ) (outer : Lists)
    → levels_of ((if flag then Some depth else None) ∷ outer)
    ≡ (if flag then suc (levels_of outer) else levels_of outer)
entered_levels true depth outer = refl
entered_levels false depth outer = refl

nested_in : (flag : Bool) (own after d : ℤ) (outer : Lists) → own ≡ d → after ≡ below_flag flag d
    → AreNested (d -ℤ pos 1) outer
    → AreNested after ((if flag then Some (own +ℤ pos 1) else None) ∷ Some d ∷ outer)
nested_in true own after d outer same is nest =
    let low : after -ℤ pos 1 -ℤ pos 1 ≡ d -ℤ pos 1 = omega (arith, ints, is) in
    (omega (arith, ints, is, same), (omega (arith, ints, is), rw low nest))
nested_in false own after d outer same is nest = (sym is, rw is nest)

nested_root : (flag : Bool) (own after : ℤ) → after ≡ below_flag flag own
    → AreNested after ((if flag then Some (own +ℤ pos 1) else None) ∷ [])
nested_root true own after is = (sym is, tt)
nested_root false own after is = tt

abbrev Left : ℕ → ℕ → Standing → ℕ → Result ℕ Error
Left limit k s n =
    counted_below k (rows_of limit s.tree.cursor.raw).refusal n
    (rows_of limit s.tree.cursor.raw).rows

module _ (limit : ℕ) (old new : Standing) (sound : IsSound old.tree.cursor) where
  -- a node was found, and entered
  pub record HasGoneIn (lists : Lists) (n : ℕ) (last : Standing) : Type 0 where
    pub ready : IsReady last
    pub count : Left limit (levels_of lists) old n ≡ rest_of limit (n + 1) last
    pub fewer : length last.tree.cursor.raw.rest.bytes < length old.tree.cursor.raw.rest.bytes
    pub deeper : length last.lists ≤ length lists + 1

  found_in_list : (d : ℤ) (outer : Lists) (n : ℕ) → HasGoneOn limit d old.tree (Ok true) new.tree
      → AreNested old.tree.cursor.raw.depth (Some d ∷ outer)
      → HasGoneIn (Some d ∷ outer) n
      (record {
        tree = new.tree;
        is_on = false;
        lists = children_of (node_at new.tree) ∷ Some d
            ∷ outer;
      })
  found_in_list d outer n h nest =
      let y = h.sought.yes refl in
      let c = new.tree.cursor in
      let after : c.raw.depth
      ≡ below_flag c.entry.has_children d = y.0.depth ∙ rw (y.1, y.2) refl in
      let inner : AreNested (d -ℤ pos 1) outer = rw nest.0 nest.1 in
      let some : some_of c.entry ≡ Some c.entry = rw y.1 refl in
      let count = step_below limit d old.tree new.tree (Ok true) h sound nest.0 (levels_of outer) n
      in
      record {
        ready = inr (nested_in c.entry.has_children c.depth c.raw.depth d outer y.2 after inner);
        count =
            rw (entered_levels c.entry.has_children (c.depth +ℤ pos 1) (Some d ∷ outer))
            (count ∙ rw some refl);
        fewer =
            let more = h.sought.counted (λ e. absurd (cc)) in let few = h.sought.few in omega
            (arith, more, few);
        deeper = omega arith;
      }

  pub step_in : (lists : Lists) (n : ℕ) (last : Standing)
      → HasAskedOne limit lists old (Ok true) new
      → IsOver old.tree.cursor ⊎ AreNested old.tree.cursor.raw.depth lists
      → last ≡ entered_from new → HasGoneIn lists n last
  step_in [] n last h ready is = let k = h.0 in absurd (cc)
  step_in (None ∷ outer) n last h ready is = let k = h.0.0 in absurd (cc)
  step_in (Some d ∷ outer) n last h ready is = rw (is ∙ ap entered_from h.1) (elim ready [
    | inl over ↦ absurd
        (let more = h.0.sought.counted (λ e. absurd (cc)) in let few = h.0.sought.few in omega
        (arith, more, few, over))
    | inr nest ↦ found_in_list d outer n h.0 nest
  ])

  -- a list was at its end, and was left
  pub record HasGoneOut (lists : Lists) (n : ℕ) (last : Standing) : Type 0 where
    pub ready : IsReady last
    pub count : Left limit (levels_of lists) old n ≡ rest_of limit n last
    pub fewer : length last.tree.cursor.raw.rest.bytes ≤ length old.tree.cursor.raw.rest.bytes
    pub higher : length last.lists < length lists

  no_more : (d : ℤ) → HasGoneOn limit d old.tree (Ok false) new.tree
      → length new.tree.cursor.raw.rest.bytes ≤ length old.tree.cursor.raw.rest.bytes
  no_more d h =
      let l = IsLater-length 0 old.tree.cursor.raw.rest new.tree.cursor.raw.rest h.sought.further
      in omega (arith, l)

  null_after : (d : ℤ) → is_null new.tree.cursor.entry ≡ true → new.tree.cursor.depth ≡ d
      → IsTrueEntry limit old.tree.cursor new.tree.cursor → new.tree.cursor.raw.depth ≡ d -ℤ pos 1
  null_after d null deep y =
      let p = old.tree.cursor.raw in
      let c = new.tree.cursor in
      let flag = entry_at-flagless limit p.encoding (codes_of p.abbreviations)
      (view_from p c.offset)
      c.raw.rest c.entry y.is null in
      y.depth ∙ rw (null, flag, deep) refl

  ended_list : (d : ℤ) (outer : Lists) (n : ℕ) → HasGoneOn limit d old.tree (Ok false) new.tree
      → AreNested old.tree.cursor.raw.depth (Some d ∷ outer)
      → HasGoneOut (Some d ∷ outer) n (record { tree = new.tree; is_on = false; lists = outer })
  ended_list d outer n h nest =
      let no = h.sought.no refl in
      let inner : AreNested (d -ℤ pos 1) outer = rw nest.0 nest.1 in
      record {
        ready = elim no.2 [
          | inl y ↦ inr (rw (null_after d no.0 no.1 y) inner)
          | inr over ↦ inl over.0
        ];
        count = step_below limit d old.tree new.tree (Ok false) h sound nest.0 (levels_of outer) n;
        fewer = no_more d h;
        higher = omega arith;
      }

  over_list : (d : ℤ) (outer : Lists) (n : ℕ) → HasGoneOn limit d old.tree (Ok false) new.tree
      → IsOver old.tree.cursor
      → HasGoneOut (Some d ∷ outer) n (record { tree = new.tree; is_on = false; lists = outer })
  over_list d outer n h over =
      let less = no_more d h in
      let none : IsOver new.tree.cursor = omega (arith, less, over) in
      record {
        ready = inl none;
        count =
            over_below limit old.tree.cursor.raw (suc (levels_of outer)) n over
            ∙ sym (over_below limit new.tree.cursor.raw (levels_of outer) n none);
        fewer = less;
        higher = omega arith;
      }

  closed_list : (outer : Lists) (n : ℕ)
      → IsOver old.tree.cursor ⊎ AreNested old.tree.cursor.raw.depth outer
      → HasGoneOut (None ∷ outer) n (record { tree = old.tree; is_on = false; lists = outer })
  closed_list outer n ready =
      record { ready = ready; count = refl; fewer = omega arith; higher = omega arith }

  pub step_out : (lists : Lists) (n : ℕ) (last : Standing)
      → HasAskedOne limit lists old (Ok false) new
      → IsOver old.tree.cursor ⊎ AreNested old.tree.cursor.raw.depth lists → 0 < length lists
      → last ≡ left_from new.lists new → HasGoneOut lists n last
  step_out [] n last h ready some is = absurd (omega (arith, some))
  step_out (None ∷ outer) n last h ready some is =
      rw (is ∙ ap (λ (s : Standing). left_from s.lists s) h.1
      ∙ ap (λ (t : TreeView). record { tree = t; is_on = false; lists = outer })
      h.0.1) (closed_list outer n ready)
  step_out (Some d ∷ outer) n last h ready some is =
      rw (is ∙ ap (λ (s : Standing). left_from s.lists s) h.1) (elim ready [
        | inl over ↦ over_list d outer n h.0 over
        | inr nest ↦ ended_list d outer n h.0 nest
      ])

  -- what stands next is refused
  pub step_fault : (lists : Lists) (n : ℕ) (e : Error) → HasAskedOne limit lists old (Err e) new
      → IsOver old.tree.cursor ⊎ AreNested old.tree.cursor.raw.depth lists → (e ≡ OutOfMemory → ⊥)
      → Left limit (levels_of lists) old n ≡ Err e
  step_fault [] n e h ready fine = let k = h.0 in absurd (cc)
  step_fault (None ∷ outer) n e h ready fine = let k = h.0.0 in absurd (cc)
  step_fault (Some d ∷ outer) n e h ready fine = elim ready [
    | inl over ↦ absurd
        (let r = h.0.sought.refused e refl in let after = r.after in let before = r.before in omega
        (arith, after, before, over))
    | inr nest ↦ step_below limit d old.tree new.tree (Err e) h.0 sound nest.0 (levels_of outer) n
        fine
  ]

-- no list is left
pub none_left : (limit : ℕ) (s : Standing) (lists : Lists) (n : ℕ) → s.lists ≡ lists
    → length lists ≡ 0 → rest_of limit n s ≡ Ok n
none_left limit s [] n same none = rw same refl
none_left limit s (list ∷ outer) n same none = absurd (omega (arith, none))

-- the root
module _ (limit : ℕ) (old : TreeView) (root last : Standing)
    (h : HasBegun limit old (Ok tt) root.tree) (stands : root ≡ after_begun (Ok tt) root.tree)
    (is : last ≡ entered_from root) where
  pub root_entered : last
      ≡ record { tree = root.tree; is_on = false; lists = children_of (node_at root.tree) ∷ [] }
  root_entered = is ∙ ap entered_from stands

  pub root_ready : IsReady last
  root_ready =
      let c = root.tree.cursor in
      let y = h.yes refl in
      let after : c.raw.depth
      ≡ below_flag c.entry.has_children c.depth = y.0.depth ∙ rw y.1 refl in
      rw root_entered (inr (nested_root c.entry.has_children c.depth c.raw.depth after))

  pub root_entries : entries_counted old.start.end (rows_of limit old.start) ≡ rest_of limit 1 last
  root_entries =
      let c = root.tree.cursor in
      ap (λ (m : TreeMoved). count_all m.answer m.place.ahead) (sym h.goes)
      ∙ rw root_entered (rw (entered_levels c.entry.has_children (c.depth +ℤ pos 1) []) refl)

-- or it is refused
pub root_refused : (limit : ℕ) (old new : TreeView) (e : Error) → HasBegun limit old (Err e) new
    → (e ≡ OutOfMemory → ⊥) → entries_counted old.start.end (rows_of limit old.start) ≡ Err e
root_refused limit old new e h fine =
    ap (λ (m : TreeMoved). count_all m.answer m.place.ahead) (sym (h.goes fine))
