-- One read is the step of a tree to its root, and a search for a depth is one to the next node of a
-- list.
use Rattle.std.proofs.Common.{◌≡◌, ℕ, ◌-◌, ◌<◌, ◌≤◌, ◌^◌, ℤ, pos, Bool, true, false, List, [], ◌∷◌}
use Rattle.std.proofs.Common.{length, Option, Some, None, Result, Ok, Err, refl, sym, ap, ◌∙◌}
use Rattle.std.proofs.Common.{arith, length-drop, ltb-true}
use Rattle.std.specs.Prelude.{not, ◌≤ℤ◌, if◌then◌else◌, nat_le, nat_lt, unwrap_or}
use Rattle.std.proofs.lemmas.Bool.{leb-true}
use Rattle.std.proofs.lemmas.Int.{ints}
use Rattle.gimli_base.specs.declared.error.Error.{Error}
use Rattle.gimli_base.specs.declared.error.Error.TheVariants.{NoEntryAtGivenOffset}
use Rattle.gimli_base.specs.declared.error.Error.TheVariants.{OffsetOutOfBounds}
use Rattle.gimli_base.proofs.Both.{both}
use Rattle.gimli_base.specs.View.{View, cut}
use Rattle.gimli_base.specs.Table.{Table}
use Rattle.gimli_base.proofs.Later.{IsLater-none, IsLater-trans}
use Rattle.gimli_units.specs.Entry.{Entry, is_null}
use Rattle.gimli_units.specs.RawPlace.{RawPlace, next_offset_of, below_flag, depth_after}
use Rattle.gimli_units.specs.Rows.{Row, Ahead}
use Rattle.gimli_units.specs.Unit.{UnitView, whole_length, header_size, in_bounds, range_from}
use Rattle.gimli_units.specs.Unit.{entries_in, entries_from, some_entry}
use Rattle.gimli_units.specs.CursorPlace.{is_entry, has_depth, arrive, skip_until, seek}
use Rattle.gimli_units.specs.CursorPlace.{first_of_rows}
use Rattle.gimli_units.specs.CursorModel.{CursorView, next_of, rows_of, place_of, IsHonestFor}
use Rattle.gimli_units.specs.CursorModel.{IsTrueEntry, IsSound}
use Rattle.gimli_units.specs.SearchSteps.{after_entry, after_refusal, HasRead, an_entry, the_end}
use Rattle.gimli_units.specs.SearchSteps.{a_refusal, HasSought}
use Rattle.gimli_units.specs.CursorStart.{before_first}
use Rattle.gimli_units.specs.TreePlace.{TreeMoved, Lists, list_end, at_root, to_root}
use Rattle.gimli_units.specs.TreePlace.{found_in, to_next}
use Rattle.gimli_units.specs.TreeMoves.{TreeView, before_root, IsTree, list_of, in_lists}
use Rattle.gimli_units.specs.TreeMoves.{root_moved}
use Rattle.gimli_units.specs.TreeMoves.{gone_on, HasBegun, HasGoneOn}
use Rattle.gimli_units.proofs.CursorSteps.{rows_entry, rows_refusal, rows_over}
use Rattle.gimli_units.proofs.Onward.{Onward, onward_start, onward_read, true_entry, unless_then}

-- a cursor before its first step
first_sound : (p : RawPlace) → length p.rest.bytes < 2 ^ 63 → length p.rest.bytes ≤ p.end
    → p.depth ≡ pos 0 → IsSound (before_first true p)
first_sound p small fits depth = record {
  few = omega (arith, small);
  shallow = omega (arith, small);
  fits = fits;
  next_shallow = omega (arith, ints, small, depth);
  after = λ entry. absurd (cc);
  past = λ entry. absurd (cc);
}

-- a new tree
pub new_tree : (p : RawPlace) → 0 < length p.rest.bytes → length p.rest.bytes < 2 ^ 63
    → length p.rest.bytes ≤ p.end → p.depth ≡ pos 0 → IsTree (before_root p)
new_tree p some small fits depth = record {
  some = some;
  small = small;
  fits = fits;
  depth = depth;
  encoding = refl;
  abbreviations = refl;
  end = refl;
  follows = refl;
  further = IsLater-none p.rest;
  few = omega arith;
  sound = first_sound p small fits depth;
}

-- the entries of a unit from an offset on begin with a byte
pub start_some : (u : UnitView) (table : Table) (o : Option ℕ) (p : RawPlace)
    → length u.entries.bytes ≤ whole_length u → Ok p ≡ entries_from u table o
    → (0 < length p.rest.bytes) × (p.depth ≡ pos 0)
unfolding entries_from range_from
start_some u table o p fits is = cases (in_bounds u at) refl is
  where
    at : ℕ
    at = unwrap_or o (header_size u)

    cases : (b : Bool) → in_bounds u at ≡ b
        → Ok p ≡ entries_in u table
        (if b then Ok (cut (at - header_size u) u.entries) else Err (OffsetOutOfBounds at))
        → (0 < length p.rest.bytes) × (p.depth ≡ pos 0)
    cases true h e =
        let same : p
        ≡ record {
          rest = cut (at - header_size u) u.entries;
          encoding = u.encoding;
          abbreviations = table;
          end = whole_length u;
          depth = pos 0;
        } = cc in
        let parts = both (nat_le (header_size u) at) (nat_lt at (whole_length u)) h in
        let low = leb-true (header_size u) at parts.0 in
        let below = ltb-true at (whole_length u) parts.1 in
        let left = length-drop (at - header_size u) u.entries.bytes in
        rw same (omega (arith, low, below, left, fits), refl)
    cases false h e = absurd (cc)

module _ (limit : ℕ) (t : TreeView) (s : IsTree t) where
  abbrev first : CursorView
  first = before_first true t.start

  first_onward : Onward first first
  first_onward = onward_start first (first_sound t.start s.small s.fits s.depth)

  start_before : next_offset_of t.start < t.start.end
  start_before = let some = s.some in let fits = s.fits in omega (arith, some, fits)

  -- the first read leaves a tree
  pub read_tree : (outcome : Result Bool Error) (c : CursorView) → HasRead limit first outcome c
      → IsTree (record { start = t.start; cursor = c })
  read_tree outcome c h =
      let o = onward_read limit first first outcome c first_onward h in
      let few = o.few in
      record {
        some = s.some;
        small = s.small;
        fits = s.fits;
        depth = s.depth;
        encoding = o.unit.encoding;
        abbreviations = o.unit.abbreviations;
        end = o.unit.end;
        follows = o.unit.follows;
        further = o.further;
        few = omega (arith, few);
        sound = o.sound;
      }

  -- some entry of a read
  rooted_entry : (b : Bool) (c : CursorView) → is_null c.entry ≡ false
      → at_root (record { outcome = Ok b; place = place_of limit c })
      ≡ root_moved limit (Ok tt) (record { start = t.start; cursor = c })
  rooted_entry b c entry = rw entry refl

  rooted_null : (b : Bool) (c : CursorView) → is_null c.entry ≡ true
      → at_root (record { outcome = Ok b; place = place_of limit c })
      ≡ root_moved limit (Err (NoEntryAtGivenOffset c.offset))
      (record { start = t.start; cursor = c })
  rooted_null b c null = rw null refl

  first_entry : (e : Entry) (w : View) → (length t.start.rest.bytes ≡ 0 → ⊥)
      → Ok (e, w) ≡ next_of limit t.start t.start.rest
      → record { outcome = Ok (not (is_null e)); place = place_of limit (after_entry first e w) }
      ≡ first_of_rows t.start.end (pos 0) 0 (rows_of limit t.start)
  unfolding first_of_rows
  first_entry e w some reads = rw (rows_entry limit first e w some reads) refl

  first_refusal : (e : Error) → (length t.start.rest.bytes ≡ 0 → ⊥)
      → Err e ≡ next_of limit t.start t.start.rest
      → record { outcome = Err e; place = place_of limit (after_refusal first) }
      ≡ first_of_rows t.start.end (pos 0) 0 (rows_of limit t.start)
  unfolding first_of_rows
  first_refusal e some reads =
      rw (rows_refusal limit first.raw e some reads, rows_over limit first) refl

  goes_root : (e : Entry) (w : View) → (length t.start.rest.bytes ≡ 0 → ⊥)
      → Ok (e, w) ≡ next_of limit t.start t.start.rest → is_null e ≡ false
      → root_moved limit (Ok tt) (record { start = t.start; cursor = after_entry first e w })
      ≡ to_root t.start.end (rows_of limit t.start)
  unfolding to_root
  goes_root e w some reads entry =
      sym (rooted_entry (not (is_null e)) (after_entry first e w) entry)
      ∙ ap at_root (first_entry e w some reads)

  goes_null : (e : Entry) (w : View) → (length t.start.rest.bytes ≡ 0 → ⊥)
      → Ok (e, w) ≡ next_of limit t.start t.start.rest → is_null e ≡ true
      → root_moved limit (Err (NoEntryAtGivenOffset (next_offset_of t.start)))
      (record { start = t.start; cursor = after_entry first e w })
      ≡ to_root t.start.end (rows_of limit t.start)
  unfolding to_root
  goes_null e w some reads null =
      sym (rooted_null (not (is_null e)) (after_entry first e w) null)
      ∙ ap at_root (first_entry e w some reads)

  goes_fault : (e : Error) → (length t.start.rest.bytes ≡ 0 → ⊥)
      → Err e ≡ next_of limit t.start t.start.rest
      → root_moved limit (Err e) (record { start = t.start; cursor = after_refusal first })
      ≡ to_root t.start.end (rows_of limit t.start)
  unfolding to_root
  goes_fault e some reads = ap at_root (first_refusal e some reads)

  null_refused : (e : Entry) (w : View) → Ok (e, w) ≡ next_of limit t.start t.start.rest
      → is_null e ≡ true
      → some_entry (next_offset_of t.start) (next_of limit t.start t.start.rest)
      ≡ Err (NoEntryAtGivenOffset (next_offset_of t.start))
  null_refused e w reads null = rw (← reads, null) refl

  fault_refused : (e : Error) → Err e ≡ next_of limit t.start t.start.rest
      → some_entry (next_offset_of t.start) (next_of limit t.start t.start.rest) ≡ Err e
  fault_refused e reads = rw (← reads) refl

  -- an entry is the root
  pub root_read : (outcome : Result Bool Error) (c : CursorView) (b : Bool)
      → HasRead limit first outcome c → outcome ≡ Ok b → is_null c.entry ≡ false
      → HasBegun limit t (Ok tt) (record { start = t.start; cursor = c })
  root_read outcome c b h holds entry =
      cases h (λ is. true_entry limit first first outcome c first_onward h is)
    where
      cases : HasRead limit first outcome c → (outcome ≡ Ok true → IsTrueEntry limit first c)
          → HasBegun limit t (Ok tt) (record { start = t.start; cursor = c })
      cases (an_entry e w some reads is same) true_one =
          let some_e : is_null e ≡ false = rw same at entry in
          let o = onward_read limit first first outcome c first_onward h in
          record {
            start = refl;
            unit = o.unit;
            further = o.further;
            first = (Ok (not (is_null e)), rw same (first_entry e w some reads));
            goes = rw same (goes_root e w some reads some_e);
            yes = λ k. (true_one is, entry);
            place = λ k. rw same (refl, s.depth);
            refused = λ x fails. absurd (cc);
            memory = λ k. absurd (cc);
            reads = ap (λ (x : CursorView). x.reads) same;
          }
      cases (the_end none is same) true_one = let least = s.some in
          absurd (omega (arith, least, none))
      cases (a_refusal x some is same why memory) true_one =
          let k : ◌≡◌ {A = Result Bool Error} (Err x) (Ok b) = sym is ∙ holds in absurd (cc)

  -- a null is not
  pub null_read : (outcome : Result Bool Error) (c : CursorView) (b : Bool)
      → HasRead limit first outcome c → outcome ≡ Ok b → is_null c.entry ≡ true
      → HasBegun limit t (Err (NoEntryAtGivenOffset c.offset))
      (record { start = t.start; cursor = c })
  null_read outcome c b (an_entry e w some reads is same) holds null =
      let null_e : is_null e ≡ true = rw same at null in
      let o = onward_read limit first first outcome c first_onward
      (an_entry e w some reads is same) in
      rw same (record {
        start = refl;
        unit = rw same at o.unit;
        further = rw same at o.further;
        first = λ fine. (Ok (not (is_null e)), first_entry e w some reads);
        goes = λ fine. goes_null e w some reads null_e;
        yes = λ k. absurd (cc);
        place = λ k. absurd (cc);
        refused = λ x fails.
            let one : NoEntryAtGivenOffset (next_offset_of t.start) ≡ x = cc in
            rw (← one)
            (record {
              is = λ fine. null_refused e w reads null_e;
              memory = λ k. absurd (cc);
              before = start_before;
            });
        memory = λ k. absurd (cc);
        reads = refl;
      })
  null_read outcome c b (the_end none is same) holds null = let least = s.some in
      absurd (omega (arith, least, none))
  null_read outcome c b (a_refusal x some is same why memory) holds null =
      let k : ◌≡◌ {A = Result Bool Error} (Err x) (Ok b) = sym is ∙ holds in absurd (cc)

  -- nor is what can't be read
  pub fault_read : (outcome : Result Bool Error) (c : CursorView) (e : Error)
      → HasRead limit first outcome c → outcome ≡ Err e
      → HasBegun limit t (Err e) (record { start = t.start; cursor = c })
  fault_read outcome c e (an_entry x w some reads is same) fails =
      let k : ◌≡◌ {A = Result Bool Error} (Ok true) (Err e) = sym is ∙ fails in absurd (cc)
  fault_read outcome c e (the_end none is same) fails = let least = s.some in
      absurd (omega (arith, least, none))
  fault_read outcome c e (a_refusal x some is same why memory) fails =
      let k : ◌≡◌ {A = Result Bool Error} (Err x) (Err e) = sym is ∙ fails in
      let one : x ≡ e = cc in
      let o = onward_read limit first first outcome c first_onward
      (a_refusal x some is same why memory) in
      rw (same, ← one) (record {
        start = refl;
        unit = rw same at o.unit;
        further = rw same at o.further;
        first = λ fine. (Err x, first_refusal x some (why fine));
        goes = λ fine. goes_fault x some (why fine);
        yes = λ k. absurd (cc);
        place = λ k. absurd (cc);
        refused = λ y h.
            let two : x ≡ y = cc in
            rw (← two)
            (record {
              is = λ fine. fault_refused x (why fine);
              memory = memory;
              before = start_before;
            });
        memory = λ k. refl;
        reads = refl;
      })

-- the pair at the end of the bytes is none of a tree's
found_anywhere : (end : ℕ) (a : Ahead) (o : ℕ) (d : ℤ) (outer : Lists) (rs : List Row)
    → found_in d outer (arrive end a o d is_entry rs)
    ≡ found_in d outer (arrive end a 0 d is_entry rs)
found_anywhere end a o d outer [] = cases a.refusal refl
  where
    cases : (r : Option Error) → a.refusal ≡ r
        → found_in d outer (arrive end a o d is_entry [])
        ≡ found_in d outer (arrive end a 0 d is_entry [])
    cases None h = rw h refl
    cases (Some e) h = rw h refl
found_anywhere end a o d outer (r ∷ rest) = refl

next_is : (limit : ℕ) (t : TreeView) (d : ℤ) (outer : Lists) (end o : ℕ)
    → found_in d outer (seek end d o (rows_of limit t.cursor.raw))
    ≡ to_next end (in_lists limit t (Some d ∷ outer))
unfolding to_next seek
next_is limit t d outer end o = let a : Ahead = rows_of limit t.cursor.raw in
    found_anywhere end a o d outer (skip_until (has_depth d) a.rows)

found_entry : (limit : ℕ) (d : ℤ) (outer : Lists) (start : RawPlace) (c : CursorView)
    → is_null c.entry ≡ false
    → gone_on limit d outer (Ok true) (record { start = start; cursor = c })
    ≡ found_in d outer (record { outcome = Ok true; place = place_of limit c })
found_entry limit d outer start c entry = rw entry refl

found_null : (limit : ℕ) (d : ℤ) (outer : Lists) (start : RawPlace) (c : CursorView)
    → is_null c.entry ≡ true
    → gone_on limit d outer (Ok false) (record { start = start; cursor = c })
    ≡ found_in d outer (record { outcome = Ok false; place = place_of limit c })
found_null limit d outer start c null = rw null refl

-- what a search answered is what the tree answers
pub found_is : (limit : ℕ) (d : ℤ) (outer : Lists) (start : RawPlace) (outcome : Result Bool Error)
    (c : CursorView)
    → (outcome ≡ Ok true → is_null c.entry ≡ false) → (outcome ≡ Ok false → is_null c.entry ≡ true)
    → gone_on limit d outer outcome (record { start = start; cursor = c })
    ≡ found_in d outer (record { outcome = outcome; place = place_of limit c })
found_is limit d outer start (Ok true) c some none = found_entry limit d outer start c (some refl)
found_is limit d outer start (Ok false) c some none = found_null limit d outer start c (none refl)
found_is limit d outer start (Err e) c some none = refl

-- after an entry of a depth the next one is no less deep
no_less : (e : Entry) (after d : ℤ) → is_null e ≡ false → after ≡ depth_after e d → d ≤ℤ after
no_less e after d entry is = cases e.has_children (is ∙ rw entry refl)
  where
    cases : (flag : Bool) → after ≡ below_flag flag d → d ≤ℤ after
    cases true h = omega (arith, ints, h)
    cases false h = omega (arith, ints, h)

-- a list that is closed is at its end
pub closed_end : (limit : ℕ) (t : TreeView) (d : ℤ) (opened : Bool) (end : ℕ) → opened ≡ false
    → list_end ≡ (to_next end (in_lists limit t (list_of opened d ∷ []))).answer
unfolding to_next
closed_end limit t d opened end is = rw is refl

module _ (limit : ℕ) (d : ℤ) (t : TreeView) (s : IsTree t) (outcome : Result Bool Error)
    (c : CursorView) (h : HasSought limit d t.cursor.offset t.cursor outcome c) where
  -- a search leaves a tree
  pub sought_tree : IsSound c → IsTree (record { start = t.start; cursor = c })
  sought_tree sound =
      let few = h.few in
      let before = s.few in
      record {
        some = s.some;
        small = s.small;
        fits = s.fits;
        depth = s.depth;
        encoding = h.unit.encoding ∙ s.encoding;
        abbreviations = h.unit.abbreviations ∙ s.abbreviations;
        end = h.unit.end ∙ s.end;
        follows = h.unit.follows ∙ s.follows;
        further = IsLater-trans 0 0 t.start.rest t.cursor.raw.rest c.raw.rest s.further h.further;
        few = omega (arith, few, before);
        sound = sound;
      }

  -- and it is the step to the next node
  pub sought_next : IsSound c → HasGoneOn limit d t outcome (record { start = t.start; cursor = c })
  sought_next sound = record {
    start = refl;
    goes = λ honest outer. unless_then outcome (h.found (λ f. honest)) (λ k.
        found_is limit d outer t.start outcome c (λ is. (h.yes is).1) (λ is. (h.no is).0)
        ∙ ap (found_in d outer) k
        ∙ ap (λ n. found_in d outer (seek n d t.cursor.offset (rows_of limit t.cursor.raw))) s.end
        ∙ next_is limit t d outer t.start.end t.cursor.offset);
    sought = h;
    past = λ is entry. let before = s.sound.past entry in let after = (h.yes is).0.after in
        omega (arith, before, after);
    inside = λ is. let y = h.yes is in
        no_less c.entry c.raw.depth d y.1 (sound.after y.1 ∙ ap (depth_after c.entry) y.2);
  }

-- an open list that is at its end, or a closed one, answers so
pub end_answer : (limit : ℕ) (old new : TreeView) (depth : ℤ) (is_open : Bool)
    → (is_open ≡ true → HasGoneOn limit depth old (Ok false) new)
    → IsHonestFor limit depth old.cursor
    → list_end ≡ (to_next old.start.end (in_lists limit old (list_of is_open depth ∷ []))).answer
end_answer limit old new depth true gone honest =
    ap (λ (m : TreeMoved). m.answer) ((gone refl).goes honest [])
end_answer limit old new depth false gone honest = closed_end limit old depth false old.start.end refl
