-- Turns of the search for a depth: each entry that is passed, or left for where its reference
-- leads, leaves what is sought.
use Rattle.std.proofs.Common.{◌≡◌, ℕ, zero, suc, ◌+◌, ◌-◌, ℤ, pos, ◌+ℤ◌, ◌-ℤ◌, Bool, true}
use Rattle.std.proofs.Common.{false, length, Option, Some, None, Result, Ok, Err, refl, sym, ap}
use Rattle.std.proofs.Common.{◌∙◌, arith, inl, inr, ◌==◌, length-drop}
use Rattle.std.specs.Prelude.{not, int_le, ◌≤ℤ◌, if◌then◌else◌, OnErr}
use Rattle.std.specs.Ordering.{int_eq}
use Rattle.std.proofs.lemmas.Int.{ints}
use Rattle.std.proofs.lemmas.Bool.{not-true, not-false, ne_eqb}
use Rattle.gimli_base.specs.declared.error.Error.{Error}
use Rattle.gimli_base.specs.declared.error.Error.TheVariants.{OutOfMemory}
use Rattle.gimli_base.specs.View.{View}
use Rattle.gimli_base.specs.Reading.{UnlessMemory}
use Rattle.gimli_base.specs.Table.{codes_of}
use Rattle.gimli_units.specs.Entry.{Entry, is_null, null_entry}
use Rattle.gimli_units.proofs.EntryReads.{entry_at-later}
use Rattle.gimli_units.specs.RawPlace.{next_offset_of, below_flag, depth_after}
use Rattle.gimli_units.specs.Kind.{null, leaf, parent, sibling_of}
use Rattle.gimli_units.specs.Honest.{target, within, usable_target, AreHonestUntil}
use Rattle.gimli_units.specs.CursorPlace.{seek, first_of_rows, has_depth}
use Rattle.gimli_units.specs.CursorModel.{CursorView, next_of, rows_of, rows_from, place_of}
use Rattle.gimli_units.specs.CursorModel.{last_row, followed_to, view_from, IsHonestFor}
use Rattle.gimli_units.specs.CursorModel.{IsPlaceAhead, IsReadOnce, IsReadUpTo, reads_ahead}
use Rattle.gimli_units.specs.CursorModel.{one_if_left, IsSound, IsTrueEntry, IsRefused}
use Rattle.gimli_units.specs.SearchSteps.{stands_at, stands_if, after_entry, after_refusal, HasRead}
use Rattle.gimli_units.specs.SearchSteps.{an_entry, the_end, a_refusal, leave_entry, at_depth, at_end}
use Rattle.gimli_units.specs.SearchSteps.{at_refusal, Searches, HasSought}
use Rattle.gimli_units.proofs.CursorSteps.{rows_entry, rows_end, rows_refusal, rows_over}
use Rattle.gimli_units.proofs.Flagless.{entry_at-flagless}
use Rattle.gimli_units.proofs.Splits.{differs, equal, at_least, jump}
use Rattle.gimli_units.proofs.Onward.{Onward, onward_start, onward_follow, onward_read, read_once}
use Rattle.gimli_units.proofs.Onward.{read_up_to, true_entry, true_refusal, followed_bounds}
use Rattle.gimli_units.proofs.Onward.{unless_then}
use Rattle.gimli_units.proofs.Walking.{place_on, refused_place}

-- where a reference is followed, the entry has children: the depth after it is one more
parent_depth : (c : CursorView) (t : ℕ) → usable_target c.raw.end (last_row c) ≡ Some t
    → (is_null c.entry ≡ false) × (depth_after c.entry c.depth ≡ c.depth +ℤ pos 1)
parent_depth c t to_sibling = cases (is_null c.entry) refl c.entry.has_children refl to_sibling
  where
    cases : (b : Bool) → is_null c.entry ≡ b → (flag : Bool) → c.entry.has_children ≡ flag
        → within (next_offset_of c.raw) c.raw.end
        (target
        (if b then null else if flag then parent (sibling_of c.entry.attributes) else leaf))
        ≡ Some t
        → (is_null c.entry ≡ false) × (depth_after c.entry c.depth ≡ c.depth +ℤ pos 1)
    cases true n flag f e = absurd (cc)
    cases false n false f e = absurd (cc)
    cases false n true f e = (n, rw (n, f) refl)

ok_is : {a b : Bool} → ◌≡◌ {A = Result Bool Error} (Ok a) (Ok b) → a ≡ b
ok_is h = cc

left_some : (v : View) → (length v.bytes ≡ 0 → ⊥) → one_if_left v ≡ 1
left_some v some = let t : (length v.bytes == 0) ≡ false = ne_eqb (length v.bytes) 0 some in
    rw t refl

left_none : (v : View) → length v.bytes ≡ 0 → one_if_left v ≡ 0
left_none v none = rw none refl

one_error : {x y : Error} → ◌≡◌ {A = Result Bool Error} (Err x) (Err y) → x ≡ y
one_error h = cc

module _ (limit : ℕ) (depth : ℤ) (offset : ℕ) where
  -- a cursor that has gone on, and what is sought is the same
  pub record Keeps (old new : CursorView) : Type 0 where
    pub same : seek new.raw.end depth offset (rows_of limit new.raw)
        ≡ seek old.raw.end depth offset (rows_of limit old.raw)
    pub ahead : old.follows ≡ true → AreHonestUntil new.raw.end depth (rows_of limit new.raw).rows
    pub places : (o : ℕ) (x : ℤ) → IsPlaceAhead limit (has_depth depth) new.raw o x
        → IsPlaceAhead limit (has_depth depth) old.raw o x

  -- leaving an entry, for where its reference leads or not, keeps what is sought, where it is
  -- honest
  follow_keeps : (c : CursorView) → IsSound c → (c.follows ≡ true → IsHonestFor limit depth c)
      → Keeps c (leave_entry depth c)
  follow_keeps c s honest = cases (int_le depth c.depth) refl (followed_to c) refl
    where
      stays : Keeps c
          (record {
            raw = c.raw;
            entry = null_entry;
            offset = c.offset;
            depth = c.depth;
            follows = c.follows;
            reads = c.reads;
          })
      stays = record { same = refl; ahead = λ f. (honest f).ahead; places = λ o x p. p }

      goes : (t : ℕ) → int_le depth c.depth ≡ true → followed_to c ≡ Some t
          → Keeps c
          (record {
            raw = stands_at c.raw (view_from c.raw t) c.depth;
            entry = null_entry;
            offset = c.offset;
            depth = c.depth;
            follows = c.follows;
            reads = c.reads;
          })
      goes t deep to_sibling =
          let b = followed_bounds c t to_sibling in
          let h = honest b.0 in
          let up = parent_depth c t b.1 in
          let after = s.after up.0 ∙ up.1 in
          let k = jump (next_of limit c.raw) c.raw.end
          (λ v w e. entry_at-later limit c.raw.encoding (codes_of c.raw.abbreviations) v e w)
          (entry_at-flagless limit c.raw.encoding (codes_of c.raw.abbreviations))
          c.raw.rest c.raw.depth c.depth depth offset t s.fits (omega (arith, ints, after))
          (at_least depth c.depth deep) (h.current deep t b.1) in
          record { same = k.same; ahead = λ f. k.honest h.ahead; places = k.places }

      cases : (deep : Bool) → int_le depth c.depth ≡ deep → (to : Option ℕ) → followed_to c ≡ to
          → Keeps c
          (record {
            raw = stands_if c.raw (if deep then to else None) c.depth;
            entry = null_entry;
            offset = c.offset;
            depth = c.depth;
            follows = c.follows;
            reads =
                c.reads;
          })
      cases false d to to_sibling = stays
      cases true d None to_sibling = stays
      cases true d (Some t) to_sibling = goes t d to_sibling

  passed : (c : CursorView) (e : Entry) (w : View) → (length c.raw.rest.bytes ≡ 0 → ⊥)
      → Ok (e, w) ≡ next_of limit c.raw c.raw.rest → int_eq c.raw.depth depth ≡ false
      → seek c.raw.end depth offset (rows_of limit (after_entry c e w).raw)
      ≡ seek c.raw.end depth offset (rows_of limit c.raw)
  unfolding seek
  passed c e w some reads other = rw (rows_entry limit c e w some reads, other) refl

  passed_honest : (c : CursorView) (e : Entry) (w : View) → (length c.raw.rest.bytes ≡ 0 → ⊥)
      → Ok (e, w) ≡ next_of limit c.raw c.raw.rest → int_eq c.raw.depth depth ≡ false
      → AreHonestUntil c.raw.end depth (rows_of limit c.raw).rows
      → IsHonestFor limit depth (after_entry c e w)
  passed_honest c e w some reads other h =
      let parts = (rw (rows_entry limit c e w some reads) at h) other in
      record { current = parts.0; ahead = parts.1 }

  -- what is promised where the rows are honest
  pub record Honestly (start here : CursorView) : Type 0 where
    pub same : seek here.raw.end depth offset (rows_of limit here.raw)
        ≡ seek start.raw.end depth offset (rows_of limit start.raw)
    pub honest : here.follows ≡ true → IsHonestFor limit depth here
    pub places : (o : ℕ) (x : ℤ) → IsPlaceAhead limit (has_depth depth) here.raw o x
        → IsPlaceAhead limit (has_depth depth) start.raw o x

  -- a search that goes on from `here` is one from `start`
  abbrev Leads : CursorView → CursorView → Type 0
  Leads start here = (n : ℕ) (outcome : Result Bool Error) (new : CursorView)
      → Searches limit n depth offset here outcome new
      → (m : ℕ) × Searches limit m depth offset start outcome new

  -- a search that began at `start` and has found nothing yet
  pub record Seeking (start here : CursorView) : Type 0 where
    pub onward : Onward start here
    pub first : (t : ℕ) → followed_to start ≡ Some t → start.depth ≡ depth → here ≡ start
    pub inside : depth ≤ℤ start.raw.depth → depth ≤ℤ here.raw.depth
    pub plain : start.follows ≡ false → IsReadOnce limit start here
    pub honestly : (start.follows ≡ true → IsHonestFor limit depth start) → Honestly start here
    pub steps : Leads start here

  pub seeking_start : (c : CursorView) → IsSound c → Seeking c c
  seeking_start c s = record {
    onward = onward_start c s;
    first = λ t to_sibling same. refl;
    inside = λ low. low;
    plain = λ f. refl;
    honestly = λ h. record { same = refl; honest = h; places = λ o x p. p };
    steps = λ n outcome new s. (n, s);
  }

  -- the depth is never above the one that is sought
  low_follow : (c : CursorView) → depth ≤ℤ c.raw.depth → depth ≤ℤ (leave_entry depth c).raw.depth
  low_follow c low = cases (int_le depth c.depth) refl (followed_to c)
    where
      cases : (deep : Bool) → int_le depth c.depth ≡ deep → (to : Option ℕ)
          → depth ≤ℤ (stands_if c.raw (if deep then to else None) c.depth).depth
      cases false d to = low
      cases true d None = low
      cases true d (Some t) = at_least depth c.depth d

  low_after : (e : Entry) (d : ℤ) → depth ≤ℤ d → int_eq d depth ≡ false → depth ≤ℤ depth_after e d
  low_after e d low other = cases (is_null e) e.has_children
    where
      cases : (null flag : Bool)
          → depth ≤ℤ (if null then below_flag flag d -ℤ pos 1 else below_flag flag d)
      cases true true = omega (arith, ints)
      cases true false = let ne = differs d depth other in omega (arith, ints)
      cases false true = omega (arith, ints)
      cases false false = low

  just_above : (e : Entry) (d : ℤ) → depth ≤ℤ d → (depth -ℤ pos 1) ≤ℤ depth_after e d
  just_above e d low = cases (is_null e) e.has_children
    where
      cases : (null flag : Bool)
          → (depth -ℤ pos 1) ≤ℤ (if null then below_flag flag d -ℤ pos 1 else below_flag flag d)
      cases true true = omega (arith, ints)
      cases true false = omega (arith, ints)
      cases false true = omega (arith, ints)
      cases false false = omega (arith, ints)

  -- where the first entry's reference is followed, the reader stands where it leads, at the depth
  -- that is sought
  first_follow : (c : CursorView) (t : ℕ) → followed_to c ≡ Some t → c.depth ≡ depth
      → leave_entry depth c
      ≡ record {
        raw = stands_at c.raw (view_from c.raw t) depth;
        entry = null_entry;
        offset = c.offset;
        depth = c.depth;
        follows = c.follows;
        reads = c.reads;
      }
  first_follow c t to_sibling same =
      let deep : int_le depth c.depth ≡ true = rw same (at_most depth) in
      rw (deep, to_sibling, same) refl
    where
      at_most : (a : ℤ) → int_le a a ≡ true
      at_most a = grind (arith, ints)

  -- where nothing is followed the reader stays
  plain_follow : (c : CursorView) → c.follows ≡ false
      → leave_entry depth c
      ≡ record {
        raw = c.raw;
        entry = null_entry;
        offset = c.offset;
        depth = c.depth;
        follows = c.follows;
        reads = c.reads;
      }
  plain_follow c never = cases (int_le depth c.depth)
    where
      none : followed_to c ≡ None
      none = rw never refl

      cases : (deep : Bool)
          → ◌≡◌ {A = CursorView}
          (record {
            raw = stands_if c.raw (if deep then followed_to c else None) c.depth;
            entry = null_entry;
            offset = c.offset;
            depth = c.depth;
            follows = c.follows;
            reads =
                c.reads;
          })
          (record {
            raw = c.raw;
            entry = null_entry;
            offset = c.offset;
            depth = c.depth;
            follows = c.follows;
            reads = c.reads;
          })
      cases true = rw none refl
      cases false = refl

  -- where nothing is followed, what was passed was read once
  plain_once : (start here : CursorView) (outcome : Result Bool Error) (new : CursorView)
      → Seeking start here → HasRead limit (leave_entry depth here) outcome new
      → start.follows ≡ false → UnlessMemory outcome (IsReadOnce limit start new)
  plain_once start here outcome new k h never =
      let mid : IsReadOnce limit here (leave_entry depth here) =
      ap (λ (c : CursorView). c.reads + reads_ahead (rows_of limit c.raw))
      (plain_follow here (k.onward.unit.follows ∙ never)) in
      unless_then outcome (read_once limit (leave_entry depth here) outcome new h)
      (λ r. r ∙ mid ∙ k.plain never)

  -- and so was what was refused
  plain_up_to : (start here : CursorView) (outcome : Result Bool Error) (new : CursorView)
      → Seeking start here
      → HasRead limit (leave_entry depth here) outcome new → start.follows ≡ false
      → OnErr outcome (IsReadUpTo limit start new)
  plain_up_to start here outcome new k h never =
      let mid : IsReadOnce limit here (leave_entry depth here) =
      ap (λ (c : CursorView). c.reads + reads_ahead (rows_of limit c.raw))
      (plain_follow here (k.onward.unit.follows ∙ never)) in
      read_up_to limit start (leave_entry depth here) outcome new
      (onward_follow start here depth k.onward) (mid ∙ k.plain never) h

  -- the first entry's reference is followed
  first_mid : (start here : CursorView) → Seeking start here → (t : ℕ) → followed_to start ≡ Some t
      → start.depth ≡ depth
      → leave_entry depth here
      ≡ record {
        raw = stands_at start.raw (view_from start.raw t) depth;
        entry = null_entry;
        offset = start.offset;
        depth = start.depth;
        follows = start.follows;
        reads = start.reads;
      }
  first_mid start here k t to_sibling same =
      ap (leave_entry depth) (k.first t to_sibling same) ∙ first_follow start t to_sibling same

  -- the reader stands at the reference
  first_place : (start here : CursorView) → Seeking start here → (t : ℕ)
      → followed_to start ≡ Some t → start.depth ≡ depth
      → (next_offset_of (leave_entry depth here).raw ≡ t) × ((leave_entry depth here).raw.depth ≡ depth)
  first_place start here k t to_sibling same =
      let m = first_mid start here k t to_sibling same in
      let b = followed_bounds start t to_sibling in
      let cut_length = length-drop (t - next_offset_of start.raw) start.raw.rest.bytes in
      let there : next_offset_of (stands_at start.raw (view_from start.raw t) depth)
      ≡ t = omega (arith, cut_length, b.2, b.3, k.onward.fits) in (
        ap (λ (c : CursorView). next_offset_of c.raw) m ∙ there,
        ap (λ (c : CursorView). c.raw.depth) m,
      )

  first_rows : (start here : CursorView) → Seeking start here → (t : ℕ) → followed_to start ≡ Some t
      → start.depth ≡ depth
      → first_of_rows (leave_entry depth here).raw.end depth offset
      (rows_of limit (leave_entry depth here).raw)
      ≡ first_of_rows start.raw.end depth offset (rows_from limit start.raw t depth)
  first_rows start here k t to_sibling same =
      ap (λ (c : CursorView). first_of_rows c.raw.end depth offset (rows_of limit c.raw))
      (first_mid start here k t to_sibling same)

  -- what is sought where the rows are honest
  sought_there : (start here : CursorView) → Seeking start here
      → (start.follows ≡ true → IsHonestFor limit depth start)
      → seek (leave_entry depth here).raw.end depth offset (rows_of limit (leave_entry depth here).raw)
      ≡ seek start.raw.end depth offset (rows_of limit start.raw)
  sought_there start here k h =
      (follow_keeps here k.onward.sound (k.honestly h).honest).same ∙ (k.honestly h).same

  -- an entry of another depth is passed
  pub seeking_on : (start here : CursorView) (outcome : Result Bool Error) (new : CursorView)
      → Seeking start here → HasRead limit (leave_entry depth here) outcome new
      → outcome ≡ Ok true → int_eq new.depth depth ≡ false → Seeking start new
  seeking_on start here outcome new k h holds other =
      cases h
      (onward_read limit start (leave_entry depth here) outcome new
      (onward_follow start here depth k.onward) h) (plain_once start here outcome new k h)
      (λ n o x s. k.steps (suc n) o x (new, rw holds at h, other, s))
    where
      mid : CursorView
      mid = leave_entry depth here

      cases : HasRead limit mid outcome new → Onward start new
          → (start.follows ≡ false → UnlessMemory outcome (IsReadOnce limit start new))
          → Leads start new → Seeking start new
      cases (an_entry e w some reads is same) onward once steps =
          let elsewhere : int_eq mid.raw.depth depth ≡ false = rw same at other in
          rw same (record {
            onward = rw same at onward;
            first = λ t to_sibling deep.
                absurd
                (differs mid.raw.depth depth elsewhere
                (ap (λ (c : CursorView). c.raw.depth) (first_mid start here k t to_sibling deep)));
            inside = λ low. low_after e mid.raw.depth (low_follow here (k.inside low)) elsewhere;
            plain = rw (is, same) at once;
            steps = rw same at steps;
            honestly = λ honest.
                let i = k.honestly honest in
                let kept = follow_keeps here k.onward.sound i.honest in
                record {
                  same = passed mid e w some reads elsewhere ∙ kept.same ∙ i.same;
                  honest = λ f. passed_honest mid e w some reads elsewhere (kept.ahead f);
                  places = λ o x p. i.places o x
                      (kept.places o x
                      (place_on limit (has_depth depth) mid e w some reads elsewhere o x p));
                };
          })
      cases (the_end none is same) onward once steps =
          let x : ◌≡◌ {A = Result Bool Error} (Ok false) (Ok true) = sym is ∙ holds in absurd (cc)
      cases (a_refusal x some is same why memory) onward once steps =
          let y : ◌≡◌ {A = Result Bool Error} (Err x) (Ok true) = sym is ∙ holds in absurd (cc)

  -- one of that depth is the one
  found_at : (c : CursorView) (e : Entry) (w : View) → (length c.raw.rest.bytes ≡ 0 → ⊥)
      → Ok (e, w) ≡ next_of limit c.raw c.raw.rest → int_eq c.raw.depth depth ≡ true
      → record { outcome = Ok (not (is_null e)); place = place_of limit (after_entry c e w) }
      ≡ seek c.raw.end depth offset (rows_of limit c.raw)
  unfolding seek
  found_at c e w some reads same = rw (rows_entry limit c e w some reads, same) refl

  first_at : (c : CursorView) (e : Entry) (w : View) → (length c.raw.rest.bytes ≡ 0 → ⊥)
      → Ok (e, w) ≡ next_of limit c.raw c.raw.rest
      → record { outcome = Ok (not (is_null e)); place = place_of limit (after_entry c e w) }
      ≡ first_of_rows c.raw.end depth offset (rows_of limit c.raw)
  unfolding first_of_rows
  first_at c e w some reads = rw (rows_entry limit c e w some reads) refl

  pub sought_to : (start here : CursorView) (outcome : Result Bool Error) (new : CursorView)
      → Seeking start here → HasRead limit (leave_entry depth here) outcome new
      → outcome ≡ Ok true → int_eq new.depth depth ≡ true
      → HasSought limit depth offset start (Ok (not (is_null new.entry))) new
  sought_to start here outcome new k h holds there =
      cases h
      (onward_read limit start (leave_entry depth here) outcome new
      (onward_follow start here depth k.onward) h) (plain_once start here outcome new k h)
      (true_entry limit start (leave_entry depth here) outcome new
      (onward_follow start here depth k.onward) h holds)
      (k.steps zero _ new (at_depth (rw holds at h) there refl))
    where
      mid : CursorView
      mid = leave_entry depth here

      cases : HasRead limit mid outcome new → Onward start new
          → (start.follows ≡ false → UnlessMemory outcome (IsReadOnce limit start new))
          → IsTrueEntry limit start new
          → ((m : ℕ) × Searches limit m depth offset start (Ok (not (is_null new.entry))) new)
          → HasSought limit depth offset start (Ok (not (is_null new.entry))) new
      cases (an_entry e w some reads is same) onward once true_one steps =
          let deep : int_eq mid.raw.depth depth ≡ true = rw same at there in
          rw same (record {
            unit = rw same at onward.unit;
            further = rw same at onward.further;
            few = rw same at onward.few;
            more = rw same at onward.more;
            found = λ honest. found_at mid e w some reads deep ∙ sought_there start here k honest;
            yes =
                λ t. (
                  rw same at true_one,
                  not-true (is_null e) (ok_is t),
                  equal mid.raw.depth depth deep,
                );
            no =
                λ t. (
                  not-false (is_null e) (ok_is t),
                  equal mid.raw.depth depth deep,
                  inl (rw same at true_one),
                );
            refused = λ x t. absurd (cc);
            asked = λ t. absurd (cc);
            place = λ x t. absurd (cc);
            there = λ t to_sibling at. first_at mid e w some reads ∙ first_rows start here k t to_sibling at;
            once = λ t to_sibling at.
                let m = first_mid start here k t to_sibling at in
                ap (λ (c : CursorView). c.reads + 1) m
                ∙ ap (λ n. start.reads + n)
                (sym (left_some mid.raw.rest some)
                ∙ ap (λ (c : CursorView). one_if_left c.raw.rest) m);
            refused_there = λ x t. absurd (cc);
            counted = λ never. let more = (onward_follow start here depth k.onward).more in
                omega (arith, more);
            plain = λ f. ((rw (is, same) at once) f, tt);
            steps = rw same at steps;
            inside = λ low. just_above e mid.raw.depth (low_follow here (k.inside low));
          })
      cases (the_end none is same) onward once true_one steps =
          let x : ◌≡◌ {A = Result Bool Error} (Ok false) (Ok true) = sym is ∙ holds in absurd (cc)
      cases (a_refusal x some is same why memory) onward once true_one steps =
          let y : ◌≡◌ {A = Result Bool Error} (Err x) (Ok true) = sym is ∙ holds in absurd (cc)

  -- at the end of the bytes there is none, and the pair is set
  end_at : (c : CursorView) → length c.raw.rest.bytes ≡ 0
      → record {
        outcome = Ok false;
        place =
            record { ahead = rows_of limit c.raw; current = None; offset = offset; depth = depth };
      }
      ≡ seek c.raw.end depth offset (rows_of limit c.raw)
  unfolding seek
  end_at c none = rw (rows_end limit c.raw none) refl

  first_end_at : (c : CursorView) → length c.raw.rest.bytes ≡ 0
      → record {
        outcome = Ok false;
        place =
            record { ahead = rows_of limit c.raw; current = None; offset = offset; depth = depth };
      }
      ≡ first_of_rows c.raw.end depth offset (rows_of limit c.raw)
  unfolding first_of_rows
  first_end_at c none = rw (rows_end limit c.raw none) refl

  -- the cursor with another pair
  abbrev pub paired : CursorView → CursorView
  paired c =
      record {
        raw = c.raw;
        entry = c.entry;
        offset = offset;
        depth = depth;
        follows = c.follows;
        reads = c.reads;
      }

  pub sought_end : (start here : CursorView) (outcome : Result Bool Error) (new : CursorView)
      → Seeking start here → HasRead limit (leave_entry depth here) outcome new
      → outcome ≡ Ok false → HasSought limit depth offset start (Ok false) (paired new)
  sought_end start here outcome new k h ends =
      cases h
      (onward_read limit start (leave_entry depth here) outcome new
      (onward_follow start here depth k.onward) h) (plain_once start here outcome new k h)
      (k.steps zero _ (paired new) (at_end new (rw ends at h) refl refl))
    where
      mid : CursorView
      mid = leave_entry depth here

      cases : HasRead limit mid outcome new → Onward start new
          → (start.follows ≡ false → UnlessMemory outcome (IsReadOnce limit start new))
          → ((m : ℕ) × Searches limit m depth offset start (Ok false) (paired new))
          → HasSought limit depth offset start (Ok false) (paired new)
      cases (an_entry e w some reads is same) onward once steps =
          let x : ◌≡◌ {A = Result Bool Error} (Ok true) (Ok false) = sym is ∙ ends in absurd (cc)
      cases (the_end none is same) onward once steps =
          let u = rw same at onward.unit in
          rw same (record {
            unit =
                record {
                  encoding = u.encoding;
                  abbreviations = u.abbreviations;
                  end = u.end;
                  follows = u.follows;
                };
            further = rw same at onward.further;
            few = rw same at onward.few;
            more = rw same at onward.more;
            found = λ honest. end_at mid none ∙ sought_there start here k honest;
            yes = λ t. absurd (cc);
            no = λ t. (refl, refl, inr (none, refl));
            refused = λ x t. absurd (cc);
            asked = λ t. absurd (cc);
            place = λ x t. absurd (cc);
            there = λ t to_sibling at. first_end_at mid none ∙ first_rows start here k t to_sibling at;
            once = λ t to_sibling at.
                let m = first_mid start here k t to_sibling at in
                let none_left : mid.reads
                ≡ mid.reads + one_if_left mid.raw.rest =
                let zero = left_none mid.raw.rest none in omega (arith, zero) in
                none_left ∙ ap (λ (c : CursorView). c.reads + one_if_left c.raw.rest) m;
            refused_there = λ x t. absurd (cc);
            counted = λ never. absurd (never refl);
            plain = λ f. ((rw (is, same) at once) f, tt);
            steps = rw same at steps;
            inside = λ low. let l = low_follow here (k.inside low) in omega (arith, ints, l);
          })
      cases (a_refusal x some is same why memory) onward once steps =
          let y : ◌≡◌ {A = Result Bool Error} (Err x) (Ok false) = sym is ∙ ends in absurd (cc)

  -- a refusal ends the walk
  refusal_at : (c : CursorView) (e : Error) → (length c.raw.rest.bytes ≡ 0 → ⊥)
      → Err e ≡ next_of limit c.raw c.raw.rest
      → record { outcome = Err e; place = place_of limit (after_refusal c) }
      ≡ seek c.raw.end depth offset (rows_of limit c.raw)
  unfolding seek
  refusal_at c e some reads = rw (rows_refusal limit c.raw e some reads, rows_over limit c) refl

  first_refusal_at : (c : CursorView) (e : Error) → (length c.raw.rest.bytes ≡ 0 → ⊥)
      → Err e ≡ next_of limit c.raw c.raw.rest
      → record { outcome = Err e; place = place_of limit (after_refusal c) }
      ≡ first_of_rows c.raw.end depth offset (rows_of limit c.raw)
  unfolding first_of_rows
  first_refusal_at c e some reads =
      rw (rows_refusal limit c.raw e some reads, rows_over limit c) refl

  pub sought_out : (start here : CursorView) (outcome : Result Bool Error) (new : CursorView)
      → Seeking start here → HasRead limit (leave_entry depth here) outcome new
      → (x : Error) → outcome ≡ Err x → (x ≡ OutOfMemory → new.depth ≡ depth)
      → HasSought limit depth offset start (Err x) new
  sought_out start here outcome new k h x fails there =
      cases h
      (onward_read limit start (leave_entry depth here) outcome new
      (onward_follow start here depth k.onward) h) (plain_once start here outcome new k h)
      (plain_up_to start here outcome new k h)
      (λ y same. true_refusal limit start (leave_entry depth here) outcome new
      (onward_follow start here depth k.onward) h y (fails ∙ same))
      (refused_place limit (has_depth depth) (leave_entry depth here) outcome new h x fails)
      (k.steps zero _ new (at_refusal x (rw fails at h) refl))
    where
      mid : CursorView
      mid = leave_entry depth here

      cases : HasRead limit mid outcome new → Onward start new
          → (start.follows ≡ false → UnlessMemory outcome (IsReadOnce limit start new))
          → (start.follows ≡ false → OnErr outcome (IsReadUpTo limit start new))
          → ((y : Error) → ◌≡◌ {A = Result Bool Error} (Err x) (Err y)
          → IsRefused limit start y new)
          → IsPlaceAhead limit (has_depth depth) mid.raw new.offset new.depth
          → ((m : ℕ) × Searches limit m depth offset start (Err x) new)
          → HasSought limit depth offset start (Err x) new
      cases (an_entry e w some reads is same) onward once up refused place steps =
          let y : ◌≡◌ {A = Result Bool Error} (Ok true) (Err x) = sym is ∙ fails in absurd (cc)
      cases (the_end none is same) onward once up refused place steps =
          let y : ◌≡◌ {A = Result Bool Error} (Ok false) (Err x) = sym is ∙ fails in absurd (cc)
      cases (a_refusal y some is same why memory) onward once up refused place steps =
          let z : ◌≡◌ {A = Result Bool Error} (Err x) (Err y) = sym fails ∙ is in
          let one : x ≡ y = cc in
          rw same (record {
            unit = rw same at onward.unit;
            further = rw same at onward.further;
            few = rw same at onward.few;
            more = rw same at onward.more;
            found = λ honest. rw one
                (λ fine. refusal_at mid y some (why fine) ∙ sought_there start here k honest);
            yes = λ t. absurd (cc);
            no = λ t. absurd (cc);
            refused = rw same at refused;
            asked = λ t. (rw same at there) (one_error t);
            place = λ v t honest.
                let i = k.honestly honest in
                i.places _ _
                ((follow_keeps here k.onward.sound i.honest).places _ _ (rw same at place));
            there = λ t to_sibling at.
                rw one
                (λ fine. first_refusal_at mid y some (why fine)
                ∙ first_rows start here k t to_sibling at);
            once = λ t to_sibling at.
                let m = first_mid start here k t to_sibling at in
                ap (λ (c : CursorView). c.reads + 1) m
                ∙ ap (λ n. start.reads + n)
                (sym (left_some mid.raw.rest some)
                ∙ ap (λ (c : CursorView). one_if_left c.raw.rest) m);
            refused_there = λ v h t to_sibling at. first_place start here k t to_sibling at;
            counted = λ never. let more = (onward_follow start here depth k.onward).more in
                omega (arith, more);
            plain = λ f. ((rw (fails, same) at once) f, (rw (fails, same) at up) f);
            steps = rw same at steps;
            inside = λ low. let l = low_follow here (k.inside low) in omega (arith, ints, l);
          })
