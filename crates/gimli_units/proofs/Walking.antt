-- Turns of the walk in depth-first order: each null that is passed leaves what is sought.
use Rattle.std.proofs.Common.{◌≡◌, ℕ, ◌+◌, ◌<◌, ℤ, Bool, true, false, length, Option, Some, None}
use Rattle.std.proofs.Common.{Result, Ok, Err, refl, sym, ◌∙◌, arith, inl, inr}
use Rattle.std.specs.Prelude.{if◌then◌else◌, ◌==◌, OnErr}
use Rattle.std.proofs.lemmas.Bool.{ne_eqb}
use Rattle.std.proofs.lemmas.Bool.Decides.{eqb_tells}
use Rattle.gimli_base.proofs.Later.{IsLater-none}
use Rattle.gimli_base.specs.declared.error.Error.{Error}
use Rattle.gimli_base.specs.View.{View}
use Rattle.gimli_base.specs.Reading.{Reads, UnlessMemory}
use Rattle.gimli_units.specs.Entry.{Entry, is_null, null_entry}
use Rattle.gimli_base.specs.Table.{codes_of}
use Rattle.gimli_units.proofs.EntryReads.{entry_at-shorter}
use Rattle.gimli_units.specs.RawPlace.{RawPlace, next_offset_of}
use Rattle.gimli_units.specs.Rows.{Row}
use Rattle.gimli_units.specs.CursorPlace.{is_entry, next_in_depth_first_order, next_of_depth, seek}
use Rattle.gimli_units.specs.CursorModel.{CursorView, next_of, rows_of, place_of, last_row}
use Rattle.gimli_units.specs.CursorModel.{followed_to, Goes, IsPlaceAhead, IsReadOnce, IsSound}
use Rattle.gimli_units.specs.CursorModel.{one_if_left}
use Rattle.gimli_units.specs.SearchSteps.{after_entry, after_refusal, after_end, HasRead, an_entry}
use Rattle.gimli_units.specs.SearchSteps.{the_end, a_refusal, HasSought}
use Rattle.gimli_units.proofs.CursorSteps.{read_goes, rows_entry, rows_end, rows_refusal, rows_over}
use Rattle.gimli_units.specs.CursorContracts.{HasReadOn, HasWalked, HasWalkedOver}
use Rattle.gimli_units.proofs.Onward.{Onward, same_unit, onward_start, onward_read, read_once}
use Rattle.gimli_units.proofs.Onward.{read_up_to, true_entry, true_refusal, true_shorter, no_entry}
use Rattle.gimli_units.proofs.Onward.{unless_then}

module _ (limit : ℕ) where
  -- where a cursor stands is a place ahead of it
  pub place_here : (test : Row → Bool) (p : RawPlace)
      → IsPlaceAhead limit test p (next_offset_of p) p.depth
  place_here test p = elim (eqb_tells (length p.rest.bytes) 0) [
    | inl none ↦ rw (rows_end limit p none.1) (omega (arith, none.1), refl)
    | inr some ↦ read (next_of limit p p.rest) refl some.1
  ]
    where
      c : CursorView
      c =
          record {
            raw = p;
            entry = null_entry;
            offset = 0;
            depth = p.depth;
            follows = false;
            reads = 0;
          }

      read : (r : Reads Entry) → r ≡ next_of limit p p.rest → (length p.rest.bytes ≡ 0 → ⊥)
          → IsPlaceAhead limit test p (next_offset_of p) p.depth
      read (Err e) is some = rw (rows_refusal limit p e some is) (refl, refl)
      read (Ok q) is some = rw (rows_entry limit c q.0 q.1 some is) (inl (refl, refl))

  -- after a row that was read and fails the test, what is ahead was ahead
  pub place_on : (test : Row → Bool) (c : CursorView) (e : Entry) (w : View)
      → (length c.raw.rest.bytes ≡ 0 → ⊥) → Ok (e, w) ≡ next_of limit c.raw c.raw.rest
      → test (last_row (after_entry c e w)) ≡ false
      → (o : ℕ) (x : ℤ) → IsPlaceAhead limit test (after_entry c e w).raw o x
      → IsPlaceAhead limit test c.raw o x
  place_on test c e w some reads other o x p =
      rw (rows_entry limit c e w some reads) (inr (other, p))

  -- a walk that began at `start` and has passed nulls alone
  pub record Walking (start here : CursorView) : Type 0 where
    pub onward : Onward start here
    pub same : next_in_depth_first_order here.raw.end (place_of limit here)
        ≡ next_in_depth_first_order start.raw.end (place_of limit start)
    pub places : (o : ℕ) (x : ℤ) → IsPlaceAhead limit is_entry here.raw o x
        → IsPlaceAhead limit is_entry start.raw o x
    pub once : IsReadOnce limit start here

  null_passed : (c : CursorView) (e : Entry) (w : View) → (length c.raw.rest.bytes ≡ 0 → ⊥)
      → Ok (e, w) ≡ next_of limit c.raw c.raw.rest → is_null e ≡ true
      → next_in_depth_first_order c.raw.end (place_of limit (after_entry c e w))
      ≡ next_in_depth_first_order c.raw.end (place_of limit c)
  unfolding next_in_depth_first_order
  null_passed c e w some reads null = rw (rows_entry limit c e w some reads, null) refl

  -- a null that was read is passed
  pub walking_on : (start here : CursorView) (outcome : Result Bool Error) (new : CursorView)
      → Walking start here → HasRead limit here outcome new → outcome ≡ Ok true
      → is_null new.entry ≡ true
      → Walking start new
  walking_on start here outcome new k h holds null =
      cases h (onward_read limit start here outcome new k.onward h)
      (read_once limit here outcome new h)
    where
      cases : HasRead limit here outcome new → Onward start new
          → UnlessMemory outcome (IsReadOnce limit here new) → Walking start new
      cases (an_entry e w some reads is same) onward once =
          let null_e : is_null e ≡ true = rw same at null in
          record {
            onward = onward;
            same = rw same (null_passed here e w some reads null_e ∙ k.same);
            places =
                rw same
                (λ o x p. k.places o x
                (place_on is_entry here e w some reads (rw null_e refl) o x p));
            once = (rw is at once) ∙ k.once;
          }
      cases (the_end none is same) onward once =
          let x : ◌≡◌ {A = Result Bool Error} (Ok false) (Ok true) = sym is ∙ holds in absurd (cc)
      cases (a_refusal x some is same why memory) onward once =
          let y : ◌≡◌ {A = Result Bool Error} (Err x) (Ok true) = sym is ∙ holds in absurd (cc)

  entry_found : (c : CursorView) (e : Entry) (w : View) → (length c.raw.rest.bytes ≡ 0 → ⊥)
      → Ok (e, w) ≡ next_of limit c.raw c.raw.rest → is_null e ≡ false
      → Goes limit (next_in_depth_first_order c.raw.end) c (Ok true) (after_entry c e w)
  unfolding next_in_depth_first_order
  entry_found c e w some reads entry = rw (rows_entry limit c e w some reads, entry, entry) refl

  -- an entry that was read is the one
  pub walked_to : (start here : CursorView) (outcome : Result Bool Error) (new : CursorView)
      → Walking start here → HasRead limit here outcome new → outcome ≡ Ok true
      → is_null new.entry ≡ false
      → Goes limit (next_in_depth_first_order start.raw.end) start (Ok true) new
  walked_to start here outcome new k (an_entry e w some reads is same) holds entry =
      let entry_e : is_null e ≡ false = rw same at entry in
      rw same (entry_found here e w some reads entry_e ∙ k.same)
  walked_to start here outcome new k (the_end none is same) holds entry =
      let x : ◌≡◌ {A = Result Bool Error} (Ok false) (Ok true) = sym is ∙ holds in absurd (cc)
  walked_to start here outcome new k (a_refusal x some is same why memory) holds entry =
      let y : ◌≡◌ {A = Result Bool Error} (Err x) (Ok true) = sym is ∙ holds in absurd (cc)

  end_found : (c : CursorView) → length c.raw.rest.bytes ≡ 0
      → Goes limit (next_in_depth_first_order c.raw.end) c (Ok false) (after_end c)
  unfolding next_in_depth_first_order
  end_found c none = rw (rows_end limit c.raw none) refl

  refusal_found : (c : CursorView) (e : Error) → (length c.raw.rest.bytes ≡ 0 → ⊥)
      → Err e ≡ next_of limit c.raw c.raw.rest
      → Goes limit (next_in_depth_first_order c.raw.end) c (Err e) (after_refusal c)
  unfolding next_in_depth_first_order
  refusal_found c e some reads = rw (rows_refusal limit c.raw e some reads, rows_over limit c) refl

  -- where nothing was read, there is none
  pub walked_out : (start here : CursorView) (outcome : Result Bool Error) (new : CursorView)
      → Walking start here → HasRead limit here outcome new → (outcome ≡ Ok true → ⊥)
      → UnlessMemory outcome
      (Goes limit (next_in_depth_first_order start.raw.end) start outcome new)
  walked_out start here outcome new k (an_entry e w some reads is same) never = absurd (never is)
  walked_out start here outcome new k (the_end none is same) never =
      rw (is, same) (end_found here none ∙ k.same)
  walked_out start here outcome new k (a_refusal x some is same why memory) never =
      rw (is, same) (λ fine. refusal_found here x some (why fine) ∙ k.same)

  -- what was refused stands at a place ahead
  pub refused_place : (test : Row → Bool) (here : CursorView) (outcome : Result Bool Error)
      (new : CursorView) → HasRead limit here outcome new → (x : Error) → outcome ≡ Err x
      → IsPlaceAhead limit test here.raw new.offset new.depth
  refused_place test here outcome new (an_entry e w some reads is same) x fails =
      let k : ◌≡◌ {A = Result Bool Error} (Ok true) (Err x) = sym is ∙ fails in absurd (cc)
  refused_place test here outcome new (the_end none is same) x fails =
      let k : ◌≡◌ {A = Result Bool Error} (Ok false) (Err x) = sym is ∙ fails in absurd (cc)
  refused_place test here outcome new (a_refusal y some is same why memory) x fails =
      rw same (place_here test here.raw)

  -- an entry that was read is no longer there
  pub read_shorter : (here : CursorView) (outcome : Result Bool Error) (new : CursorView)
      → HasRead limit here outcome new → outcome ≡ Ok true
      → length new.raw.rest.bytes < length here.raw.rest.bytes
  read_shorter here outcome new (an_entry e w some reads is same) holds =
      rw same
      (entry_at-shorter limit here.raw.encoding (codes_of here.raw.abbreviations) here.raw.rest w e
      reads)
  read_shorter here outcome new (the_end none is same) holds =
      let x : ◌≡◌ {A = Result Bool Error} (Ok false) (Ok true) = sym is ∙ holds in absurd (cc)
  read_shorter here outcome new (a_refusal x some is same why memory) holds =
      let y : ◌≡◌ {A = Result Bool Error} (Err x) (Ok true) = sym is ∙ holds in absurd (cc)

  -- an entry that was read ends the walk
  pub has_walked_to : (start here : CursorView) (outcome : Result Bool Error) (new : CursorView)
      → Walking start here → HasRead limit here outcome new → outcome ≡ Ok true
      → is_null new.entry ≡ false
      → HasWalked limit start (Ok true) new
  has_walked_to start here outcome new k h holds entry =
      let on = onward_read limit start here outcome new k.onward h in
      let is_true = true_entry limit start here outcome new k.onward h holds in
      let once = read_once limit here outcome new h in
      record {
        moves = walked_to start here outcome new k h holds entry;
        true_entry = λ yes. (is_true, entry);
        refused = λ e fails. absurd (cc);
        once = (rw holds at once) ∙ k.once;
        counted = tt;
        shorter = λ yes. true_shorter limit start new is_true on.unit;
        none = λ no. absurd (cc);
        more = on.more;
        few = on.few;
        further = on.further;
        unit = on.unit;
      }

  -- and so does the end, or a refusal
  pub has_walked_out : (start here : CursorView) (outcome : Result Bool Error) (new : CursorView)
      → Walking start here → HasRead limit here outcome new → (outcome ≡ Ok true → ⊥)
      → HasWalked limit start outcome new
  has_walked_out start here outcome new k h never =
      let on = onward_read limit start here outcome new k.onward h in
      record {
        moves = walked_out start here outcome new k h never;
        true_entry = λ yes. absurd (never yes);
        refused =
            λ e fails. (
              true_refusal limit start here outcome new k.onward h e fails,
              k.places _ _ (refused_place is_entry here outcome new h e fails),
            );
        once = unless_then outcome (read_once limit here outcome new h) (λ o. o ∙ k.once);
        counted = read_up_to limit start here outcome new k.onward k.once h;
        shorter = λ yes. absurd (never yes);
        none = λ no. rw (no_entry limit here outcome new h never) refl;
        more = on.more;
        few = on.few;
        further = on.further;
        unit = on.unit;
      }

-- from an entry its depth is sought
pub sibling_sought : (limit : ℕ) (c : CursorView) → is_null c.entry ≡ false
    → seek c.raw.end c.depth c.offset (rows_of limit c.raw)
    ≡ next_of_depth c.raw.end (place_of limit c)
unfolding next_of_depth
sibling_sought limit c entry = rw entry refl

-- without a current entry nothing moves
pub no_sibling : (limit : ℕ) (c : CursorView) → is_null c.entry ≡ true
    → Goes limit (next_of_depth c.raw.end) c (Ok false) c
unfolding next_of_depth
no_sibling limit c null = rw null refl

-- from an entry the search for its depth is the step
pub has_walked_over : (limit : ℕ) (c : CursorView) (outcome : Result Bool Error) (new : CursorView)
    → is_null c.entry ≡ false → HasSought limit c.depth c.offset c outcome new
    → HasWalkedOver limit c outcome new
has_walked_over limit c outcome new entry s = record {
  moves = λ honest. unless_then outcome (s.found honest) (λ k. k ∙ sibling_sought limit c entry);
  idle = λ null. absurd (cc);
  true_entry = s.yes;
  refused = s.refused;
  asked = s.asked;
  place = s.place;
  taken = λ t to_sibling. s.there t to_sibling refl;
  one_read = λ t to_sibling. s.once t to_sibling refl;
  refused_there = λ e fails t to_sibling. s.refused_there e fails t to_sibling refl;
  not_found = λ no some. s.no no;
  counted = λ some never. s.counted never;
  steps = λ some. s.steps;
  plain = s.plain;
  shorter = λ yes. true_shorter limit c new (s.yes yes).0 s.unit;
  none = λ no. (s.no no).0;
  more = s.more;
  few = s.few;
  further = s.further;
  unit = s.unit;
}

-- without a current entry no reference is followed
none_followed : (c : CursorView) (t : ℕ) → is_null c.entry ≡ true → followed_to c ≡ Some t → ⊥
none_followed c t null to_sibling = none c.follows (rw null at to_sibling)
  where
    none : (b : Bool) → ◌≡◌ {A = Option ℕ} (if b then None else None) (Some t) → ⊥
    none true h = cc
    none false h = cc

-- without a current entry nothing is done
pub has_stayed : (limit : ℕ) (c : CursorView) → is_null c.entry ≡ true
    → HasWalkedOver limit c (Ok false) c
has_stayed limit c null = record {
  moves = λ honest. no_sibling limit c null;
  idle = λ k. (refl, refl);
  true_entry = λ yes. absurd (cc);
  refused = λ e fails. absurd (cc);
  asked = λ fails. absurd (cc);
  place = λ e fails. absurd (cc);
  taken = λ t to_sibling. absurd (none_followed c t null to_sibling);
  one_read = λ t to_sibling. absurd (none_followed c t null to_sibling);
  refused_there = λ e fails. absurd (cc);
  not_found = λ no some. absurd (cc);
  counted = λ some. absurd (cc);
  steps = λ some. absurd (cc);
  plain = λ k. (refl, tt);
  shorter = λ yes. absurd (cc);
  none = λ no. null;
  more = omega arith;
  few = omega arith;
  further = IsLater-none c.raw.rest;
  unit = same_unit c;
}

-- one read is a step to the next entry
pub has_read_on : (limit : ℕ) (c : CursorView) (outcome : Result Bool Error) (new : CursorView)
    → IsSound c → HasRead limit c outcome new → HasReadOn limit c outcome new
has_read_on limit c outcome new sound h =
    let start = onward_start c sound in
    let on = onward_read limit c c outcome new start h in
    record {
      moves = read_goes limit c outcome new h;
      true_entry = true_entry limit c c outcome new start h;
      refused = true_refusal limit c c outcome new start h;
      offset = refused_offset h;
      depth = refused_depth h;
      reads = one_read h;
      once = read_once limit c outcome new h;
      none =
          λ no.
          rw
          (no_entry limit c outcome new h
          (λ yes. let x : ◌≡◌ {A = Result Bool Error} (Ok false) (Ok true) = sym no ∙ yes in cc))
          refl;
      few = on.few;
      further = on.further;
      unit = on.unit;
    }
  where
    refused_offset : HasRead limit c outcome new → OnErr outcome (new.offset ≡ next_offset_of c.raw)
    refused_offset (an_entry e w some reads is same) = rw is tt
    refused_offset (the_end none is same) = rw is tt
    refused_offset (a_refusal x some is same why memory) = rw (is, same) refl

    refused_depth : HasRead limit c outcome new → OnErr outcome (new.depth ≡ c.raw.depth)
    refused_depth (an_entry e w some reads is same) = rw is tt
    refused_depth (the_end none is same) = rw is tt
    refused_depth (a_refusal x some is same why memory) = rw (is, same) refl

    one_read : HasRead limit c outcome new → new.reads ≡ c.reads + one_if_left c.raw.rest
    one_read (an_entry e w some reads is same) =
        let k : (length c.raw.rest.bytes == 0) ≡ false = ne_eqb (length c.raw.rest.bytes) 0 some in
        rw (same, k) refl
    one_read (the_end none is same) = rw (same, none) (omega arith)
    one_read (a_refusal x some is same why memory) =
        let k : (length c.raw.rest.bytes == 0) ≡ false = ne_eqb (length c.raw.rest.bytes) 0 some in
        rw (same, k) refl
