-- A cursor that has gone on in its unit: what it then reads stands where its start would find it.
use Rattle.std.proofs.Common.{◌≡◌, ℕ, ◌+◌, ◌-◌, ◌<◌, ◌≤◌, ℤ, Bool, true, false, length, Option}
use Rattle.std.proofs.Common.{Some, None, Result, Ok, Err, refl, sym, ap, ◌∙◌, arith, length-drop}
use Rattle.std.proofs.Common.{add-zero}
use Rattle.std.proofs.lemmas.List.{drop_all}
use Rattle.std.specs.Prelude.{nat_le, int_le, ◌&&◌, if◌then◌else◌, OnErr}
use Rattle.std.proofs.lemmas.Bool.{leb-true}
use Rattle.gimli_base.specs.declared.error.Error.{Error}
use Rattle.gimli_base.proofs.Both.{both}
use Rattle.gimli_base.specs.Offset.{answer_of}
use Rattle.gimli_base.specs.View.{View, cut, end_of_view}
use Rattle.gimli_base.specs.Reading.{Reads, UnlessMemory}
use Rattle.gimli_base.specs.Table.{codes_of}
use Rattle.gimli_base.specs.View.{IsLater}
use Rattle.gimli_base.proofs.Later.{IsLater-length, IsLater-none, IsLater-trans}
use Rattle.gimli_base.proofs.Later.{IsLater-weaker, cut-cut}
use Rattle.gimli_units.specs.Entry.{Entry, null_entry}
use Rattle.gimli_units.proofs.EntryReads.{entry_at-later, entry_at-shorter}
use Rattle.gimli_units.specs.RawPlace.{RawPlace, next_offset_of}
use Rattle.gimli_units.specs.Kind.{kind_of}
use Rattle.gimli_units.specs.Honest.{target, within, usable_target}
use Rattle.gimli_units.specs.Rows.{ahead_at}
use Rattle.gimli_units.specs.CursorModel.{CursorView, next_of, rows_of, rows_from, reads_ahead}
use Rattle.gimli_units.specs.CursorModel.{last_row, followed_to, view_from, what_at}
use Rattle.gimli_units.specs.CursorModel.{takes_memory_at, IsSameUnit, IsTrueEntry, IsRefused}
use Rattle.gimli_units.specs.CursorModel.{IsFurther, AreFewReads, IsReadOnce, IsReadUpTo, IsSound}
use Rattle.gimli_units.specs.SearchSteps.{stands_at, stands_if, HasRead, an_entry, the_end}
use Rattle.gimli_units.specs.SearchSteps.{a_refusal, leave_entry}
use Rattle.gimli_units.proofs.CursorSteps.{rows_entry, rows_refusal, rows_over, sound_read}

-- a cursor that began at `start` stands at `here`
pub record Onward (start here : CursorView) : Type 0 where
  pub unit : IsSameUnit start here
  pub further : IsFurther start here
  pub few : AreFewReads start here
  pub more : start.reads ≤ here.reads
  pub fits : length start.raw.rest.bytes ≤ start.raw.end
  pub sound : IsSound here

pub same_unit : (c : CursorView) → IsSameUnit c c
same_unit c = record { encoding = refl; abbreviations = refl; end = refl; follows = refl }

pub onward_start : (c : CursorView) → IsSound c → Onward c c
onward_start c s =
    record {
      unit = same_unit c;
      further = IsLater-none c.raw.rest;
      few = omega arith;
      more = omega arith;
      fits = s.fits;
      sound = s;
    }

-- no byte of what is ended is left, and it is the same view
ended-later : (v : View) → IsLater 0 v (end_of_view v)
ended-later v =
    record {
      count = length v.bytes;
      enough = omega arith;
      within = omega arith;
      is = rw (drop_all (length v.bytes) v.bytes (omega arith)) refl;
    }

read_on : (limit : ℕ) (start here : CursorView) (outcome : Result Bool Error) (new : CursorView)
    → Onward start here → IsSound new → HasRead limit here outcome new → Onward start new
read_on limit start here outcome new o sound (an_entry e w some reads is same) =
    let l = entry_at-later limit here.raw.encoding (codes_of here.raw.abbreviations) here.raw.rest e
    w
    reads in
    let shorter = IsLater-length 1 here.raw.rest w l in
    let few = o.few in
    let more = o.more in
    rw same (record {
      unit =
          record {
            encoding = o.unit.encoding;
            abbreviations = o.unit.abbreviations;
            end = o.unit.end;
            follows = o.unit.follows;
          };
      further = IsLater-weaker 1 0 start.raw.rest w (omega arith)
          (IsLater-trans 0 1 start.raw.rest here.raw.rest w o.further l);
      few = omega (arith, shorter, few);
      more = omega (arith, more);
      fits = o.fits;
      sound = rw same at sound;
    })
read_on limit start here outcome new o sound (the_end none is same) =
    rw same (record {
      unit =
          record {
            encoding = o.unit.encoding;
            abbreviations = o.unit.abbreviations;
            end = o.unit.end;
            follows = o.unit.follows;
          };
      further = o.further;
      few = o.few;
      more = o.more;
      fits = o.fits;
      sound = rw same at sound;
    })
read_on limit start here outcome new o sound (a_refusal x some is same why memory) =
    let few = o.few in
    let more = o.more in
    rw same (record {
      unit =
          record {
            encoding = o.unit.encoding;
            abbreviations = o.unit.abbreviations;
            end = o.unit.end;
            follows = o.unit.follows;
          };
      further = IsLater-trans 0 0 start.raw.rest here.raw.rest (end_of_view here.raw.rest) o.further
          (ended-later here.raw.rest);
      few = omega (arith, few, some);
      more = omega (arith, more);
      fits = o.fits;
      sound = rw same at sound;
    })

-- one read goes on
pub onward_read : (limit : ℕ) (start here : CursorView) (outcome : Result Bool Error)
    (new : CursorView) → Onward start here → HasRead limit here outcome new → Onward start new
onward_read limit start here outcome new o h =
    read_on limit start here outcome new o (sound_read limit here outcome new o.sound h) h

-- a reference that is followed leads from what is read next to the end
pub followed_bounds : (c : CursorView) (t : ℕ) → followed_to c ≡ Some t
    → (c.follows ≡ true) × (usable_target c.raw.end (last_row c) ≡ Some t)
    × (next_offset_of c.raw ≤ t)
    × (t ≤ c.raw.end)
followed_bounds c t = cases c.follows (target (kind_of c.entry)) refl
  where
    inside : (x : ℕ) (b : Bool) → (nat_le (next_offset_of c.raw) x && nat_le x c.raw.end) ≡ b
        → ◌≡◌ {A = Option ℕ} (if b then Some x else None) (Some t)
        → (next_offset_of c.raw ≤ t) × (t ≤ c.raw.end)
    inside x true h e =
        let same : x ≡ t = cc in
        let parts = both (nat_le (next_offset_of c.raw) x) (nat_le x c.raw.end) h in
        rw (← same) (leb-true (next_offset_of c.raw) x parts.0, leb-true x c.raw.end parts.1)
    inside x false h e = absurd (cc)

    cases : (f : Bool) (o : Option ℕ) → o ≡ target (kind_of c.entry)
        → (if f then within (next_offset_of c.raw) c.raw.end o else None) ≡ Some t
        → (f ≡ true) × (within (next_offset_of c.raw) c.raw.end o ≡ Some t)
        × (next_offset_of c.raw ≤ t) × (t ≤ c.raw.end)
    cases true None is e = absurd (cc)
    cases true (Some x) is e =
        let b = inside x (nat_le (next_offset_of c.raw) x && nat_le x c.raw.end) refl e in
        (refl, e, b.0, b.1)
    cases false o is e = absurd (cc)

-- the bytes from where it leads
pub jump-later : (c : CursorView) (t : ℕ) → length c.raw.rest.bytes ≤ c.raw.end → t ≤ c.raw.end
    → IsLater 0 c.raw.rest (view_from c.raw t)
jump-later c t fits high =
    record {
      count = t - next_offset_of c.raw;
      enough = omega arith;
      within = omega (arith, fits, high);
      is = refl;
    }

-- leaving an entry goes on
pub onward_follow : (start here : CursorView) (sought : ℤ) → Onward start here
    → Onward start (leave_entry sought here)
onward_follow start here sought o = cases (int_le sought here.depth) (followed_to here) refl
  where
    stays : Onward start
        (record {
          raw = here.raw;
          entry = null_entry;
          offset = here.offset;
          depth = here.depth;
          follows = here.follows;
          reads = here.reads;
        })
    stays = record {
      unit =
          record {
            encoding = o.unit.encoding;
            abbreviations = o.unit.abbreviations;
            end = o.unit.end;
            follows = o.unit.follows;
          };
      further = o.further;
      few = o.few;
      more = o.more;
      fits = o.fits;
      sound =
          record {
            few = o.sound.few;
            shallow = o.sound.shallow;
            fits = o.sound.fits;
            next_shallow = o.sound.next_shallow;
            after = λ entry. absurd (cc);
            past =
                λ entry. absurd (cc);
          };
    }

    goes : (t : ℕ) → followed_to here ≡ Some t
        → Onward start
        (record {
          raw = stands_at here.raw (view_from here.raw t) here.depth;
          entry = null_entry;
          offset = here.offset;
          depth = here.depth;
          follows =
              here.follows;
          reads = here.reads;
        })
    goes t to_sibling =
        let b = followed_bounds here t to_sibling in
        let l = jump-later here t o.sound.fits b.3 in
        let shorter = IsLater-length 0 here.raw.rest (view_from here.raw t) l in
        let few = o.few in
        let s = o.sound in
        record {
          unit =
              record {
                encoding = o.unit.encoding;
                abbreviations = o.unit.abbreviations;
                end = o.unit.end;
                follows = o.unit.follows;
              };
          further = IsLater-trans 0 0 start.raw.rest here.raw.rest (view_from here.raw t) o.further
              l;
          few = omega (arith, few, shorter);
          more = o.more;
          fits = o.fits;
          sound = record {
            few = omega (arith, shorter, s.few);
            shallow = omega (arith, shorter, s.shallow);
            fits = omega (arith, shorter, s.fits);
            next_shallow = omega (arith, shorter, s.shallow);
            after = λ entry. absurd (cc);
            past = λ entry. absurd (cc);
          };
        }

    cases : (b : Bool) (t : Option ℕ) → followed_to here ≡ t
        → Onward start
        (record {
          raw = stands_if here.raw (if b then t else None) here.depth;
          entry = null_entry;
          offset = here.offset;
          depth = here.depth;
          follows =
              here.follows;
          reads = here.reads;
        })
    cases false t to_sibling = stays
    cases true None to_sibling = stays
    cases true (Some t) to_sibling = goes t to_sibling

-- what a cursor finds from an offset on is what its start finds there
pub same_view : (start here : CursorView) (offset : ℕ) → Onward start here
    → next_offset_of here.raw ≤ offset → view_from here.raw offset ≡ view_from start.raw offset
same_view start here offset o after =
    let l = o.further in
    let bytes : length here.raw.rest.bytes
    ≡ length start.raw.rest.bytes - l.count =
    ap (λ (v : View). length v.bytes) l.is ∙ length-drop l.count start.raw.rest.bytes in
    let apart : l.count + (offset - next_offset_of here.raw)
    ≡ offset - next_offset_of start.raw =
    omega (arith, bytes, o.unit.end, o.fits, l.within, after) in
    ap (cut (offset - next_offset_of here.raw)) l.is
    ∙ cut-cut l.count (offset - next_offset_of here.raw) start.raw.rest
    ∙ ap (λ n. cut n start.raw.rest) apart

pub later_offset : (start here : CursorView) → Onward start here
    → next_offset_of start.raw ≤ next_offset_of here.raw
later_offset start here o =
    let l = o.further in
    let bytes : length here.raw.rest.bytes
    ≡ length start.raw.rest.bytes - l.count =
    ap (λ (v : View). length v.bytes) l.is ∙ length-drop l.count start.raw.rest.bytes in
    omega (arith, bytes, o.unit.end)

pub same_what : (limit : ℕ) (start here : CursorView) (offset : ℕ) → Onward start here
    → next_offset_of here.raw ≤ offset
    → what_at limit start.raw offset ≡ what_at limit here.raw offset
same_what limit start here offset o after =
    rw (same_view start here offset o after, o.unit.encoding, o.unit.abbreviations) refl

-- what is read there is the same, and leaves the same
pub same_next : (limit : ℕ) (start here : CursorView) (offset : ℕ) → Onward start here
    → next_offset_of here.raw ≤ offset
    → next_of limit start.raw (view_from start.raw offset)
    ≡ next_of limit here.raw (view_from here.raw offset)
same_next limit start here offset o after =
    rw (same_view start here offset o after, o.unit.encoding, o.unit.abbreviations) refl

pub same_memory : (start here : CursorView) (offset : ℕ) → Onward start here
    → next_offset_of here.raw ≤ offset
    → takes_memory_at start.raw offset ≡ takes_memory_at here.raw offset
same_memory start here offset o after =
    rw (same_view start here offset o after, o.unit.abbreviations) refl

-- what is read next stands at the next offset
pub view_here : (p : RawPlace) → view_from p (next_offset_of p) ≡ p.rest
view_here p = let none : next_offset_of p - next_offset_of p ≡ 0 = omega arith in
    ap (λ n. cut n p.rest) none ∙ rw add-zero refl

what_here : (limit : ℕ) (p : RawPlace) (r : Reads Entry) → r ≡ next_of limit p p.rest
    → what_at limit p (next_offset_of p) ≡ answer_of (λ (x : Entry × View). x.0) r
what_here limit p r is =
    ap (λ v. answer_of (λ (x : Entry × View). x.0) (next_of limit p v)) (view_here p)
    ∙ ap (answer_of (λ (x : Entry × View). x.0)) (sym is)

-- an entry that was read is the one that stands there
pub true_entry : (limit : ℕ) (start here : CursorView) (outcome : Result Bool Error)
    (new : CursorView) → Onward start here → HasRead limit here outcome new → outcome ≡ Ok true
    → IsTrueEntry limit start new
true_entry limit start here outcome new o (an_entry e w some reads is same) holds =
    let shorter = entry_at-shorter limit here.raw.encoding (codes_of here.raw.abbreviations)
    here.raw.rest w e reads in
    let low = later_offset start here o in
    rw same (record {
      is = reads ∙ sym (ap (next_of limit here.raw) (view_here here.raw))
          ∙ sym (same_next limit start here (next_offset_of here.raw) o (omega arith));
      depth = refl;
      after = low;
      before = omega (arith, shorter, o.sound.fits);
    })
true_entry limit start here outcome new o (the_end none is same) holds =
    let k : ◌≡◌ {A = Result Bool Error} (Ok false) (Ok true) = sym is ∙ holds in absurd (cc)
true_entry limit start here outcome new o (a_refusal x some is same why memory) holds =
    let k : ◌≡◌ {A = Result Bool Error} (Err x) (Ok true) = sym is ∙ holds in absurd (cc)

-- and what was refused stands there
pub true_refusal : (limit : ℕ) (start here : CursorView) (outcome : Result Bool Error)
    (new : CursorView) → Onward start here → HasRead limit here outcome new
    → (x : Error) → outcome ≡ Err x → IsRefused limit start x new
true_refusal limit start here outcome new o (an_entry e w some reads is same) x fails =
    let k : ◌≡◌ {A = Result Bool Error} (Ok true) (Err x) = sym is ∙ fails in absurd (cc)
true_refusal limit start here outcome new o (the_end none is same) x fails =
    let k : ◌≡◌ {A = Result Bool Error} (Ok false) (Err x) = sym is ∙ fails in absurd (cc)
true_refusal limit start here outcome new o (a_refusal y some is same why memory) x fails =
    let k : ◌≡◌ {A = Result Bool Error} (Err y) (Err x) = sym is ∙ fails in
    let one : x ≡ y = cc in
    rw (same, one) (record {
      is = λ fine. same_what limit start here (next_offset_of here.raw) o (omega arith)
          ∙ what_here limit here.raw (Err y) (why fine);
      memory = λ m. same_memory start here (next_offset_of here.raw) o (omega arith) ∙ memory m;
      after = later_offset start here o;
      before = let fits = o.sound.fits in omega (arith, some, fits, o.unit.end);
      none = refl;
      over = refl;
      depth = refl;
    })

-- what is over, or was refused, has no entry
pub no_entry : (limit : ℕ) (here : CursorView) (outcome : Result Bool Error) (new : CursorView)
    → HasRead limit here outcome new → (outcome ≡ Ok true → ⊥) → new.entry ≡ null_entry
no_entry limit here outcome new (an_entry e w some reads is same) never = absurd (never is)
no_entry limit here outcome new (the_end none is same) never = rw same refl
no_entry limit here outcome new (a_refusal x some is same why memory) never = rw same refl

-- what was passed was read once
pub read_once : (limit : ℕ) (here : CursorView) (outcome : Result Bool Error) (new : CursorView)
    → HasRead limit here outcome new → UnlessMemory outcome (IsReadOnce limit here new)
read_once limit here outcome new (an_entry e w some reads is same) =
    rw (is, same, rows_entry limit here e w some reads) (omega arith)
read_once limit here outcome new (the_end none is same) = rw (is, same) refl
read_once limit here outcome new (a_refusal x some is same why memory) =
    rw (is, same)
    (λ fine. rw (rows_refusal limit here.raw x some (why fine), rows_over limit here) (omega arith))

-- the rows from where a cursor stands are those ahead of it
same_rows : (limit : ℕ) (start here : CursorView) → Onward start here
    → rows_from limit start.raw (next_offset_of here.raw) here.raw.depth ≡ rows_of limit here.raw
same_rows limit start here o =
    let here_view = sym (same_view start here (next_offset_of here.raw) o (omega arith))
    ∙ view_here here.raw in
    ap (λ v. ahead_at (next_of limit start.raw) start.raw.end here.raw.depth v) here_view
    ∙ rw (o.unit.encoding, o.unit.abbreviations, o.unit.end) refl

-- what was passed was read once, and so was what was refused
pub read_up_to : (limit : ℕ) (start here : CursorView) (outcome : Result Bool Error)
    (new : CursorView)
    → Onward start here → IsReadOnce limit start here → HasRead limit here outcome new
    → OnErr outcome (IsReadUpTo limit start new)
read_up_to limit start here outcome new o once (an_entry e w some reads is same) = rw is tt
read_up_to limit start here outcome new o once (the_end none is same) = rw is tt
read_up_to limit start here outcome new o once (a_refusal x some is same why memory) =
    let rows = ap reads_ahead (same_rows limit start here o) in
    rw (is, same) (omega (arith, once, rows))

-- what follows from a fact follows unless memory was refused
pub unless_then : {A P Q : Type 0} → (r : Result A Error) → UnlessMemory r P → (P → Q)
    → UnlessMemory r Q
unless_then (Ok a) p f = f p
unless_then (Err e) p f = λ fine. f (p fine)

-- after a true entry fewer bytes are left
pub true_shorter : (limit : ℕ) (old new : CursorView) → IsTrueEntry limit old new
    → IsSameUnit old new → length new.raw.rest.bytes < length old.raw.rest.bytes
true_shorter limit old new is unit = omega (arith, is.after, is.before, unit.end)
