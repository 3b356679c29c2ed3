-- One read of a cursor is one step of its place.
use Rattle.std.proofs.Common.{◌≡◌, ℕ, ◌+◌, ◌-◌, ◌≤◌, ℤ, pos, ◌-ℤ◌, Bool, true, false, length, Some}
use Rattle.std.proofs.Common.{None, Result, Ok, Err, refl, sym, ap, ◌∙◌, arith, add-zero}
use Rattle.std.specs.Prelude.{unsigned_abs, if◌then◌else◌}
use Rattle.std.proofs.lemmas.Int.{ints}
use Rattle.gimli_base.specs.declared.error.Error.{Error}
use Rattle.gimli_base.specs.declared.error.Error.TheVariants.{OutOfMemory}
use Rattle.gimli_base.specs.View.{View, cut, end_of_view}
use Rattle.gimli_base.specs.Reading.{UnlessMemory}
use Rattle.gimli_base.specs.Table.{codes_of}
use Rattle.gimli_units.specs.Entry.{Entry, is_null, null_entry, abbreviation_at, takes_memory}
use Rattle.gimli_units.proofs.EntryReads.{entry_at-shorter}
use Rattle.gimli_units.specs.RawPlace.{RawPlace, next_offset_of, below_flag, depth_after}
use Rattle.gimli_units.specs.Rows.{offset_of_view}
use Rattle.gimli_units.proofs.RowSteps.{then_row, ahead_ended, ahead_refused, ahead_more}
use Rattle.gimli_units.specs.Rows.{no_row}
use Rattle.gimli_units.specs.CursorPlace.{next_row}
use Rattle.gimli_units.specs.CursorModel.{CursorView, next_of, rows_of, last_row, Goes, view_from}
use Rattle.gimli_units.specs.CursorModel.{takes_memory_at, IsSound}
use Rattle.gimli_units.proofs.Memory.{entry_at-never}
use Rattle.gimli_units.specs.SearchSteps.{stands_at, after_entry, after_refusal, after_end, HasRead}
use Rattle.gimli_units.specs.SearchSteps.{an_entry, the_end, a_refusal}

module _ (limit : ℕ) where
  -- the entry that was read is the first row, and the others are ahead
  pub rows_entry : (c : CursorView) (e : Entry) (w : View) → (length c.raw.rest.bytes ≡ 0 → ⊥)
      → Ok (e, w) ≡ next_of limit c.raw c.raw.rest
      → rows_of limit c.raw
      ≡ then_row (last_row (after_entry c e w)) (rows_of limit (after_entry c e w).raw)
  rows_entry c e w some reads =
      ahead_more (next_of limit c.raw) c.raw.end
      (λ v u x. entry_at-shorter limit c.raw.encoding (codes_of c.raw.abbreviations) v u x)
      c.raw.depth c.raw.rest e w some reads

  -- where nothing is left there is no row
  pub rows_end : (p : RawPlace) → length p.rest.bytes ≡ 0
      → rows_of limit p ≡ no_row None p.end p.depth
  rows_end p none =
      let at_end : offset_of_view p.end p.rest ≡ p.end = omega (arith, none) in
      ahead_ended (next_of limit p) p.end p.depth p.rest none
      ∙ ap (λ (n : ℕ). no_row None n p.depth) at_end

  -- nor where a refusal stands
  pub rows_refusal : (p : RawPlace) (e : Error) → (length p.rest.bytes ≡ 0 → ⊥)
      → Err e ≡ next_of limit p p.rest
      → rows_of limit p ≡ no_row (Some e) (next_offset_of p) p.depth
  rows_refusal p e some reads = ahead_refused (next_of limit p) p.end p.depth p.rest e some reads

  -- after a refusal no row is ahead, at the end of the bytes
  pub rows_over : (c : CursorView)
      → rows_of limit (after_refusal c).raw ≡ no_row None c.raw.end c.raw.depth
  rows_over c = rows_end (after_refusal c).raw refl

  entry_goes : (c : CursorView) (e : Entry) (w : View) → (length c.raw.rest.bytes ≡ 0 → ⊥)
      → Ok (e, w) ≡ next_of limit c.raw c.raw.rest
      → Goes limit (next_row c.raw.end) c (Ok true) (after_entry c e w)
  unfolding next_row
  entry_goes c e w some reads = rw (rows_entry c e w some reads) refl

  end_goes : (c : CursorView) → length c.raw.rest.bytes ≡ 0
      → Goes limit (next_row c.raw.end) c (Ok false) (after_end c)
  unfolding next_row
  end_goes c none = rw (rows_end c.raw none) refl

  refusal_goes : (c : CursorView) (e : Error) → (length c.raw.rest.bytes ≡ 0 → ⊥)
      → Err e ≡ next_of limit c.raw c.raw.rest
      → Goes limit (next_row c.raw.end) c (Err e) (after_refusal c)
  unfolding next_row
  refusal_goes c e some reads = rw (rows_refusal c.raw e some reads, rows_over c) refl

  -- one read takes the first row ahead
  pub read_goes : (old : CursorView) (outcome : Result Bool Error) (new : CursorView)
      → HasRead limit old outcome new
      → UnlessMemory outcome (Goes limit (next_row old.raw.end) old outcome new)
  read_goes old outcome new (an_entry e w some reads is same) =
      rw (is, same) (entry_goes old e w some reads)
  read_goes old outcome new (the_end none is same) = rw (is, same) (end_goes old none)
  read_goes old outcome new (a_refusal e some is same why memory) =
      rw (is, same) (λ fine. refusal_goes old e some (why fine))

  -- an entry that was read, by what its reader promises
  pub did_read : (old : CursorView) (raw : RawPlace) (e : Entry) (offset : ℕ) (depth : ℤ)
      → (length old.raw.rest.bytes ≡ 0 → ⊥)
      → Ok (e, raw.rest) ≡ next_of limit old.raw old.raw.rest
      → raw ≡ stands_at old.raw raw.rest raw.depth → raw.depth ≡ depth_after e old.raw.depth
      → offset ≡ next_offset_of old.raw → depth ≡ old.raw.depth
      → HasRead limit old (Ok true)
      (record {
        raw = raw;
        entry = e;
        offset = offset;
        depth = depth;
        follows = old.follows;
        reads = old.reads + 1;
      })
  did_read old raw e offset depth some reads unit after at same =
      an_entry e raw.rest some reads refl (rw (unit, after, at, same) refl)

  -- what was refused
  pub did_refuse : (old : CursorView) (raw mid : RawPlace) (x : Error) (e : Entry) (offset : ℕ)
      (depth : ℤ) → (length old.raw.rest.bytes ≡ 0 → ⊥)
      → ((x ≡ OutOfMemory → ⊥) → Err x ≡ next_of limit old.raw old.raw.rest)
      → (takes_memory (abbreviation_at (codes_of old.raw.abbreviations) old.raw.rest) ≡ false
      → Err x ≡ next_of limit old.raw old.raw.rest)
      → raw ≡ stands_at mid (end_of_view mid.rest) mid.depth → mid ≡ old.raw → e ≡ null_entry
      → offset ≡ next_offset_of old.raw → depth ≡ old.raw.depth
      → HasRead limit old (Err x)
      (record {
        raw = raw;
        entry = e;
        offset = offset;
        depth = depth;
        follows = old.follows;
        reads = old.reads + 1;
      })
  did_refuse old raw mid x e offset depth some reads bare over kept null at same =
      a_refusal x some refl (rw (over, kept, null, at, same) refl) reads
      (λ is. memory (takes_memory (abbreviation_at (codes_of old.raw.abbreviations) old.raw.rest))
      refl is)
    where
      here : view_from old.raw (next_offset_of old.raw) ≡ old.raw.rest
      here = let none : next_offset_of old.raw - next_offset_of old.raw ≡ 0 = omega arith in
          ap (λ n. cut n old.raw.rest) none ∙ rw add-zero refl

      memory : (b : Bool) → takes_memory
          (abbreviation_at (codes_of old.raw.abbreviations) old.raw.rest) ≡ b → x ≡ OutOfMemory
          → takes_memory_at old.raw (next_offset_of old.raw) ≡ true
      memory true takes is =
          ap (λ v. takes_memory (abbreviation_at (codes_of old.raw.abbreviations) v)) here ∙ takes
      memory false none is =
          absurd
          (entry_at-never limit old.raw.encoding (codes_of old.raw.abbreviations) old.raw.rest
          (sym (bare none) ∙ ap Err is))

-- a depth changes by one at most
depth_near : (e : Entry) (depth : ℤ) → unsigned_abs (depth_after e depth) ≤ unsigned_abs depth + 1
depth_near e depth = cases (is_null e) e.has_children
  where
    cases : (null flag : Bool)
        → unsigned_abs (if null then below_flag flag depth -ℤ pos 1 else below_flag flag depth)
        ≤ unsigned_abs depth + 1
    cases true true = omega (arith, ints)
    cases true false = omega (arith, ints)
    cases false true = omega (arith, ints)
    cases false false = omega (arith, ints)

-- one read keeps what holds of every cursor
pub sound_read : (limit : ℕ) (old : CursorView) (outcome : Result Bool Error) (new : CursorView)
    → IsSound old → HasRead limit old outcome new → IsSound new
sound_read limit old outcome new s (an_entry e w some reads is same) =
    let shorter = entry_at-shorter limit old.raw.encoding (codes_of old.raw.abbreviations)
    old.raw.rest
    w e reads in
    let near = depth_near e old.raw.depth in
    rw same (record {
      few = omega (arith, shorter, s.few);
      fits = omega (arith, shorter, s.fits);
      shallow = omega (arith, shorter, s.next_shallow);
      next_shallow = omega (arith, shorter, near, s.next_shallow);
      after = λ entry. refl;
      past = λ entry. omega (arith, shorter, s.fits);
    })
sound_read limit old outcome new s (the_end none is same) =
    rw same
    (record {
      few = s.few;
      fits = s.fits;
      shallow = s.shallow;
      next_shallow = s.next_shallow;
      after = λ entry. absurd (cc);
      past = λ entry. absurd (cc);
    })
sound_read limit old outcome new s (a_refusal x some is same why memory) =
    let few = s.few in
    let depth = s.next_shallow in
    rw same
    (record {
      few = omega (arith, few, some);
      fits = omega arith;
      shallow = omega (arith, depth);
      next_shallow = omega (arith, depth);
      after =
          λ entry. absurd (cc);
      past = λ entry. absurd (cc);
    })
