-- What a cursor of a unit answers is what the unit has at that offset.
use Rattle.std.specs.Prelude.{◌≡◌, ℕ, ◌+◌, ◌-◌, ◌<◌, ◌≤◌, ℤ, pos, Bool, true, false, nat_le, nat_lt}
use Rattle.std.specs.Prelude.{if◌then◌else◌, length, Option, Some, None, Result, Ok, Err}
use Rattle.std.proofs.Common.{refl, sym, ap, ◌∙◌, arith, length-drop, le-leb, lt-ltb, ltb-true}
use Rattle.gimli_base.specs.declared.error.Error.{Error}
use Rattle.gimli_base.specs.declared.error.Error.TheVariants.{NoEntryAtGivenOffset}
use Rattle.gimli_base.specs.declared.error.Error.TheVariants.{OffsetOutOfBounds, OutOfMemory}
use Rattle.gimli_base.proofs.Both.{both}
use Rattle.gimli_base.specs.Offset.{answer_of}
use Rattle.gimli_base.specs.View.{View, cut}
use Rattle.gimli_base.specs.Reading.{Reads}
use Rattle.gimli_base.specs.Table.{Table, codes_of}
use Rattle.gimli_base.specs.View.{IsLater}
use Rattle.gimli_base.proofs.Later.{IsLater-none, IsLater-trans, cut-cut}
use Rattle.gimli_units.specs.Entry.{Entry, is_null, entry_at}
use Rattle.gimli_units.specs.RawPlace.{RawPlace, next_offset_of}
use Rattle.gimli_units.specs.Unit.{UnitView, whole_length, header_size, in_bounds, range_from}
use Rattle.gimli_units.specs.Unit.{entries_in, entries_from, entries_of, some_entry, unit_entry_at}
use Rattle.gimli_units.specs.Unit.{IsUnreadAt}
use Rattle.gimli_units.specs.CursorModel.{CursorView, rows_from, view_from, what_at, IsSameUnit}
use Rattle.gimli_units.specs.CursorModel.{IsFurther, IsTrueEntry, IsRefused}
use Rattle.gimli_units.specs.CursorStart.{before_first, raw_start}

-- a cursor that reads the entries of a unit
pub record StandsIn (u : UnitView) (t : Table) (c : CursorView) : Type 0 where
  pub encoding : c.raw.encoding ≡ u.encoding
  pub abbreviations : c.raw.abbreviations ≡ t
  pub end : c.raw.end ≡ whole_length u
  pub further : IsLater 0 u.entries c.raw.rest

-- a step stays in the unit
pub step_stands : (u : UnitView) (t : Table) (old new : CursorView) → StandsIn u t old
    → IsSameUnit old new → IsFurther old new → StandsIn u t new
step_stands u t old new s same further = record {
  encoding = same.encoding ∙ s.encoding;
  abbreviations = same.abbreviations ∙ s.abbreviations;
  end = same.end ∙ s.end;
  further = IsLater-trans 0 0 u.entries old.raw.rest new.raw.rest s.further further;
}

-- so does the first place
pub start_stands : (u : UnitView) (t : Table) (follows : Bool) (start : Option ℕ) (p : RawPlace)
    → length u.entries.bytes ≤ whole_length u → Ok p ≡ raw_start u t start
    → StandsIn u t (before_first follows p)
unfolding entries_from range_from
start_stands u t follows None p fits is =
    let same : p ≡ entries_of u t = cc in
    rw same
    (record {
      encoding = refl;
      abbreviations = refl;
      end = refl;
      further = IsLater-none u.entries;
    })
start_stands u t follows (Some o) p fits is = cases (in_bounds u o) refl is
  where
    cases : (b : Bool) → in_bounds u o ≡ b
        → Ok p ≡ entries_in u t
        (if b then Ok (cut (o - header_size u) u.entries) else Err (OffsetOutOfBounds o))
        → StandsIn u t (before_first follows p)
    cases true h e =
        let same : p
        ≡ record {
          rest = cut (o - header_size u) u.entries;
          encoding = u.encoding;
          abbreviations = t;
          end = whole_length u;
          depth = pos 0;
        } = cc in
        let parts = both (nat_le (header_size u) o) (nat_lt o (whole_length u)) h in
        let below = ltb-true o (whole_length u) parts.1 in
        rw same
        (record {
          encoding = refl;
          abbreviations = refl;
          end = refl;
          further =
              record {
                count = o - header_size u;
                enough = omega arith;
                within = omega (arith, below, fits);
                is = refl;
              };
        })
    cases false h e = absurd (cc)

module _ (limit : ℕ) (u : UnitView) (t : Table) (fits : length u.entries.bytes ≤ whole_length u)
    (c : CursorView) (s : StandsIn u t c) where
  rest_length : length c.raw.rest.bytes ≡ length u.entries.bytes - s.further.count
  rest_length = ap (λ (v : View). length v.bytes) s.further.is
      ∙ length-drop s.further.count u.entries.bytes

  -- the unit's first entry is not after the cursor
  pub header_low : header_size u ≤ next_offset_of c.raw
  header_low = omega (arith, rest_length, s.end)

  -- what the cursor has from an offset on, the unit has
  pub unit_view : (o : ℕ) → next_offset_of c.raw ≤ o
      → view_from c.raw o ≡ cut (o - header_size u) u.entries
  unit_view o low =
      let apart : s.further.count + (o - next_offset_of c.raw)
      ≡ o - header_size u = omega (arith, rest_length, s.end, s.further.within, fits, low) in
      ap (cut (o - next_offset_of c.raw)) s.further.is
      ∙ cut-cut s.further.count (o - next_offset_of c.raw) u.entries
      ∙ ap (λ n. cut n u.entries) apart

  -- the rows, too
  pub unit_rows : (o : ℕ) (depth : ℤ) → next_offset_of c.raw ≤ o
      → rows_from limit c.raw o depth ≡ rows_from limit (entries_of u t) o depth
  unit_rows o depth low = rw (unit_view o low, s.encoding, s.abbreviations, s.end) refl

  -- an offset that is not before the cursor, and before the end, is in bounds
  pub in_unit : (o : ℕ) → next_offset_of c.raw ≤ o → o < whole_length u → in_bounds u o ≡ true
  in_unit o low high =
      let first : nat_le (header_size u) o
      ≡ true = le-leb (header_size u) o (omega (arith, header_low, low)) in
      let second : nat_lt o (whole_length u) ≡ true = lt-ltb o (whole_length u) high in
      rw (first, second) refl

  unit_has : (o : ℕ) → next_offset_of c.raw ≤ o → o < whole_length u → (r : Result Entry Error)
      → what_at limit c.raw o ≡ r
      → (q : Reads Entry) × (answer_of (λ (x : Entry × View). x.0) q ≡ r)
      × (unit_entry_at limit u (codes_of t) o ≡ some_entry o q)
  unfolding unit_entry_at range_from
  unit_has o low high r is =
      let q : Reads Entry =
      entry_at limit u.encoding (codes_of t) (cut (o - header_size u) u.entries) in
      (q, (rw (unit_view o low, s.encoding, s.abbreviations) at is), rw (in_unit o low high) refl)

  what_is : (new : CursorView) → IsTrueEntry limit c new
      → what_at limit c.raw new.offset ≡ Ok new.entry
  what_is new is = ap (answer_of (λ (x : Entry × View). x.0)) (sym is.is)

  -- an entry that was answered is the unit's
  pub entry_law : (new : CursorView) → new.raw.end ≡ c.raw.end → IsTrueEntry limit c new
      → is_null new.entry ≡ false → unit_entry_at limit u (codes_of t) new.offset ≡ Ok new.entry
  entry_law new same is entry =
      let h = unit_has new.offset is.after (omega (arith, is.before, same, s.end)) (Ok new.entry)
      (what_is new is) in
      h.2 ∙ cases h.0 h.1
    where
      cases : (q : Reads Entry) → answer_of (λ (x : Entry × View). x.0) q ≡ Ok new.entry
          → some_entry new.offset q ≡ Ok new.entry
      cases (Ok p) e = let one : p.0 ≡ new.entry = cc in rw (one, entry) refl
      cases (Err x) e = absurd (cc)

  -- and so is a null
  pub null_law : (new : CursorView) → new.raw.end ≡ c.raw.end → IsTrueEntry limit c new
      → is_null new.entry ≡ true
      → unit_entry_at limit u (codes_of t) new.offset ≡ Err (NoEntryAtGivenOffset new.offset)
  null_law new same is null =
      let h = unit_has new.offset is.after (omega (arith, is.before, same, s.end)) (Ok new.entry)
      (what_is new is) in
      h.2 ∙ cases h.0 h.1
    where
      cases : (q : Reads Entry) → answer_of (λ (x : Entry × View). x.0) q ≡ Ok new.entry
          → some_entry new.offset q ≡ Err (NoEntryAtGivenOffset new.offset)
      cases (Ok p) e = let one : p.0 ≡ new.entry = cc in rw (one, null) refl
      cases (Err x) e = absurd (cc)

  -- and so is a refusal of bytes
  pub refusal_law : (new : CursorView) (x : Error) → (x ≡ OutOfMemory → ⊥) → IsRefused limit c x new
      → IsUnreadAt limit u (codes_of t) new.offset x
  refusal_law new x fine is = (
    in_unit new.offset is.after (omega (arith, is.before, s.end)),
    rw (unit_view new.offset is.after, s.encoding, s.abbreviations) at (is.is fine),
  )
