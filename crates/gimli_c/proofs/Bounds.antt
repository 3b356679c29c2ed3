-- What is ahead in a unit, by where a place lies.
use Rattle.std.proofs.Common.{◌≡◌, inl, inr, ℕ, ◌+◌, ◌-◌, ◌<◌, ◌≤◌, ◌^◌, ◌==◌, nat_lt, nat_le, pos}
use Rattle.std.proofs.Common.{◌+ℤ◌, unsigned_abs, Bool, true, false, ◌&&◌, if◌then◌else◌, List}
use Rattle.std.proofs.Common.{length, Some, None, Result, Ok, Err, refl, sym, ap, arith}
use Rattle.std.proofs.Common.{length-drop}
use Rattle.std.proofs.lemmas.Bool.{ne_eqb, eq-eqb, le-ltb, lt-ltb, ltb-true, leb-true}
use Rattle.std.proofs.lemmas.Bool.Decides.{eqb_tells}
use Rattle.std.proofs.lemmas.Int.{ints}
use Rattle.gimli_base.specs.declared.error.Error.{Error}
use Rattle.gimli_base.specs.declared.error.Error.TheVariants.{OffsetOutOfBounds, OutOfMemory}
use Rattle.gimli_base.specs.View.{cut}
use Rattle.gimli_base.specs.Abbreviations.{Map}
use Rattle.gimli_base.specs.Table.{Table, codes_of}
use Rattle.gimli_units.specs.UnitRows.{unit_rows_from}
use Rattle.gimli_units.specs.Entry.{entry_at}
use Rattle.gimli_units.specs.RawPlace.{RawPlace}
use Rattle.gimli_units.specs.Rows.{Ahead, no_row}
use Rattle.gimli_units.proofs.RowSteps.{ahead_ended}
use Rattle.gimli_units.specs.Unit.{UnitView, whole_length, header_size, in_bounds, range_from}
use Rattle.gimli_units.specs.Unit.{entries_in, entries_from}
use Rattle.gimli_c.specs.declared.rows.GimliRow.{GimliRow}
use Rattle.gimli_c.specs.declared.rows.GimliPlace.{GimliPlace}
use Rattle.gimli_c.specs.Status.{end, too_deep, refusal_status, memory_refused}
use Rattle.gimli_c.specs.Fronts.{ahead_of, unit_ahead, declared_ahead, first_place, IsIdle}
use Rattle.gimli_c.specs.Fronts.{IsRowsOutcome, IsRowsOutcomeIf}
use Rattle.gimli_c.proofs.Front.{first_at}

-- the reader of a place that is in bounds
abbrev pub reader_at : UnitView → Table → ℕ → RawPlace
reader_at u t offset = record {
  rest = cut (offset - header_size u) u.entries;
  encoding =
      u.encoding;
  abbreviations = t;
  end = whole_length u;
  depth = pos 0;
}

pub read_bounds : (u : UnitView) (t : Table) (offset : ℕ) (p : RawPlace) → Ok p
    ≡ entries_from u t (Some offset) → (in_bounds u offset ≡ true) × (p ≡ reader_at u t offset)
unfolding entries_from range_from
read_bounds u t offset p is = cases (in_bounds u offset) refl is
  where
    cases : (b : Bool) → b ≡ in_bounds u offset
        → ◌≡◌ {A = Result RawPlace Error} (Ok p)
        (entries_in u t (if b then Ok (cut (offset - header_size u) u.entries) else Err
        (OffsetOutOfBounds offset)))
        → (in_bounds u offset ≡ true) × (p ≡ reader_at u t offset)
    cases true known h = (sym known, cc)
    cases false known h = absurd (cc)

pub unread_bounds : (u : UnitView) (t : Table) (offset : ℕ) (e : Error) → Err e
    ≡ entries_from u t (Some offset) → (in_bounds u offset ≡ false) × (e ≡ OffsetOutOfBounds offset)
unfolding entries_from range_from
unread_bounds u t offset e is = cases (in_bounds u offset) refl is
  where
    cases : (b : Bool) → b ≡ in_bounds u offset
        → ◌≡◌ {A = Result RawPlace Error} (Err e)
        (entries_in u t (if b then Ok (cut (offset - header_size u) u.entries) else Err
        (OffsetOutOfBounds offset)))
        → (in_bounds u offset ≡ false) × (e ≡ OffsetOutOfBounds offset)
    cases true known h = absurd (cc)
    cases false known h = (sym known, cc)

and_both : (a b : Bool) → (a && b) ≡ true → (a ≡ true) × (b ≡ true)
and_both true true h = (refl, refl)
and_both true false h = absurd (cc)
and_both false b h = absurd (cc)

-- an offset in bounds lies before the unit's end
pub below_end : (u : UnitView) (offset : ℕ) → in_bounds u offset ≡ true → (header_size u ≤ offset)
    × (offset < whole_length u)
below_end u offset h =
    let both = and_both (nat_le (header_size u) offset) (nat_lt offset (whole_length u)) h in
    (leb-true _ _ both.0, ltb-true _ _ both.1)

-- as many bytes are left as there are up to the unit's end
pub bytes_left : (u : UnitView) (offset : ℕ) → length u.entries.bytes ≤ whole_length u
    → in_bounds u offset ≡ true
    → length (cut (offset - header_size u) u.entries).bytes ≡ whole_length u - offset
bytes_left u offset fit h =
    let both = below_end u offset h in
    let e = length-drop (offset - header_size u) u.entries.bytes in
    omega (arith, e, both.0, both.1, fit)

-- a call that reads no row writes none
pub idle_rows : (r : Result Ahead ℕ) (place : GimliPlace) (old : List GimliRow) (status : ℕ)
    → IsIdle r place status → IsRowsOutcome r place old place old 0 status
idle_rows (Ok ahead) place old status idle = record {
  rows = refl;
  after = idle.starts;
  fits = omega arith;
  none = λ _. refl;
  whole = λ other. let ends = idle.ends other in
      rw (ends.0, ends.1, ends.2) (omega arith, rw (le-ltb (length old) 0 (omega arith)) refl);
}
idle_rows (Err stop) place old status idle =
    record { rows = refl; none = refl; place_stays = refl; whole = idle }

module _ (limit : ℕ) (u : UnitView) (place : GimliPlace) where
  -- the place is that of the first row ahead, or the one where the rows stop
  first_ahead : (declared : Map)
      → place.offset ≡ whole_length u - length (cut (place.offset - header_size u) u.entries).bytes
      → let a = unit_rows_from limit u declared place.offset place.depth in
      place ≡ first_place a.rows a.stop a.stop_depth
  first_ahead declared here = first_at limit u.encoding declared (whole_length u) place.depth
      (cut (place.offset - header_size u) u.entries) place here refl

  -- at the unit's end
  pub idle_ended : (declared : Map) → length u.entries.bytes ≤ whole_length u
      → place.offset ≡ whole_length u → IsIdle (unit_ahead limit u declared place) place end
  idle_ended declared fit here =
      let test : (place.offset == whole_length u) ≡ true = eq-eqb _ _ here in
      let rest = cut (place.offset - header_size u) u.entries in
      let left = length-drop (place.offset - header_size u) u.entries.bytes in
      let none : length rest.bytes ≡ 0 = omega (arith, left, here, fit) in
      let is : unit_rows_from limit u declared place.offset place.depth
      ≡ no_row None (whole_length u - length rest.bytes) place.depth =
      ahead_ended (entry_at limit u.encoding declared) (whole_length u) place.depth rest none in
      let stop : whole_length u - length rest.bytes ≡ place.offset = omega (arith, none, here) in
      rw (test, is, stop) (record { starts = refl; ends = λ _. (refl, refl, refl) })

  module _ (not_end : place.offset ≡ whole_length u → ⊥) (t : Table) where
    inside : (place.offset == whole_length u) ≡ false
    inside = ne_eqb _ _ not_end

    -- before the entries, or after the unit
    pub idle_outside : (e : Error) → Err e ≡ entries_from u t (Some place.offset)
        → IsIdle (unit_ahead limit u (codes_of t) place) place (refusal_status e)
    idle_outside e is =
        let no = unread_bounds u t place.offset e is in rw (inside, no.0, no.1) (λ _. refl)

    module _ (p : RawPlace) (is : Ok p ≡ entries_from u t (Some place.offset)) where
      -- where depths may be out of range
      pub idle_deep : 2 ^ 63 ≤ unsigned_abs place.depth + (whole_length u - place.offset)
          → IsIdle (unit_ahead limit u (codes_of t) place) place too_deep
      idle_deep deep =
          let yes = read_bounds u t place.offset p is in
          let range : nat_lt (unsigned_abs place.depth + (whole_length u - place.offset)) (2 ^ 63)
          ≡ false = le-ltb _ _ deep in
          rw (inside, yes.0, range) (λ _. refl)

      -- elsewhere the rows ahead are those of the reader
      pub rows_there : unsigned_abs place.depth + (whole_length u - place.offset) < 2 ^ 63
          → unit_ahead limit u (codes_of t) place ≡ Ok (ahead_of limit place.depth p)
      rows_there shallow =
          let yes = read_bounds u t place.offset p is in
          let range : nat_lt (unsigned_abs place.depth + (whole_length u - place.offset)) (2 ^ 63)
          ≡ true = lt-ltb _ _ shallow in
          let zero_more : place.depth +ℤ pos 0 ≡ place.depth = omega (arith, ints) in
          rw (inside, yes.0, range, yes.1, zero_more) refl

  -- memory was refused for the declarations
  none_filled : (declared : Map)
      → place.offset ≡ whole_length u - length (cut (place.offset - header_size u) u.entries).bytes
      → IsIdle (Ok (unit_rows_from limit u declared place.offset place.depth)) place memory_refused
  none_filled declared here =
      record { starts = first_ahead declared here; ends = λ other. absurd (other refl) }

  idle_memory : length u.entries.bytes ≤ whole_length u → (r : Result Map Error)
      → IsIdle (declared_ahead limit u r place) place memory_refused
  idle_memory fit (Err e) = λ other. absurd (other refl)
  idle_memory fit (Ok declared) = elim (eqb_tells place.offset (whole_length u)) [
    | inl here ↦
        let e = length-drop (place.offset - header_size u) u.entries.bytes in
        rw here.0 (none_filled declared (omega (arith, e, here.1, fit)))
    | inr not_end ↦ rw not_end.0 (within (in_bounds u place.offset) refl)
  ]
    where
      deep : in_bounds u place.offset ≡ true → (b : Bool)
          → IsIdle
          (if b then Ok (unit_rows_from limit u declared place.offset place.depth)
          else Err too_deep) place memory_refused
      deep sure true =
          let e = bytes_left u place.offset fit sure in
          let below = below_end u place.offset sure in
          none_filled declared (omega (arith, e, below.1))
      deep sure false = λ other. absurd (other refl)

      within : (b : Bool) → b ≡ in_bounds u place.offset
          → IsIdle
          (if b
          then (if nat_lt (unsigned_abs place.depth + (whole_length u - place.offset)) (2 ^ 63)
          then Ok (unit_rows_from limit u declared place.offset place.depth)
          else Err too_deep)
          else Err (refusal_status (OffsetOutOfBounds place.offset))) place memory_refused
      within true sure = deep (sym sure)
          (nat_lt (unsigned_abs place.depth + (whole_length u - place.offset)) (2 ^ 63))
      within false other = λ h. absurd (h refl)

  -- the declarations were refused
  pub idle_undeclared : length u.entries.bytes ≤ whole_length u → (e : Error) (r : Result Map Error)
      → ((e ≡ OutOfMemory → ⊥) → Err e ≡ r)
      → IsIdle (declared_ahead limit u r place) place (refusal_status e)
  idle_undeclared fit e r h = elim (eqb_tells (refusal_status e) memory_refused) [
    | inl memory ↦ rw memory.1 (idle_memory fit r)
    | inr other ↦ rw (← h (λ is. other.1 (ap refusal_status is))) (λ _. refl)
  ]

-- what holds under any premise holds under one, and it holds where the premise does
pub outcome_given : (P : Type 0) (r : Result Ahead ℕ) (from : GimliPlace) (old : List GimliRow)
    (place : GimliPlace) (new : List GimliRow) (n status : ℕ)
    → IsRowsOutcomeIf P r from old place new n status → P
    → IsRowsOutcome r from old place new n status
outcome_given P (Ok ahead) from old place new n status h given = h given
outcome_given P (Err stop) from old place new n status h given = h

pub outcome_any : (P : Type 0) (r : Result Ahead ℕ) (from : GimliPlace) (old : List GimliRow)
    (place : GimliPlace) (new : List GimliRow) (n status : ℕ)
    → IsRowsOutcome r from old place new n status
    → IsRowsOutcomeIf P r from old place new n status
outcome_any P (Ok ahead) from old place new n status h = λ _. h
outcome_any P (Err stop) from old place new n status h = h

pub outcome_under : (P Q : Type 0) (r : Result Ahead ℕ) (from : GimliPlace) (old : List GimliRow)
    (place : GimliPlace) (new : List GimliRow) (n status : ℕ)
    → IsRowsOutcomeIf P r from old place new n status → (Q → P)
    → IsRowsOutcomeIf Q r from old place new n status
outcome_under P Q (Ok ahead) from old place new n status h other = λ given. h (other given)
outcome_under P Q (Err stop) from old place new n status h other = h
