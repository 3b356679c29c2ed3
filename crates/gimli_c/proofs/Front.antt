-- Rows that were written, as the reading of an entry moves along those ahead.
use Rattle.std.proofs.Common.{◌≡◌, ℕ, ◌+◌, ◌<◌, ◌≤◌, ◌^◌, min, ℤ, pos, ◌+ℤ◌, ◌-ℤ◌, unsigned_abs}
use Rattle.std.proofs.Common.{Bool, true, false, cond, if◌then◌else◌, List, [], ◌∷◌, ◌++◌, map}
use Rattle.std.proofs.Common.{take, drop, length, slice_set, Option, Some, None, Ok, Err, refl, sym}
use Rattle.std.proofs.Common.{ap, ◌∙◌, arith, append_assoc, length-append}
use Rattle.std.proofs.Math.Seq.{take-append_seam, drop-append_seam}
use Rattle.gimli_c.proofs.Slots.{slot}
use Rattle.std.proofs.lemmas.List.{length-map, map-append, drop-set-lt, drop-drop, length-set}
use Rattle.std.proofs.lemmas.Bool.{le-ltb, lt-ltb}
use Rattle.std.proofs.lemmas.Int.{ints}
use Rattle.gimli_base.specs.declared.error.Error.{Error}
use Rattle.gimli_base.specs.View.{View}
use Rattle.gimli_base.specs.declared.common.Encoding.{Encoding}
use Rattle.gimli_base.specs.Abbreviations.{Map}
use Rattle.gimli_base.specs.Table.{codes_of}
use Rattle.gimli_units.specs.Entry.{Entry, entry_at, is_null}
use Rattle.gimli_units.proofs.EntryReads.{entry_at-shorter}
use Rattle.gimli_units.specs.RawPlace.{RawPlace, next_offset_of, below_flag, depth_after}
use Rattle.gimli_units.specs.Rows.{Row, Ahead, offset_of_view, ahead_at}
use Rattle.gimli_units.specs.Rows.{no_row}
use Rattle.gimli_units.proofs.RowSteps.{then_row, ahead_ended, ahead_refused, ahead_more}
use Rattle.gimli_units.proofs.RowChain.{AreRows, exist_rows}
use Rattle.gimli_c.specs.declared.rows.GimliRow.{GimliRow}
use Rattle.gimli_c.specs.declared.rows.GimliPlace.{GimliPlace}
use Rattle.gimli_c.specs.Status.{more, end, row_refused, memory_refused}
use Rattle.gimli_c.specs.Fronts.{row_in_c, ahead_of, first_place, status_at, Filled}
use Rattle.gimli_c.specs.Fronts.{WritesFirst}

-- these rows before others
abbrev pub before_rows : List Row → Ahead → Ahead
before_rows taken a = record {
  rows = taken ++ a.rows;
  refusal = a.refusal;
  stop = a.stop;
  stop_depth = a.stop_depth;
}

-- `n` rows were written, and what is ahead was after them
pub record Front (limit : ℕ) (base : ℤ) (start now : RawPlace) (old new : List GimliRow)
    (n : ℕ) : Type 0 where
  pub taken : List Row
  pub count : length taken ≡ n
  pub room : n ≤ length old
  pub ahead : ahead_of limit base start ≡ before_rows taken (ahead_of limit base now)
  pub rows : new ≡ map row_in_c taken ++ drop n old
  pub fits : unsigned_abs base + unsigned_abs now.depth + length now.rest.bytes < 2 ^ 63

-- a depth that is counted from another base
pub depth_from : (base d : ℤ) (e : Entry) → depth_after e (base +ℤ d) ≡ base +ℤ depth_after e d
depth_from base d e = cases (is_null e) e.has_children
  where
    cases : (null flag : Bool)
        → (if null then below_flag flag (base +ℤ d) -ℤ pos 1 else below_flag flag (base +ℤ d))
        ≡ base +ℤ (if null then below_flag flag d -ℤ pos 1 else below_flag flag d)
    cases true true = omega (arith, ints)
    cases true false = omega (arith, ints)
    cases false true = omega (arith, ints)
    cases false false = omega (arith, ints)

-- a depth moves by one at most
pub depth_near : (e : Entry) (depth : ℤ) → unsigned_abs (depth_after e depth) ≤ unsigned_abs depth
    + 1
depth_near e depth = cases (is_null e) e.has_children
  where
    cases : (null flag : Bool)
        → unsigned_abs (if null then below_flag flag depth -ℤ pos 1 else below_flag flag depth)
        ≤ unsigned_abs depth + 1
    cases true true = omega (arith, ints)
    cases true false = omega (arith, ints)
    cases false true = omega (arith, ints)
    cases false false = omega (arith, ints)

-- the place of what is ahead of a view
pub first_at : (limit : ℕ) (encoding : Encoding) (declared : Map) (stop_at : ℕ) (from : ℤ)
    (rest : View) (place : GimliPlace)
    → place.offset ≡ offset_of_view stop_at rest → place.depth ≡ from
    → let a = ahead_at (entry_at limit encoding declared) stop_at from rest in
    place ≡ first_place a.rows a.stop a.stop_depth
first_at limit encoding declared stop_at from rest place offset depth =
    let next = entry_at limit encoding declared in
    let same : place ≡ record { offset = offset_of_view stop_at rest; depth = from } =
    rw (← offset, ← depth) refl in
    let a = ahead_at next stop_at from rest in
    same ∙ cases a.rows a.refusal a.stop a.stop_depth
    (exist_rows next stop_at (λ v u y. entry_at-shorter limit encoding declared v u y) rest
    from)
  where
    cases : (rows : List Row) (refusal : Option Error) (stop : ℕ) (depth_of_stop : ℤ)
        → AreRows (entry_at limit encoding declared) stop_at rest from rows refusal stop
        depth_of_stop
        → record { offset = offset_of_view stop_at rest; depth = from }
        ≡ first_place rows stop depth_of_stop
    cases [] None stop d h = rw (h.1, h.2) refl
    cases [] (Some e) stop d h = rw (h.2, h.3) refl
    cases (r ∷ more) refusal stop d (w, is, others) = rw (is.offset, is.depth_is) refl

-- none is written, or one more than so many
pub first_none : (old : List GimliRow) → WritesFirst old old 0
first_none old = record { fits = omega arith; rest = refl; long = refl }

pub first_more : (old new : List GimliRow) (n : ℕ) (x : GimliRow) → WritesFirst old new n
    → n < length old → WritesFirst old (slice_set new n x) (n + 1)
first_more old new n x w room = record {
  fits = omega (arith, room);
  rest =
      drop-set-lt (n + 1) new n x (omega arith)
      ∙ sym (drop-drop 1 n new)
      ∙ ap (drop 1) w.rest
      ∙ drop-drop 1 n old;
  long = length-set new n x ∙ w.long;
}

module _ (limit : ℕ) (base : ℤ) where
  -- one more row is written
  pub front_more : (start now : RawPlace) (old new : List GimliRow) (n : ℕ) (e : Entry) (w : View)
      (x : GimliRow)
      → Front limit base start now old new n → n < length old → (length now.rest.bytes ≡ 0 → ⊥)
      → Ok (e, w) ≡ entry_at limit now.encoding (codes_of now.abbreviations) now.rest
      → x ≡ record {
        offset = next_offset_of now;
        depth = base +ℤ now.depth;
        tag = e.tag.0;
        has_children = cond e.has_children 1 0;
      }
      → Front limit base start (record now { rest = w; depth = depth_after e now.depth }) old
      (slice_set new n x) (n + 1)
  front_more start now old new n e w x f room some read is =
      let next = entry_at limit now.encoding (codes_of now.abbreviations) in
      let shorter : length w.bytes < length now.rest.bytes =
      entry_at-shorter limit now.encoding (codes_of now.abbreviations) now.rest w e read in
      let near = depth_near e now.depth in
      let r : Row = record {
        offset = next_offset_of now;
        next = offset_of_view now.end w;
        depth =
            base +ℤ now.depth;
        entry = e;
      } in
      let left = ahead_of limit base (record now { rest = w; depth = depth_after e now.depth }) in
      let step : ahead_of limit base now ≡ then_row r left =
      ahead_more next now.end (λ v u y. entry_at-shorter limit now.encoding
      (codes_of now.abbreviations) v u y) (base +ℤ now.depth) now.rest e w some read
      ∙ ap (λ (d : ℤ). then_row r (ahead_at next now.end d w)) (depth_from base now.depth e) in
      record {
        taken = f.taken ++ r ∷ [];
        count = rw (length-append) (ap (λ k. k + 1) f.count);
        room = omega (arith, room);
        ahead = f.ahead ∙ ap (before_rows f.taken) step ∙ rw append_assoc refl;
        rows = ap (λ t. slice_set t n x) f.rows
            ∙ slot (map row_in_c f.taken) old n x (length-map f.taken row_in_c ∙ f.count) room
            ∙ rw (map-append, is) refl;
        fits = omega (arith, f.fits, shorter, near);
      }

  -- the place of what is ahead of a reader
  pub first_ahead : (now : RawPlace) → (place : GimliPlace) → place.offset ≡ next_offset_of now
      → place.depth ≡ base +ℤ now.depth
      → place ≡ first_place (ahead_of limit base now).rows (ahead_of limit base now).stop
      (ahead_of limit base now).stop_depth
  first_ahead now place offset depth =
      first_at limit now.encoding (codes_of now.abbreviations) now.end (base +ℤ now.depth) now.rest
      place offset depth

  -- where a byte is left, there is a row or a refusal
  pub some_left : (now : RawPlace) → (length now.rest.bytes ≡ 0 → ⊥)
      → (ahead_of limit base now).refusal ≡ None → 0 < length (ahead_of limit base now).rows
  some_left now some =
      let next = entry_at limit now.encoding (codes_of now.abbreviations) in
      let a = ahead_of limit base now in
      cases a.rows a.refusal a.stop a.stop_depth
      (exist_rows next now.end (λ v u y. entry_at-shorter limit now.encoding
      (codes_of now.abbreviations) v u y) now.rest (base +ℤ now.depth))
    where
      cases : (rows : List Row) (refusal : Option Error) (stop : ℕ) (depth_of_stop : ℤ)
          → AreRows (entry_at limit now.encoding (codes_of now.abbreviations)) now.end now.rest
          (base +ℤ now.depth) rows refusal stop depth_of_stop
          → refusal ≡ None → 0 < length rows
      cases [] None stop d h is = absurd (some h.0)
      cases [] (Some e) stop d h is = absurd (cc)
      cases (r ∷ rest) refusal stop d h is = omega arith

at_end : (room count : ℕ) → count ≤ room → end ≡ status_at room count None
at_end room count h = rw (le-ltb room count h) refl

at_refusal : (room count : ℕ) (e : Error) → count < room → row_refused e
    ≡ status_at room count (Some e)
at_refusal room count e h = rw (lt-ltb count room h) refl

at_more : (room count : ℕ) (r : Option Error) → room ≤ count → (r ≡ None → room < count) → more
    ≡ status_at room count r
at_more room count None h k = rw (lt-ltb room count (k refl)) refl
at_more room count (Some e) h k = rw (le-ltb count room h) refl

-- what was written, with what is left
filled_if : (taken : List Row) (left : Ahead) (old new : List GimliRow) (place : GimliPlace)
    (n status : ℕ)
    → length taken ≡ n → new ≡ map row_in_c taken ++ drop n old → place
    ≡ first_place left.rows left.stop left.stop_depth
    → n ≤ length old → (status ≡ memory_refused → n ≡ 0)
    → ((status ≡ memory_refused → ⊥) → (n ≡ min (length old) (n + length left.rows))
    × (status ≡ status_at (length old) (n + length left.rows) left.refusal))
    → Filled (before_rows taken left) old place new n status
filled_if taken left old new place n status count rows after room none whole =
    let front : take n (taken ++ left.rows) ≡ taken =
    rw (← count) (take-append_seam taken left.rows) in
    let others : drop n (taken ++ left.rows) ≡ left.rows =
    rw (← count) (drop-append_seam taken left.rows) in
    let all : length (taken ++ left.rows) ≡ n + length left.rows = rw (length-append, count) refl in
    record {
      rows = rows ∙ ap (λ (t : List Row). map row_in_c t ++ drop n old) (sym front);
      after = after ∙ ap (λ (t : List Row). first_place t left.stop left.stop_depth) (sym others);
      fits = omega (arith, room, all);
      none = none;
      whole = rw all whole;
    }

module _ (limit : ℕ) (base : ℤ) (start now : RawPlace) (old new : List GimliRow)
    (place : GimliPlace) (n : ℕ) where
  -- no row is left
  pub filled_ended : Front limit base start now old new n → length now.rest.bytes ≡ 0
      → place.offset ≡ next_offset_of now → place.depth ≡ base +ℤ now.depth
      → Filled (ahead_of limit base start) old place new n end
  filled_ended f none offset depth =
      let left = ahead_of limit base now in
      let is : left ≡ no_row None (next_offset_of now) (base +ℤ now.depth) =
      ahead_ended (entry_at limit now.encoding (codes_of now.abbreviations)) now.end
      (base +ℤ now.depth) now.rest none in
      let rows : length left.rows ≡ 0 = ap (λ (a : Ahead). length a.rows) is in
      let refusal : left.refusal ≡ None = ap (λ (a : Ahead). a.refusal) is in
      rw f.ahead (filled_if f.taken left old new place n end f.count f.rows
      (first_ahead limit base now place offset depth) f.room (λ h. omega (arith, h))
      (λ _. (
        omega (arith, rows, f.room),
        rw (refusal) (at_end (length old) (n + length left.rows) (omega (arith, rows, f.room))),
      )))

  -- there is no more room
  pub filled_full : Front limit base start now old new n → (length now.rest.bytes ≡ 0 → ⊥)
      → length old ≤ n
      → place.offset ≡ next_offset_of now → place.depth ≡ base +ℤ now.depth
      → Filled (ahead_of limit base start) old place new n more
  filled_full f some full offset depth =
      let left = ahead_of limit base now in
      rw f.ahead (filled_if f.taken left old new place n more f.count f.rows
      (first_ahead limit base now place offset depth) f.room (λ h. omega (arith, h))
      (λ _. (
        omega (arith, f.room, full),
        at_more (length old) (n + length left.rows) left.refusal (omega (arith, full))
            (λ is. let k = some_left limit base now some is in omega (arith, k, f.room)),
      )))

  -- a refusal ends the rows
  pub filled_refused : (e : Error) → Front limit base start now old new n
      → (length now.rest.bytes ≡ 0 → ⊥) → n < length old
      → Err e ≡ entry_at limit now.encoding (codes_of now.abbreviations) now.rest
      → place.offset ≡ next_offset_of now → place.depth ≡ base +ℤ now.depth
      → Filled (ahead_of limit base start) old place new n (row_refused e)
  filled_refused e f some room read offset depth =
      let left = ahead_of limit base now in
      rw f.ahead (filled_if f.taken left old new place n (row_refused e) f.count f.rows
      (first_ahead limit base now place offset depth) f.room (λ h. omega (arith, h))
      (λ _. whole (ahead_refused (entry_at limit now.encoding (codes_of now.abbreviations))
      now.end (base +ℤ now.depth) now.rest e some read)))
    where
      whole : ahead_of limit base now ≡ no_row (Some e) (next_offset_of now) (base +ℤ now.depth)
          → (n ≡ min (length old) (n + length (ahead_of limit base now).rows))
          × (row_refused e ≡ status_at (length old) (n + length (ahead_of limit base now).rows)
          (ahead_of limit base now).refusal)
      whole is =
          let left = ahead_of limit base now in
          let rows : length left.rows ≡ 0 = ap (λ (a : Ahead). length a.rows) is in
          let refusal : left.refusal ≡ Some e = ap (λ (a : Ahead). a.refusal) is in (
            omega (arith, rows, room),
            rw refusal (at_refusal (length old) (n + length left.rows) e (omega (
              arith,
              rows,
              room,
            ))),
          )
