-- Rows and attributes that were written, as the reading of an entry moves along those ahead.
use Rattle.std.proofs.Common.{◌≡◌, ℕ, zero, suc, ◌+◌, ◌-◌, ◌<◌, ◌≤◌, ◌^◌, nat_lt, nat_le, ℤ, ◌+ℤ◌}
use Rattle.std.proofs.Common.{unsigned_abs, cond, true, false, Bool, if◌then◌else◌, List, [], ◌∷◌}
use Rattle.std.proofs.Common.{◌++◌, map, take, drop, length, slice_set, Option, Some, None, Ok, Err}
use Rattle.std.proofs.Common.{refl, sym, ap, ◌∙◌, arith, add-zero, zero-add, append_assoc}
use Rattle.std.proofs.Common.{length-append, Result}
use Rattle.std.proofs.Math.Seq.{take-append_seam, drop-append_seam}
use Rattle.std.proofs.Math.Nat.{sub-zero, suc-add}
use Rattle.std.proofs.lemmas.List.{length-map, map-append, append-nil}
use Rattle.std.proofs.lemmas.Bool.{le-ltb, lt-ltb, le-leb, lt-leb}
use Rattle.gimli_base.specs.declared.error.Error.{Error}
use Rattle.gimli_base.specs.View.{View}
use Rattle.gimli_base.specs.Reading.{Reads}
use Rattle.gimli_base.specs.Table.{codes_of}
use Rattle.gimli_units.specs.Entry.{Entry, entry_at}
use Rattle.gimli_units.proofs.EntryReads.{entry_at-shorter}
use Rattle.gimli_units.specs.RawPlace.{RawPlace, next_offset_of, depth_after}
use Rattle.gimli_units.specs.Rows.{Row, Ahead, offset_of_view, ahead_at}
use Rattle.gimli_units.specs.Rows.{no_row}
use Rattle.gimli_units.proofs.RowSteps.{then_row, ahead_ended, ahead_refused, ahead_more}
use Rattle.gimli_c.specs.declared.attrs.GimliAttr.{GimliAttr}
use Rattle.gimli_c.specs.declared.entries.GimliEntry.{GimliEntry}
use Rattle.gimli_c.specs.declared.rows.GimliPlace.{GimliPlace}
use Rattle.gimli_c.specs.Status.{more, end, row_refused, memory_refused, row_memory_refused}
use Rattle.gimli_c.specs.Attrs.{attr_of}
use Rattle.gimli_c.specs.Fronts.{ahead_of, first_place, IsIdle}
use Rattle.gimli_c.specs.Entries.{attributes_of, all_attributes, numbered_row, number_rows, fit}
use Rattle.gimli_c.specs.Entries.{status_fit}
use Rattle.gimli_c.specs.Entries.{first_wants, wrote, AskMemory, FilledEntries, IsEntriesOutcome}
use Rattle.gimli_c.specs.Heads.{AsksMemory}
use Rattle.gimli_c.proofs.Slots.{slot, written_more}
use Rattle.gimli_c.proofs.Front.{before_rows, depth_from, depth_near, first_ahead, some_left}
use Rattle.gimli_c.proofs.Memory.{IsOnward, onward_read}

-- `n` rows and `used` attributes were written, and what is ahead was after them
pub record EntryFront (limit : ℕ) (base : ℤ) (start now : RawPlace) (old new : List GimliEntry)
    (old_attrs new_attrs : List GimliAttr) (n used : ℕ) : Type 0 where
  pub taken : List Row
  pub count : length taken ≡ n
  pub room : n ≤ length old
  pub ahead : ahead_of limit base start ≡ before_rows taken (ahead_of limit base now)
  pub rows : new ≡ number_rows 0 taken ++ drop n old
  pub attributes : new_attrs ≡ map attr_of (all_attributes taken) ++ drop used old_attrs
  pub used_is : length (all_attributes taken) ≡ used
  pub space : used ≤ length old_attrs
  pub onward : IsOnward start now
  pub fits : unsigned_abs base + unsigned_abs now.depth + length now.rest.bytes < 2 ^ 63

flat-append : (xs : List Row) (r : Row) → all_attributes (xs ++ r ∷ []) ≡ all_attributes xs
    ++ attributes_of r
flat-append [] r = append-nil (attributes_of r)
flat-append (x ∷ xs) r = ap (λ t. attributes_of x ++ t) (flat-append xs r)
    ∙ sym (append_assoc (attributes_of x) (all_attributes xs) (attributes_of r))

numbered-append : (first : ℕ) (xs : List Row) (r : Row) → number_rows first (xs ++ r ∷ [])
    ≡ number_rows first xs ++ numbered_row (first + length (all_attributes xs)) r ∷ []
numbered-append first [] r = rw add-zero refl
numbered-append first (x ∷ xs) r =
    let same : first + length (attributes_of x) + length (all_attributes xs) ≡ first
    + length (attributes_of x ++ all_attributes xs) = rw length-append (omega arith) in
    ap (λ t. numbered_row first x ∷ t) (numbered-append (first + length (attributes_of x)) xs r
    ∙ ap (λ k. number_rows (first + length (attributes_of x)) xs ++ numbered_row k r ∷ []) same)

length-numbered : (first : ℕ) (xs : List Row) → length (number_rows first xs) ≡ length xs
length-numbered first [] = refl
length-numbered first (x ∷ xs) = ap suc (length-numbered (first + length (attributes_of x)) xs)

pub fit-nil : (room space : ℕ) → fit room space [] ≡ 0
fit-nil zero space = refl
fit-nil (suc room) space = refl

-- rows that there was room for
fit-front : (taken rest : List Row) (room space : ℕ) → length taken ≤ room
    → length (all_attributes taken)
    ≤ space
    → fit room space (taken ++ rest) ≡ length taken + fit (room - length taken) (space
    - length (all_attributes taken)) rest
fit-front [] rest room space h k = rw (sub-zero, sub-zero, zero-add) refl
fit-front (r ∷ rs) rest zero space h k = absurd (omega (arith, h))
fit-front (r ∷ rs) rest (suc room) space h k =
    let both = length-append (attributes_of r) (all_attributes rs) in
    let test : nat_le (length (attributes_of r)) space ≡ true =
    le-leb _ _ (omega (arith, k, both)) in
    let left : space - length (attributes_of r) - length (all_attributes rs) ≡ space
    - length (attributes_of r ++ all_attributes rs) = omega (arith, both) in
    let rooms : suc room - suc (length rs) ≡ room - length rs = omega arith in
    rw (test, rooms, ← left, suc-add)
    (ap suc (fit-front rs rest room (space - length (attributes_of r)) (omega (arith, h))
    (omega (arith, k, both))))

-- no space for the attributes of the first
fit-large : (room space : ℕ) (r : Row) (rs : List Row) → space < length (attributes_of r)
    → fit room space (r ∷ rs) ≡ 0
fit-large zero space r rs h = refl
fit-large (suc room) space r rs h = let test : nat_le (length (attributes_of r)) space ≡ false =
    lt-leb _ _ h in rw test refl

at_end : (room count : ℕ) → end ≡ status_fit room count count None
at_end room count = rw (le-ltb count count (omega arith)) refl

at_refusal : (room count : ℕ) (e : Error) → count < room → row_refused e
    ≡ status_fit room count count (Some e)
at_refusal room count e h = rw (le-ltb count count (omega arith), lt-ltb count room h) refl

at_more : (room count total : ℕ) (r : Option Error) → room ≤ count → (r ≡ None → count < total)
    → more ≡ status_fit room count total r
at_more room count total None h k = rw (lt-ltb count total (k refl)) refl
at_more room count total (Some e) h k = ifs (nat_lt count total)
  where
    ifs : (b : Bool) → more ≡ (if b then more else if nat_lt count room then row_refused e else
        more)
    ifs true = refl
    ifs false = rw (le-ltb count room h) refl

at_some : (room count total : ℕ) (r : Option Error) → count < total → more
    ≡ status_fit room count total r
at_some room count total None h = rw (lt-ltb count total h) refl
at_some room count total (Some e) h = rw (lt-ltb count total h) refl

module _ (limit : ℕ) (base : ℤ) where
  step : (now : RawPlace) (e : Entry) (w : View) → (length now.rest.bytes ≡ 0 → ⊥)
      → Ok (e, w) ≡ entry_at limit now.encoding (codes_of now.abbreviations) now.rest
      → ahead_of limit base now ≡ then_row (record {
        offset = next_offset_of now;
        next =
            offset_of_view now.end w;
        depth = base +ℤ now.depth;
        entry = e;
      })
      (ahead_of limit base (record now { rest = w; depth = depth_after e now.depth }))
  step now e w some read =
      let next = entry_at limit now.encoding (codes_of now.abbreviations) in
      let r : Row = record {
        offset = next_offset_of now;
        next = offset_of_view now.end w;
        depth =
            base +ℤ now.depth;
        entry = e;
      } in
      ahead_more next now.end (λ v u y. entry_at-shorter limit now.encoding
      (codes_of now.abbreviations) v u y) (base +ℤ now.depth) now.rest e w some read
      ∙ ap (λ (d : ℤ). then_row r (ahead_at next now.end d w)) (depth_from base now.depth e)

  -- reading on asks for memory where reading the next entry does
  pub ask_ahead : (now : RawPlace) → (length now.rest.bytes ≡ 0 → ⊥)
      → AsksMemory (entry_at limit now.encoding (codes_of now.abbreviations) now.rest)
      → AskMemory (ahead_of limit base now).rows (ahead_of limit base now).refusal
  ask_ahead now some asks =
      cases (entry_at limit now.encoding (codes_of now.abbreviations) now.rest) refl asks
    where
      cases : (r : Reads Entry)
          → r ≡ entry_at limit now.encoding (codes_of now.abbreviations) now.rest → AsksMemory r
          → AskMemory (ahead_of limit base now).rows (ahead_of limit base now).refusal
      cases (Ok p) is asked = rw (step now p.0 p.1 some is) asked
      cases (Err e) is asked =
          rw (ahead_refused (entry_at limit now.encoding (codes_of now.abbreviations)) now.end
          (base +ℤ now.depth) now.rest e some is) refl

  -- one more row is written, with its attributes
  pub entry_more : (start now : RawPlace) (old new : List GimliEntry)
      (old_attrs attrs new_attrs : List GimliAttr) (n used : ℕ) (e : Entry) (w : View)
      (x : GimliEntry)
      → EntryFront limit base start now old new old_attrs attrs n used → n < length old → used
      + length e.attributes ≤ length old_attrs → (length now.rest.bytes ≡ 0 → ⊥)
      → Ok (e, w) ≡ entry_at limit now.encoding (codes_of now.abbreviations) now.rest
      → x ≡ record {
        offset = next_offset_of now;
        depth = base +ℤ now.depth;
        first = used;
        attributes = length e.attributes;
        tag = e.tag.0;
        has_children = cond e.has_children 1 0;
      }
      → new_attrs ≡ (take used attrs ++ map attr_of e.attributes)
      ++ drop (used + length e.attributes) attrs
      → EntryFront limit base start (record now { rest = w; depth = depth_after e now.depth }) old
      (slice_set new n x) old_attrs new_attrs (n + 1) (used + length e.attributes)
  entry_more start now old new old_attrs attrs new_attrs n used e w x f room space some read is
      wrote =
      let shorter : length w.bytes < length now.rest.bytes =
      entry_at-shorter limit now.encoding (codes_of now.abbreviations) now.rest w e read in
      let near = depth_near e now.depth in
      let r : Row = record {
        offset = next_offset_of now;
        next = offset_of_view now.end w;
        depth =
            base +ℤ now.depth;
        entry = e;
      } in
      let done : length (map attr_of (all_attributes f.taken))
      ≡ used = length-map (all_attributes f.taken) attr_of
      ∙ f.used_is in
      let many : length (map attr_of e.attributes) ≡ length e.attributes =
      length-map e.attributes attr_of in
      let wrote_here : new_attrs
      ≡ (take used (map attr_of (all_attributes f.taken) ++ drop used old_attrs)
      ++ map attr_of e.attributes) ++ drop (used + length (map attr_of e.attributes))
      (map attr_of (all_attributes f.taken) ++ drop used old_attrs)
      = rw (many, ← f.attributes) wrote in
      let after = written_more (map attr_of (all_attributes f.taken)) (map attr_of e.attributes)
      old_attrs
      new_attrs used done wrote_here in
      record {
        taken = f.taken ++ r ∷ [];
        count = rw (length-append) (ap (λ k. k + 1) f.count);
        room = omega (arith, room);
        ahead = f.ahead ∙ ap (before_rows f.taken) (step now e w some read) ∙ rw append_assoc refl;
        rows = ap (λ t. slice_set t n x) f.rows
            ∙ slot (number_rows 0 f.taken) old n x (length-numbered 0 f.taken ∙ f.count) room
            ∙ rw (numbered-append 0 f.taken r, zero-add, f.used_is, is) refl;
        attributes = rw (flat-append f.taken r, map-append) (rw many at after);
        used_is = rw (
          flat-append f.taken r,
          length-append,
        ) (ap (λ k. k + length e.attributes) f.used_is);
        space = space;
        onward = onward_read limit start now e w (depth_after e now.depth) f.onward read;
        fits = omega (arith, f.fits, shorter, near);
      }

-- nothing is wanted where no row is left
pub none_wanted : (room n : ℕ) → ◌≡◌ {A = ℕ} 0 (if nat_lt n room then 0 else 0)
none_wanted room n = cases (nat_lt n room)
  where
    cases : (b : Bool) → ◌≡◌ {A = ℕ} 0 (if b then 0 else 0)
    cases true = refl
    cases false = refl

-- what a call says of the rows that are left
abbrev Said : List GimliEntry → List GimliAttr → Ahead → ℕ → ℕ → ℕ → ℕ → Type 0
Said old old_attrs left n used wanted status =
    (fit (length old - n) (length old_attrs - used) left.rows ≡ 0)
    × (wanted ≡ (if nat_lt n (length old) then first_wants left.rows else 0))
    × (status ≡ status_fit (length old) n (n + length left.rows) left.refusal)

-- what was written, with what is left
entries_if : (taken : List Row) (left : Ahead) (old new : List GimliEntry)
    (old_attrs attrs : List GimliAttr) (place : GimliPlace) (n used wanted status : ℕ)
    → length taken ≡ n → n ≤ length old → length (all_attributes taken) ≡ used
    → used ≤ length old_attrs
    → new ≡ number_rows 0 taken ++ drop n old → attrs ≡ map attr_of (all_attributes taken)
    ++ drop used old_attrs
    → place ≡ first_place left.rows left.stop left.stop_depth
    → (status ≡ memory_refused → ⊥)
    → (status ≡ row_memory_refused → (n < length old) × (wanted ≡ 0)
    × AskMemory left.rows left.refusal)
    → ((status ≡ memory_refused → ⊥) → (status ≡ row_memory_refused → ⊥)
    → Said old old_attrs left n used wanted status)
    → FilledEntries (before_rows taken left) old old_attrs place new attrs (wrote n used wanted)
    status
entries_if taken left old new old_attrs attrs place n used wanted status count room used_is space
    rows attributes after never short whole =
    let front : take n (taken ++ left.rows) ≡ taken =
    rw (← count) (take-append_seam taken left.rows) in
    let others : drop n (taken ++ left.rows) ≡ left.rows =
    rw (← count) (drop-append_seam taken left.rows) in
    let all : length (taken ++ left.rows) ≡ n + length left.rows = rw (length-append, count) refl in
    let fits : fit (length old) (length old_attrs) (taken ++ left.rows) ≡ n
    + fit (length old - n) (length old_attrs - used) left.rows =
    rw (← count, ← used_is) (fit-front taken left.rows (length old) (length old_attrs)
    (rw count room) (rw used_is space)) in
    record {
      rows = rows ∙ ap (λ (t : List Row). number_rows 0 t ++ drop n old) (sym front);
      attributes = attributes
          ∙ ap (λ (t : List Row). map attr_of (all_attributes t) ++ drop used old_attrs)
          (sym front);
      used_is = sym used_is ∙ ap (λ (t : List Row). length (all_attributes t)) (sym front);
      after = after ∙ ap (λ (t : List Row). first_place t left.stop left.stop_depth) (sym others);
      fits = omega (arith, room, all);
      none = λ h. absurd (never h);
      short = λ h. let s = short h in (
        s.0,
        s.1,
        rw others s.2,
      );
      whole = λ h k. let w = whole h k in (omega (arith, fits, w.0), rw others w.1, rw all w.2);
    }

module _ (limit : ℕ) (base : ℤ) (start now : RawPlace) (old new : List GimliEntry)
    (old_attrs attrs : List GimliAttr) (place : GimliPlace) (n used : ℕ)
    (f : EntryFront limit base start now old new old_attrs attrs n used) (offset : place.offset
    ≡ next_offset_of now) (depth : place.depth ≡ base +ℤ now.depth) where
  outcome : (wanted status : ℕ) → (status ≡ memory_refused → ⊥)
      → (status ≡ row_memory_refused → (n < length old) × (wanted ≡ 0)
      × AskMemory (ahead_of limit base now).rows (ahead_of limit base now).refusal)
      → ((status ≡ memory_refused → ⊥) → (status ≡ row_memory_refused → ⊥)
      → Said old old_attrs (ahead_of limit base now) n used wanted status)
      → FilledEntries (ahead_of limit base start) old old_attrs place new attrs
      (wrote n used wanted) status
  outcome wanted status never short whole =
      rw f.ahead (entries_if f.taken (ahead_of limit base now) old new old_attrs attrs place n used
      wanted status f.count f.room f.used_is f.space f.rows f.attributes
      (first_ahead limit base now place offset depth) never short whole)

  -- no row is left
  pub entries_ended : length now.rest.bytes ≡ 0 → FilledEntries (ahead_of limit base start) old
      old_attrs place new attrs (wrote n used 0) end
  entries_ended none =
      let is : ahead_of limit base now ≡ no_row None (next_offset_of now) (base +ℤ now.depth) =
      ahead_ended (entry_at limit now.encoding (codes_of now.abbreviations)) now.end
      (base +ℤ now.depth) now.rest none in
      outcome 0 end (λ h. omega (arith, h)) (λ h. absurd (omega (arith, h))) (λ _ _. rw is (
        fit-nil (length old - n) (length old_attrs - used),
        none_wanted (length old) n,
        rw add-zero (at_end (length old) n),
      ))

  -- there is no more room
  pub entries_full : (length now.rest.bytes ≡ 0 → ⊥) → length old ≤ n
      → FilledEntries (ahead_of limit base start) old old_attrs place new attrs (wrote n used 0)
      more
  entries_full some full =
      let left = ahead_of limit base now in
      let none : length old - n ≡ 0 = omega (arith, full) in
      outcome 0 more (λ h. omega (arith, h)) (λ h. absurd (omega (arith, h))) (λ _ _. (
        rw none refl,
        rw (le-ltb n (length old) full) refl,
        at_more (length old) n (n + length left.rows) left.refusal full (λ is. let k =
            some_left limit base now some is in omega (arith, k)),
      ))

  -- a refusal ends the rows
  pub entries_refused : (e : Error) → (length now.rest.bytes ≡ 0 → ⊥) → n < length old
      → ((row_refused e ≡ row_memory_refused → ⊥) → Err e
      ≡ entry_at limit now.encoding (codes_of now.abbreviations) now.rest)
      → AsksMemory (entry_at limit now.encoding (codes_of now.abbreviations) now.rest)
      → FilledEntries (ahead_of limit base start) old old_attrs place new attrs (wrote n used 0)
      (row_refused e)
  entries_refused e some room read asks =
      outcome 0 (row_refused e) (λ h. omega (arith, h))
      (λ _. (room, refl, ask_ahead limit base now some asks)) (λ _ other. whole
      (ahead_refused (entry_at limit now.encoding (codes_of now.abbreviations)) now.end
      (base +ℤ now.depth) now.rest e some (read other)))
    where
      whole : ahead_of limit base now ≡ no_row (Some e) (next_offset_of now) (base +ℤ now.depth)
          → Said old old_attrs (ahead_of limit base now) n used 0 (row_refused e)
      whole is = rw is (
        fit-nil (length old - n) (length old_attrs - used),
        none_wanted (length old) n,
        rw add-zero (at_refusal (length old) n e room),
      )

  -- there is no space for the attributes of the next row
  pub entries_large : (e : Entry) (w : View) → (length now.rest.bytes ≡ 0 → ⊥) → n < length old
      → Ok (e, w) ≡ entry_at limit now.encoding (codes_of now.abbreviations) now.rest
      → length old_attrs - used < length e.attributes
      → FilledEntries (ahead_of limit base start) old old_attrs place new attrs
      (wrote n used (length e.attributes)) more
  entries_large e w some room read large =
      let after = ahead_of limit base (record now { rest = w; depth = depth_after e now.depth }) in
      let r : Row = record {
        offset = next_offset_of now;
        next = offset_of_view now.end w;
        depth =
            base +ℤ now.depth;
        entry = e;
      } in
      outcome (length e.attributes) more (λ h. omega (arith, h)) (λ h. absurd (omega (arith, h)))
      (λ _ _. rw (step limit base now e w some read) (
        fit-large (length old - n) (length old_attrs - used) r after.rows large,
        rw (lt-ltb n (length old) room) refl,
        at_some (length old) n (n + suc (length after.rows)) after.refusal (omega arith),
      ))

-- a call that reads no row writes none, and no attributes
pub idle_entries : (r : Result Ahead ℕ) (place : GimliPlace) (old : List GimliEntry)
    (attrs : List GimliAttr) (status : ℕ) → IsIdle r place status
    → (status ≡ row_memory_refused → ⊥)
    → IsEntriesOutcome r place old attrs place old attrs (wrote 0 0 0) status
idle_entries (Ok ahead) place old attrs status idle not_row = record {
  rows = refl;
  attributes = refl;
  used_is = refl;
  after = idle.starts;
  fits = omega arith;
  none = λ _. refl;
  short = λ is. absurd (not_row is);
  whole = λ other _. let ends = idle.ends other in
      rw (ends.0, ends.1, ends.2) (
        sym (fit-nil (length old) (length attrs)),
        none_wanted (length old) 0,
        refl,
      );
}
idle_entries (Err stop) place old attrs status idle not_row =
    record { rows = refl; attributes = refl; none = refl; place_stays = refl; whole = idle }
