-- Where memory may be refused: what statuses tell of it, and what takes memory.
use Rattle.std.proofs.Common.{◌≡◌, ◌≢◌, ℕ, ◌+◌, ◌-◌, ◌<◌, ◌≤◌, ◌==◌, ℤ, Bool, true, false, List, []}
use Rattle.std.proofs.Common.{◌∷◌, length, Option, Some, None, Result, Ok, Err, refl, sym, ap, ◌∙◌}
use Rattle.std.proofs.Common.{arith, length-drop}
use Rattle.std.proofs.lemmas.Bool.{le-leb, lt-ltb}
use Rattle.gimli_base.specs.declared.common.Encoding.{Encoding}
use Rattle.gimli_base.specs.declared.error.Error.{Error}
use Rattle.gimli_base.specs.declared.error.Error.TheVariants.{OutOfMemory, OffsetOutOfBounds}
use Rattle.gimli_base.specs.declared.error.Error.TheVariants.{InvalidAbbreviationCode}
use Rattle.gimli_base.specs.Abbreviations.{Specification, Declaration, Map, map_at}
use Rattle.gimli_base.specs.Abbreviations.{table_takes_memory_at}
use Rattle.gimli_base.specs.Offset.{answer_of}
use Rattle.gimli_base.specs.Reading.{Reads, uleb_at}
use Rattle.gimli_base.specs.Refusal.{number_of}
use Rattle.gimli_base.specs.Table.{Table, codes_of}
use Rattle.gimli_base.specs.View.{View, cut, IsLater}
use Rattle.gimli_base.proofs.Later.{IsLater-none, IsLater-trans, IsLater-weaker}
use Rattle.gimli_base.proofs.Later.{cut-cut}
use Rattle.gimli_base.proofs.Memory.{Never, never_then, never_if, never_ok, uleb_at-never}
use Rattle.gimli_base.proofs.Memory.{map_at-never}
use Rattle.gimli_units.specs.CursorModel.{CursorView, view_from, takes_memory_at, IsRefused}
use Rattle.gimli_units.specs.CursorStart.{before_first, cursor_from}
use Rattle.gimli_units.specs.Entry.{Attr, Entry, attributes_at, abbreviation_at, entry_at}
use Rattle.gimli_units.specs.Entry.{takes_memory}
use Rattle.gimli_units.specs.RawPlace.{RawPlace, next_offset_of}
use Rattle.gimli_units.specs.Unit.{UnitView, whole_length, header_size, in_bounds, range_from}
use Rattle.gimli_units.specs.Unit.{entries_from}
use Rattle.gimli_units.proofs.EntryReads.{entry_at-later}
use Rattle.gimli_units.proofs.Onward.{view_here}
use Rattle.gimli_c.specs.Memory.{DeclaredTakesMemory, DeclaredTakesMemoryFrom, TakesMemoryAhead}
use Rattle.gimli_c.specs.Status.{refusal_status, row_refused, memory_refused, row_memory_refused}
use Rattle.gimli_c.proofs.Bounds.{reader_at, read_bounds, unread_bounds, below_end}

-- a refusal has a number below 256, and only that for memory has 24
number_small : (e : Error) → number_of e < 256
number_small OutOfMemory = omega arith
number_small e = omega arith

number_memory : (e : Error) → number_of e ≡ 24 → e ≡ OutOfMemory
number_memory OutOfMemory h = refl
number_memory e h = absurd (omega arith)

pub refusal_memory : (e : Error) → refusal_status e ≡ memory_refused → e ≡ OutOfMemory
refusal_memory e outcome = number_memory e (omega (arith, outcome))

pub row_memory : (e : Error) → row_refused e ≡ row_memory_refused → e ≡ OutOfMemory
row_memory e outcome = number_memory e (omega (arith, outcome))

-- a refusal before the first row is none of a row
pub refusal_no_row : (e : Error) → refusal_status e ≡ row_memory_refused → ⊥
refusal_no_row e outcome = let small = number_small e in omega (arith, outcome, small)

-- what is refused for memory takes some, where what it reads is never refused for it
takes_some : {A : Type 0} → (takes : Bool) (r : Result A Error) → Never r
    → (takes ≡ false → ◌≡◌ {A = Result A Error} (Err OutOfMemory) r) → takes ≡ true
takes_some true r never bare = refl
takes_some false r never bare = absurd (never (sym (bare refl)))

-- a table that was refused for memory takes some
pub table_takes : (e : Error) (offset : ℕ) (v : View)
    → (table_takes_memory_at offset v ≡ false
    → ◌≡◌ {A = Result Map Error} (Err e) (map_at offset v))
    → refusal_status e ≡ memory_refused → table_takes_memory_at offset v ≡ true
table_takes e offset v bare outcome =
    let is : ◌≡◌ {A = Result Map Error} (Err OutOfMemory) (Err e) =
    ap Err (sym (refusal_memory e outcome)) in
    takes_some (table_takes_memory_at offset v) (map_at offset v) (map_at-never offset v)
    (λ none. is ∙ bare none)

-- a code is never refused for memory
abbreviation_at-never : (declared : Map) (v : View) → Never (abbreviation_at declared v)
unfolding abbreviation_at
abbreviation_at-never declared v = never_then (uleb_at v) _ (uleb_at-never v)
    (λ code. never_if (code.0 == 0) (Ok (None, code.1)) _ (never_ok (None, code.1))
    (named code.0 code.1 (declared code.0)))
  where
    named : (code : ℕ) (w : View) (o : Option Declaration)
        → Never {A = Option Declaration × View}
        (elim o [ Some d ↦ Ok (Some d, w) | None ↦ Err (InvalidAbbreviationCode code) ])
    named code w (Some d) = never_ok (Some d, w)
    named code w None = λ is. cc

pub code_takes : (declared : Map) (v : View) (e : Error)
    → ◌≡◌ {A = Reads (Option Declaration)} (Err e) (abbreviation_at declared v)
    → e ≡ OutOfMemory → takes_memory (abbreviation_at declared v) ≡ true
code_takes declared v e h is =
    let same : ◌≡◌ {A = Reads (Option Declaration)} (Err e) (Err OutOfMemory) = ap Err is in
    absurd (abbreviation_at-never declared v (sym h ∙ same))

some_takes : (ss : List Specification) → ss ≢ [] → elim ss [ [] ↦ false | s ∷ rest ↦ true ] ≡ true
some_takes [] some = absurd (some refl)
some_takes (s ∷ rest) some = refl

-- an entry with declared attributes takes memory
pub declared_takes : (declared : Map) (v w : View) (d : Declaration)
    → ◌≡◌ {A = Reads (Option Declaration)} (Ok (Some d, w)) (abbreviation_at declared v)
    → d.attributes ≢ [] → takes_memory (abbreviation_at declared v) ≡ true
declared_takes declared v w d h some = rw (← h) (some_takes d.attributes some)

-- attributes that are refused are some
pub refused_some : (limit : ℕ) (e : Encoding) (ss : List Specification) (v : View) (x : Error)
    → ◌≡◌ {A = Reads (List Attr)} (Err x) (attributes_at limit e ss v) → ss ≢ []
unfolding attributes_at
refused_some limit e [] v x h = λ none. cc
refused_some limit e (s ∷ ss) v x h = λ none. cc

-- a reader of entries has read on in its unit
pub record IsOnward (start now : RawPlace) : Type 0 where
  pub further : IsLater 0 start.rest now.rest
  pub end : now.end ≡ start.end
  pub abbreviations : now.abbreviations ≡ start.abbreviations

pub onward_none : (p : RawPlace) → IsOnward p p
onward_none p = record { further = IsLater-none p.rest; end = refl; abbreviations = refl }

pub onward_read : (limit : ℕ) (start now : RawPlace) (e : Entry) (w : View) (depth : ℤ)
    → IsOnward start now
    → Ok (e, w) ≡ entry_at limit now.encoding (codes_of now.abbreviations) now.rest
    → IsOnward start (record now { rest = w; depth = depth })
onward_read limit start now e w depth on read =
    let l = entry_at-later limit now.encoding (codes_of now.abbreviations) now.rest e w read in
    record {
      further = IsLater-weaker 1 0 start.rest w (omega arith)
          (IsLater-trans 0 1 start.rest now.rest w on.further l);
      end = on.end;
      abbreviations = on.abbreviations;
    }

module _ (start now : RawPlace) (on : IsOnward start now) (fits : length start.rest.bytes
    ≤ start.end) where
  left : length now.rest.bytes ≡ length start.rest.bytes - on.further.count
  left = ap (λ (v : View). length v.bytes) on.further.is
      ∙ length-drop on.further.count start.rest.bytes

  -- what is ahead of it then was ahead of it before
  pub onward_takes : (offset : ℕ) → TakesMemoryAhead now offset → TakesMemoryAhead start offset
  onward_takes offset t =
      let l = on.further in
      let apart : l.count + (offset - next_offset_of now) ≡ offset - next_offset_of start =
      omega (arith, left, on.end, fits, l.within, t.after) in
      let view : view_from now offset ≡ view_from start offset =
      ap (cut (offset - next_offset_of now)) l.is
      ∙ cut-cut l.count (offset - next_offset_of now) start.rest
      ∙ ap (λ n. cut n start.rest) apart in
      let same : takes_memory_at start offset ≡ takes_memory_at now offset =
      rw (view, on.abbreviations) refl in
      record {
        after = omega (arith, left, on.end, t.after);
        before = omega (arith, on.end, t.before);
        takes = same ∙ t.takes;
      }

  -- and so was what it reads next
  pub onward_next : (length now.rest.bytes ≡ 0 → ⊥)
      → takes_memory (abbreviation_at (codes_of now.abbreviations) now.rest) ≡ true
      → TakesMemoryAhead start (next_offset_of now)
  onward_next some takes = onward_takes (next_offset_of now)
      (record {
        after = omega arith;
        before = omega (arith, left, on.end, fits, some);
        takes = ap (λ (v : View). takes_memory (abbreviation_at (codes_of now.abbreviations) v))
            (view_here now) ∙ takes;
      })

-- what stopped a step of a cursor for want of memory takes some
pub refused_takes : (limit : ℕ) (c d : CursorView) (e : Error) → IsRefused limit c e d
    → e ≡ OutOfMemory → TakesMemoryAhead c.raw d.offset
refused_takes limit c d e r is =
    record { after = r.after; before = r.before; takes = r.memory is }

-- a reader from an offset of a unit on
module _ (u : UnitView) (t : Table) (offset : ℕ) (fits : length u.entries.bytes ≤ whole_length u)
  where
    -- where it begins
    begins : in_bounds u offset ≡ true → next_offset_of (reader_at u t offset) ≡ offset
    begins inside =
        let below = below_end u offset inside in
        let left = length-drop (offset - header_size u) u.entries.bytes in
        omega (arith, left, below.0, below.1, fits)

    -- what is ahead of it is ahead of the offset
    ahead : in_bounds u offset ≡ true → (at : ℕ) → TakesMemoryAhead (reader_at u t offset) at
        → (offset ≤ at) × DeclaredTakesMemory u (Ok (codes_of t)) at
    unfolding range_from
    ahead inside at a =
        let below = below_end u offset inside in
        let here = begins inside in
        let apart : offset - header_size u + (at - next_offset_of (reader_at u t offset))
        ≡ at - header_size u = omega (arith, here, a.after, below.0) in
        let view : view_from (reader_at u t offset) at ≡ cut (at - header_size u) u.entries =
        cut-cut (offset - header_size u) (at - next_offset_of (reader_at u t offset)) u.entries
        ∙ ap (λ n. cut n u.entries) apart in
        let takes : takes_memory (abbreviation_at (codes_of t) (cut (at - header_size u) u.entries))
        ≡ true =
        ap (λ (v : View). takes_memory (abbreviation_at (codes_of t) v)) (sym view) ∙ a.takes in
        let low = le-leb (header_size u) at (omega (arith, here, a.after, below.0)) in
        let high = lt-ltb at (whole_length u) a.before in
        (omega (arith, here, a.after), rw (low, high) takes)

    module _ (p : RawPlace) (is : Ok p ≡ entries_from u t (Some offset)) where
      pub bytes_fit : length p.rest.bytes ≤ p.end
      bytes_fit =
          let left = length-drop (offset - header_size u) u.entries.bytes in
          rw (read_bounds u t offset p is).1 (omega (arith, left, fits))

      pub unit_takes : (at : ℕ) → TakesMemoryAhead p at
          → (offset ≤ at) × DeclaredTakesMemory u (Ok (codes_of t)) at
      unit_takes at a =
          let yes = read_bounds u t offset p is in
          ahead yes.0 at (rw yes.1 at a)

      pub unit_takes_from : (at : ℕ) × TakesMemoryAhead p at
          → DeclaredTakesMemoryFrom u (Ok (codes_of t)) offset
      unit_takes_from a =
          let there = unit_takes a.0 a.1 in
          ((read_bounds u t offset p is).0, (a.0, there.0, there.1))

-- a cursor from an offset on, by its reader
module _ (u : UnitView) (t : Table) (follows : Bool) (offset : ℕ) where
  pub cursor_reader : (c : CursorView) → Ok c ≡ cursor_from u t follows offset
      → Ok c.raw ≡ entries_from u t (Some offset)
  cursor_reader c is = cases (entries_from u t (Some offset)) is
    where
      cases : (r : Result RawPlace Error) → Ok c ≡ answer_of (before_first follows) r
          → Ok c.raw ≡ r
      cases (Ok p) e = let same : c ≡ before_first follows p = cc in
          ap (λ (d : CursorView). Ok d.raw) same
      cases (Err x) e = absurd (cc)

  -- an offset out of bounds is no want of memory
  pub cursor_no_memory : (e : Error) → Err e ≡ cursor_from u t follows offset
      → refusal_status e ≡ memory_refused → ⊥
  cursor_no_memory e is outcome =
      let out : e ≡ OffsetOutOfBounds offset =
      (unread_bounds u t offset e (cases (entries_from u t (Some offset)) is)).1 in
      let memory = refusal_memory e outcome in
      let no : OffsetOutOfBounds offset ≡ OutOfMemory = sym out ∙ memory in cc
    where
      cases : (r : Result RawPlace Error) → Err e ≡ answer_of (before_first follows) r → Err e ≡ r
      cases (Ok p) k = absurd (cc)
      cases (Err x) k = let same : e ≡ x = cc in ap Err same
