-- Offsets that are in bounds of a unit.
use Rattle.std.proofs.Common.{◌≡◌, ℕ, ◌-◌, ◌<◌, ◌≤◌, Bool, true, false, Some, Result, Ok, Err, pos}
use Rattle.std.proofs.Common.{refl, sym, ap, ◌∙◌, arith, length, length-drop}
use Rattle.std.specs.Prelude.{nat_le, nat_lt, not, if◌then◌else◌}
use Rattle.std.proofs.lemmas.Bool.{ltb-true, leb-true, not-true, not-false}
use Rattle.gimli_base.specs.declared.error.Error.{Error}
use Rattle.gimli_base.specs.declared.error.Error.TheVariants.{OffsetOutOfBounds}
use Rattle.gimli_base.specs.declared.error.Error.TheVariants.{NoEntryAtGivenOffset}
use Rattle.gimli_base.proofs.Both.{both}
use Rattle.gimli_base.specs.View.{View, cut}
use Rattle.gimli_base.specs.Table.{Table, codes_of}
use Rattle.gimli_units.specs.Entry.{Entry, is_null, abbreviation_at, takes_memory, entry_at}
use Rattle.gimli_units.specs.RawPlace.{RawPlace, next_offset_of}
use Rattle.gimli_units.specs.Unit.{UnitView, whole_length, header_size, in_bounds, range_from}
use Rattle.gimli_units.specs.Unit.{entries_in, entries_from, some_entry, entry_in, unit_entry_at}
use Rattle.gimli_units.specs.Unit.{takes_memory_in}

-- an offset in bounds is not before the entries, and before the end
pub bounds : (u : UnitView) (o : ℕ) → in_bounds u o ≡ true
    → (header_size u ≤ o) × (o < whole_length u)
bounds u o h =
    let parts = both (nat_le (header_size u) o) (nat_lt o (whole_length u)) h in
    (leb-true (header_size u) o parts.0, ltb-true o (whole_length u) parts.1)

-- a reader of the entries from an offset on begins there
pub begins_at : (u : UnitView) (t : Table) (o : ℕ) (p : RawPlace)
    → length u.entries.bytes ≤ whole_length u → Ok p ≡ entries_from u t (Some o)
    → next_offset_of p ≡ o
unfolding entries_from range_from
begins_at u t o p fits h = cases (in_bounds u o) (bounds u o) h
  where
    cases : (b : Bool) → (b ≡ true → (header_size u ≤ o) × (o < whole_length u))
        → Ok p ≡ entries_in u t
        (if b then Ok (cut (o - header_size u) u.entries) else Err (OffsetOutOfBounds o))
        → next_offset_of p ≡ o
    cases true within e =
        let same : p
        ≡ record {
          rest = cut (o - header_size u) u.entries;
          encoding = u.encoding;
          abbreviations = t;
          end = whole_length u;
          depth = pos 0;
        } = cc in
        ap next_offset_of same ∙ simp length-drop (omega (arith, within refl, fits))
    cases false within e = absurd (cc)

-- what a reader of the entries from an offset on reads first is the entry there
pub reads_at : (limit : ℕ) (u : UnitView) (t : Table) (o : ℕ) (p : RawPlace)
    → Ok p ≡ entries_from u t (Some o)
    → unit_entry_at limit u (codes_of t) o
    ≡ some_entry o (entry_at limit p.encoding (codes_of p.abbreviations) p.rest)
unfolding unit_entry_at entries_from
reads_at limit u t o p h = cases (range_from u o) h
  where
    cases : (r : Result View Error) → Ok p ≡ entries_in u t r
        → entry_in limit u.encoding (codes_of t) o r
        ≡ some_entry o (entry_at limit p.encoding (codes_of p.abbreviations) p.rest)
    cases (Ok v) e =
        let same : p
        ≡ record {
          rest = v;
          encoding = u.encoding;
          abbreviations = t;
          end = whole_length u;
          depth = pos 0;
        } = cc in
        ap
        (λ (q : RawPlace). some_entry o
        (entry_at limit q.encoding (codes_of q.abbreviations) q.rest)) (sym same)
    cases (Err x) e = absurd (cc)

-- and it takes memory where that does
pub memory_at : (u : UnitView) (t : Table) (o : ℕ) (p : RawPlace) → Ok p ≡ entries_from u t (Some o)
    → takes_memory_in (codes_of t) (range_from u o)
    ≡ takes_memory (abbreviation_at (codes_of p.abbreviations) p.rest)
unfolding entries_from
memory_at u t o p h = cases (range_from u o) h
  where
    cases : (r : Result View Error) → Ok p ≡ entries_in u t r
        → takes_memory_in (codes_of t) r
        ≡ takes_memory (abbreviation_at (codes_of p.abbreviations) p.rest)
    cases (Ok v) e =
        let same : p
        ≡ record {
          rest = v;
          encoding = u.encoding;
          abbreviations = t;
          end = whole_length u;
          depth = pos 0;
        } = cc in
        ap (λ (q : RawPlace). takes_memory (abbreviation_at (codes_of q.abbreviations) q.rest))
        (sym same)
    cases (Err x) e = absurd (cc)

-- the reader stands at depth 0
pub depth_at : (u : UnitView) (t : Table) (o : ℕ) (p : RawPlace) → Ok p ≡ entries_from u t (Some o)
    → p.depth ≡ pos 0
unfolding entries_from
depth_at u t o p h = cases (range_from u o) h
  where
    cases : (r : Result View Error) → Ok p ≡ entries_in u t r → p.depth ≡ pos 0
    cases (Ok v) e =
        let same : p
        ≡ record {
          rest = v;
          encoding = u.encoding;
          abbreviations = t;
          end = whole_length u;
          depth = pos 0;
        } = cc in
        ap (λ (q : RawPlace). q.depth) same
    cases (Err x) e = absurd (cc)

-- what was read there, and is an entry, is that of the offset
pub some_read : (limit : ℕ) (u : UnitView) (t : Table) (o : ℕ) (p : RawPlace)
    → Ok p ≡ entries_from u t (Some o)
    → (e : Entry) (w : View) (some : Bool) → some ≡ not (is_null e) → some ≡ true
    → Ok (e, w) ≡ entry_at limit p.encoding (codes_of p.abbreviations) p.rest
    → Ok e ≡ unit_entry_at limit u (codes_of t) o
some_read limit u t o p h e w some k t-some read =
    let null : is_null e ≡ false = not-true (is_null e) (sym k ∙ t-some) in
    sym (reads_at limit u t o p h ∙ ap (some_entry o) (sym read) ∙ rw null refl)

-- a null that was read there is refused
pub null_read : (limit : ℕ) (u : UnitView) (t : Table) (o : ℕ) (p : RawPlace)
    → Ok p ≡ entries_from u t (Some o)
    → (e : Entry) (w : View) (some : Bool) → some ≡ not (is_null e) → some ≡ false
    → Ok (e, w) ≡ entry_at limit p.encoding (codes_of p.abbreviations) p.rest
    → Err (NoEntryAtGivenOffset o) ≡ unit_entry_at limit u (codes_of t) o
null_read limit u t o p h e w some k t-none read =
    let null : is_null e ≡ true = not-false (is_null e) (sym k ∙ t-none) in
    sym (reads_at limit u t o p h ∙ ap (some_entry o) (sym read) ∙ rw null refl)

-- and so is what could not be read
pub none_read : (limit : ℕ) (u : UnitView) (t : Table) (o : ℕ) (p : RawPlace)
    → Ok p ≡ entries_from u t (Some o)
    → (x : Error) → Err x ≡ entry_at limit p.encoding (codes_of p.abbreviations) p.rest
    → Err x ≡ unit_entry_at limit u (codes_of t) o
none_read limit u t o p h x read = sym (reads_at limit u t o p h ∙ ap (some_entry o) (sym read))
