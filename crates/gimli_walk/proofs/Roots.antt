-- The rows of a unit from its first entry on.
use Rattle.std.proofs.Common.{◌≡◌, ℕ, ◌-◌, ◌<◌, ◌≤◌, pos, true, false, List, Option, None, Ok, Err}
use Rattle.std.proofs.Common.{refl, ap, ◌∙◌, arith, length, ◌⊎◌, inl, inr, add-zero}
use Rattle.std.specs.Prelude.{nat_le, nat_lt}
use Rattle.std.specs.Io.KnownBytes.{Appends}
use Rattle.std.proofs.lemmas.Bool.{le-leb, lt-ltb, le-ltb, cases_lt}
use Rattle.gimli_base.specs.declared.error.Error.{Error}
use Rattle.gimli_base.specs.declared.error.Error.TheVariants.{OffsetOutOfBounds}
use Rattle.gimli_base.specs.View.{View, cut}
use Rattle.gimli_base.specs.Table.{Table, codes_of}
use Rattle.gimli_units.specs.Entry.{entry_at}
use Rattle.gimli_units.specs.RawPlace.{RawPlace}
use Rattle.gimli_units.specs.Rows.{ahead_at}
use Rattle.gimli_units.proofs.RowSteps.{ahead_ended}
use Rattle.gimli_units.specs.Unit.{UnitView, whole_length, header_size, range_from, entries_in}
use Rattle.gimli_units.specs.Unit.{entries_from}
use Rattle.gimli_headers.proofs.UnitReads.{some_size}
use Rattle.gimli_walk.specs.Lines.{end_line}
use Rattle.gimli_walk.specs.Text.{rows_text, unit_text}
use Rattle.gimli_walk.specs.Stops.{WroteUntil}
use Rattle.gimli_walk.proofs.StoppedLines.{until_only}

cut_none : (v : View) → cut 0 v ≡ v
cut_none v = rw add-zero refl

-- where the unit has entries' bytes, the first is in bounds
range_root : (u : UnitView) → header_size u < whole_length u
    → range_from u (header_size u) ≡ Ok u.entries
unfolding range_from
range_root u lt =
    let first : nat_le (header_size u) (header_size u)
    ≡ true = le-leb (header_size u) (header_size u) (omega arith) in
    let second : nat_lt (header_size u) (whole_length u)
    ≡ true = lt-ltb (header_size u) (whole_length u) lt in
    let zero : header_size u - header_size u ≡ 0 = omega arith in
    rw (first, second, zero) (ap Ok (cut_none u.entries))

range_nowhere : (u : UnitView) → whole_length u ≤ header_size u
    → range_from u (header_size u) ≡ Err (OffsetOutOfBounds (header_size u))
unfolding range_from
range_nowhere u ge =
    let first : nat_le (header_size u) (header_size u)
    ≡ true = le-leb (header_size u) (header_size u) (omega arith) in
    let second : nat_lt (header_size u) (whole_length u)
    ≡ false = le-ltb (header_size u) (whole_length u) ge in
    rw (first, second) refl

abbrev root_place : UnitView → Table → RawPlace
root_place u t =
    record {
      rest = u.entries;
      encoding = u.encoding;
      abbreviations = t;
      end = whole_length u;
      depth = pos 0;
    }

-- the reader of the entries from the root on, or none where there is no byte
root_cases : (u : UnitView) (t : Table)
    → ((length u.entries.bytes ≡ 0)
    × (entries_from u t None ≡ Err (OffsetOutOfBounds (header_size u))))
    ⊎ (entries_from u t None ≡ Ok (root_place u t))
unfolding entries_from
root_cases u t = elim (cases_lt (header_size u) (whole_length u)) [
  | inl lt ↦ inr (ap (entries_in u t) (range_root u lt))
  | inr ge ↦
      inl (omega (arith, ge, some_size u.encoding.format), ap (entries_in u t) (range_nowhere u ge))
]

module _ (limit : ℕ) (u : UnitView) (t : Table) where
  -- the rows are those from the root on
  pub root_text : (p : RawPlace) → Ok p ≡ entries_from u t None
      → rows_text
      (ahead_at (entry_at limit p.encoding (codes_of p.abbreviations)) p.end p.depth p.rest)
      ≡ unit_text limit u (codes_of t)
  root_text p is = elim (root_cases u t) [
    | inl none ↦ absurd (let e : Ok p ≡ Err (OffsetOutOfBounds (header_size u)) = is ∙ none.1 in cc)
    | inr read ↦
        let same : p ≡ root_place u t = (let e : Ok p ≡ Ok (root_place u t) = is ∙ read in cc) in
        ap
        (λ (q : RawPlace). rows_text
        (ahead_at (entry_at limit q.encoding (codes_of q.abbreviations)) q.end q.depth q.rest))
        same
  ]

  -- where the reader is refused there is no row
  pub root_refused : (old new : Option (List ℕ)) (e : Error) → Err e ≡ entries_from u t None
      → Appends old new end_line → WroteUntil old new (unit_text limit u (codes_of t)) (Ok 0)
  root_refused old new e is h = elim (root_cases u t) [
    | inl none ↦
        rw
        (ap rows_text
        (ahead_ended (entry_at limit u.encoding (codes_of t)) (whole_length u) (pos 0) u.entries
        none.0)) (until_only old new end_line 0 h)
    | inr read ↦ absurd (let e : Err e ≡ Ok (root_place u t) = is ∙ read in cc)
  ]
