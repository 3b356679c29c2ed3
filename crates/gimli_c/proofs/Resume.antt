-- A call goes on where the one before it stopped.
use Rattle.std.proofs.Common.{◌≡◌, ◌⊎◌, subst, inl, inr, ℕ, zero, suc, ◌+◌, ◌-◌, ◌<◌, ◌≤◌, ◌^◌}
use Rattle.std.proofs.Common.{◌==◌, nat_lt, nat_le, ℤ, unsigned_abs, true, false, Bool, List, []}
use Rattle.std.proofs.Common.{◌∷◌, drop, length, Option, Some, None, Result, Ok, Err, refl, sym, ap}
use Rattle.std.proofs.Common.{◌∙◌, arith, length-drop}
use Rattle.std.proofs.lemmas.Bool.{ltb-true, lt-ltb, le-leb}
use Rattle.std.proofs.lemmas.Bool.Decides.{eqb_tells}
use Rattle.gimli_base.specs.declared.error.Error.{Error}
use Rattle.gimli_base.specs.declared.error.Error.TheVariants.{OffsetOutOfBounds}
use Rattle.gimli_base.specs.View.{View, cut}
use Rattle.gimli_base.specs.View.{IsLater}
use Rattle.gimli_base.proofs.Later.{IsLater-length, IsLater-trans, IsLater-weaker}
use Rattle.gimli_base.specs.Abbreviations.{Map}
use Rattle.gimli_units.specs.UnitRows.{unit_rows_from}
use Rattle.gimli_units.specs.Entry.{entry_at}
use Rattle.gimli_units.proofs.EntryReads.{entry_at-later, entry_at-shorter}
use Rattle.gimli_units.specs.RawPlace.{depth_after}
use Rattle.gimli_units.proofs.RowChain.{AreRows, exist_rows, unique_rows}
use Rattle.gimli_units.specs.Rows.{Row, Ahead, offset_of_view, ahead_at}
use Rattle.gimli_units.specs.Unit.{UnitView, whole_length, header_size, in_bounds}
use Rattle.gimli_c.specs.declared.attrs.GimliAttr.{GimliAttr}
use Rattle.gimli_c.specs.declared.entries.GimliEntry.{GimliEntry}
use Rattle.gimli_c.specs.declared.entries.GimliFilled.{GimliFilled}
use Rattle.gimli_c.specs.declared.rows.GimliRow.{GimliRow}
use Rattle.gimli_c.specs.Entries.{IsEntriesOutcome}
use Rattle.gimli_c.specs.declared.rows.GimliPlace.{GimliPlace}
use Rattle.gimli_c.specs.Status.{too_deep, refusal_status}
use Rattle.gimli_c.specs.Fronts.{at, unit_ahead, first_place, ahead_after, IsRowsOutcome}
use Rattle.gimli_c.specs.Fronts.{Resumes}
use Rattle.gimli_c.proofs.Bounds.{below_end}
use Rattle.gimli_c.proofs.Front.{depth_near}

-- where a call leaves the place
abbrev pub HasMoved : Result Ahead ℕ → GimliPlace → GimliPlace → ℕ → Type 0
HasMoved (Ok a) from place n = place ≡ first_place (drop n a.rows) a.stop a.stop_depth
HasMoved (Err stop) from place n = place ≡ from

pub moved_rows : (r : Result Ahead ℕ) (from : GimliPlace) (old : List GimliRow) (place : GimliPlace)
    (new : List GimliRow) (n status : ℕ)
    → IsRowsOutcome r from old place new n status → HasMoved r from place n
moved_rows (Ok a) from old place new n status outcome = outcome.after
moved_rows (Err stop) from old place new n status outcome = outcome.place_stays

pub moved_entries : (r : Result Ahead ℕ) (from : GimliPlace) (old : List GimliEntry)
    (old_attrs : List GimliAttr) (place : GimliPlace) (new : List GimliEntry)
    (attrs : List GimliAttr) (n : GimliFilled) (status : ℕ)
    → IsEntriesOutcome r from old old_attrs place new attrs n status → HasMoved r from place n.rows
moved_entries (Ok a) from old old_attrs place new attrs n status outcome = outcome.after
moved_entries (Err stop) from old old_attrs place new attrs n status outcome = outcome.place_stays

abbrev Shallow : ℤ → View → Type 0
Shallow d v = (length v.bytes ≡ 0) ⊎ (unsigned_abs d + length v.bytes < 2 ^ 63)

module _ (limit : ℕ) (u : UnitView) (declared : Map) (fits : length u.entries.bytes
    ≤ whole_length u) where
  -- from the place of a view on
  at_view : (v : View) (d : ℤ) → IsLater 0 u.entries v → Shallow d v
      → unit_ahead limit u declared (at (offset_of_view (whole_length u) v) d)
      ≡ Ok (ahead_at (entry_at limit u.encoding declared) (whole_length u) d v)
  at_view v d l shallow =
      let bytes : length v.bytes ≡ length u.entries.bytes - l.count =
      ap (λ (w : View). length w.bytes) l.is ∙ length-drop l.count u.entries.bytes in
      let count : offset_of_view (whole_length u) v - header_size u ≡ l.count =
      omega (arith, bytes, fits, l.within) in
      let same : cut (offset_of_view (whole_length u) v - header_size u) u.entries ≡ v =
      ap (λ k. cut k u.entries) count ∙ sym l.is in
      elim (eqb_tells (offset_of_view (whole_length u) v) (whole_length u)) [
        | inl here ↦ rw (here.0, same) refl
        | inr apart ↦
            let some : length v.bytes ≡ 0 → ⊥ = λ none. apart.1 (omega (arith, none)) in
            let low : nat_le (header_size u) (offset_of_view (whole_length u) v) ≡ true =
            le-leb _ _ (omega (arith, bytes, fits, l.within)) in
            let high : nat_lt (offset_of_view (whole_length u) v) (whole_length u) ≡ true =
            lt-ltb _ _ (omega (arith, some, bytes, fits)) in
            let below : unsigned_abs d + (whole_length u - offset_of_view (whole_length u) v)
            < 2 ^ 63 = elim shallow [
              | inl none ↦ absurd (some none)
              | inr h ↦ omega (arith, h, bytes, fits)
            ] in
            let range : nat_lt (unsigned_abs d
            + (whole_length u - offset_of_view (whole_length u) v)) (2 ^ 63) ≡ true =
            lt-ltb _ _ below in
            rw (apart.0, low, high, range, same) refl
      ]

  first_is : (rows : List Row) (v : View) (d : ℤ) (refusal : Option Error) (stop : ℕ)
      (stop_depth : ℤ)
      → AreRows (entry_at limit u.encoding declared) (whole_length u) v d rows refusal stop
      stop_depth
      → first_place rows stop stop_depth ≡ at (offset_of_view (whole_length u) v) d
  first_is [] v d None stop stop_depth h = rw (h.1, h.2) refl
  first_is [] v d (Some e) stop stop_depth h = rw (h.2, h.3) refl
  first_is (r ∷ rest) v d refusal stop stop_depth (w, is, others) = rw (is.offset, is.depth_is) refl

  from_first : (rows : List Row) (v : View) (d : ℤ) (refusal : Option Error) (stop : ℕ)
      (stop_depth : ℤ)
      → AreRows (entry_at limit u.encoding declared) (whole_length u) v d rows refusal stop
      stop_depth → IsLater 0 u.entries v → Shallow d v
      → unit_ahead limit u declared (first_place rows stop stop_depth)
      ≡ Ok (record { rows = rows; refusal = refusal; stop = stop; stop_depth = stop_depth })
  from_first rows v d refusal stop stop_depth h l shallow =
      let next = entry_at limit u.encoding declared in
      ap (λ (p : GimliPlace). unit_ahead limit u declared p)
      (first_is rows v d refusal stop stop_depth h)
      ∙ at_view v d l shallow
      ∙ ap Ok (unique_rows next (whole_length u) (λ x w y. entry_at-shorter limit u.encoding
      declared x w y) rows v d refusal stop stop_depth h)

  -- after so many rows
  chain : (n : ℕ) (rows : List Row) (v : View) (d : ℤ) (refusal : Option Error) (stop : ℕ)
      (stop_depth : ℤ)
      → AreRows (entry_at limit u.encoding declared) (whole_length u) v d rows refusal stop
      stop_depth → IsLater 0 u.entries v → Shallow d v
      → unit_ahead limit u declared (first_place (drop n rows) stop stop_depth)
      ≡ Ok (record {
        rows = drop n rows;
        refusal = refusal;
        stop = stop;
        stop_depth =
            stop_depth;
      })
  chain zero rows v d refusal stop stop_depth h l shallow =
      from_first rows v d refusal stop stop_depth h l shallow
  chain (suc n) [] v d refusal stop stop_depth h l shallow =
      from_first [] v d refusal stop stop_depth h l shallow
  chain (suc n) (r ∷ rest) v d refusal stop stop_depth (w, is, others) l shallow =
      let step : IsLater 1 v w = entry_at-later limit u.encoding declared v r.entry w is.reads in
      let shorter = IsLater-length 1 v w step in
      let near = depth_near r.entry d in
      let later : IsLater 0 u.entries w =
      IsLater-weaker (0 + 1) 0 u.entries w (omega arith) (IsLater-trans 0 1 u.entries v w l
      step) in
      let after : Shallow (depth_after r.entry d) w = elim shallow [
        | inl none ↦ absurd (is.some none)
        | inr h ↦ inr (omega (arith, h, shorter, near))
      ] in
      chain n rest w (depth_after r.entry d) refusal stop stop_depth others later after

  module _ (place : GimliPlace) where
    abbrev from : View
    from = cut (place.offset - header_size u) u.entries

    -- what a place is
    classify : ((unit_ahead limit u declared place
        ≡ Ok (unit_rows_from limit u declared place.offset place.depth))
        × IsLater 0 u.entries from × Shallow place.depth from)
        ⊎ ((stop : ℕ) × (unit_ahead limit u declared place ≡ Err stop))
    classify =
        let left = length-drop (place.offset - header_size u) u.entries.bytes in
        elim (eqb_tells place.offset (whole_length u)) [
          | inl here ↦
              let none : length from.bytes ≡ 0 = omega (arith, left, here.1, fits) in
              inl (
                rw here.0 refl,
                record {
                  count = place.offset - header_size u;
                  enough =
                      omega arith;
                  within = omega (arith, here.1, fits);
                  is = refl;
                },
                inl none,
              )
          | inr apart ↦ inside apart.0 (in_bounds u place.offset) refl
        ]
      where
        deep : (place.offset == whole_length u) ≡ false → in_bounds u place.offset ≡ true
            → (b : Bool) → b ≡ nat_lt (unsigned_abs place.depth + (whole_length u - place.offset))
            (2 ^ 63)
            → ((unit_ahead limit u declared place
            ≡ Ok (unit_rows_from limit u declared place.offset place.depth))
            × IsLater 0 u.entries from × Shallow place.depth from)
            ⊎ ((stop : ℕ) × (unit_ahead limit u declared place ≡ Err stop))
        deep apart sure true known =
            let below = below_end u place.offset sure in
            let left = length-drop (place.offset - header_size u) u.entries.bytes in
            let h : unsigned_abs place.depth + (whole_length u - place.offset) < 2 ^ 63 =
            ltb-true _ _ (sym known) in
            inl (
              rw (apart, sure, ← known) refl,
              record {
                count = place.offset - header_size u;
                enough = omega arith;
                within = omega (arith, below.0, below.1, fits);
                is = refl;
              },
              inr (omega (arith, left, h, below.0, below.1, fits)),
            )
        deep apart sure false known = inr (too_deep, rw (apart, sure, ← known) refl)

        inside : (place.offset == whole_length u) ≡ false → (b : Bool) → b
            ≡ in_bounds u place.offset
            → ((unit_ahead limit u declared place
            ≡ Ok (unit_rows_from limit u declared place.offset place.depth))
            × IsLater 0 u.entries from × Shallow place.depth from)
            ⊎ ((stop : ℕ) × (unit_ahead limit u declared place ≡ Err stop))
        inside apart true sure = deep apart (sym sure) (nat_lt (unsigned_abs place.depth
            + (whole_length u - place.offset)) (2 ^ 63)) refl
        inside apart false other = inr (
          refusal_status (OffsetOutOfBounds place.offset),
          rw (apart, ← other) refl,
        )

    module _ (after : GimliPlace) (n : ℕ) where
      goes : IsLater 0 u.entries from → Shallow place.depth from
          → HasMoved (Ok (unit_rows_from limit u declared place.offset place.depth)) place after n
          → unit_ahead limit u declared after
          ≡ Ok (ahead_after n (unit_rows_from limit u declared place.offset place.depth))
      goes l shallow moved =
          let next = entry_at limit u.encoding declared in
          let a = unit_rows_from limit u declared place.offset place.depth in
          ap (λ (p : GimliPlace). unit_ahead limit u declared p) moved
          ∙ chain n a.rows from place.depth a.refusal a.stop a.stop_depth
          (exist_rows next (whole_length u) (λ x w y. entry_at-shorter limit u.encoding declared
          x w y) from place.depth) l shallow

      stays : (stop : ℕ) → unit_ahead limit u declared place ≡ Err stop → after ≡ place
          → unit_ahead limit u declared after ≡ Err stop
      stays stop is same = ap (λ (p : GimliPlace). unit_ahead limit u declared p) same ∙ is

      pub unit_resumes : HasMoved (unit_ahead limit u declared place) place after n
          → Resumes (unit_ahead limit u declared place) n (unit_ahead limit u declared after)
      unit_resumes moved = elim classify [
        | inl (is, l, shallow) ↦
            let P : Result Ahead ℕ → Type 0 = λ r. HasMoved r place after n in
            let Q : Result Ahead ℕ → Type 0 =
            λ r. Resumes r n (unit_ahead limit u declared after) in
            subst Q (sym is) (goes l shallow (subst P is moved))
        | inr (stop, is) ↦
            let P : Result Ahead ℕ → Type 0 = λ r. HasMoved r place after n in
            let Q : Result Ahead ℕ → Type 0 =
            λ r. Resumes r n (unit_ahead limit u declared after) in
            subst Q (sym is) (stays stop is (subst P is moved))
      ]
