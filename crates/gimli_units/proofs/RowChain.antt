-- The rows ahead of a place, told row by row, with the view that each leaves (DWARF 5, 2.3).
use Rattle.std.specs.Prelude.{◌≡◌, ℕ, zero, suc, ◌<◌, ◌≤◌, ℤ, List, [], ◌∷◌, length, Option, Some}
use Rattle.std.specs.Prelude.{None, Ok, Err}
use Rattle.std.proofs.Common.{refl, ap, ◌∙◌, arith, inl, inr}
use Rattle.std.proofs.lemmas.Bool.Decides.{eqb_tells}
use Rattle.gimli_base.specs.declared.error.Error.{Error}
use Rattle.gimli_base.specs.View.{View}
use Rattle.gimli_base.specs.Reading.{Reads}
use Rattle.gimli_units.specs.Entry.{Entry}
use Rattle.gimli_units.specs.RawPlace.{depth_after}
use Rattle.gimli_units.specs.Rows.{Row, Ahead, offset_of_view, ahead_at}
use Rattle.gimli_units.proofs.RowSteps.{then_row, ahead_ended, ahead_refused, ahead_more}

module _ (next : View → Reads Entry) (end : ℕ) where
  -- a row that is read at a view of this depth, and the view that it leaves
  pub record IsRow (v : View) (depth : ℤ) (r : Row) (w : View) : Type 0 where
    pub some : length v.bytes ≡ 0 → ⊥
    pub reads : Ok (r.entry, w) ≡ next v
    pub offset : r.offset ≡ offset_of_view end v
    pub after : r.next ≡ offset_of_view end w
    pub depth_is : r.depth ≡ depth

  -- no row at a view: the bytes end there, or a refusal does
  abbrev pub Ends : View → ℤ → Option Error → ℕ → ℤ → Type 0
  Ends v depth None stop stop_depth =
      (length v.bytes ≡ 0) × (stop ≡ offset_of_view end v) × (stop_depth ≡ depth)
  Ends v depth (Some e) stop stop_depth =
      (length v.bytes ≡ 0 → ⊥) × (Err e ≡ next v) × (stop ≡ offset_of_view end v)
      × (stop_depth ≡ depth)

  abbrev pub AreRows : View → ℤ → List Row → Option Error → ℕ → ℤ → Type 0
  AreRows v depth [] refusal stop stop_depth = Ends v depth refusal stop stop_depth
  AreRows v depth (r ∷ rest) refusal stop stop_depth =
      (w : View) × IsRow v depth r w
      × AreRows w (depth_after r.entry depth) rest refusal stop stop_depth

  -- the rows of a place, as they are ahead of it
  abbrev pub AreAhead : View → ℤ → Ahead → Type 0
  AreAhead v depth a = AreRows v depth a.rows a.refusal a.stop a.stop_depth

  module _
      (shorter : (v w : View) (e : Entry) → Ok (e, w) ≡ next v
      → length w.bytes < length v.bytes) where
    exist_within : (n : ℕ) (v : View) (depth : ℤ) → length v.bytes ≤ n
        → AreAhead v depth (ahead_at next end depth v)
    exist_within zero v depth le =
        let none : length v.bytes ≡ 0 = omega (arith, le) in
        rw (ahead_ended next end depth v none) (none, refl, refl)
    exist_within (suc n) v depth le = elim (eqb_tells (length v.bytes) 0) [
      | inl none ↦ rw (ahead_ended next end depth v none.1) (none.1, refl, refl)
      | inr some ↦ read (next v) refl some.1 (λ w d lt. exist_within n w d (omega (arith, le, lt)))
    ]
      where
        read : (r : Reads Entry) → r ≡ next v → (length v.bytes ≡ 0 → ⊥)
            → ((w : View) (d : ℤ) → length w.bytes < length v.bytes
            → AreAhead w d (ahead_at next end d w))
            → AreAhead v depth (ahead_at next end depth v)
        read (Err e) is some rest =
            rw (ahead_refused next end depth v e some is) (some, is, refl, refl)
        read (Ok p) is some rest =
            rw (ahead_more next end shorter depth v p.0 p.1 some is) (
              p.1,
              record { some = some; reads = is; offset = refl; after = refl; depth_is = refl },
              rest p.1 (depth_after p.0 depth) (shorter v p.1 p.0 is),
            )

    -- the rows ahead of a place are rows one after the other
    pub exist_rows : (v : View) (depth : ℤ) → AreAhead v depth (ahead_at next end depth v)
    exist_rows v depth = exist_within (length v.bytes) v depth (omega arith)

    -- and no others are
    pub unique_rows : (rows : List Row) (v : View) (depth : ℤ) (refusal : Option Error) (stop : ℕ)
        (stop_depth : ℤ) → AreRows v depth rows refusal stop stop_depth
        → ahead_at next end depth v
        ≡ record { rows = rows; refusal = refusal; stop = stop; stop_depth = stop_depth }
    unique_rows [] v depth None stop stop_depth h = rw (h.1, h.2) (ahead_ended next end depth v h.0)
    unique_rows [] v depth (Some e) stop stop_depth h =
        rw (h.2, h.3) (ahead_refused next end depth v e h.0 h.1)
    unique_rows (r ∷ rest) v depth refusal stop stop_depth (w, is, more) =
        let same : record {
          offset = offset_of_view end v;
          next = offset_of_view end w;
          depth = depth;
          entry = r.entry;
        }
        ≡ r = rw (← is.offset, ← is.after, ← is.depth_is) refl in
        ahead_more next end shorter depth v r.entry w is.some is.reads
        ∙ ap (λ x. then_row x (ahead_at next end (depth_after r.entry depth) w)) same
        ∙ ap (then_row r)
        (unique_rows rest w (depth_after r.entry depth) refusal stop stop_depth more)
