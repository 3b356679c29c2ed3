-- The units ahead of a place, as the reading of a header moves it, and how they lie in their
-- section (DWARF 5, 7.5.1).
use Rattle.std.specs.Prelude.{◌≡◌, ℕ, zero, suc, ◌+◌, ◌<◌, ◌≤◌, ◌==◌, nat_le, true, false}
use Rattle.std.specs.Prelude.{List, [], ◌∷◌, length, Option, Some, None, Result, Ok, Err}
use Rattle.std.specs.Prelude.{MatchOption}
use Rattle.std.specs.List.{All}
use Rattle.std.specs.Option.{option_map}
use Rattle.std.proofs.Common.{refl, sym, ap, ◌∙◌, subst, arith, inl, inr, length-drop, add-zero}
use Rattle.std.proofs.lemmas.Bool.{ne_eqb, le-leb}
use Rattle.std.proofs.lemmas.Bool.Decides.{eqb_tells}
use Rattle.std.proofs.lemmas.List.Elements.{All-nil, All-cons}
use Rattle.gimli_base.specs.declared.common.SectionId.{SectionId}
use Rattle.gimli_base.specs.declared.error.Error.{Error}
use Rattle.gimli_base.specs.Offset.{answer_of}
use Rattle.gimli_base.specs.View.{View, cut, end_of_view}
use Rattle.gimli_base.specs.Reading.{Reads, skip_at}
use Rattle.gimli_base.proofs.Later.{cut-cut}
use Rattle.gimli_units.specs.Unit.{UnitView, whole_length}
use Rattle.gimli_headers.specs.Header.{unit_at}
use Rattle.gimli_headers.proofs.UnitReads.{unit_at-read, unit_at-shorter}
use Rattle.gimli_base.specs.Chain.{no_item, then_item, each_answer}
use Rattle.gimli_base.proofs.ChainSteps.{chain_ended, chain_more}
use Rattle.gimli_headers.specs.Units.{UnitsPlace, Units, after_unit, unit_or_end}
use Rattle.gimli_headers.specs.Units.{units_ahead, units_of, next_unit, before_units}
use Rattle.gimli_base.specs.Reading.{transpose}
use Rattle.gimli_base.specs.Address.{without_rest}
use Rattle.gimli_headers.specs.Units.{IsNextUnit, header_at, Tile, EndsAt}
use Rattle.gimli_headers.specs.Units.{Tiles, IsHeaderAt}

module _ (limit : ℕ) (section : SectionId) where
  abbrev size : UnitsPlace → ℕ
  size p = length p.rest.bytes

  -- where no byte is left there is no unit
  ahead_ended : (p : UnitsPlace) → length p.rest.bytes ≡ 0
      → units_ahead limit section p ≡ no_item None
  unfolding units_ahead unit_or_end
  ahead_ended p none =
      let t : (length p.rest.bytes == 0) ≡ true = rw none refl in
      chain_ended size (unit_or_end limit section) None p None (rw t refl)

  -- a refusal ends the units
  ahead_refused : (p : UnitsPlace) (e : Error) → (length p.rest.bytes ≡ 0 → ⊥)
      → Err e ≡ unit_at limit section p.offset p.rest
      → units_ahead limit section p ≡ no_item (Some e)
  unfolding units_ahead unit_or_end
  ahead_refused p e some h =
      let t : (length p.rest.bytes == 0) ≡ false = ne_eqb (length p.rest.bytes) 0 some in
      chain_ended size (unit_or_end limit section) None p (Some e) (rw (t, ← h) refl)

  -- fewer bytes are left after a unit
  shorter : (p : UnitsPlace) (u : UnitView) (w : View)
      → Ok (u, w) ≡ unit_at limit section p.offset p.rest
      → length (after_unit u p).rest.bytes < length p.rest.bytes
  shorter p u w h =
      let left = unit_at-shorter limit section p.offset p.rest u w h in
      let rest = ap (λ (v : View). length v.bytes)
      (unit_at-read limit section p.offset p.rest u w h).rest in
      omega (arith, left, rest)

  abbrev Standing : Type 0
  Standing = Result (UnitView × UnitsPlace) (Option Error)

  smaller : (p : UnitsPlace) (u : UnitView) (q : UnitsPlace)
      → Ok (u, q) ≡ unit_or_end limit section p → size q < size p
  unfolding unit_or_end
  smaller p u q h = elim (eqb_tells (length p.rest.bytes) 0) [
    | inl none ↦
        let is : ◌≡◌ {A = Standing} (Ok (u, q)) (Err None) = rw none.0 at h in absurd (cc)
    | inr some ↦ by (unit_at limit section p.offset p.rest) refl (rw some.0 at h)
  ]
    where
      by : (r : Reads UnitView) → r ≡ unit_at limit section p.offset p.rest
          → ◌≡◌ {A = Standing} (Ok (u, q))
          (elim r [ Ok x ↦ Ok (x.0, after_unit x.0 p) | Err e ↦ Err (Some e) ])
          → size q < size p
      by (Ok x) is same =
          let pair : (u, q) ≡ (x.0, after_unit x.0 p) = cc in
          let left : q ≡ after_unit x.0 p = ap (λ (y : UnitView × UnitsPlace). y.1) pair in
          let less = shorter p x.0 x.1 is in
          rw left less
      by (Err e) is same = absurd (cc)

  -- a unit, and then those after its whole length
  ahead_more : (p : UnitsPlace) (u : UnitView) (w : View) → (length p.rest.bytes ≡ 0 → ⊥)
      → Ok (u, w) ≡ unit_at limit section p.offset p.rest
      → units_ahead limit section p ≡ then_item u (units_ahead limit section (after_unit u p))
  unfolding units_ahead unit_or_end
  ahead_more p u w some h =
      let t : (length p.rest.bytes == 0) ≡ false = ne_eqb (length p.rest.bytes) 0 some in
      chain_more size (unit_or_end limit section) smaller None p u (after_unit u p)
      (rw (t, ← h) refl)

  abbrev Next : Type 0
  Next = Result (Option UnitView) Error × UnitsPlace

  abbrev next_by : UnitsPlace → Reads UnitView → Next
  next_by p r = elim r [
    | Ok q ↦ (Ok (Some q.0), record { rest = q.1; offset = p.offset + whole_length q.0 })
    | Err e ↦ (Err e, record { rest = end_of_view p.rest; offset = p.offset })
  ]

  ahead_next : (p : UnitsPlace)
      → units_ahead limit section p
      ≡ before_units (next_unit limit section p).0
      (units_ahead limit section (next_unit limit section p).1)
  unfolding next_unit
  ahead_next p = elim (eqb_tells (length p.rest.bytes) 0) [
    | inl none ↦ rw none.0 (ahead_ended p none.1)
    | inr some ↦ rw some.0 (read (unit_at limit section p.offset p.rest) refl some.1)
  ]
    where
      read : (r : Reads UnitView) → r ≡ unit_at limit section p.offset p.rest
          → (length p.rest.bytes ≡ 0 → ⊥)
          → units_ahead limit section p
          ≡ before_units (next_by p r).0 (units_ahead limit section (next_by p r).1)
      read (Err e) is some = ahead_refused p e some is
      read (Ok q) is some =
          let place = ap (λ w. record { rest = w; offset = p.offset + whole_length q.0 })
          (unit_at-read limit section p.offset p.rest q.0 q.1 is).rest in
          ahead_more p q.0 q.1 some is
          ∙ ap (λ l. then_item q.0 (units_ahead limit section l)) (sym place)

  -- what `next` answers is the first of the units ahead, and the others are ahead of the place that
  -- it leaves
  pub ahead_after : (p q : UnitsPlace) (a : Result (Option UnitView) Error)
      → ◌≡◌ {A = Next} (a, q) (next_unit limit section p)
      → units_ahead limit section p ≡ before_units a (units_ahead limit section q)
  ahead_after p q a h =
      ahead_next p ∙ ap (λ (n : Next). before_units n.0 (units_ahead limit section n.1)) (sym h)

  -- after a refusal nothing is left
  refused_ended : (p q : UnitsPlace) (e : Error)
      → ◌≡◌ {A = Next} (Err e, q) (next_unit limit section p) → length q.rest.bytes ≡ 0
  unfolding next_unit
  refused_ended p q e h = elim (eqb_tells (length p.rest.bytes) 0) [
    | inl none ↦ let is : ◌≡◌ {A = Next} (Err e, q) (Ok None, p) = rw none.0 at h in
        absurd (not_none (ap (λ (n : Next). n.0) is))
    | inr some ↦
        let is : ◌≡◌ {A = Next} (Err e, q) (next_by p (unit_at limit section p.offset p.rest)) =
        rw some.0 at h in read (unit_at limit section p.offset p.rest) is
  ]
    where
      not_none : ◌≡◌ {A = Result (Option UnitView) Error} (Err e) (Ok None) → ⊥
      not_none h = cc

      not_some : (u : UnitView) → ◌≡◌ {A = Result (Option UnitView) Error} (Err e) (Ok (Some u)) → ⊥
      not_some u h = cc

      read : (r : Reads UnitView) → ◌≡◌ {A = Next} (Err e, q) (next_by p r)
          → length q.rest.bytes ≡ 0
      read (Err f) is =
          let place : q ≡ record { rest = end_of_view p.rest; offset = p.offset } =
          ap (λ (n : Next). n.1) is in
          ap (λ (x : UnitsPlace). length x.rest.bytes) place
      read (Ok x) is = absurd (not_some x.0 (ap (λ (n : Next). n.0) is))

  -- the answers ahead of a place
  abbrev pub answers_ahead : UnitsPlace → List (Result UnitView Error)
  answers_ahead p = each_answer (units_ahead limit section p)

  -- an item of the iterator, whose units stand for f of them, is the first of the answers ahead
  pub first_answer : {A : Type 0}
      → (f : A → UnitView) (p : UnitsPlace) (r : Option (Result A Error)) (q : UnitsPlace)
      → IsNextUnit limit section p (answer_of (option_map f) (transpose r)) q
      → MatchOption r (answers_ahead p ≡ [])
      (λ x. answers_ahead p ≡ answer_of f x ∷ answers_ahead q)
  first_answer f p None q h = ap each_answer h.ahead
  first_answer f p (Some (Ok u)) q h = ap each_answer h.ahead
  first_answer f p (Some (Err e)) q h =
      ap each_answer h.ahead ∙ ap (λ us. Err e ∷ each_answer us)
      (sym (ahead_ended q (refused_ended p q e h.is)))

  module _ (v : View) where
    -- the place at an offset of the section
    abbrev place_at : ℕ → UnitsPlace
    place_at o = record { rest = cut o v; offset = o }

    header_at-here : (o : ℕ) → o ≤ length v.bytes
        → header_at limit section o v ≡ without_rest (unit_at limit section o (cut o v))
    unfolding header_at skip_at
    header_at-here o le = let t : nat_le o (length v.bytes) ≡ true = le-leb o (length v.bytes) le in
        rw t refl

    after-here : (o : ℕ) (u : UnitView) → after_unit u (place_at o) ≡ place_at (o + whole_length u)
    after-here o u = ap (λ w. record { rest = w; offset = o + whole_length u })
        (cut-cut o (whole_length u) v)

    -- the units from an offset on tile what is left from there on, and each is the header at its
    -- offset
    abbrev Lie : ℕ → Units → Type 0
    Lie o us = ((end : ℕ) × Tile o us.items end × EndsAt limit section v us.ending end)
        × All (IsHeaderAt limit section v) us.items

    lie_ended : (o : ℕ) → o ≤ length v.bytes → length (cut o v).bytes ≡ 0
        → Lie o (units_ahead limit section (place_at o))
    lie_ended o le none =
        let all : o ≡ length v.bytes = omega (arith, le, length-drop o v.bytes, none) in
        subst (Lie o) (sym (ahead_ended (place_at o) none))
        ((o, refl, all), All-nil (IsHeaderAt limit section v))

    lie_ahead : (n o : ℕ) → o ≤ length v.bytes → length v.bytes ≤ o + n
        → Lie o (units_ahead limit section (place_at o))
    lie_ahead zero o le enough =
        lie_ended o le (omega (arith, le, enough, length-drop o v.bytes))
    lie_ahead (suc n) o le enough = elim (eqb_tells (length (cut o v).bytes) 0) [
      | inl none ↦ lie_ended o le none.1
      | inr some ↦ by (unit_at limit section o (cut o v)) refl some.1 (λ p lt. lie_ahead n p lt)
    ]
      where
        by : (r : Reads UnitView) → r ≡ unit_at limit section o (cut o v)
            → (length (cut o v).bytes ≡ 0 → ⊥)
            → ((p : ℕ) → p ≤ length v.bytes → length v.bytes ≤ p + n
            → Lie p (units_ahead limit section (place_at p)))
            → Lie o (units_ahead limit section (place_at o))
        by (Err e) is some rest =
            let before : o < length v.bytes = omega (arith, length-drop o v.bytes, some) in
            subst (Lie o) (sym (ahead_refused (place_at o) e some is)) (
              (o, refl, (before, header_at-here o le ∙ ap without_rest (sym is))),
              All-nil (IsHeaderAt limit section v),
            )
        by (Ok q) is some rest =
            let u = q.0 in
            let known = unit_at-read limit section o (cut o v) u q.1 is in
            let after : o + whole_length u
            ≤ length v.bytes = omega (arith, known.within, length-drop o v.bytes, le) in
            let positive : 0 < whole_length u =
            omega (
              arith,
              shorter (place_at o) u q.1 is,
              length-drop (whole_length u) (cut o v).bytes,
            ) in
            let others = rest (o + whole_length u) after (omega (arith, enough, positive)) in
            let here : header_at limit section u.offset v
            ≡ Ok u = ap (λ k. header_at limit section k v) known.offset_is
            ∙ header_at-here o le ∙ ap without_rest (sym is) in
            let more = ahead_more (place_at o) u q.1 some is
            ∙ ap (λ p. then_item u (units_ahead limit section p)) (after-here o u) in
            subst (Lie o) (sym more) (
              (others.0.0, (known.offset_is, others.0.1), others.0.2),
              All-cons (IsHeaderAt limit section v) u _ here others.1,
            )

    lie : Lie 0 (units_of limit section v)
    lie =
        let begin : place_at 0 ≡ record { rest = v; offset = 0 } = rw add-zero refl in
        subst (λ p. Lie 0 (units_ahead limit section p)) begin
        (lie_ahead (length v.bytes) 0 (omega arith) (omega arith))

    -- the units of a section tile it
    pub units-tile : Tiles limit section v
    units-tile = lie.0

    -- the header at the offset of a unit is that unit
    pub units-found : All (IsHeaderAt limit section v) (units_of limit section v).items
    units-found = lie.1
