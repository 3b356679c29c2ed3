-- The innermost open entry, which is the last of a list.
use Rattle.std.proofs.Common.{◌≡◌, ℕ, suc, ◌-◌, ℤ, pos, ◌+ℤ◌, ◌-ℤ◌, true, List, [], ◌∷◌, ◌++◌, map}
use Rattle.std.proofs.Common.{take, length, Option, Some, None, refl, sym, ap, ◌∙◌, arith}
use Rattle.std.proofs.Common.{length-append}
use Rattle.std.specs.Prelude.{◌≤ℤ◌, slice_get}
use Rattle.std.proofs.lemmas.Int.{ints}
use Rattle.std.proofs.lemmas.List.{map-append}
use Rattle.gimli_units.specs.Entry.{is_null}
use Rattle.gimli_units.specs.Rows.{Row}
use Rattle.gimli_headers.specs.declared.siblings.Open.{Open}
use Rattle.gimli_headers.specs.OpenRows.{OpenRow, open_of, Rise, judgement}
use Rattle.gimli_headers.proofs.OpenTurns.{rise_out, rise_up, rise_on, null_passed, null_closed}
use Rattle.gimli_headers.proofs.OpenTurns.{null_closed_badly}

-- the last of a list, after the others
last_split : {X : Type 0} → (xs : List X) (x : X) → slice_get xs (length xs - 1) ≡ Some x
    → xs ≡ take (length xs - 1) xs ++ x ∷ []
last_split [] x h = absurd (cc)
last_split {X} (y ∷ []) x h = let same : y ≡ x = cc in ap (λ (z : X). z ∷ []) same
last_split {X} (y ∷ z ∷ zs) x h =
    let place : length (y ∷ z ∷ zs) - 1 ≡ suc (length (z ∷ zs) - 1) = omega arith in
    let rest = last_split (z ∷ zs) x (rw place at h) in
    rw place (ap (λ (ws : List X). y ∷ ws) rest)

last_none : {X : Type 0} → (xs : List X) → slice_get xs (length xs - 1) ≡ None → xs ≡ []
last_none [] h = refl
last_none {X} (y ∷ []) h = absurd (let e : ◌≡◌ {A = Option X} (Some y) None = h in cc)
last_none {X} (y ∷ z ∷ zs) h =
    let place : length (y ∷ z ∷ zs) - 1 ≡ suc (length (z ∷ zs) - 1) = omega arith in
    let none = last_none (z ∷ zs) (rw place at h) in absurd (cc)

last_is : {X : Type 0} → (outer : List X) (x : X)
    → slice_get (outer ++ x ∷ []) (length (outer ++ x ∷ []) - 1) ≡ Some x
last_is [] x = refl
last_is (y ∷ ys) x =
    let place : length ((y ∷ ys) ++ x ∷ []) - 1
    ≡ suc (length (ys ++ x ∷ []) - 1) = omega (arith, length-append ys (x ∷ [])) in
    rw place (last_is ys x)

module _ {O : Type 0} (g : O → ℕ) (depth : ℤ) (items : List (Open O))
    (rise : Rise depth (map (open_of g) items)) where
  abbrev lasts : Option (Open O)
  lasts = slice_get items (length items - 1)

  parts : (x : Open O) → lasts ≡ Some x
      → map (open_of g) items ≡ map (open_of g) (take (length items - 1) items) ++ open_of g x ∷ []
  parts x h = ap (map (open_of g)) (last_split items x h)
      ∙ map-append (open_of g) (take (length items - 1) items) (x ∷ [])

  -- the innermost is less deep than the place, and the others than it
  both : (x : Open O) → lasts ≡ Some x
      → ((x.depth +ℤ pos 1) ≤ℤ depth)
      × Rise x.depth (map (open_of g) (take (length items - 1) items))
  both x h = rise_out depth (map (open_of g) (take (length items - 1) items)) (open_of g x)
      (rw (parts x h) at rise)

  pub innermost_less : (x : Open O) → lasts ≡ Some x → (x.depth +ℤ pos 1) ≤ℤ depth
  innermost_less x h = (both x h).0

  -- none is open
  pub none_rise : lasts ≡ None → Rise (depth -ℤ pos 1) (map (open_of g) items)
  none_rise h = rw (last_none items h) tt

  -- where the innermost is not closed, each is less deep than what is after the null
  pub other_rise : (x : Open O) → lasts ≡ Some x → ((x.depth +ℤ pos 1) ≡ depth → ⊥)
      → Rise (depth -ℤ pos 1) (map (open_of g) items)
  other_rise x h other =
      let outer : List OpenRow = map (open_of g) (take (length items - 1) items) in
      let all : Rise depth (outer ++ open_of g x ∷ []) = rw (parts x h) at rise in
      rw (parts x h) (rise_on depth (outer ++ open_of g x ∷ []) all (last_other outer))
    where
      last_other : (os outer : List OpenRow) (z : OpenRow)
          → os ++ open_of g x ∷ [] ≡ outer ++ z ∷ [] → (z.depth +ℤ pos 1) ≡ depth → ⊥
      last_other os outer z is e =
          let both : ◌≡◌ {A = Option OpenRow} (Some (open_of g x)) (Some z) =
          sym (last_is os (open_of g x))
          ∙ ap (λ (ws : List OpenRow). slice_get ws (length ws - 1)) is ∙ last_is outer z in
          let same : open_of g x ≡ z = cc in
          other (ap (λ (w : OpenRow). w.depth +ℤ pos 1) same ∙ e)

  pub closed_rise : (x : Open O) (left : List (Open O)) → lasts ≡ Some x
      → (x.depth +ℤ pos 1) ≡ depth → left ≡ take (length items - 1) items
      → Rise (depth -ℤ pos 1) (map (open_of g) left)
  closed_rise x left h deep is =
      rw is
      (rise_up x.depth (depth -ℤ pos 1) (map (open_of g) (take (length items - 1) items))
      (omega (arith, ints, deep)) (both x h).1)

  module _ (end : ℕ) (first : Option ℕ) (r : Row) (rest : List Row) (null : is_null r.entry ≡ true)
      (at : r.depth ≡ depth) where
    -- a null that closes none
    pub stays : Rise (depth -ℤ pos 1) (map (open_of g) items)
        → judgement end (record { opens = map (open_of g) items; first = first }) rest
        ≡ judgement end (record { opens = map (open_of g) items; first = first }) (r ∷ rest)
    stays low = null_passed end (map (open_of g) items) r rest first null (rw at low)

    -- one that closes the innermost
    pub closes_well : (x : Open O) (left : List (Open O)) → lasts ≡ Some x
        → (x.depth +ℤ pos 1) ≡ depth → left ≡ take (length items - 1) items → g x.target.0 ≡ r.next
        → judgement end (record { opens = map (open_of g) left; first = first }) rest
        ≡ judgement end (record { opens = map (open_of g) items; first = first }) (r ∷ rest)
    closes_well x left h deep is well =
        let outer : List OpenRow = map (open_of g) (take (length items - 1) items) in
        rw (is, parts x h)
        (null_closed end outer r rest (open_of g x) first null (deep ∙ sym at) (both x h).1
        well)

    pub closes_badly : (x : Open O) (left : List (Open O)) → lasts ≡ Some x
        → (x.depth +ℤ pos 1) ≡ depth → left ≡ take (length items - 1) items
        → (g x.target.0 ≡ r.next → ⊥)
        → judgement end (record { opens = map (open_of g) left; first = Some (g x.offset.0) }) rest
        ≡ judgement end (record { opens = map (open_of g) items; first = first }) (r ∷ rest)
    closes_badly x left h deep is badly =
        let outer : List OpenRow = map (open_of g) (take (length items - 1) items) in
        rw (is, parts x h)
        (null_closed_badly end outer r rest (open_of g x) first null (deep ∙ sym at)
        (both x h).1 badly)
