-- The first that is made of the tuples ahead, as the reading of a tuple moves on.
use Rattle.std.specs.Prelude.{◌≡◌, ℕ, zero, suc, ◌+◌, ◌-◌, ◌*◌, ◌/◌, ◌<◌, ◌≤◌, nat_lt}
use Rattle.std.specs.Prelude.{if◌then◌else◌, true, false, List, [], ◌∷◌, ◌++◌, length, slice_get}
use Rattle.std.specs.Prelude.{Option, Some, None, option_and_then, Result, Ok, Err}
use Rattle.std.specs.List.{filter_map}
use Rattle.std.specs.Option.{option_to_list}
use Rattle.std.proofs.Common.{refl, sym, ap, ◌∙◌, arith, inl, inr, length-drop}
use Rattle.std.proofs.Math.Nat.{div-eq-sub-div, div-eq_of_lt}
use Rattle.std.proofs.lemmas.Bool.{lt-ltb, le-ltb}
use Rattle.std.proofs.lemmas.Bool.Decides.{leb_tells}
use Rattle.gimli_base.specs.declared.error.Error.{Error}
use Rattle.gimli_base.specs.View.{View, cut, end_of_view}
use Rattle.gimli_base.specs.Reading.{is_size}
use Rattle.gimli_base.proofs.Later.{cut-cut}
use Rattle.gimli_lists.specs.Aranges.{tuple_of, tuples_in, tuples_of, next_tuple}
use Rattle.gimli_lists.specs.Aranges.{count_before_first}
use Rattle.gimli_lists.specs.Aranges.{first_of_tuples}

-- what the reading of a tuple answers, and what it leaves
abbrev pub Next : Type 0
Next = Result (Option (ℕ × ℕ)) Error × View

-- the size of an address is not 0
pub some_bytes : (z : ℕ) → is_size z ≡ true → 0 < z
some_bytes zero h = absurd (cc)
some_bytes (suc n) h = omega arith

module _ (z : ℕ) (some : 0 < z) where
  -- where fewer bytes are left than a tuple has, there is none
  tuples_of-short : (v : View) → length v.bytes < 2 * z → tuples_of z v ≡ []
  unfolding tuples_of
  tuples_of-short v lt = ap (λ n. tuples_in n z v) (div-eq_of_lt lt)

  -- a tuple, and then those after it
  tuples_of-more : (v : View) → 2 * z ≤ length v.bytes
      → tuples_of z v ≡ tuple_of z v ∷ tuples_of z (cut (2 * z) v)
  unfolding tuples_of
  tuples_of-more v le =
      let positive : 0 < 2 * z = omega (arith, some) in
      let count : length v.bytes / (2 * z)
      ≡ suc ((length v.bytes - 2 * z) / (2 * z)) =
      omega (arith, div-eq-sub-div positive le) in
      let left : length v.bytes - 2 * z
      ≡ length (cut (2 * z) v).bytes = sym (length-drop (2 * z) v.bytes) in
      ap (λ n. tuples_in n z v) count
      ∙ ap (λ n. tuple_of z v ∷ tuples_in (n / (2 * z)) z (cut (2 * z) v)) left

  -- what holds where no tuple is left, and of a view where it holds after its first tuple, holds
  -- of each view
  pub by_tuples : (P : View → Type 0) → ((v : View) → length v.bytes < 2 * z → P v)
      → ((v : View) → 2 * z ≤ length v.bytes → P (cut (2 * z) v) → P v) → (v : View) → P v
  by_tuples P short more v = within (length v.bytes) v (omega arith)
    where
      within : (n : ℕ) (v : View) → length v.bytes ≤ n → P v
      within zero v le = short v (omega (arith, le, some))
      within (suc n) v le = elim (leb_tells (2 * z) (length v.bytes)) [
        | inl enough ↦ more v enough.1
            (within n (cut (2 * z) v)
            (omega (arith, length-drop (2 * z) v.bytes, enough.1, some, le)))
        | inr few ↦ short v (omega (arith, few.1))
      ]

  module _ {B : Type 0} (f : ℕ × ℕ → Option B) where
    -- what is left after n tuples of these and one more, or at the end where there are no more
    abbrev rest_after : View → List (ℕ × ℕ) → ℕ → View
    rest_after v ts n = if nat_lt n (length ts) then cut ((n + 1) * (2 * z)) v else end_of_view v

    abbrev First : Type 0
    First = Option B × View

    abbrev first_at : View → List (ℕ × ℕ) → ℕ → First
    first_at v ts n = (option_and_then f (slice_get ts n), rest_after v ts n)

    abbrev first_in : View → List (ℕ × ℕ) → First
    first_in v ts = first_at v ts (count_before_first f ts)

    first_here : (v : View) (t : ℕ × ℕ) (ts : List (ℕ × ℕ)) (b : B) → f t ≡ Some b
        → first_in v (t ∷ ts) ≡ (Some b, cut (2 * z) v)
    first_here v t ts b e =
        let n : count_before_first f (t ∷ ts) ≡ 0 = rw e refl in
        let lt : nat_lt 0 (length (t ∷ ts)) ≡ true = lt-ltb 0 (length (t ∷ ts)) (omega arith) in
        let one : (0 + 1) * (2 * z) ≡ 2 * z = omega arith in
        let rest : rest_after v (t ∷ ts) 0 ≡ cut (2 * z) v = rw lt (ap (λ k. cut k v) one) in
        let Pair : Type 0 = First in
        ap (first_at v (t ∷ ts)) n
        ∙ ap (λ (o : Option B). let y : Pair = (o, rest_after v (t ∷ ts) 0) in y) e
        ∙ ap (λ (w : View). let y : Pair = (Some b, w) in y) rest

    first_later : (v : View) (t : ℕ × ℕ) (ts : List (ℕ × ℕ)) → f t ≡ None → 2 * z ≤ length v.bytes
        → first_in v (t ∷ ts) ≡ first_in (cut (2 * z) v) ts
    first_later v t ts e le =
        let m = count_before_first f ts in
        let n : count_before_first f (t ∷ ts) ≡ suc m = rw e (omega arith) in
        let rest : rest_after v (t ∷ ts) (suc m)
        ≡ rest_after (cut (2 * z) v) ts m = elim (leb_tells (suc m) (length ts)) [
          | inl inside ↦
              let t1 : nat_lt (suc m) (length (t ∷ ts))
              ≡ true = lt-ltb (suc m) (length (t ∷ ts)) (omega (arith, inside.1)) in
              let both : cut ((m + 1) * (2 * z)) (cut (2 * z) v)
              ≡ cut ((suc m + 1) * (2 * z)) v =
              cut-cut (2 * z) ((m + 1) * (2 * z)) v ∙ ap (λ k. cut k v) (omega arith) in
              rw (t1, inside.0) (sym both)
          | inr past ↦
              let t1 : nat_lt (suc m) (length (t ∷ ts))
              ≡ false = le-ltb (suc m) (length (t ∷ ts)) (omega (arith, past.1)) in
              let same : end_of_view (cut (2 * z) v)
              ≡ end_of_view v = ap (λ k. record { big = v.big; place = k; bytes = [] })
              (omega (arith, length-drop (2 * z) v.bytes, le)) in
              rw (t1, past.0) (sym same)
        ] in
        let Pair : Type 0 = First in
        ap (first_at v (t ∷ ts)) n
        ∙ ap (λ (w : View). let y : Pair = (option_and_then f (slice_get ts m), w) in y) rest

    first_short : (v : View) → length v.bytes < 2 * z → first_of_tuples f z v
        ≡ (None, end_of_view v)
    unfolding first_of_tuples
    first_short v lt = ap (first_in v) (tuples_of-short v lt)

    -- something is made of the next tuple
    first_next : (v : View) (b : B) → 2 * z ≤ length v.bytes → f (tuple_of z v) ≡ Some b
        → first_of_tuples f z v ≡ (Some b, cut (2 * z) v)
    unfolding first_of_tuples
    first_next v b le e =
        ap (first_in v) (tuples_of-more v le)
        ∙ first_here v (tuple_of z v) (tuples_of z (cut (2 * z) v)) b e

    -- nothing is made of the next tuple
    first_over : (v : View) → 2 * z ≤ length v.bytes → f (tuple_of z v) ≡ None
        → first_of_tuples f z v ≡ first_of_tuples f z (cut (2 * z) v)
    unfolding first_of_tuples
    first_over v le e = ap (first_in v) (tuples_of-more v le)
        ∙ first_later v (tuple_of z v) (tuples_of z (cut (2 * z) v)) e le

    -- either of both, or no tuple is left
    abbrev Cases : (View → Type 0) → View → Type 0
    Cases P v = ((b : B) → f (tuple_of z v) ≡ Some b → P v) × (f (tuple_of z v) ≡ None → P v)

    by_cases : (P : View → Type 0) (v : View) → Cases P v → P v
    by_cases P v h = read (f (tuple_of z v)) refl
      where
        read : (o : Option B) → f (tuple_of z v) ≡ o → P v
        read None e = h.1 e
        read (Some b) e = h.0 b e

    -- what is made of the tuples is the first, and then what is made of those that it leaves
    pub made_of-first : (v : View)
        → filter_map f (tuples_of z v)
        ≡ option_to_list (first_of_tuples f z v).0
        ++ filter_map f (tuples_of z (first_of_tuples f z v).1)
    made_of-first v = by_tuples Holds short more v
      where
        Holds : View → Type 0
        Holds v = filter_map f (tuples_of z v)
            ≡ option_to_list (first_of_tuples f z v).0
            ++ filter_map f (tuples_of z (first_of_tuples f z v).1)

        short : (v : View) → length v.bytes < 2 * z → Holds v
        short v lt =
            let none : tuples_of z (end_of_view v)
            ≡ [] = tuples_of-short (end_of_view v) (omega (arith, some)) in
            rw (first_short v lt, tuples_of-short v lt, none) refl

        more : (v : View) → 2 * z ≤ length v.bytes → Holds (cut (2 * z) v) → Holds v
        more v le after = by_cases Holds v (
          (λ b e. rw (first_next v b le e, tuples_of-more v le, e) refl),
          (λ e. rw (first_over v le e, tuples_of-more v le, e) after),
        )

    -- where nothing is made of any tuple, there is no first
    pub made_of-none : (v : View) → (first_of_tuples f z v).0 ≡ None
        → filter_map f (tuples_of z v) ≡ []
    made_of-none v = by_tuples Holds short more v
      where
        Holds : View → Type 0
        Holds v = (first_of_tuples f z v).0 ≡ None → filter_map f (tuples_of z v) ≡ []

        short : (v : View) → length v.bytes < 2 * z → Holds v
        short v lt none = rw (tuples_of-short v lt) refl

        more : (v : View) → 2 * z ≤ length v.bytes → Holds (cut (2 * z) v) → Holds v
        more v le after = by_cases Holds v (
          (λ b e none.
              let one : Some b ≡ None = sym (ap (λ (p : First). p.0) (first_next v b le e))
              ∙ none in
              absurd (cc)),
          (λ e none. rw (tuples_of-more v le, e)
              (after (sym (ap (λ (p : First). p.0) (first_over v le e)) ∙ none))),
        )

    -- bytes are taken where something is made
    pub first_shorter : (v : View) (b : B) (w : View)
        → ◌≡◌ {A = First} (Some b, w) (first_of_tuples f z v) → length w.bytes < length v.bytes
    first_shorter v b w = by_tuples Holds short more v
      where
        Holds : View → Type 0
        Holds v = ◌≡◌ {A = First} (Some b, w) (first_of_tuples f z v)
            → length w.bytes < length v.bytes

        short : (v : View) → length v.bytes < 2 * z → Holds v
        short v lt h = let e : ◌≡◌ {A = First} (Some b, w) (None, end_of_view v) = h
            ∙ first_short v lt in
            absurd (cc (ap (λ (p : First). p.0) e))

        more : (v : View) → 2 * z ≤ length v.bytes → Holds (cut (2 * z) v) → Holds v
        more v le after = by_cases Holds v (
          (λ c e h.
              let is : ◌≡◌ {A = First} (Some b, w) (Some c, cut (2 * z) v) = h
              ∙ first_next v c le e in
              let left = ap (λ (p : First). length p.1.bytes) is ∙ length-drop (2 * z) v.bytes in
              omega (arith, left, le, some)),
          (λ e h. let lt = after (h ∙ first_over v le e) in
              omega (arith, lt, length-drop (2 * z) v.bytes)),
        )

    -- the next tuple, by whether there are bytes enough
    by_next : (P : Next → Type 0) (v : View)
        → (2 * z ≤ length v.bytes → P (Ok (Some (tuple_of z v)), cut (2 * z) v))
        → (length v.bytes < 2 * z → P (Ok None, end_of_view v)) → P (next_tuple z v)
    by_next P v h k = elim (leb_tells (2 * z) (length v.bytes))
        [ inl enough ↦ rw enough.0 (h enough.1) | inr few ↦ rw few.0 (k few.1) ]

    -- the reading of a tuple is not refused
    pub next_found : (v : View) (e : Error) (w : View) → ◌≡◌ {A = Next} (Err e, w) (next_tuple z v)
        → ⊥
    next_found v e w = by_next (λ n. ◌≡◌ {A = Next} (Err e, w) n → ⊥) v
        (λ _ h. cc (ap (λ (n : Next). n.0) h)) (λ _ h. cc (ap (λ (n : Next). n.0) h))

    -- where there is no next tuple, nothing is made, and nothing is left
    pub next_none : (v w : View) → ◌≡◌ {A = Next} (Ok None, w) (next_tuple z v)
        → first_of_tuples f z v ≡ (None, w)
    next_none v w = by_next (λ n. ◌≡◌ {A = Next} (Ok None, w) n → first_of_tuples f z v ≡ (None, w))
        v
        (λ _ h. absurd (cc (ap (λ (n : Next). n.0) h)))
        (λ lt h. first_short v lt ∙ ap (λ (n : Next). let y : First = (None, n.1) in y) (sym h))

    -- what was read as a tuple is the view's first
    abbrev Reads : View → ℕ × ℕ → View → Type 0
    Reads v t w = (2 * z ≤ length v.bytes) × (tuple_of z v ≡ t) × (cut (2 * z) v ≡ w)

    next_reads : (v : View) (t : ℕ × ℕ) (w : View)
        → ◌≡◌ {A = Next} (Ok (Some t), w) (next_tuple z v) → Reads v t w
    next_reads v t w = by_next (λ n. ◌≡◌ {A = Next} (Ok (Some t), w) n → Reads v t w) v
        (λ le h.
        let same : ◌≡◌ {A = Result (Option (ℕ × ℕ)) Error} (Ok (Some t))
        (Ok (Some (tuple_of z v))) = ap (λ (n : Next). n.0) h in
        let is : tuple_of z v ≡ t = cc in
        (le, is, sym (ap (λ (n : Next). n.1) h)))
        (λ _ h. absurd (cc (ap (λ (n : Next). n.0) h)))

    -- something is made of the tuple that was read
    pub next_some : (v : View) (t : ℕ × ℕ) (w : View) (b : B)
        → ◌≡◌ {A = Next} (Ok (Some t), w) (next_tuple z v) → f t ≡ Some b
        → first_of_tuples f z v ≡ (Some b, w)
    next_some v t w b h e =
        let is = next_reads v t w h in
        first_next v b is.0 (ap f is.1 ∙ e)
        ∙ ap (λ (u : View). let y : First = (Some b, u) in y) is.2

    -- nothing is made of the tuple that was read
    pub next_over : (v : View) (t : ℕ × ℕ) (w : View)
        → ◌≡◌ {A = Next} (Ok (Some t), w) (next_tuple z v) → f t ≡ None
        → first_of_tuples f z v ≡ first_of_tuples f z w
    next_over v t w h e =
        let is = next_reads v t w h in
        first_over v is.0 (ap f is.1 ∙ e) ∙ ap (first_of_tuples f z) is.2

    -- a tuple takes bytes
    pub next_shorter : (v : View) (t : ℕ × ℕ) (w : View)
        → ◌≡◌ {A = Next} (Ok (Some t), w) (next_tuple z v) → length w.bytes < length v.bytes
    next_shorter v t w h =
        let is = next_reads v t w h in
        omega
        (arith, ap (λ (u : View). length u.bytes) is.2, length-drop (2 * z) v.bytes, is.0, some)

  -- the first that `g` makes of what `f` makes, by the first that `f` makes
  module _ {B C : Type 0} (f : ℕ × ℕ → Option B) (g : B → Option C) where
    abbrev Last : Type 0
    Last = Option C × View

    abbrev pub both : ℕ × ℕ → Option C
    both t = option_and_then g (f t)

    abbrev pub continued : Option C → View → Last
    continued (Some c) w = (Some c, w)
    continued None w = first_of_tuples both z w

    abbrev pub through : Option B → View → Last
    through None w = (None, w)
    through (Some b) w = continued (g b) w

    pub first_through : (v : View)
        → first_of_tuples both z v ≡ through (first_of_tuples f z v).0 (first_of_tuples f z v).1
    first_through v = by_tuples Holds short more v
      where
        Holds : View → Type 0
        Holds v = first_of_tuples both z v
            ≡ through (first_of_tuples f z v).0 (first_of_tuples f z v).1

        short : (v : View) → length v.bytes < 2 * z → Holds v
        short v lt = rw (first_short f v lt) (first_short both v lt)

        kept : (v : View) (b : B) → 2 * z ≤ length v.bytes → f (tuple_of z v) ≡ Some b
            → (o : Option C) → g b ≡ o → Holds v
        kept v b le e (Some c) h =
            rw (first_next f v b le e)
            (first_next both v c le (ap (option_and_then g) e ∙ h)
            ∙ sym (ap (λ o. continued o (cut (2 * z) v)) h))
        kept v b le e None h =
            rw (first_next f v b le e)
            (first_over both v le (ap (option_and_then g) e ∙ h)
            ∙ sym (ap (λ o. continued o (cut (2 * z) v)) h))

        more : (v : View) → 2 * z ≤ length v.bytes → Holds (cut (2 * z) v) → Holds v
        more v le after = by_cases f Holds v (
          (λ b e. kept v b le e (g b) refl),
          (λ e. rw (first_over f v le e)
              (first_over both v le (ap (option_and_then g) e) ∙ after)),
        )
