-- A turn of the loop that passes attributes as they are read.
use Rattle.std.proofs.Common.{◌≡◌, ℕ, ◌+◌, ◌<◌, ◌≤◌, List, [], ◌∷◌, ◌++◌, Ok, Err, refl, sym, ap, ◌∙◌}
use Rattle.std.proofs.Common.{take, drop, length, get_or}
use Rattle.std.proofs.lemmas.List.{drop_more, drop_all, take-append-drop, drop-drop}
use Rattle.gimli_base.specs.declared.common.Encoding.{Encoding}
use Rattle.gimli_base.specs.declared.error.Error.{Error}
use Rattle.gimli_base.specs.View.{View}
use Rattle.gimli_base.specs.Reading.{Reads, ◌>>=◌, map_read}
use Rattle.gimli_base.specs.Abbreviations.{Specification}
use Rattle.gimli_units.specs.Entry.{Attr, attribute_at, attributes_at}
use Rattle.gimli_units.specs.Sized.{left_by}

-- a value, and then the others
left_by_both : (r : Reads Attr) (f : View → Reads (List Attr))
    → left_by (r >>= λ p. map_read (λ xs. p.0 ∷ xs) (f p.1))
    ≡ (left_by r >>= λ p. left_by (f p.1))
left_by_both (Err e) f = refl
left_by_both (Ok p) f = cases (f p.1)
  where
    cases : (r : Reads (List Attr)) → left_by (map_read (λ xs. p.0 ∷ xs) r) ≡ left_by r
    cases (Ok q) = refl
    cases (Err e) = refl

-- the attributes of these specifications, which are passed
pub left_by_all : (limit : ℕ) (e : Encoding) (s : Specification) (ss : List Specification) (v : View)
    → left_by (attributes_at limit e (s ∷ ss) v)
    ≡ (left_by (attribute_at limit e s v) >>= λ p. left_by (attributes_at limit e ss p.1))
unfolding attributes_at
left_by_all limit e s ss v = left_by_both (attribute_at limit e s v) (attributes_at limit e ss)

-- some attributes are passed, and then the others
left_by_append : (limit : ℕ) (e : Encoding) (ss ts : List Specification) (v : View)
    → left_by (attributes_at limit e (ss ++ ts) v)
    ≡ (left_by (attributes_at limit e ss v) >>= λ p. left_by (attributes_at limit e ts p.1))
unfolding attributes_at
left_by_append limit e [] ts v = refl
left_by_append limit e (s ∷ ss) ts v =
    left_by_all limit e s (ss ++ ts) v
    ∙ cases (left_by (attribute_at limit e s v)) (λ w. left_by_append limit e ss ts w)
    ∙ ap (λ (r : Reads (Unit {0})). r >>= λ p. left_by (attributes_at limit e ts p.1))
    (sym (left_by_all limit e s ss v))
  where
    cases : (r : Reads (Unit {0}))
        → ((w : View) → left_by (attributes_at limit e (ss ++ ts) w)
        ≡ (left_by (attributes_at limit e ss w) >>= λ p. left_by (attributes_at limit e ts p.1)))
        → (r >>= λ p. left_by (attributes_at limit e (ss ++ ts) p.1))
        ≡ ((r >>= λ p. left_by (attributes_at limit e ss p.1))
        >>= λ p. left_by (attributes_at limit e ts p.1))
    cases (Ok p) more = more p.1
    cases (Err x) more = refl

-- the first i attributes are passed
module _ (limit : ℕ) (e : Encoding) (ss : List Specification) (i : ℕ) (all v : View)
    (so_far : left_by (attributes_at limit e ss all)
    ≡ left_by (attributes_at limit e (drop i ss) v)) where
  next : (s : Specification) → i < length ss → s ≡ get_or ss i s
      → left_by (attributes_at limit e ss all)
      ≡ (left_by (attribute_at limit e s v)
      >>= λ p. left_by (attributes_at limit e (drop (i + 1) ss) p.1))
  next s lt is =
      so_far
      ∙ ap (λ fs. left_by (attributes_at limit e fs v))
      (drop_more ss i s lt ∙ ap (λ x. x ∷ drop (i + 1) ss) (sym is))
      ∙ left_by_all limit e s (drop (i + 1) ss) v

  pub turn_refused : (s : Specification) (r : Error) → i < length ss → s ≡ get_or ss i s
      → Err r ≡ left_by (attribute_at limit e s v)
      → Err r ≡ left_by (attributes_at limit e ss all)
  turn_refused s r lt is h = sym (next s lt is ∙ rw (← h) refl)

  pub turn_passed : (s : Specification) (x : Unit {0}) (w : View) → i < length ss
      → s ≡ get_or ss i s → Ok (x, w) ≡ left_by (attribute_at limit e s v)
      → left_by (attributes_at limit e ss all)
      ≡ left_by (attributes_at limit e (drop (i + 1) ss) w)
  turn_passed s x w lt is h = next s lt is ∙ rw (← h) refl

  -- the next ones are passed as one
  pub turn_run : (count : ℕ) (x : Unit {0}) (w : View)
      → Ok (x, w) ≡ left_by (attributes_at limit e (take count (drop i ss)) v)
      → left_by (attributes_at limit e ss all)
      ≡ left_by (attributes_at limit e (drop (i + count) ss) w)
  turn_run count x w h =
      so_far
      ∙ ap (λ fs. left_by (attributes_at limit e fs v)) (sym (take-append-drop count (drop i ss)))
      ∙ left_by_append limit e (take count (drop i ss)) (drop count (drop i ss)) v
      ∙ rw (← h) (ap (λ fs. left_by (attributes_at limit e fs w)) (drop-drop count i ss))

  pub turn_end : length ss ≤ i → Ok (tt, v) ≡ left_by (attributes_at limit e ss all)
  unfolding attributes_at
  turn_end le =
      sym (so_far ∙ ap (λ fs. left_by (attributes_at limit e fs v)) (drop_all i ss le))
