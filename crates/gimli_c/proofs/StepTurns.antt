-- A turn of the loop that passes attributes by their steps.
use Rattle.std.proofs.Common.{◌≡◌, ℕ, ◌+◌, ◌-◌, ◌≤◌, List, [], ◌∷◌, map}
use Rattle.std.proofs.Common.{take, drop, length, Ok, Err, refl, sym, ap, ◌∙◌, arith}
use Rattle.std.proofs.Common.{length-drop}
use Rattle.std.proofs.lemmas.List.{drop-map, take_all, drop-drop}
use Rattle.gimli_base.specs.declared.common.Encoding.{Encoding}
use Rattle.gimli_base.specs.declared.error.Error.{Error}
use Rattle.gimli_base.specs.View.{View}
use Rattle.gimli_base.specs.Abbreviations.{Specification}
use Rattle.gimli_base.specs.Steps.{IsRun}
use Rattle.gimli_units.specs.Entry.{attribute_at, attributes_at}
use Rattle.gimli_units.specs.Sized.{left_by}
use Rattle.gimli_units.proofs.ReadTurns.{left_by_all, turn_run}
use Rattle.gimli_c.specs.declared.table.GimliSpecification.{GimliSpecification}
use Rattle.gimli_c.specs.Tables.{specification_in, HasSteps}
use Rattle.gimli_c.proofs.TableSteps.{has-drop}

-- the values of a step are those of the first of its attributes
own_run : (s : GimliSpecification) (ss tail : List GimliSpecification) → ss ≡ s ∷ tail
    → HasSteps ss → s.step.values ≤ length ss
    → IsRun s.step (take s.step.values (map specification_in ss))
own_run s ss tail is has fits = rw is ((rw is at has).0 (rw is at fits))

-- all attributes from `start` on are passed
pub none_left : (limit : ℕ) (e : Encoding) (all left : List GimliSpecification) (start v : View)
    → left_by (attributes_at limit e (map specification_in all) start)
    ≡ left_by (attributes_at limit e (map specification_in left) v) → left ≡ []
    → Ok (tt {0}, v) ≡ left_by (attributes_at limit e (map specification_in all) start)
unfolding attributes_at
none_left limit e all left start v so_far none = sym (so_far ∙ rw none refl)

-- or they are passed up to these, which begin at v
module _ (limit : ℕ) (e : Encoding) (all left : List GimliSpecification) (start v : View)
    (so_far : left_by (attributes_at limit e (map specification_in all) start)
    ≡ left_by (attributes_at limit e (map specification_in left) v))
    (has : HasSteps left) (s : GimliSpecification) (tail : List GimliSpecification)
    (is : left ≡ s ∷ tail) (fits : s.step.values ≤ length left) (w : View)
    (did : (ss : List Specification) → IsRun s.step ss
    → Ok (tt {0}, w) ≡ left_by (attributes_at limit e ss v))
    (rest : List GimliSpecification)
    (rest_is : take (length left - s.step.values) (drop s.step.values left) ≡ rest) where
  others : drop s.step.values left ≡ rest
  others =
      sym
      (take_all (length left - s.step.values) (drop s.step.values left)
      (omega (arith, length-drop s.step.values left)))
      ∙ rest_is

  passed : left_by (attributes_at limit e (map specification_in all) start)
      ≡ left_by (attributes_at limit e (map specification_in rest) w)
  passed =
      let run = own_run s left tail is has fits in
      let n = s.step.values in
      let zero_more : 0 + n ≡ n = omega arith in
      let turned : left_by (attributes_at limit e (map specification_in left) v)
      ≡ left_by (attributes_at limit e (drop n (map specification_in left)) w) =
      rw zero_more at (turn_run limit e (map specification_in left) 0 v v refl n tt w
      (did (take n (map specification_in left)) run)) in
      so_far ∙ turned
      ∙ ap (λ ss. left_by (attributes_at limit e ss w))
      (drop-map specification_in s.step.values left ∙ ap (map specification_in) others)

  -- none is left,
  pub steps_end : rest ≡ []
      → Ok (tt {0}, w) ≡ left_by (attributes_at limit e (map specification_in all) start)
  unfolding attributes_at
  steps_end none = sym (passed ∙ rw none refl)

  -- or there is a value after them
  module _ (x : GimliSpecification) (more : List GimliSpecification) (there : rest ≡ x ∷ more) where
    pub value_refused : (r : Error) → Err r ≡ left_by (attribute_at limit e (specification_in x) w)
        → Err r ≡ left_by (attributes_at limit e (map specification_in all) start)
    value_refused r h =
        sym
        (passed ∙ rw there
        (left_by_all limit e (specification_in x) (map specification_in more) w ∙ rw (← h) refl))

    pub value_passed : (y : View)
        → Ok (tt {0}, y) ≡ left_by (attribute_at limit e (specification_in x) w)
        → left_by (attributes_at limit e (map specification_in all) start)
        ≡ left_by (attributes_at limit e (map specification_in more) y)
    value_passed y h =
        passed ∙ rw there
        (left_by_all limit e (specification_in x) (map specification_in more) w ∙ rw (← h) refl)

    pub more_has : HasSteps more
    more_has =
        let after : drop (s.step.values + 1) left ≡ more =
        sym (drop-drop 1 s.step.values left) ∙ ap (drop 1) (others ∙ there) in
        rw after at (has-drop (s.step.values + 1) left has)
