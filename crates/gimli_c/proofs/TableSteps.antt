-- The steps of a caller's attributes.
use Rattle.std.proofs.Common.{◌≡◌, ℕ, zero, suc, ◌+◌, ◌<◌, ◌≤◌, Bool, true, false, List, []}
use Rattle.std.proofs.Common.{◌∷◌, ◌++◌, map, take, drop, length, get_or, slice_set, Option, Some}
use Rattle.std.proofs.Common.{None, refl, sym, ap, ◌∙◌, arith}
use Rattle.std.proofs.lemmas.List.{take-append-le, take-take, take-map, length-take, map-append}
use Rattle.std.proofs.lemmas.List.{drop-set, drop_all, length-set}
use Rattle.std.proofs.Math.Seq.{map-set_same}
use Rattle.std.proofs.lemmas.List.Elements.{All-cons, All-nil}
use Rattle.gimli_base.specs.declared.common.Encoding.{Encoding}
use Rattle.gimli_base.specs.declared.step.Step.{Step}
use Rattle.gimli_base.specs.Abbreviations.{Specification, IsWellFormed}
use Rattle.gimli_base.specs.Steps.{IsRun, AddsValue, empty_step, is_ref8, step_size}
use Rattle.gimli_base.specs.Width.{attributes_size, form_size, known_sum}
use Rattle.gimli_c.specs.declared.table.GimliSpecification.{GimliSpecification}
use Rattle.gimli_c.specs.Tables.{specification_in, HasSteps}
use Rattle.gimli_c.specs.TableReads.{OwnSteps}

pub empty_run : (ss : List Specification) → IsRun empty_step (take 0 ss)
empty_run ss = record {
  counted = refl;
  well_formed = All-nil IsWellFormed;
  size = λ e. ap Some (omega arith);
  no_ref8 = λ _. All-nil (λ x. is_ref8 x ≡ false);
}

known_sum_comm : (m n : Option ℕ) → known_sum m n ≡ known_sum n m
known_sum_comm (Some m) (Some n) = ap Some (omega arith)
known_sum_comm (Some m) None = refl
known_sum_comm None (Some n) = refl
known_sum_comm None None = refl

-- a value before those of a step
pub longer_run : (x : Specification) (s t : Step) (ss : List Specification)
    → AddsValue x s t → IsRun s (take s.values ss)
    → IsRun t (take t.values (x ∷ ss))
longer_run x s t ss adds run =
    let more : t.values ≡ suc s.values = omega (arith, adds.counted) in
    let is : take t.values (x ∷ ss) ≡ x ∷ take s.values ss =
    ap (λ n. take n (x ∷ ss)) more in
    let size : (e : Encoding) → attributes_size e (x ∷ take s.values ss) ≡ Some (step_size e t) =
    λ e. ap (λ m. known_sum (form_size e x.form.0) m) (run.size e)
    ∙ known_sum_comm (form_size e x.form.0) (Some (step_size e s))
    ∙ sym (adds.size e) in
    rw is (record {
      counted = omega (arith, adds.counted, run.counted);
      well_formed = All-cons IsWellFormed x (take s.values ss) adds.well_formed run.well_formed;
      size = size;
      no_ref8 = λ none.
          let both = adds.no_ref8 none in
          All-cons (λ y. is_ref8 y ≡ false) x (take s.values ss) both.1 (run.no_ref8 both.0);
    })

-- a step has no more values than there are attributes
few : (n : ℕ) (ss : List Specification) → n ≡ length (take n ss) → n ≤ length ss
few n ss h = omega (arith, h, length-take n ss)

-- attributes and those after them
pub steps-append : (xs ys : List GimliSpecification) → OwnSteps xs → OwnSteps ys
    → OwnSteps (xs ++ ys)
steps-append [] ys h k = k
steps-append (x ∷ xs) ys h k =
    let own = map specification_in (x ∷ xs) in
    let within : x.step.values ≤ length own = few x.step.values own h.0.counted in
    let same : take x.step.values (map specification_in ((x ∷ xs) ++ ys))
    ≡ take x.step.values own =
    ap (take x.step.values) (map-append specification_in (x ∷ xs) ys)
    ∙ take-append-le x.step.values own (map specification_in ys) within in
    (rw same h.0, steps-append xs ys h.1 k)

-- such steps are those of their attributes,
pub own_steps : (ss : List GimliSpecification) → OwnSteps ss → HasSteps ss
own_steps [] h = tt
own_steps (s ∷ ss) h = (λ within. h.0, own_steps ss h.1)

-- also of a part of these
pub has-drop : (n : ℕ) (ss : List GimliSpecification) → HasSteps ss → HasSteps (drop n ss)
has-drop zero ss h = h
has-drop (suc n) [] h = h
has-drop (suc n) (s ∷ ss) h = has-drop n ss h.1

pub has-take : (n : ℕ) (ss : List GimliSpecification) → HasSteps ss → HasSteps (take n ss)
has-take zero ss h = tt
has-take (suc n) [] h = tt
has-take (suc n) (s ∷ ss) h =
    let few = length-take n ss in
    (λ within. rw (same within) (h.0 (omega (arith, within, few))), has-take n ss h.1)
  where
    same : s.step.values ≤ length (s ∷ take n ss)
        → take s.step.values (map specification_in (s ∷ take n ss))
        ≡ take s.step.values (map specification_in (s ∷ ss))
    same within =
        let m = suc n in
        let le : s.step.values ≤ m = omega (arith, within, length-take n ss) in
        take-map specification_in s.step.values (take m (s ∷ ss))
        ∙ ap (map specification_in) (take-take s.step.values m (s ∷ ss) le)
        ∙ sym (take-map specification_in s.step.values (s ∷ ss))

-- the steps of the attributes from i on are put, and the last that was put is t
pub record StepsPut (old now : List GimliSpecification) (i : ℕ) (t : Step) : Type 0 where
  pub same : map specification_in now ≡ map specification_in old
  pub within : i ≤ length now
  pub long : length now ≡ length old
  pub steps : OwnSteps (drop i now)
  pub run : IsRun t (take t.values (map specification_in (drop i now)))

pub put_begin : (ss : List GimliSpecification) → StepsPut ss ss (length ss) empty_step
put_begin ss = record {
  same = refl;
  within = omega arith;
  long = refl;
  steps = rw (drop_all (length ss) ss (omega arith)) tt;
  run = empty_run (map specification_in (drop (length ss) ss));
}

-- one more
module _ (old now : List GimliSpecification) (k i : ℕ) (s : Step) (p : StepsPut old now k s)
    (next : k ≡ i + 1) (d : GimliSpecification) where
  abbrev item : GimliSpecification
  item = get_or now i d

  put_more : (t : Step) → IsRun t
      (take t.values (specification_in item ∷ map specification_in (drop k now)))
      → StepsPut old (slice_set now i (record item { step = t })) i t
  put_more t run =
      let inside : i < length now = omega (arith, next, p.within) in
      let g : GimliSpecification = record item { step = t } in
      let is : drop i (slice_set now i g) ≡ g ∷ drop k now =
      drop-set now i g inside ∙ ap (λ n. g ∷ drop n now) (sym next) in
      let long : length (slice_set now i g) ≡ length now = length-set now i g in
      record {
        same = map-set_same specification_in now i g d refl ∙ p.same;
        within = omega (arith, inside, long);
        long = long ∙ p.long;
        steps = rw is (run, p.steps);
        run = rw is run;
      }

  -- its value is one of the step,
  pub put_longer : (t : Step) → AddsValue (specification_in item) s t
      → StepsPut old (slice_set now i (record item { step = t })) i t
  put_longer t adds = put_more t
      (longer_run (specification_in item) s t (map specification_in (drop k now)) adds p.run)

  -- or the only one of another, or of none
  pub put_other : (b : Bool) (t : Step)
      → (b ≡ true → AddsValue (specification_in item) empty_step t)
      → (b ≡ false → t ≡ empty_step)
      → StepsPut old (slice_set now i (record item { step = t })) i t
  put_other true t pushed kept = put_more t
      (longer_run (specification_in item) empty_step t (map specification_in (drop k now))
      (pushed refl) (empty_run (map specification_in (drop k now))))
  put_other false t pushed kept = put_more t
      (rw (kept refl)
      (empty_run (specification_in item ∷ map specification_in (drop k now))))
