-- The values of an entry are passed by its steps as they are read.
use Rattle.std.specs.Prelude.{◌≡◌, ℕ, ◌-◌, ◌&&◌, ◌||◌, not, Bool, true, false, length, take}
use Rattle.std.specs.Prelude.{drop, List}
use Rattle.std.specs.Prelude.{[], ◌∷◌, Option, Some, None, is_some, Ok, Err}
use Rattle.std.specs.List.{AllByRecursion}
use Rattle.std.specs.Option.{option_map, option_flatten}
use Rattle.std.proofs.Common.{refl, sym, ap, ◌∙◌, arith, length-drop}
use Rattle.std.proofs.lemmas.List.{take-append-drop, take_all, nil_from_length}
use Rattle.std.proofs.lemmas.List.Elements.{recursion_from_All}
use Rattle.gimli_base.specs.declared.common.Encoding.{Encoding}
use Rattle.gimli_base.specs.declared.error.Error.{Error}
use Rattle.gimli_base.specs.declared.step.Step.{Step}
use Rattle.gimli_base.specs.View.{View}
use Rattle.gimli_base.specs.Reading.{Reads, ◌>>=◌, map_read}
use Rattle.gimli_base.specs.Abbreviations.{Specification}
use Rattle.gimli_base.specs.Steps.{AreSteps, AfterStep, is_sibling}
use Rattle.gimli_units.specs.Value.{Value}
use Rattle.gimli_units.specs.Form.{value_at}
use Rattle.gimli_units.specs.Kind.{unit_reference}
use Rattle.gimli_units.specs.Entry.{with_value, attribute_at, attributes_at}
use Rattle.gimli_units.specs.declared.offset.UnitOffset.{UnitOffset}
use Rattle.gimli_units.specs.Sized.{found_numbers, left_by, find_in, found_at}
use Rattle.gimli_units.specs.Sized.{found_or, sibling_after}
use Rattle.gimli_units.proofs.ReadTurns.{left_by_all}
use Rattle.gimli_units.proofs.SiblingReads.{turn, run_passed}

pub not_true : (b : Bool) → not b ≡ true → b ≡ false
not_true true h = absurd (cc)
not_true false h = refl

pub not_false : (b : Bool) → not b ≡ false → b ≡ true
not_false true h = refl
not_false false h = absurd (cc)

-- after the last value
pub found_end : (found : Option (Option ℕ)) → found_or found [] ≡ option_flatten found
found_end (Some o) = refl
found_end None = refl

-- values are left, which begin at v, and these are their steps
pub record StepsLeft (limit : ℕ) (e : Encoding) (all : List Specification)
    (sought : Option (Option ℕ)) (start : View) (steps : List Step) (left : List Specification)
    (found : Option (Option ℕ)) (v : View) : Type 0 where
  pub seen : Bool
  pub is_found : found ≡ None → seen ≡ false
  pub are_steps : AreSteps seen steps left
  pub same : sibling_after limit e all sought start ≡ sibling_after limit e left found v

-- the values of a step are passed, and what is left begins at v
pub record StepsPassed (limit : ℕ) (e : Encoding) (all : List Specification)
    (sought : Option (Option ℕ)) (start : View) (steps : List Step) (left : List Specification)
    (found : Option (Option ℕ)) (v : View) : Type 0 where
  pub seen : Bool
  pub is_found : found ≡ None → seen ≡ false
  pub after : AfterStep (λ x rest. AreSteps (seen || is_sibling x) steps rest) steps left
  pub same : sibling_after limit e all sought start ≡ sibling_after limit e left found v

pub steps_begin : (limit : ℕ) (e : Encoding) (all : List Specification)
    (sought : Option (Option ℕ)) (start : View) (steps : List Step) → AreSteps false steps all
    → StepsLeft limit e all sought start steps all sought start
steps_begin limit e all sought start steps are =
    record { seen = false; is_found = λ _. refl; are_steps = are; same = refl }

-- what is found, by the numbers of offsets
module _ {O : Type 0} (f : O → ℕ) where
  pub flatten_numbers : (found : Option (Option (UnitOffset O)))
      → option_map (λ o. f o.0) (option_flatten found) ≡ option_flatten (found_numbers f found)
  flatten_numbers (Some o) = refl
  flatten_numbers None = refl

  pub none_numbers : (found : Option (Option (UnitOffset O))) → is_some found ≡ false
      → found_numbers f found ≡ None
  none_numbers (Some o) h = absurd (cc)
  none_numbers None h = refl

  pub some_numbers : (found : Option (Option (UnitOffset O))) (b : Bool) → is_some found ≡ true
      → found_numbers f found ≡ None → b ≡ false
  some_numbers (Some o) b h none = absurd (cc)
  some_numbers None b h none = absurd (cc)

-- some values are left
module _ (limit : ℕ) (e : Encoding) (all left : List Specification)
    (sought found : Option (Option ℕ)) (start v : View)
    (same : sibling_after limit e all sought start ≡ sibling_after limit e left found v) where
  -- none of them
  pub all_passed : length left ≡ 0
      → Ok (option_flatten found, v) ≡ sibling_after limit e all sought start
  unfolding attributes_at
  all_passed none =
      sym
      (same ∙ rw (nil_from_length left none) (ap (λ (o : Option ℕ). Ok (o, v)) (found_end found)))

  -- one, and others
  module _ (s : Specification) (rest : List Specification) (is : left ≡ s ∷ rest) where
    next : sibling_after limit e all sought start
        ≡ (found_at limit e s found v >>= λ q. sibling_after limit e rest q.0 q.1)
    next = same ∙ ap (λ ss. sibling_after limit e ss found v) is ∙ turn limit e s rest found v

    pub one_refused : (r : Error) → Err r ≡ found_at limit e s found v
        → Err r ≡ sibling_after limit e all sought start
    one_refused r h = sym (next ∙ rw (← h) refl)

    pub one_passed : (after : Option (Option ℕ)) (w : View)
        → Ok (after, w) ≡ found_at limit e s found v
        → sibling_after limit e all sought start ≡ sibling_after limit e rest after w
    one_passed after w h = next ∙ rw (← h) refl

-- where nothing is found with an attribute more, nothing was found before, and it is no
-- DW_AT_sibling
none_found : (s : Specification) (found after : Option (Option ℕ)) (w : View) (r : Reads Value)
    → Ok (after, w) ≡ map_read (find_in found) (map_read (with_value s) r) → after ≡ None
    → (found ≡ None) × (is_sibling s ≡ false)
none_found s found after w (Err x) h none = absurd (cc)
none_found s (Some o) after w (Ok p) h none =
    let pair : ◌≡◌ {A = Option (Option ℕ) × View} (after, w) (Some o, p.1) = cc in
    let is : after ≡ Some o = ap (λ (q : Option (Option ℕ) × View). q.0) pair in
    let no : ◌≡◌ {A = Option (Option ℕ)} (Some o) None = sym is ∙ none in
    absurd (cc)
none_found s None after w (Ok p) h none = sort (is_sibling s) refl h
  where
    sort : (t : Bool) → is_sibling s ≡ t
        → ◌≡◌ {A = Reads (Option (Option ℕ))} (Ok (after, w))
        (map_read (find_in None) (map_read (with_value s) (Ok p)))
        → ◌≡◌ {A = Option (Option ℕ)} None None × (is_sibling s ≡ false)
    sort true i k =
        let some : ◌≡◌ {A = Reads (Option (Option ℕ))} (Ok (after, w))
        (Ok (Some (unit_reference p.0), p.1)) = rw i at k in
        let pair : ◌≡◌ {A = Option (Option ℕ) × View} (after, w) (Some (unit_reference p.0), p.1)
        = cc in
        let is : after ≡ Some (unit_reference p.0) =
        ap (λ (q : Option (Option ℕ) × View). q.0) pair in
        let no : ◌≡◌ {A = Option (Option ℕ)} (Some (unit_reference p.0)) None = sym is ∙ none in
        absurd (cc)
    sort false i k = (refl, i)

-- the values of a step are passed
module _ (limit : ℕ) (e : Encoding) (all : List Specification) (sought : Option (Option ℕ))
    (start : View) (step : Step) (steps : List Step) (left : List Specification)
    (found : Option (Option ℕ)) (v w : View)
    (state : StepsLeft limit e all sought start (step ∷ steps) left found v)
    (passed : Ok (tt, w) ≡ left_by (attributes_at limit e (take step.values left) v)) where
  abbrev run : List Specification
  run = take step.values left

  no_sibling : found ≡ None → AllByRecursion (λ s. is_sibling s ≡ false) run
  no_sibling none = recursion_from_All (λ s. is_sibling s ≡ false) run
      (state.are_steps.1 (state.is_found none))

  pub step_passed : sibling_after limit e all sought start
      ≡ sibling_after limit e (drop step.values left) found w
  step_passed =
      state.same
      ∙ ap (λ ss. sibling_after limit e ss found v) (sym (take-append-drop step.values left))
      ∙ run_passed limit e run (drop step.values left) found v w no_sibling
      (sym passed)

  -- what a slice has from there on
  from_there : take (length left - step.values) (drop step.values left) ≡ drop step.values left
  from_there = take_all (length left - step.values) (drop step.values left)
      (omega (arith, length-drop step.values left))

  pub step_over : StepsPassed limit e all sought start steps
      (take (length left - step.values) (drop step.values left)) found w
  step_over = rw from_there (record {
    seen = state.seen;
    is_found = state.is_found;
    after = state.are_steps.2;
    same = step_passed;
  })

-- the values of a step are passed
module _ (limit : ℕ) (e : Encoding) (all : List Specification) (sought : Option (Option ℕ))
    (start : View) (steps : List Step) (left : List Specification)
    (found : Option (Option ℕ)) (v : View)
    (state : StepsPassed limit e all sought start steps left found v) where
  -- one value more
  pub value_over : (s : Specification) (rest : List Specification) → left ≡ s ∷ rest
      → (after : Option (Option ℕ)) (u : View) → Ok (after, u) ≡ found_at limit e s found v
      → StepsLeft limit e all sought start steps rest after u
  unfolding attribute_at
  value_over s rest is after u h = record {
    seen = state.seen || is_sibling s;
    is_found = λ none.
        let both =
        none_found s found after u (value_at limit e s.name.0 s.constant s.form.0 v) h none in
        rw (state.is_found both.0, both.1) refl;
    are_steps = rw is at state.after;
    same = one_passed limit e all left sought found start v state.same s rest is after u h;
  }
