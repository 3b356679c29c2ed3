-- The steps of attributes, as these are declared one after the other.
use Rattle.std.proofs.Common.{◌≡◌, ℕ, List, [], ◌∷◌, ◌++◌, length, take, drop, refl, sym, ap}
use Rattle.std.proofs.Common.{◌+◌, ◌-◌, ◌*◌, ◌≤◌, ◌∙◌, arith, Bool, true, false, Option, Some, None}
use Rattle.std.proofs.Common.{length-append, length-drop}
use Rattle.std.proofs.Math.Nat.{add-mul}
use Rattle.std.specs.Prelude.{◌||◌, ◌==◌, if◌then◌else◌, IfSome}
use Rattle.std.proofs.lemmas.List.{append_assoc, append-nil, take_all, drop_all, take-append-le}
use Rattle.std.proofs.lemmas.List.{drop-append-le, take-append-drop}
use Rattle.std.proofs.lemmas.List.Elements.{All-append, All-cons, All-nil}
use Rattle.gimli_base.specs.declared.common.Encoding.{Encoding}
use Rattle.gimli_base.specs.declared.step.Step.{Step}
use Rattle.gimli_base.specs.Abbreviations.{Specification, IsWellFormed}
use Rattle.gimli_base.specs.Reading.{word_size_of}
use Rattle.gimli_base.specs.Width.{attributes_size, form_size, known_sum}
use Rattle.gimli_base.specs.Steps.{AreSteps, AfterStep, IsRun, AddsValue, NoSibling, is_sibling, is_ref8, empty_step}
use Rattle.gimli_base.specs.Steps.{step_size, Joins}

known_sum_assoc : (l m n : Option ℕ) → known_sum (known_sum l m) n ≡ known_sum l (known_sum m n)
known_sum_assoc (Some l) (Some m) (Some n) = ap Some (omega arith)
known_sum_assoc (Some l) (Some m) None = refl
known_sum_assoc (Some l) None n = refl
known_sum_assoc None m n = refl

zero_first : (m : Option ℕ) → known_sum m (Some 0) ≡ known_sum (Some 0) m
zero_first (Some m) = ap Some (omega arith)
zero_first None = refl

-- the bytes of attributes and one more
size-push : (e : Encoding) (ss : List Specification) (x : Specification)
    → attributes_size e (ss ++ x ∷ []) ≡ known_sum (attributes_size e ss) (form_size e x.form.0)
size-push e [] x = zero_first (form_size e x.form.0)
size-push e (s ∷ ss) x =
    ap (known_sum (form_size e s.form.0)) (size-push e ss x)
    ∙ sym (known_sum_assoc (form_size e s.form.0) (attributes_size e ss) (form_size e x.form.0))

-- these attributes are those of closed steps, and of a run that is still open
pub record StepsSoFar (closed : List Step) (run : Step) (seen : Bool) (ss : List Specification)
    : Type 0 where
  pub open_ones : List Specification
  pub is_run : IsRun run open_ones
  pub no_sibling : NoSibling seen open_ones
  pub closes : (steps : List Step) (more : List Specification)
      → AreSteps seen steps (open_ones ++ more) → AreSteps false (closed ++ steps) (ss ++ more)

no_run : IsRun empty_step []
no_run = record {
  counted = refl;
  well_formed = All-nil IsWellFormed;
  size = λ e. ap Some (omega arith);
  no_ref8 = λ _. All-nil (λ x. is_ref8 x ≡ false);
}

pub steps_begin : StepsSoFar [] empty_step false []
steps_begin = record {
  open_ones = [];
  is_run = no_run;
  no_sibling = λ _. All-nil (λ x. is_sibling x ≡ false);
  closes = λ steps more h. h;
}

module _ (closed : List Step) (run : Step) (seen : Bool) (ss : List Specification)
    (so_far : StepsSoFar closed run seen ss) where
  abbrev o : List Specification
  o = so_far.open_ones

  -- the run ends before these attributes
  ends : (steps : List Step) (more : List Specification)
      → AfterStep (λ x rest. AreSteps (seen || is_sibling x) steps rest) steps more
      → AreSteps false (closed ++ run ∷ steps) (ss ++ more)
  ends steps more h =
      let here : run.values ≡ length o = so_far.is_run.counted in
      let first : take run.values (o ++ more) ≡ o =
      take-append-le run.values o more (omega (arith, here))
      ∙ take_all run.values o (omega (arith, here)) in
      let rest : drop run.values (o ++ more) ≡ more =
      drop-append-le run.values o more (omega (arith, here))
      ∙ ap (λ l. l ++ more) (drop_all run.values o (omega (arith, here))) in
      so_far.closes (run ∷ steps) more (rw (first, rest) (so_far.is_run, so_far.no_sibling, h))

  pub steps_end : AreSteps false (closed ++ run ∷ []) ss
  steps_end = rw (append-nil ss) at (ends [] [] refl)

  module _ (x : Specification) where
    assoc : (more : List Specification) → (ss ++ x ∷ []) ++ more ≡ ss ++ x ∷ more
    assoc more = append_assoc ss (x ∷ []) more

    -- one more attribute ends the run
    pub steps_close : StepsSoFar (closed ++ run ∷ []) empty_step (seen || is_sibling x)
        (ss ++ x ∷ [])
    steps_close = record {
      open_ones = [];
      is_run = no_run;
      no_sibling = λ _. All-nil (λ y. is_sibling y ≡ false);
      closes = λ steps more h. rw (assoc more, append_assoc closed (run ∷ []) steps)
          (ends steps (x ∷ more) h);
    }

    -- one more attribute is of the run
    pub steps_run : (longer : Step) → AddsValue x run longer
        → (seen ≡ false → is_sibling x ≡ false) → StepsSoFar closed longer seen (ss ++ x ∷ [])
    steps_run longer is other = record {
      open_ones = o ++ x ∷ [];
      is_run = record {
        counted = omega (arith, is.counted, so_far.is_run.counted, length-append o (x ∷ []));
        well_formed = All-append IsWellFormed o (x ∷ []) so_far.is_run.well_formed
            (All-cons IsWellFormed x [] is.well_formed (All-nil IsWellFormed));
        size = λ e.
            size-push e o x
            ∙ ap (λ n. known_sum n (form_size e x.form.0)) (so_far.is_run.size e)
            ∙ sym (is.size e);
        no_ref8 = λ none. All-append (λ y. is_ref8 y ≡ false) o (x ∷ [])
            (so_far.is_run.no_ref8 (is.no_ref8 none).0)
            (All-cons (λ y. is_ref8 y ≡ false) x [] (is.no_ref8 none).1
            (All-nil (λ y. is_ref8 y ≡ false)));
      };
      no_sibling = λ none. All-append (λ y. is_sibling y ≡ false) o (x ∷ [])
          (so_far.no_sibling none)
          (All-cons (λ y. is_sibling y ≡ false) x [] (other none)
          (All-nil (λ y. is_sibling y ≡ false)));
      closes = λ steps more h. rw (assoc more)
          (so_far.closes steps (x ∷ more) (rw (append_assoc o (x ∷ []) more) at h));
    }

zero_left : (m : Option ℕ) → m ≡ known_sum (Some 0) m
zero_left (Some m) = ap Some (omega arith)
zero_left None = refl

-- the bytes of attributes and of others after them
size-append : (e : Encoding) (xs ys : List Specification)
    → attributes_size e (xs ++ ys) ≡ known_sum (attributes_size e xs) (attributes_size e ys)
size-append e [] ys = zero_left (attributes_size e ys)
size-append e (x ∷ xs) ys =
    ap (known_sum (form_size e x.form.0)) (size-append e xs ys)
    ∙ sym (known_sum_assoc (form_size e x.form.0) (attributes_size e xs) (attributes_size e ys))

-- the bytes of some attributes are summed, and these are left
pub record SizesLeft (e : Encoding) (all left : List Specification) (sum : ℕ) : Type 0 where
  pub same : attributes_size e all ≡ known_sum (Some sum) (attributes_size e left)
  pub few : sum + 255 * length left ≤ 255 * length all

-- a step with a value more, and the values of another step
pub joined : (s : Step) (x : Specification) (u p : Step) → AddsValue x s p → (t : Step)
    → t.values ≡ p.values + u.values → t.bytes ≡ p.bytes + u.bytes
    → t.addresses ≡ p.addresses + u.addresses → t.offsets ≡ p.offsets + u.offsets
    → t.ref_addrs ≡ p.ref_addrs + u.ref_addrs
    → (t.has_ref8 ≡ 0 → (p.has_ref8 ≡ 0) × (u.has_ref8 ≡ 0)) → Joins s x u t
joined s x u p added t values bytes addresses offsets ref_addrs no_ref8 =
    record {
      counted = omega (arith, values, added.counted);
      well_formed = added.well_formed;
      size = λ e.
          let a = e.address_size in
          let o = word_size_of e.format in
          let r = if e.version == 2 then a else o in
          let sum : step_size e t ≡ step_size e p + step_size e u =
          rw (bytes, addresses, offsets, ref_addrs) (omega (
            arith,
            add-mul p.addresses u.addresses a,
            add-mul p.offsets u.offsets o,
            add-mul p.ref_addrs u.ref_addrs r,
          )) in
          ap Some sum ∙ ap (λ m. known_sum m (Some (step_size e u))) (added.size e);
      no_ref8 = λ none.
          let both = added.no_ref8 (no_ref8 none).0 in
          (both.0, both.1, (no_ref8 none).1);
    }

-- what one step passes
pub one_step : (seen : Bool) (s : Step) (ss : List Specification) → AreSteps seen (s ∷ []) ss
    → IsRun s ss
one_step seen s ss h = cases (drop s.values ss) refl h.2
  where
    cases : (rest : List Specification) → drop s.values ss ≡ rest
        → AfterStep (λ x more. AreSteps (seen || is_sibling x) [] more) [] rest → IsRun s ss
    cases [] is k =
        let all : take s.values ss ≡ ss =
        sym (append-nil (take s.values ss))
        ∙ ap (λ l. take s.values ss ++ l) (sym is)
        ∙ take-append-drop s.values ss in
        rw all at h.0
    cases (x ∷ more) is k = absurd k

-- what two steps pass with the value between them
two_steps : (seen : Bool) (s u t : Step) (ss : List Specification) (x : Specification)
    (rest : List Specification) → AreSteps seen (s ∷ u ∷ []) ss
    → take (length ss - s.values) (drop s.values ss) ≡ x ∷ rest → Joins s x u t → IsRun t ss
two_steps seen s u t ss x rest h there joins =
    let is : drop s.values ss ≡ x ∷ rest =
    sym (take_all (length ss - s.values) (drop s.values ss)
    (omega (arith, length-drop s.values ss)))
    ∙ there in
    let run : List Specification = take s.values ss in
    let last : IsRun u rest = one_step (seen || is_sibling x) u rest (rw is at h.2) in
    let all : run ++ x ∷ rest ≡ ss =
    ap (λ l. run ++ l) (sym is) ∙ take-append-drop s.values ss in
    let first : s.values ≡ length run = h.0.counted in
    let count : t.values ≡ length (run ++ x ∷ rest) =
    omega (arith, joins.counted, first, last.counted, length-append run (x ∷ rest)) in
    let sum : (e : Encoding) → attributes_size e (run ++ x ∷ rest) ≡ Some (step_size e t) =
    λ e. size-append e run (x ∷ rest)
    ∙ ap (λ m. known_sum m (attributes_size e (x ∷ rest))) (h.0.size e)
    ∙ ap (λ m. known_sum (Some (step_size e s)) (known_sum (form_size e x.form.0) m))
    (last.size e)
    ∙ sym
    (known_sum_assoc (Some (step_size e s)) (form_size e x.form.0) (Some (step_size e u)))
    ∙ sym (joins.size e) in
    record {
      counted = rw all at count;
      well_formed = rw all at (All-append IsWellFormed run (x ∷ rest) h.0.well_formed
          (All-cons IsWellFormed x rest joins.well_formed last.well_formed));
      size = λ e. rw all at (sum e);
      no_ref8 = λ none.
          let three = joins.no_ref8 none in
          rw all at (All-append (λ y. is_ref8 y ≡ false) run (x ∷ rest) (h.0.no_ref8 three.0)
          (All-cons (λ y. is_ref8 y ≡ false) x rest three.1 (last.no_ref8 three.2)));
    }

-- the same, where these are joined
pub joined_run : (seen : Bool) (s u : Step) (ss : List Specification) (x : Specification)
    (rest : List Specification) → AreSteps seen (s ∷ u ∷ []) ss
    → take (length ss - s.values) (drop s.values ss) ≡ x ∷ rest → (t : Option Step)
    → IfSome t (λ t. Joins s x u t) → IfSome t (λ t. IsRun t ss)
joined_run seen s u ss x rest h there (Some t) joins = two_steps seen s u t ss x rest h there joins
joined_run seen s u ss x rest h there None joins = tt
