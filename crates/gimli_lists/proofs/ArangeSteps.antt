-- The next range of a set, by the next raw entry.
use Rattle.std.specs.Prelude.{◌≡◌, ℕ, true, [], Option, Some, None, Result, Ok, Err}
use Rattle.std.specs.Option.{option_transpose}
use Rattle.std.specs.Result.{result_transpose}
use Rattle.std.proofs.Common.{refl, sym, ap, ◌∙◌}
use Rattle.gimli_base.specs.declared.error.Error.{Error}
use Rattle.gimli_base.specs.View.{View}
use Rattle.gimli_base.specs.Reading.{is_size}
use Rattle.gimli_lists.specs.declared.aranges.entries.ArangeEntry.{ArangeEntry}
use Rattle.gimli_lists.specs.Aranges.{raw_entry, converted_arange, answer_to, first_of_tuples}
use Rattle.gimli_lists.specs.Aranges.{raw_entries}
use Rattle.gimli_lists.specs.Aranges.{aranges_of}
use Rattle.gimli_lists.proofs.TupleSteps.{some_bytes, through, continued, first_through}
use Rattle.gimli_lists.proofs.TupleSteps.{made_of-none}

module _ (z : ℕ) (sized : is_size z ≡ true) where
  abbrev Answer : Type 0
  Answer = Result (Option ArangeEntry) Error

  abbrev answer : ArangeEntry → Option (Result ArangeEntry Error)
  answer e = result_transpose (converted_arange z e)

  -- o is the next raw entry at v, and w is left
  pub record NextRaw (v : View) (o : Option ArangeEntry) (w : View) : Type 0 where
    pub entry : ◌≡◌ {A = Answer} (Ok o) (Ok (first_of_tuples raw_entry z v).0)
    pub left : w ≡ (first_of_tuples raw_entry z v).1

  abbrev Next : Type 0
  Next = Option (Result ArangeEntry Error) × View

  by_entry : (v : View) (o : Option ArangeEntry) (w : View) → NextRaw v o w
      → first_of_tuples (answer_to z) z v ≡ through z (some_bytes z sized) raw_entry answer o w
  by_entry v o w r =
      let same : o ≡ (first_of_tuples raw_entry z v).0 = let h = r.entry in cc in
      let at_entry =
      ap (λ (x : Option ArangeEntry). through z (some_bytes z sized) raw_entry answer x w)
      same in
      let at_rest =
      ap
      (λ (u : View). through z (some_bytes z sized) raw_entry answer
      (first_of_tuples raw_entry z v).0 u) r.left in
      first_through z (some_bytes z sized) raw_entry answer v ∙ sym (at_entry ∙ at_rest)

  by_answer : (v : View) (e : ArangeEntry) (w : View) (a : Answer) → NextRaw v (Some e) w
      → a ≡ converted_arange z e
      → first_of_tuples (answer_to z) z v
      ≡ continued z (some_bytes z sized) raw_entry answer (result_transpose a) w
  by_answer v e w a r h =
      by_entry v (Some e) w r
      ∙ sym
      (ap (λ (x : Answer). continued z (some_bytes z sized) raw_entry answer (result_transpose x) w)
      h)

  -- no raw entry is left
  pub range_none : (v w : View) → NextRaw v None w → first_of_tuples (answer_to z) z v ≡ (None, w)
  range_none v w r = by_entry v None w r

  -- the raw entry is refused
  pub range_refused : (v : View) (e : ArangeEntry) (w : View) (x : Error) → NextRaw v (Some e) w
      → Err x ≡ converted_arange z e → first_of_tuples (answer_to z) z v ≡ (Some (Err x), w)
  range_refused v e w x r h = by_answer v e w (Err x) r h

  -- the raw entry is a range
  pub range_found : (v : View) (e : ArangeEntry) (w : View) (found : ArangeEntry)
      → NextRaw v (Some e) w → Ok (Some found) ≡ converted_arange z e
      → first_of_tuples (answer_to z) z v ≡ (Some (Ok found), w)
  range_found v e w found r h = by_answer v e w (Ok (Some found)) r h

  -- the raw entry stands for none
  pub range_dropped : (v : View) (e : ArangeEntry) (w : View) → NextRaw v (Some e) w
      → Ok None ≡ converted_arange z e
      → first_of_tuples (answer_to z) z v ≡ first_of_tuples (answer_to z) z w
  range_dropped v e w r h = by_answer v e w (Ok None) r h

-- an answer of none is that of an iterator which has none
none_transposed : {A : Type 0} → (o : Option (Result A Error)) → Ok None ≡ option_transpose o
    → o ≡ None
none_transposed None h = refl
none_transposed (Some (Ok a)) h = absurd (cc)
none_transposed (Some (Err e)) h = absurd (cc)

-- where there is no next range, none is ahead
pub ahead_none : (z : ℕ) (v : View) → is_size z ≡ true
    → Ok None ≡ option_transpose (first_of_tuples (answer_to z) z v).0 → aranges_of z v ≡ []
ahead_none z v sized h =
    made_of-none z (some_bytes z sized) (answer_to z) v
    (none_transposed (first_of_tuples (answer_to z) z v).0 h)

-- and where there is no next raw entry
pub raw_none : (z : ℕ) (v : View) → is_size z ≡ true
    → ◌≡◌ {A = Result (Option ArangeEntry) Error} (Ok None) (Ok (first_of_tuples raw_entry z v).0)
    → raw_entries z v ≡ []
raw_none z v sized h =
    made_of-none z (some_bytes z sized) raw_entry v
    (let same : None ≡ (first_of_tuples raw_entry z v).0 = cc in sym same)
