-- Turns of the check over the entries that are read: each is a row, which leaves what the check
-- answers.
use Rattle.std.proofs.Common.{◌≡◌, ℕ, ℤ, pos, ◌+ℤ◌, ◌-ℤ◌, Bool, true, false, List, [], ◌∷◌, ◌++◌}
use Rattle.std.proofs.Common.{length, Option, Some, None, Result, Ok, Err, refl, sym, ap, ◌∙◌}
use Rattle.std.proofs.Common.{arith, subst}
use Rattle.std.specs.List.{All}
use Rattle.std.proofs.lemmas.List.Elements.{All-head, All-tail}
use Rattle.std.specs.Prelude.{◌≤ℤ◌, ◌≢◌, not, is_some, IfOk, IfSome, OnOk}
use Rattle.std.specs.Option.{is_none, option_copied}
use Rattle.std.proofs.Common.{Bor}
use Rattle.std.proofs.lemmas.Bool.{ne_eqb}
use Rattle.gimli_base.specs.Abbreviations.{Declaration}
use Rattle.gimli_units.specs.Head.{Head, head, head_of}
use Rattle.std.proofs.lemmas.Int.{ints}
use Rattle.gimli_base.specs.declared.error.Error.{Error}
use Rattle.gimli_base.specs.Table.{codes_of}
use Rattle.gimli_units.specs.Entry.{Entry, is_null}
use Rattle.gimli_units.proofs.EntryReads.{entry_at-shorter}
use Rattle.gimli_units.specs.RawPlace.{RawPlace, next_offset_of, below_flag, depth_after}
use Rattle.gimli_units.specs.Rows.{Row, Ahead}
use Rattle.gimli_units.proofs.RowSteps.{ahead_ended, ahead_refused, ahead_more}
use Rattle.gimli_units.specs.CursorModel.{next_of, rows_of}
use Rattle.gimli_units.specs.Honest.{usable_target}
use Rattle.gimli_headers.specs.OpenRows.{OpenRow, Checked, Rise, judgement}
use Rattle.gimli_headers.proofs.OpenTurns.{rise_in, rise_up, entry_found, entry_passed}
use Rattle.gimli_headers.proofs.OpenTurns.{entry_opened}

pub not_twice : (b : Bool) → not (not b) ≡ b
not_twice true = refl
not_twice false = refl

-- an entry is a null where its head is that of no declaration
pub head_null : (declared : Option (Bor Declaration)) (e : Entry)
    → IfSome (option_copied declared) (λ d. d.tag.0 ≢ 0)
    → head_of (option_copied declared) ≡ head e → is_null e ≡ is_none declared
head_null None e some same =
    let tag : e.tag.0 ≡ 0 = sym (ap (λ (h : Head). h.tag.0) same) in
    rw tag refl
head_null (Some d) e some same =
    let tag : e.tag.0 ≡ d.now.tag.0 = sym (ap (λ (h : Head). h.tag.0) same) in
    rw tag (ne_eqb d.now.tag.0 0 some)

-- the depth after a null, and after an entry
null_after : (e : Entry) (d : ℤ) → is_null e ≡ true → (d -ℤ pos 1) ≤ℤ depth_after e d
null_after e d null = rw null (cases e.has_children)
  where
    cases : (b : Bool) → (d -ℤ pos 1) ≤ℤ (below_flag b d -ℤ pos 1)
    cases true = omega (arith, ints)
    cases false = omega (arith, ints)

entry_after : (e : Entry) (d : ℤ) → is_null e ≡ false → d ≤ℤ depth_after e d
entry_after e d entry = rw entry (cases e.has_children)
  where
    cases : (b : Bool) → d ≤ℤ below_flag b d
    cases true = omega (arith, ints)
    cases false = omega (arith, ints)

pub null_rise : (e : Entry) (d : ℤ) (xs : List OpenRow) → is_null e ≡ true → Rise (d -ℤ pos 1) xs
    → Rise (depth_after e d) xs
null_rise e d xs null h = rise_up (d -ℤ pos 1) (depth_after e d) xs (null_after e d null) h

pub entry_rise : (e : Entry) (d : ℤ) (xs : List OpenRow) → is_null e ≡ false → Rise d xs
    → Rise (depth_after e d) xs
entry_rise e d xs entry h = rise_up d (depth_after e d) xs (entry_after e d entry) h

-- an entry whose reference can be followed has children
pub opened_rise : (end : ℕ) (r : Row) (xs : List OpenRow) (first : Option ℕ) (t : ℕ) (new : Checked)
    → is_null r.entry ≡ false → usable_target end r ≡ Some t → Rise r.depth xs
    → new
    ≡ record {
      opens = xs ++ record { offset = r.offset; depth = r.depth; target = t } ∷ [];
      first = first;
    } → Rise (depth_after r.entry r.depth) new.opens
opened_rise end r xs first t new entry to_sibling h is =
    rw is
    (rise_in (depth_after r.entry r.depth) xs
    (record { offset = r.offset; depth = r.depth; target = t }) (deeper r.entry.has_children refl)
    h)
  where
    deeper : (b : Bool) → r.entry.has_children ≡ b
        → (r.depth +ℤ pos 1) ≤ℤ depth_after r.entry r.depth
    deeper true flag = rw (entry, flag) (omega (arith, ints))
    deeper false flag =
        let none : usable_target end r ≡ None = rw (entry, flag) refl in
        let e : ◌≡◌ {A = Option ℕ} None (Some t) = sym none ∙ to_sibling in absurd (cc)

pub on_ok : {A B : Type 0} → (r : Result (Unit {0}) Error) → (A → B) → OnOk r A → OnOk r B
on_ok (Ok u) f h = f h
on_ok (Err e) f h = tt

pub if_ok : {A : Type 0} {P Q : A → Type 0} → (r : Result A Error) → ((a : A) → P a → Q a)
    → IfOk r P → IfOk r Q
if_ok (Ok a) f h = f a h
if_ok (Err e) f h = tt

module _ (end : ℕ) (opens : List OpenRow) (r : Row) (rest : List Row)
    (entry : is_null r.entry ≡ false) (rise : Rise r.depth opens) where
  -- an entry after a false reference that was found
  pub found_on : (first : Option ℕ) → is_some first ≡ true
      → judgement end (record { opens = opens; first = first }) rest
      ≡ judgement end (record { opens = opens; first = first }) (r ∷ rest)
  found_on None h = absurd (cc)
  found_on (Some o) h = entry_found end opens r rest o entry rise

  -- an entry whose reference can't be followed
  pub passed_on : (first : Option ℕ) → is_some first ≡ false → usable_target end r ≡ None
      → judgement end (record { opens = opens; first = first }) rest
      ≡ judgement end (record { opens = opens; first = first }) (r ∷ rest)
  passed_on None h none = entry_passed end opens r rest entry rise none
  passed_on (Some o) h none = absurd (cc)

  -- an entry whose reference can be followed
  pub opened_on : (first : Option ℕ) (t : ℕ) (new : Checked) → is_some first ≡ false
      → usable_target end r ≡ Some t
      → new
      ≡ record {
        opens = opens ++ record { offset = r.offset; depth = r.depth; target = t } ∷ [];
        first = first;
      }
      → judgement end new rest ≡ judgement end (record { opens = opens; first = first }) (r ∷ rest)
  opened_on None t new h to_sibling is =
      ap (λ (n : Checked). judgement end n rest) is
      ∙ entry_opened end opens r rest t entry rise to_sibling
  opened_on (Some o) t new h to_sibling is = absurd (cc)

-- what is answered stays, where a row leaves it
pub turn_judged : (n end next_end : ℕ) (old new : Checked) (r : Row) (rows rest : List Row)
    (all : Option ℕ) → n ≡ end → next_end ≡ end → rows ≡ r ∷ rest
    → ((others : List Row) → judgement n new others ≡ judgement n old (r ∷ others))
    → judgement end old rows ≡ all → judgement next_end new rest ≡ all
turn_judged n end next_end old new r rows rest all same next_same is turn h =
    ap (λ (x : ℕ). judgement x new rest) (next_same ∙ sym same) ∙ turn rest
    ∙ ap (λ (x : ℕ). judgement x old (r ∷ rest)) same ∙ ap (judgement end old) (sym is) ∙ h

module _ (limit : ℕ) (p : RawPlace) where
  -- no row is left
  pub ended_rows : length p.rest.bytes ≡ 0 → (rows_of limit p).rows ≡ []
  ended_rows none = ap (λ (a : Ahead). a.rows)
      (ahead_ended (next_of limit p) p.end p.depth p.rest none)

  pub refused_rows : (e : Error) → (length p.rest.bytes ≡ 0 → ⊥) → Err e ≡ next_of limit p p.rest
      → (rows_of limit p).rows ≡ []
  refused_rows e some is =
      ap (λ (a : Ahead). a.rows) (ahead_refused (next_of limit p) p.end p.depth p.rest e some is)

  -- an entry that is read is the next row
  pub more_rows : (q : RawPlace) (r : Row) → (length p.rest.bytes ≡ 0 → ⊥)
      → Ok (r.entry, q.rest) ≡ next_of limit p p.rest
      → q ≡ record p { rest = q.rest; depth = depth_after r.entry p.depth }
      → r.offset ≡ next_offset_of p → r.next ≡ next_offset_of q → r.depth ≡ p.depth
      → (rows_of limit p).rows ≡ r ∷ (rows_of limit q).rows
  more_rows q r some reads next offset after depth =
      let left : RawPlace = record p { rest = q.rest; depth = depth_after r.entry p.depth } in
      let row : record {
        offset = next_offset_of p;
        next = next_offset_of left;
        depth = p.depth;
        entry = r.entry;
      } ≡ r =
      rw (← offset, ← depth, ← (ap next_offset_of next), ← after) refl in
      ap (λ (a : Ahead). a.rows)
      (ahead_more (next_of limit p) p.end
      (λ v u x. entry_at-shorter limit p.encoding (codes_of p.abbreviations) v u x) p.depth p.rest
      r.entry q.rest some reads)
      ∙ ap (λ (x : Row). x ∷ (rows_of limit left).rows) row
      ∙ ap (λ (y : RawPlace). r ∷ (rows_of limit y).rows) (sym next)

-- where no row has a reference that can be followed, neither has the first, nor one after it
abbrev pub NoneLeads : ℕ → List Row → Type 0
NoneLeads end rows = All (λ r. usable_target end r ≡ None) rows

pub none_first : (end : ℕ) (rows : List Row) (r : Row) (rest : List Row) → rows ≡ r ∷ rest
    → NoneLeads end rows → usable_target end r ≡ None
none_first end rows r rest is none =
    let P : Row → Type 0 = λ x. usable_target end x ≡ None in
    All-head P r rest (subst (All P) is none)

pub none_after : (end : ℕ) (rows : List Row) (r : Row) (rest : List Row) → rows ≡ r ∷ rest
    → NoneLeads end rows → NoneLeads end rest
none_after end rows r rest is none =
    let P : Row → Type 0 = λ x. usable_target end x ≡ None in
    All-tail P r rest (subst (All P) is none)
