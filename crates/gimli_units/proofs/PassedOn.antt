-- An entry of which the head alone was read, and which is left, as a cursor that read it and leaves
-- it.
use Rattle.std.proofs.Common.{◌≡◌, ℕ, ◌<◌, ℤ, Bool, true, false}
use Rattle.std.proofs.Common.{length, Option, Some, None, Result, Ok, Err, refl, sym, ap, ◌∙◌}
use Rattle.std.specs.Prelude.{◌≢◌, ◌&&◌, if◌then◌else◌, int_le, IfSome}
use Rattle.gimli_base.specs.declared.error.Error.{Error}
use Rattle.gimli_base.specs.View.{View}
use Rattle.gimli_base.specs.Reading.{map_read}
use Rattle.gimli_base.specs.Abbreviations.{Declaration}
use Rattle.gimli_units.specs.Head.{head_with_sibling, head_and_sibling}
use Rattle.gimli_units.specs.Kind.{kind_of}
use Rattle.gimli_units.specs.Honest.{target, within}
use Rattle.gimli_units.specs.RawPlace.{RawPlace, next_offset_of, depth_read}
use Rattle.gimli_units.specs.CursorModel.{CursorView, next_of, IsSound}
use Rattle.gimli_units.specs.SearchSteps.{stands_at, stands_if, after_entry}
use Rattle.gimli_units.specs.SearchSteps.{an_entry, HasPassed, a_pass, no_pass, passed_over}
use Rattle.gimli_base.specs.Table.{codes_of}
use Rattle.gimli_units.proofs.EntryReads.{entry_at-shorter}
use Rattle.gimli_units.proofs.HeadReads.{entry_of_head}
use Rattle.gimli_units.proofs.Onward.{onward_start, onward_follow}
use Rattle.gimli_units.proofs.CursorSteps.{sound_read}

-- where nothing leads on, or it is not followed, there is no target
no_target : (deep follows : Bool) (sibling : Option ℕ) (low high : ℕ)
    → ((follows && deep) ≡ true → sibling ≡ None)
    → (if deep then (if follows then within low high sibling else None) else None) ≡ None
no_target false follows sibling low high none = refl
no_target true false sibling low high none = refl
no_target true true sibling low high none = rw (none refl) refl

one_target : (deep follows : Bool) (sibling : Option ℕ) (low high t : ℕ) → (follows && deep) ≡ true
    → sibling ≡ Some t
    → (if deep then (if follows then within low high sibling else None) else None)
    ≡ within low high (Some t)
one_target false false sibling low high t followed is = absurd (cc)
one_target false true sibling low high t followed is = absurd (cc)
one_target true false sibling low high t followed is = absurd (cc)
one_target true true sibling low high t followed is = rw is refl

module _ (limit : ℕ) (sought : ℤ) (old : CursorView) where
  -- the entry is left for what is after it
  pub passed_stays : (raw : RawPlace) (o : Option Declaration) (sibling : Option ℕ)
      → (length old.raw.rest.bytes ≡ 0 → ⊥)
      → Ok (head_with_sibling o sibling, raw.rest)
      ≡ map_read head_and_sibling (next_of limit old.raw old.raw.rest)
      → IfSome o (λ d. d.tag.0 ≢ 0) → raw ≡ stands_at old.raw raw.rest raw.depth
      → raw.depth ≡ depth_read o old.raw.depth
      → ((old.follows && int_le sought old.raw.depth) ≡ true → sibling ≡ None)
      → HasPassed limit sought old (Ok tt) (passed_over old raw)
  passed_stays raw o sibling some read tagged unit after none =
      let h = entry_of_head limit old.raw o sibling raw.rest raw.depth read tagged after in
      let mid : CursorView = after_entry old h.of.entry raw.rest in
      let stays = no_target (int_le sought old.raw.depth) old.follows (target (kind_of h.of.entry))
      (next_offset_of mid.raw) mid.raw.end (λ f. sym h.to_sibling ∙ none f) in
      let here : raw ≡ mid.raw = unit ∙ ap (λ d. stands_at old.raw raw.rest d) h.of.after in
      let there : raw ≡ stands_if mid.raw
      (if int_le sought old.raw.depth
      then (if old.follows
      then within (next_offset_of mid.raw) mid.raw.end (target (kind_of h.of.entry)) else None)
      else None) old.raw.depth =
      here ∙ ap (λ (t : Option ℕ). stands_if mid.raw t old.raw.depth) (sym stays) in
      a_pass mid (an_entry h.of.entry raw.rest some h.of.reads refl refl) refl
      (ap (λ (p : RawPlace). passed_over old p) there)

  -- the entry is left for where it leads
  pub passed_goes : (raw mid_raw : RawPlace) (o : Option Declaration) (sibling : Option ℕ) (t : ℕ)
      → (length old.raw.rest.bytes ≡ 0 → ⊥)
      → Ok (head_with_sibling o sibling, mid_raw.rest)
      ≡ map_read head_and_sibling (next_of limit old.raw old.raw.rest)
      → IfSome o (λ d. d.tag.0 ≢ 0) → mid_raw ≡ stands_at old.raw mid_raw.rest mid_raw.depth
      → mid_raw.depth ≡ depth_read o old.raw.depth
      → (old.follows && int_le sought old.raw.depth) ≡ true → sibling ≡ Some t
      → raw ≡ stands_if mid_raw (within (next_offset_of mid_raw) mid_raw.end (Some t)) old.raw.depth
      → HasPassed limit sought old (Ok tt) (passed_over old raw)
  passed_goes raw mid_raw o sibling t some read tagged unit after followed to_sibling goes =
      let h = entry_of_head limit old.raw o sibling mid_raw.rest mid_raw.depth read tagged after in
      let mid : CursorView = after_entry old h.of.entry mid_raw.rest in
      let here : mid_raw ≡ mid.raw = unit ∙ ap (λ d. stands_at old.raw mid_raw.rest d) h.of.after in
      let one = one_target (int_le sought old.raw.depth) old.follows (target (kind_of h.of.entry))
      (next_offset_of mid.raw) mid.raw.end t followed (sym h.to_sibling ∙ to_sibling) in
      let there : raw ≡ stands_if mid.raw
      (if int_le sought old.raw.depth
      then (if old.follows
      then within (next_offset_of mid.raw) mid.raw.end (target (kind_of h.of.entry)) else None)
      else None) old.raw.depth =
      goes ∙ ap (λ (p : RawPlace). stands_if p (within (next_offset_of p) p.end (Some t))
      old.raw.depth) here
      ∙ ap (λ (o : Option ℕ). stands_if mid.raw o old.raw.depth) (sym one) in
      a_pass mid (an_entry h.of.entry mid_raw.rest some h.of.reads refl refl) refl
      (ap (λ (p : RawPlace). passed_over old p) there)

  -- what is left has fewer bytes
  pub head_shorter : (o : Option Declaration) (sibling : Option ℕ) (w : View) (depth : ℤ)
      → Ok (head_with_sibling o sibling, w) ≡ map_read head_and_sibling (next_of limit old.raw old.raw.rest)
      → IfSome o (λ d. d.tag.0 ≢ 0) → depth ≡ depth_read o old.raw.depth
      → length w.bytes < length old.raw.rest.bytes
  head_shorter o sibling w depth read tagged after =
      let h = entry_of_head limit old.raw o sibling w depth read tagged after in
      entry_at-shorter limit old.raw.encoding (codes_of old.raw.abbreviations) old.raw.rest w
      h.of.entry h.of.reads

  -- a pass leaves a cursor that stands somewhere
  pub sound_pass : (outcome : Result (Unit {0}) Error) (new : CursorView) → IsSound old
      → HasPassed limit sought old outcome new → IsSound new
  sound_pass outcome new s (a_pass mid read is same) =
      rw same
      (onward_follow mid mid sought (onward_start mid (sound_read limit old (Ok true) mid s read))).sound
  sound_pass outcome new s (no_pass e read is fine) = sound_read limit old (Err e) new s read
