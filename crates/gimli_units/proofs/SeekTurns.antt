-- Turns of the search for a depth that passes entries without their attributes: what is left of an
-- entry that was passed is what a cursor leaves that has read it.
use Rattle.std.proofs.Common.{◌≡◌, ℕ, zero, suc, ◌<◌, ℤ, Bool, true, false, length, Result, Ok}
use Rattle.std.proofs.Common.{Err, refl, sym, ap, ◌∙◌, arith}
use Rattle.std.specs.Prelude.{not}
use Rattle.std.specs.Ordering.{int_eq}
use Rattle.gimli_base.specs.declared.error.Error.{Error}
use Rattle.gimli_base.proofs.Later.{IsLater-length}
use Rattle.gimli_units.specs.Entry.{is_null}
use Rattle.gimli_units.specs.CursorModel.{CursorView, IsSound}
use Rattle.gimli_units.specs.SearchSteps.{HasRead, an_entry, the_end, a_refusal, leave_entry}
use Rattle.gimli_units.specs.SearchSteps.{HasPassed, a_pass, no_pass, HasSought}
use Rattle.gimli_units.specs.SearchSteps.{HasPassedMany, HasPassedTo, IsRefusedAfter}
use Rattle.gimli_units.specs.SearchSteps.{without_entry, passed_over}
use Rattle.gimli_units.specs.RawPlace.{RawPlace}
use Rattle.gimli_units.proofs.CursorSteps.{sound_read}
use Rattle.gimli_units.proofs.PassedOn.{sound_pass}
use Rattle.gimli_units.proofs.Onward.{onward_start, onward_follow}
use Rattle.gimli_units.proofs.Walking.{read_shorter}
use Rattle.gimli_units.proofs.Splits.{equal}
use Rattle.gimli_units.proofs.Seeking.{Seeking, seeking_on, seeking_start, sought_to, sought_end}
use Rattle.gimli_units.proofs.Seeking.{sought_out, paired}

-- an entry that was read has the depth that its place had, and there was something to read
read_depth : (limit : ℕ) (old new : CursorView) (outcome : Result Bool Error)
    → HasRead limit old outcome new → outcome ≡ Ok true → new.depth ≡ old.raw.depth
read_depth limit old new outcome (an_entry e w some reads is same) took =
    ap (λ (c : CursorView). c.depth) same
read_depth limit old new outcome (the_end none is same) took =
    let x : ◌≡◌ {A = Result Bool Error} (Ok false) (Ok true) = sym is ∙ took in absurd (cc)
read_depth limit old new outcome (a_refusal e some is same why memory) took =
    let x : ◌≡◌ {A = Result Bool Error} (Err e) (Ok true) = sym is ∙ took in absurd (cc)

read_some : (limit : ℕ) (old new : CursorView) (outcome : Result Bool Error)
    → HasRead limit old outcome new → outcome ≡ Ok true → length old.raw.rest.bytes ≡ 0 → ⊥
read_some limit old new outcome (an_entry e w some reads is same) took = some
read_some limit old new outcome (the_end none is same) took =
    let x : ◌≡◌ {A = Result Bool Error} (Ok false) (Ok true) = sym is ∙ took in absurd (cc)
read_some limit old new outcome (a_refusal e some is same why memory) took =
    let x : ◌≡◌ {A = Result Bool Error} (Err e) (Ok true) = sym is ∙ took in absurd (cc)

-- what was refused had the depth that its place had, and there was something to read
refused_at : (limit : ℕ) (old new : CursorView) (outcome : Result Bool Error)
    → HasRead limit old outcome new → (x : Error) → outcome ≡ Err x
    → (length old.raw.rest.bytes ≡ 0 → ⊥) × (new.depth ≡ old.raw.depth)
refused_at limit old new outcome (an_entry e w some reads is same) x fails =
    let y : ◌≡◌ {A = Result Bool Error} (Ok true) (Err x) = sym is ∙ fails in absurd (cc)
refused_at limit old new outcome (the_end none is same) x fails =
    let y : ◌≡◌ {A = Result Bool Error} (Ok false) (Err x) = sym is ∙ fails in absurd (cc)
refused_at limit old new outcome (a_refusal e some is same why memory) x fails =
    (some, ap (λ (c : CursorView). c.depth) same)

module _ (limit : ℕ) (depth : ℤ) (offset : ℕ) where
  -- a search that has left an entry, and has found nothing yet
  pub record Leaving (start here : CursorView) : Type 0 where
    pub mid : CursorView
    pub seeking : Seeking limit depth offset start mid
    pub left : here ≡ leave_entry depth mid

  pub leaving_start : (start here : CursorView) → IsSound start → here ≡ leave_entry depth start
      → Leaving start here
  leaving_start start here s left =
      record { mid = start; seeking = seeking_start limit depth offset start s; left = left }

  pub leaving_sound : (start here : CursorView) → Leaving start here → IsSound here
  leaving_sound start here k =
      rw k.left (onward_follow k.mid k.mid depth (onward_start k.mid k.seeking.onward.sound)).sound

  -- an entry of another depth is passed
  pub leaving_on : (start here : CursorView) (outcome : Result (Unit {0}) Error) (new : CursorView)
      → Leaving start here → HasPassed limit depth here outcome new → outcome ≡ Ok tt
      → int_eq here.raw.depth depth ≡ false → Leaving start new
  leaving_on start here outcome new k (a_pass mid read is same) took other =
      let deep = read_depth limit here mid (Ok true) read refl in
      record {
        mid = mid;
        seeking =
            seeking_on limit depth offset start k.mid (Ok true) mid k.seeking (rw k.left at read)
            refl (rw deep other);
        left = same;
      }
  leaving_on start here outcome new k (no_pass e read is fine) took other =
      let x : ◌≡◌ {A = Result (Unit {0}) Error} (Err e) (Ok tt) = sym is ∙ took in absurd (cc)

  -- entries of other depths are passed, one after the other
  leaving_many : (start old : CursorView) (n : ℕ) (new : CursorView) → Leaving start old
      → HasPassedMany limit depth n old new → Leaving start new
  leaving_many start old zero new k passed = rw passed k
  leaving_many start old (suc n) new k passed =
      leaving_on start passed.0 (Ok tt) new (leaving_many start old n passed.0 k passed.1)
      passed.3 refl passed.2

  pub leaving_to : (start old new : CursorView) → Leaving start old
      → HasPassedTo limit depth old new → Leaving start new
  leaving_to start old new k h = leaving_many start old h.count new k h.passed

  -- an entry of another depth is refused
  pub leaving_out : (start here : CursorView) (outcome : Result (Unit {0}) Error) (new : CursorView)
      → Leaving start here → HasPassed limit depth here outcome new → (x : Error)
      → outcome ≡ Err x → HasSought limit depth offset start (Err x) new
  leaving_out start here outcome new k (a_pass mid read is same) x fails =
      let y : ◌≡◌ {A = Result (Unit {0}) Error} (Ok tt) (Err x) = sym is ∙ fails in absurd (cc)
  leaving_out start here outcome new k (no_pass e read is fine) x fails =
      let y : ◌≡◌ {A = Result (Unit {0}) Error} (Err e) (Err x) = sym is ∙ fails in
      let one : e ≡ x = cc in
      sought_out limit depth offset start k.mid (Err e) new k.seeking (rw k.left at read) x
      (ap Err one) (λ memory. absurd (fine (one ∙ memory)))

  -- the entry after them is refused
  pub leaving_after : (start old : CursorView) (x : Error) (new : CursorView) → Leaving start old
      → IsRefusedAfter limit depth old x new → HasSought limit depth offset start (Err x) new
  leaving_after start old x new k h =
      leaving_out start h.mid (Err x) new (leaving_many start old h.count h.mid k h.passed)
      h.refused x refl

  -- what is read then has the depth
  pub left_to : (start here : CursorView) (outcome : Result Bool Error) (new : CursorView)
      → Leaving start here → HasRead limit here outcome new → outcome ≡ Ok true
      → ((length here.raw.rest.bytes ≡ 0 → ⊥) → int_eq here.raw.depth depth ≡ true)
      → HasSought limit depth offset start (Ok (not (is_null new.entry))) new
  left_to start here outcome new k read took there =
      let deep = read_depth limit here new outcome read took in
      let at = there (read_some limit here new outcome read took) in
      sought_to limit depth offset start k.mid outcome new k.seeking (rw k.left at read) took
      (rw deep at)

  pub left_end : (start here : CursorView) (outcome : Result Bool Error) (new : CursorView)
      → Leaving start here → HasRead limit here outcome new → outcome ≡ Ok false
      → HasSought limit depth offset start (Ok false) (paired limit depth offset new)
  left_end start here outcome new k read ends =
      sought_end limit depth offset start k.mid outcome new k.seeking (rw k.left at read) ends

  pub left_out : (start here : CursorView) (outcome : Result Bool Error) (new : CursorView)
      → Leaving start here → HasRead limit here outcome new → (x : Error) → outcome ≡ Err x
      → ((length here.raw.rest.bytes ≡ 0 → ⊥) → int_eq here.raw.depth depth ≡ true)
      → HasSought limit depth offset start (Err x) new
  left_out start here outcome new k read x fails there =
      let at = refused_at limit here new outcome read x fails in
      sought_out limit depth offset start k.mid outcome new k.seeking (rw k.left at read) x fails
      (λ _. at.1 ∙ equal here.raw.depth depth (there at.0))

-- entries that were passed up to here, on the way to a depth
pub record Passing (limit : ℕ) (sought : ℤ) (start here : CursorView) : Type 0 where
  pub count : ℕ
  pub passed : HasPassedMany limit sought count start here
  pub sound : IsSound here

module _ (limit : ℕ) (sought : ℤ) (start : CursorView) where
  -- one more is passed
  pub passing_on : (here : CursorView) (outcome : Result (Unit {0}) Error) (new : CursorView)
      → Passing limit sought start here → HasPassed limit sought here outcome new
      → outcome ≡ Ok tt → int_eq here.raw.depth sought ≡ false → Passing limit sought start new
  passing_on here outcome new k h took other =
      record {
        count = suc k.count;
        passed = (here, k.passed, other, rw took at h);
        sound = sound_pass limit sought here outcome new k.sound h;
      }

  -- each turn leaves fewer bytes
  pub passing_shorter : (here : CursorView) (outcome : Result (Unit {0}) Error) (new : CursorView)
      → IsSound here → HasPassed limit sought here outcome new → outcome ≡ Ok tt
      → length new.raw.rest.bytes < length here.raw.rest.bytes
  passing_shorter here outcome new s (a_pass mid read is same) took =
      let o = onward_follow mid mid sought
      (onward_start mid (sound_read limit here (Ok true) mid s read)) in
      let fewer = IsLater-length 0 mid.raw.rest (leave_entry sought mid).raw.rest o.further in
      let one = read_shorter limit here (Ok true) mid read refl in
      rw same (omega (arith, fewer, one))
  passing_shorter here outcome new s (no_pass e read is fine) took =
      let x : ◌≡◌ {A = Result (Unit {0}) Error} (Err e) (Ok tt) = sym is ∙ took in absurd (cc)

  -- the next one is refused
  pub passing_out : (here : CursorView) (outcome : Result (Unit {0}) Error) (new : CursorView)
      → Passing limit sought start here → HasPassed limit sought here outcome new → (x : Error)
      → outcome ≡ Err x → IsRefusedAfter limit sought start x new
  passing_out here outcome new k h x fails =
      record { count = k.count; mid = here; passed = k.passed; refused = rw fails at h }

  -- it has the depth, or there is none
  pub passing_to : (here : CursorView) → Passing limit sought start here
      → ((length here.raw.rest.bytes ≡ 0 → ⊥) → int_eq here.raw.depth sought ≡ true)
      → HasPassedTo limit sought start here
  passing_to here k there = record { count = k.count; passed = k.passed; there = there }

-- what passing the next entry makes of a cursor, whose view tells whether references are followed
pub passed_here : (limit : ℕ) (sought : ℤ) (p q : RawPlace) (f g : Bool)
    (outcome : Result (Unit {0}) Error) → f ≡ g
    → ((c : CursorView) → let old = record c { raw = p; follows = f } in
    HasPassed limit sought old outcome (passed_over old q))
    → (offset : ℕ) (depth : ℤ) (reads : ℕ) → let here = without_entry p offset depth g reads in
    HasPassed limit sought here outcome (passed_over here q)
passed_here limit sought p q f g outcome same passed offset depth reads =
    rw same at passed (without_entry p offset depth g reads)
