-- One step of a list of children, as a count of its rows sees it.
use Rattle.std.proofs.Common.{◌≡◌, ℕ, ◌+◌, ◌<◌, ℤ, pos, Bool, true, false, List, [], ◌∷◌, Option}
use Rattle.std.proofs.Common.{Some, None, Result, Ok, Err, refl, sym, ap, ◌∙◌, arith, length}
use Rattle.std.specs.Prelude.{not, if◌then◌else◌}
use Rattle.gimli_base.specs.declared.error.Error.{Error}
use Rattle.gimli_base.specs.declared.error.Error.TheVariants.{OutOfMemory}
use Rattle.gimli_base.specs.Reading.{UnlessMemory}
use Rattle.gimli_units.specs.Entry.{is_null}
use Rattle.gimli_units.specs.Rows.{Row, Ahead}
use Rattle.gimli_units.specs.Honest.{AreHonest}
use Rattle.gimli_units.specs.CursorPlace.{Place, Moved, is_entry, has_depth, arrive, skip_until}
use Rattle.gimli_units.specs.CursorPlace.{seek}
use Rattle.gimli_units.specs.CursorModel.{rows_of, place_of}
use Rattle.gimli_units.specs.CursorModel.{IsHonestCursor}
use Rattle.gimli_units.proofs.TreeLaw.{honest_at, honest_sought, honest_first}
use Rattle.gimli_units.specs.TreeMoves.{TreeView, node_at, list_of, HasGoneOn, HasBegun}
use Rattle.gimli_units.specs.TreePlace.{TreeMoved, children_of}
use Rattle.test_callers.specs.Children.{count_rows, count_in, count_below, children_counted}

-- what is counted after a step
abbrev pub counted_after : ℤ → ℕ → Result Bool Error → Ahead → Result ℕ Error
counted_after depth n (Ok true) a = count_rows depth a.refusal (n + 1) a.rows
counted_after depth n (Ok false) a = Ok n
counted_after depth n (Err e) a = Err e

-- rows of other depths count for nothing
skipped : (depth : ℤ) (refusal : Option Error) (n : ℕ) (rows : List Row)
    → count_rows depth refusal n rows
    ≡ count_rows depth refusal n (skip_until (has_depth depth) rows)
skipped depth refusal n [] = refl
skipped depth refusal n (r ∷ rest) = cases (has_depth depth r) refl (skipped depth refusal n rest)
  where
    cases : (b : Bool) → has_depth depth r ≡ b
        → count_rows depth refusal n rest
        ≡ count_rows depth refusal n (skip_until (has_depth depth) rest)
        → count_rows depth refusal n (r ∷ rest)
        ≡ count_rows depth refusal n
        (if b then r ∷ rest else skip_until (has_depth depth) rest)
    cases true h more = refl
    cases false h more = rw h more

-- the first row of a depth has it
abbrev pub Heads : ℤ → List Row → Type 0
Heads depth [] = Unit {0}
Heads depth (r ∷ rest) = has_depth depth r ≡ true

pub heads : (depth : ℤ) (rows : List Row) → Heads depth (skip_until (has_depth depth) rows)
heads depth [] = tt
heads depth (r ∷ rest) = cases (has_depth depth r) refl (heads depth rest)
  where
    cases : (b : Bool) → has_depth depth r ≡ b → Heads depth (skip_until (has_depth depth) rest)
        → Heads depth (if b then r ∷ rest else skip_until (has_depth depth) rest)
    cases true h more = h
    cases false h more = more

arrives : (depth : ℤ) (n : ℕ) (end : ℕ) (rows rs : List Row) (refusal : Option Error) (stop : ℕ)
    (stop_depth : ℤ) (o : ℕ) (outcome : Result Bool Error) (p : Place) → Heads depth rs
    → record { outcome = outcome; place = p }
    ≡ arrive end
    (record { rows = rows; refusal = refusal; stop = stop; stop_depth = stop_depth }) o
    depth is_entry rs
    → count_rows depth refusal n rs ≡ counted_after depth n outcome p.ahead
arrives depth n end rows [] None stop stop_depth o outcome p h is =
    let r : outcome ≡ Ok false = ap (λ (m : Moved). m.outcome) is in rw r refl
arrives depth n end rows [] (Some e) stop stop_depth o outcome p h is =
    let r : outcome ≡ Err e = ap (λ (m : Moved). m.outcome) is in rw r refl
arrives depth n end rows (x ∷ rest) refusal stop stop_depth o outcome p h is =
    let r : outcome ≡ Ok (not (is_null x.entry)) = ap (λ (m : Moved). m.outcome) is in
    let a : p.ahead
    ≡ record { rows = rest; refusal = refusal; stop = stop; stop_depth = stop_depth } = ap
    (λ (m : Moved). m.place.ahead) is in
    let deep : has_depth depth x ≡ true = h in
    rw (r, a, deep) (cases (is_null x.entry))
  where
    cases : (b : Bool)
        → (if b then Ok n else count_rows depth refusal (n + 1) rest)
        ≡ counted_after depth n (Ok (not b))
        (record { rows = rest; refusal = refusal; stop = stop; stop_depth = stop_depth })
    cases true = refl
    cases false = refl

seeks : (depth : ℤ) (n : ℕ) (end : ℕ) (a : Ahead) (o : ℕ) (outcome : Result Bool Error) (p : Place)
    → record { outcome = outcome; place = p } ≡ seek end depth o a
    → count_rows depth a.refusal n a.rows ≡ counted_after depth n outcome p.ahead
unfolding seek
seeks depth n end a o outcome p is =
    skipped depth a.refusal n a.rows
    ∙ arrives depth n end a.rows (skip_until (has_depth depth) a.rows) a.refusal a.stop
    a.stop_depth o outcome p (heads depth a.rows) is

-- a step of an open list, where the rows are honest
module _ (limit : ℕ) (depth : ℤ) (old new : TreeView) (outcome : Result Bool Error)
    (h : HasGoneOn limit depth old outcome new) (honest : IsHonestCursor limit old.cursor) where
  stands : UnlessMemory outcome
      (record { outcome = outcome; place = place_of limit new.cursor }
      ≡ seek old.cursor.raw.end depth old.cursor.offset (rows_of limit old.cursor.raw))
  stands = h.sought.found (λ f. honest_at limit old.cursor depth honest)

  pub counts : (n : ℕ)
      → UnlessMemory outcome
      (count_rows depth (rows_of limit old.cursor.raw).refusal n
      (rows_of limit old.cursor.raw).rows
      ≡ counted_after depth n outcome (rows_of limit new.cursor.raw))
  counts n = cases outcome stands
    where
      cases : (r : Result Bool Error)
          → UnlessMemory r
          (record { outcome = r; place = place_of limit new.cursor }
          ≡ seek old.cursor.raw.end depth old.cursor.offset (rows_of limit old.cursor.raw))
          → UnlessMemory r
          (count_rows depth (rows_of limit old.cursor.raw).refusal n
          (rows_of limit old.cursor.raw).rows
          ≡ counted_after depth n r (rows_of limit new.cursor.raw))
      cases (Ok b) is =
          seeks depth n old.cursor.raw.end (rows_of limit old.cursor.raw) old.cursor.offset (Ok b)
          (place_of limit new.cursor) is
      cases (Err e) is =
          λ fine. seeks depth n old.cursor.raw.end (rows_of limit old.cursor.raw) old.cursor.offset
          (Err e) (place_of limit new.cursor) (is fine)

  pub stays_honest : (b : Bool) → outcome ≡ Ok b → IsHonestCursor limit new.cursor
  stays_honest b is =
      honest_sought limit old.cursor new.cursor outcome depth old.cursor.offset h.sought.unit.end
      honest (rw is (rw is at stands))

-- a step to a child leaves fewer bytes
pub fewer_left : (limit : ℕ) (depth : ℤ) (old new : TreeView)
    → HasGoneOn limit depth old (Ok true) new
    → length new.cursor.raw.rest.bytes < length old.cursor.raw.rest.bytes
fewer_left limit depth old new h =
    let more = h.sought.counted (λ e. absurd (cc)) in let few = h.sought.few in omega
    (arith, more, few)

-- a list that answers a child was open
pub was_open : (is_open : Bool) (r : Result Bool Error) → (is_open ≡ false → r ≡ Ok false)
    → r ≡ Ok true → is_open ≡ true
was_open true r closed is = refl
was_open false r closed is = let e = closed refl in absurd (cc)

-- a list at its end
pub ended : (limit : ℕ) (is_open : Bool) (depth : ℤ) (old new : TreeView) (n : ℕ)
    → (is_open ≡ true → HasGoneOn limit depth old (Ok false) new) → IsHonestCursor limit old.cursor
    → count_in (list_of is_open depth) n (rows_of limit old.cursor.raw) ≡ Ok n
ended limit true depth old new n gone honest =
    counts limit depth old new (Ok false) (gone refl) honest n
ended limit false depth old new n gone honest = refl

-- a refusal
pub failed : (limit : ℕ) (is_open : Bool) (depth : ℤ) (old new : TreeView) (n : ℕ) (e : Error)
    → (is_open ≡ true → HasGoneOn limit depth old (Err e) new)
    → (is_open ≡ false → ◌≡◌ {A = Result Bool Error} (Err e) (Ok false))
    → IsHonestCursor limit old.cursor → (e ≡ OutOfMemory → ⊥)
    → count_in (list_of is_open depth) n (rows_of limit old.cursor.raw) ≡ Err e
failed limit true depth old new n e gone closed honest fine =
    counts limit depth old new (Err e) (gone refl) honest n fine
failed limit false depth old new n e gone closed honest fine = let k = closed refl in absurd (cc)

-- the root
module _ (limit : ℕ) (old new : TreeView) (h : HasBegun limit old (Ok tt) new)
    (honest : AreHonest old.start.end (rows_of limit old.start).rows) where
  pub root_honest : IsHonestCursor limit new.cursor
  root_honest =
      honest_first limit old.start new.cursor h.first.0 (pos 0) 0 h.unit.end honest h.first.1

  pub root_counted : children_counted old.start.end (rows_of limit old.start)
      ≡ count_in (children_of (node_at new)) 0 (rows_of limit new.cursor.raw)
  root_counted = ap (λ (m : TreeMoved). count_below m.answer m.place.ahead) (sym h.goes)
