-- What the steps of a cursor answer, and what those that lend an entry leave once it is no longer
-- borrowed (DWARF 5, 2.3).
use Rattle.std.specs.Prelude.{◌≡◌, ℕ, ◌+◌, ◌<◌, ◌≤◌, Bool, true, false, is_some, length, Option}
use Rattle.std.specs.Prelude.{Some, IfSome, Result, Ok, Err, IfOk, OnErr}
use Rattle.std.specs.Option.{option_map}
use Rattle.std.specs.Borrow.{Fml, RattleType, Bor, MutBor}
use Rattle.std.specs.Io.BufRead.{Rests}
use Rattle.gimli_base.specs.declared.error.Error.{Error}
use Rattle.gimli_base.specs.declared.error.Error.TheVariants.{OutOfMemory}
use Rattle.gimli_base.specs.Offset.{answer_of}
use Rattle.gimli_base.specs.View.{View}
use Rattle.gimli_base.specs.Reading.{UnlessMemory}
use Rattle.gimli_units.specs.declared.entry.DebuggingInformationEntry.{DebuggingInformationEntry}
use Rattle.gimli_units.specs.Entry.{entry_of, is_null}
use Rattle.gimli_units.specs.RawPlace.{next_offset_of}
use Rattle.gimli_units.specs.CursorPlace.{some_of, is_entry, has_depth, next_row}
use Rattle.gimli_units.specs.CursorPlace.{next_in_depth_first_order, next_of_depth, first_of_rows}
use Rattle.gimli_units.specs.CursorModel.{CursorView, Goes, IsHonestFor, followed_to, view_from}
use Rattle.gimli_units.specs.CursorModel.{rows_from, one_if_left, IsTrueEntry, IsRefused, IsAheadOf}
use Rattle.gimli_units.specs.CursorModel.{IsNotFound, IsReadOnce, IsReadUpTo, AreFewReads}
use Rattle.gimli_units.specs.CursorModel.{IsFurther, IsSameUnit}
use Rattle.gimli_units.specs.SearchSteps.{Stands, Searches}

-- A step to the next entry, a null too: the place moves as the definition says, unless memory is
-- refused; and whatever the references that were followed before, what is answered is true. One
-- entry is read where bytes are left.
pub record HasReadOn (limit : ℕ) (old : CursorView) (outcome : Result Bool Error)
    (new : CursorView) : Type 0 where
  pub moves : UnlessMemory outcome (Goes limit (next_row old.raw.end) old outcome new)
  pub true_entry : outcome ≡ Ok true → IsTrueEntry limit old new
  pub refused : (e : Error) → outcome ≡ Err e → IsRefused limit old e new
  pub offset : OnErr outcome (new.offset ≡ next_offset_of old.raw)
  pub depth : OnErr outcome (new.depth ≡ old.raw.depth)
  pub reads : new.reads ≡ old.reads + one_if_left old.raw.rest
  pub once : UnlessMemory outcome (IsReadOnce limit old new)
  pub none : outcome ≡ Ok false → is_null new.entry ≡ true
  pub few : AreFewReads old new
  pub further : IsFurther old new
  pub unit : IsSameUnit old new

-- A step to the next entry that is no null: the place moves as the definition says, unless memory
-- is refused; and whatever the references that were followed before, what is answered is true.
pub record HasWalked (limit : ℕ) (old : CursorView) (outcome : Result Bool Error)
    (new : CursorView) : Type 0 where
  pub moves : UnlessMemory outcome
      (Goes limit (next_in_depth_first_order old.raw.end) old outcome new)
  pub true_entry : outcome ≡ Ok true → IsTrueEntry limit old new × (is_null new.entry ≡ false)
  pub refused : (e : Error) → outcome ≡ Err e
      → IsRefused limit old e new × IsAheadOf limit is_entry old new
  pub once : UnlessMemory outcome (IsReadOnce limit old new)
  pub counted : OnErr outcome (IsReadUpTo limit old new)
  pub shorter : outcome ≡ Ok true → length new.raw.rest.bytes < length old.raw.rest.bytes
  pub none : outcome ≡ Ok false → is_null new.entry ≡ true
  pub more : old.reads ≤ new.reads
  pub few : AreFewReads old new
  pub further : IsFurther old new
  pub unit : IsSameUnit old new

-- A step to the next sibling: the place moves as the definition says where the references are
-- honest, unless memory is refused; and whatever the references, what is answered is true, and a
-- reference of the current entry that is followed is one read. Memory is asked for at an entry of
-- the current one's depth alone.
pub record HasWalkedOver (limit : ℕ) (old : CursorView) (outcome : Result Bool Error)
    (new : CursorView) : Type 0 where
  pub moves : (old.follows ≡ true → IsHonestFor limit old.depth old)
      → UnlessMemory outcome (Goes limit (next_of_depth old.raw.end) old outcome new)
  pub idle : is_null old.entry ≡ true → (outcome ≡ Ok false) × (new ≡ old)
  pub true_entry : outcome ≡ Ok true
      → IsTrueEntry limit old new × (is_null new.entry ≡ false) × (new.depth ≡ old.depth)
  pub refused : (e : Error) → outcome ≡ Err e → IsRefused limit old e new
  pub asked : outcome ≡ Err OutOfMemory → new.depth ≡ old.depth
  pub place : (e : Error) → outcome ≡ Err e → (old.follows ≡ true → IsHonestFor limit old.depth old)
      → IsAheadOf limit (has_depth old.depth) old new
  pub taken : (t : ℕ) → followed_to old ≡ Some t
      → Stands limit outcome new
      (first_of_rows old.raw.end old.depth old.offset (rows_from limit old.raw t old.depth))
  pub one_read : (t : ℕ) → followed_to old ≡ Some t
      → new.reads ≡ old.reads + one_if_left (view_from old.raw t)
  pub refused_there : (e : Error) → outcome ≡ Err e → (t : ℕ) → followed_to old ≡ Some t
      → (new.offset ≡ t) × (new.depth ≡ old.depth)
  pub not_found : outcome ≡ Ok false → is_null old.entry ≡ false
      → IsNotFound limit old.depth old.offset old new
  pub counted : is_null old.entry ≡ false → (outcome ≡ Ok false → ⊥) → old.reads < new.reads
  pub steps : is_null old.entry ≡ false
      → (n : ℕ) × Searches limit n old.depth old.offset old outcome new
  pub plain : old.follows ≡ false
      → UnlessMemory outcome (IsReadOnce limit old new) × OnErr outcome (IsReadUpTo limit old new)
  pub shorter : outcome ≡ Ok true → length new.raw.rest.bytes < length old.raw.rest.bytes
  pub none : outcome ≡ Ok false → is_null new.entry ≡ true
  pub more : old.reads ≤ new.reads
  pub few : AreFewReads old new
  pub further : IsFurther old new
  pub unit : IsSameUnit old new

-- the entry that is lent is the current one, with its offset and depth
abbrev pub IsLent : {R A O : Type 0} → (R → View) → (O → ℕ)
    → Result (Option (Bor (DebuggingInformationEntry R A O))) Error → CursorView → Type 0
IsLent f g result new =
    IfOk result
    (λ o. (option_map (λ e. entry_of f g e.now) o ≡ some_of new.entry)
    × IfSome o (λ e. (g e.now.offset.0 ≡ new.offset) × (e.now.depth ≡ new.depth)))

-- once the entry that is lent is no longer borrowed, a step of this kind was made, and the entry
-- was the current one
abbrev pub LendsEntry : {R A O : Type 0} → (row : RattleType) → (row.Denot → CursorView)
    → (R → View) → (O → ℕ) → (CursorView → Result Bool Error → CursorView → Type 0)
    → MutBor row.Denot → Result (Option (Bor (DebuggingInformationEntry R A O))) Error → Fml
LendsEntry row view f g steps cursor result =
    Rests row cursor
    (λ new. steps (view cursor.now) (answer_of is_some result) (view new)
    × IsLent f g result (view new))
