-- What one read makes of a cursor, and what a search for a depth does, of which the steps are made
-- (DWARF 5, 2.3 and 7.5.2).
use Rattle.std.specs.Prelude.{◌≡◌, ℕ, zero, suc, not, ◌+◌, ◌<◌, ◌≤◌, ℤ, pos, ◌-ℤ◌, ◌≤ℤ◌, Bool, true}
use Rattle.std.specs.Prelude.{false, int_le, if◌then◌else◌, length, Option, Some, None, Result, Ok}
use Rattle.std.specs.Prelude.{Err, OnErr}
use Rattle.std.specs.Ordering.{int_eq}
use Rattle.gimli_base.specs.declared.error.Error.{Error}
use Rattle.gimli_base.specs.declared.error.Error.TheVariants.{OutOfMemory}
use Rattle.gimli_base.specs.View.{View, end_of_view}
use Rattle.gimli_base.specs.Reading.{UnlessMemory}
use Rattle.gimli_units.specs.Entry.{Entry, null_entry, is_null}
use Rattle.gimli_units.specs.RawPlace.{RawPlace, next_offset_of, depth_after}
use Rattle.gimli_units.specs.Kind.{kind_of}
use Rattle.gimli_units.specs.Honest.{target}
use Rattle.gimli_units.specs.CursorPlace.{Moved, has_depth, seek, first_of_rows}
use Rattle.gimli_units.specs.CursorModel.{CursorView, next_of, rows_of, rows_from, place_of}
use Rattle.gimli_units.specs.CursorModel.{followed_to, view_from, takes_memory_at, IsHonestFor}
use Rattle.gimli_units.specs.CursorModel.{IsSameUnit, IsTrueEntry, IsRefused, IsNotFound, IsAheadOf}
use Rattle.gimli_units.specs.CursorModel.{IsFurther, AreFewReads, IsReadOnce, IsReadUpTo}
use Rattle.gimli_units.specs.CursorModel.{one_if_left}

-- a reader of the same unit that stands elsewhere
abbrev pub stands_at : RawPlace → View → ℤ → RawPlace
stands_at p rest depth =
    record {
      rest = rest;
      encoding = p.encoding;
      abbreviations = p.abbreviations;
      end = p.end;
      depth = depth;
    }

-- a reader that goes to an offset at a depth, if it goes
abbrev pub stands_if : RawPlace → Option ℕ → ℤ → RawPlace
stands_if p None depth = p
stands_if p (Some t) depth = stands_at p (view_from p t) depth

-- an entry was read, and this is left
abbrev pub after_entry : CursorView → Entry → View → CursorView
after_entry c e w =
    record {
      raw = stands_at c.raw w (depth_after e c.raw.depth);
      entry = e;
      offset = next_offset_of c.raw;
      depth = c.raw.depth;
      follows = c.follows;
      reads = c.reads + 1;
    }

-- what stood there was refused
abbrev pub after_refusal : CursorView → CursorView
after_refusal c =
    record {
      raw = stands_at c.raw (end_of_view c.raw.rest) c.raw.depth;
      entry = null_entry;
      offset = next_offset_of c.raw;
      depth = c.raw.depth;
      follows = c.follows;
      reads = c.reads + 1;
    }

-- nothing was left
abbrev pub after_end : CursorView → CursorView
after_end c =
    record {
      raw = c.raw;
      entry = null_entry;
      offset = c.offset;
      depth = c.depth;
      follows = c.follows;
      reads = c.reads;
    }

-- one read
pub data HasRead (limit : ℕ) (old : CursorView) (outcome : Result Bool Error)
    (new : CursorView) : Type 0 where
  an_entry : (e : Entry) (w : View) → (length old.raw.rest.bytes ≡ 0 → ⊥)
      → Ok (e, w) ≡ next_of limit old.raw old.raw.rest → outcome ≡ Ok true
      → new ≡ after_entry old e w → HasRead limit old outcome new
  the_end : length old.raw.rest.bytes ≡ 0 → outcome ≡ Ok false → new ≡ after_end old
      → HasRead limit old outcome new
  a_refusal : (e : Error) → (length old.raw.rest.bytes ≡ 0 → ⊥) → outcome ≡ Err e
      → new ≡ after_refusal old
      → ((e ≡ OutOfMemory → ⊥) → Err e ≡ next_of limit old.raw old.raw.rest)
      → (e ≡ OutOfMemory → takes_memory_at old.raw (next_offset_of old.raw) ≡ true)
      → HasRead limit old outcome new

-- where the reference of an entry of at least this depth leads, if it is followed
abbrev pub target_for : ℤ → CursorView → Option ℕ
target_for sought c = if int_le sought c.depth then followed_to c else None

-- where the reference of an entry of at least this depth leads, if references are followed
abbrev pub reference_for : ℤ → CursorView → Option ℕ
reference_for sought c =
    if int_le sought c.depth then (if c.follows then target (kind_of c.entry) else None) else None

-- the entry is left: for where its reference leads, at its depth, if that is followed
abbrev pub leave_entry : ℤ → CursorView → CursorView
leave_entry sought c =
    record {
      raw = stands_if c.raw (target_for sought c) c.depth;
      entry = null_entry;
      offset = c.offset;
      depth = c.depth;
      follows = c.follows;
      reads = c.reads;
    }

-- a cursor that stands there without an entry
abbrev pub without_entry : RawPlace → ℕ → ℤ → Bool → ℕ → CursorView
without_entry raw offset depth follows reads =
    record {
      raw = raw;
      entry = null_entry;
      offset = offset;
      depth = depth;
      follows = follows;
      reads = reads;
    }

-- what is next was passed, or refused, and the reader of entries stands there
abbrev pub passed_over : CursorView → RawPlace → CursorView
passed_over c raw =
    without_entry raw (next_offset_of c.raw) c.raw.depth c.follows (c.reads + 1)

-- an entry was passed, and left, or what stood there was refused; no memory is asked for
pub data HasPassed (limit : ℕ) (sought : ℤ) (old : CursorView) (outcome : Result (Unit {0}) Error)
    (new : CursorView) : Type 0 where
  a_pass : (mid : CursorView) → HasRead limit old (Ok true) mid → outcome ≡ Ok tt
      → new ≡ leave_entry sought mid → HasPassed limit sought old outcome new
  no_pass : (e : Error) → HasRead limit old (Err e) new → outcome ≡ Err e
      → (e ≡ OutOfMemory → ⊥) → HasPassed limit sought old outcome new

-- n entries of other depths were read and left, one after the other
abbrev pub HasPassedMany : ℕ → ℤ → ℕ → CursorView → CursorView → Type 0
HasPassedMany limit sought zero old new = new ≡ old
HasPassedMany limit sought (suc n) old new =
    (mid : CursorView) × HasPassedMany limit sought n old mid
    × (int_eq mid.raw.depth sought ≡ false) × HasPassed limit sought mid (Ok tt) new

-- all up to the first of the depth, or to the end
pub record HasPassedTo (limit : ℕ) (sought : ℤ) (old new : CursorView) : Type 0 where
  pub count : ℕ
  pub passed : HasPassedMany limit sought count old new
  pub there : (length new.raw.rest.bytes ≡ 0 → ⊥) → int_eq new.raw.depth sought ≡ true

-- some were passed, and the next was refused
pub record IsRefusedAfter (limit : ℕ) (sought : ℤ) (old : CursorView) (e : Error)
    (new : CursorView) : Type 0 where
  pub count : ℕ
  pub mid : CursorView
  pub passed : HasPassedMany limit sought count old mid
  pub refused : HasPassed limit sought mid (Err e) new

-- where a search ended, by which a cursor answers and stands as the definition says
abbrev pub Stands : ℕ → Result Bool Error → CursorView → Moved → Type 0
Stands limit outcome new m =
    UnlessMemory outcome (record { outcome = outcome; place = place_of limit new } ≡ m)

-- where a search for a depth ends: at what has that depth, at the end of the bytes, or at a refusal
pub data EndsSearch (limit : ℕ) (depth : ℤ) (offset : ℕ) (here : CursorView)
    (outcome : Result Bool Error) (new : CursorView) : Type 0 where
  at_depth : HasRead limit (leave_entry depth here) (Ok true) new → int_eq new.depth depth ≡ true
      → outcome ≡ Ok (not (is_null new.entry)) → EndsSearch limit depth offset here outcome new
  at_end : (last : CursorView) → HasRead limit (leave_entry depth here) (Ok false) last
      → outcome ≡ Ok false → new ≡ record last { offset = offset; depth = depth }
      → EndsSearch limit depth offset here outcome new
  at_refusal : (e : Error) → HasRead limit (leave_entry depth here) (Err e) new
      → outcome ≡ Err e → EndsSearch limit depth offset here outcome new

-- A search for a depth, read by read, whatever the references: n entries of other depths are
-- passed, each left for where its reference leads, if that is followed; and there the search ends.
abbrev pub Searches : ℕ → ℕ → ℤ → ℕ → CursorView → Result Bool Error → CursorView → Type 0
Searches limit zero depth offset here outcome new = EndsSearch limit depth offset here outcome new
Searches limit (suc n) depth offset here outcome new =
    (mid : CursorView) × HasRead limit (leave_entry depth here) (Ok true) mid
    × (int_eq mid.depth depth ≡ false) × Searches limit n depth offset mid outcome new

-- An entry of this depth was sought: where the rows are honest, the first row ahead that has it was
-- found. Whatever the references, what was answered is true, and where the current entry has that
-- depth and a reference that is followed, one read was made, and what stands there was answered.
-- Memory was asked for at an entry of that depth alone.
pub record HasSought (limit : ℕ) (depth : ℤ) (offset : ℕ) (old : CursorView)
    (outcome : Result Bool Error) (new : CursorView) : Type 0 where
  pub unit : IsSameUnit old new
  pub further : IsFurther old new
  pub few : AreFewReads old new
  pub more : old.reads ≤ new.reads
  pub found : (old.follows ≡ true → IsHonestFor limit depth old)
      → Stands limit outcome new (seek old.raw.end depth offset (rows_of limit old.raw))
  pub yes : outcome ≡ Ok true
      → IsTrueEntry limit old new × (is_null new.entry ≡ false) × (new.depth ≡ depth)
  pub no : outcome ≡ Ok false → IsNotFound limit depth offset old new
  pub refused : (e : Error) → outcome ≡ Err e → IsRefused limit old e new
  pub asked : outcome ≡ Err OutOfMemory → new.depth ≡ depth
  pub place : (e : Error) → outcome ≡ Err e → (old.follows ≡ true → IsHonestFor limit depth old)
      → IsAheadOf limit (has_depth depth) old new
  pub there : (t : ℕ) → followed_to old ≡ Some t → old.depth ≡ depth
      → Stands limit outcome new
      (first_of_rows old.raw.end depth offset (rows_from limit old.raw t depth))
  pub once : (t : ℕ) → followed_to old ≡ Some t → old.depth ≡ depth
      → new.reads ≡ old.reads + one_if_left (view_from old.raw t)
  pub refused_there : (e : Error) → outcome ≡ Err e → (t : ℕ) → followed_to old ≡ Some t
      → old.depth ≡ depth → (new.offset ≡ t) × (new.depth ≡ depth)
  pub counted : (outcome ≡ Ok false → ⊥) → old.reads < new.reads
  pub plain : old.follows ≡ false
      → UnlessMemory outcome (IsReadOnce limit old new) × OnErr outcome (IsReadUpTo limit old new)
  pub inside : depth ≤ℤ old.raw.depth → (depth -ℤ pos 1) ≤ℤ new.raw.depth
  pub steps : (n : ℕ) × Searches limit n depth offset old outcome new
