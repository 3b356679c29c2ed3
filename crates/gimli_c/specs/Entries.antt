-- The rows and attributes that a call writes, of the rows ahead of a place (DWARF 5, 2.3).
use Rattle.std.specs.Prelude.{◌≡◌, ℕ, zero, suc, ◌+◌, ◌-◌, ◌<◌, ◌≤◌, min, nat_lt, nat_le, cond}
use Rattle.std.specs.Prelude.{if◌then◌else◌}
use Rattle.std.specs.Prelude.{◌≢◌, IsSome}
use Rattle.std.specs.Prelude.{List, [], ◌∷◌, ◌++◌, map, take, drop, length, Option, Some, None}
use Rattle.std.specs.Prelude.{Result, Ok, Err}
use Rattle.gimli_base.specs.declared.error.Error.{Error}
use Rattle.gimli_units.specs.Entry.{Attr}
use Rattle.gimli_units.specs.Rows.{Row, Ahead}
use Rattle.gimli_c.specs.declared.attrs.GimliAttr.{GimliAttr}
use Rattle.gimli_c.specs.declared.entries.GimliEntry.{GimliEntry}
use Rattle.gimli_c.specs.declared.entries.GimliFilled.{GimliFilled}
use Rattle.gimli_c.specs.declared.rows.GimliPlace.{GimliPlace}
use Rattle.gimli_c.specs.Status.{more, end, row_refused, memory_refused, row_memory_refused}
use Rattle.gimli_c.specs.Attrs.{attr_of}
use Rattle.gimli_c.specs.Fronts.{first_place}

abbrev pub attributes_of : Row → List Attr
attributes_of r = r.entry.attributes

-- the attributes of rows, one after the other
abbrev pub all_attributes : List Row → List Attr
all_attributes [] = []
all_attributes (r ∷ rs) = attributes_of r ++ all_attributes rs

-- a row whose first attribute has this index
abbrev pub numbered_row : ℕ → Row → GimliEntry
numbered_row first r = record {
  offset = r.offset;
  depth = r.depth;
  first = first;
  attributes =
      length (attributes_of r);
  tag = r.entry.tag.0;
  has_children = cond r.entry.has_children 1 0;
}

abbrev pub number_rows : ℕ → List Row → List GimliEntry
number_rows first [] = []
number_rows first (r ∷ rs) =
    numbered_row first r ∷ number_rows (first + length (attributes_of r)) rs

-- how many rows from the front there is room for, and space for all their attributes
abbrev pub fit : ℕ → ℕ → List Row → ℕ
fit zero space rows = 0
fit (suc room) space [] = 0
fit (suc room) space (r ∷ rs) =
    if nat_le (length (attributes_of r)) space then suc (fit room (space - length (attributes_of r))
    rs) else 0

-- the status where so many of all rows ahead are written, and there is room for so many
abbrev pub status_fit : ℕ → ℕ → ℕ → Option Error → ℕ
status_fit room count total None = if nat_lt count total then more else end
status_fit room count total (Some e) =
    if nat_lt count total then more else if nat_lt count room then row_refused e else more

-- how many attributes the first of these rows has
abbrev pub first_wants : List Row → ℕ
first_wants [] = 0
first_wants (r ∷ rs) = length (attributes_of r)

-- how many attributes the row after the first `count` has, where there is room for it
abbrev pub wanted_of : ℕ → ℕ → List Row → ℕ
wanted_of room count rows = if nat_lt count room then first_wants (drop count rows) else 0

-- how much is written
abbrev pub wrote : ℕ → ℕ → ℕ → GimliFilled
wrote rows attributes wanted =
    record { rows = rows; attributes = attributes; wanted = wanted }

-- reading the row that comes next asks for memory: it has attributes, or it is refused
abbrev pub AskMemory : List Row → Option Error → Type 0
AskMemory [] refusal = IsSome refusal
AskMemory (r ∷ rs) refusal = attributes_of r ≢ []

-- Rows from the front of those ahead are written with their attributes, the rest stays as it was,
-- and the place is after them. They are as many as fit; where memory was refused for the table
-- there is none, and where it was for the attributes of a row, that row and those after it are not
-- written; then the row has some, or is refused.
pub record FilledEntries (ahead : Ahead) (old : List GimliEntry) (old_attrs : List GimliAttr)
    (place : GimliPlace) (new : List GimliEntry) (attrs : List GimliAttr) (n : GimliFilled)
    (status : ℕ) : Type 0 where
  pub rows : new ≡ number_rows 0 (take n.rows ahead.rows) ++ drop n.rows old
  pub attributes : attrs
      ≡ map attr_of (all_attributes (take n.rows ahead.rows)) ++ drop n.attributes old_attrs
  pub used_is : n.attributes ≡ length (all_attributes (take n.rows ahead.rows))
  pub after : place ≡ first_place (drop n.rows ahead.rows) ahead.stop ahead.stop_depth
  pub fits : n.rows ≤ min (length old) (length ahead.rows)
  pub none : status ≡ memory_refused → n ≡ wrote 0 0 0
  pub short : status ≡ row_memory_refused → (n.rows < length old) × (n.wanted ≡ 0)
      × AskMemory (drop n.rows ahead.rows) ahead.refusal
  pub whole : (status ≡ memory_refused → ⊥) → (status ≡ row_memory_refused → ⊥)
      → (n.rows ≡ fit (length old) (length old_attrs) ahead.rows)
      × (n.wanted ≡ wanted_of (length old) n.rows ahead.rows)
      × (status ≡ status_fit (length old) n.rows (length ahead.rows) ahead.refusal)

-- nothing is written, and the place stays
pub record StoppedEntries (stop : ℕ) (from : GimliPlace) (old : List GimliEntry)
    (old_attrs : List GimliAttr) (place : GimliPlace) (new : List GimliEntry)
    (attrs : List GimliAttr) (n : GimliFilled) (status : ℕ) : Type 0 where
  pub rows : new ≡ old
  pub attributes : attrs ≡ old_attrs
  pub none : n ≡ wrote 0 0 0
  pub place_stays : place ≡ from
  pub whole : (status ≡ memory_refused → ⊥) → status ≡ stop

-- what a call does
abbrev pub IsEntriesOutcome : Result Ahead ℕ → GimliPlace → List GimliEntry → List GimliAttr
    → GimliPlace → List GimliEntry → List GimliAttr → GimliFilled → ℕ → Type 0
IsEntriesOutcome (Ok ahead) from old old_attrs place new attrs n status =
    FilledEntries ahead old old_attrs place new attrs n status
IsEntriesOutcome (Err stop) from old old_attrs place new attrs n status =
    StoppedEntries stop from old old_attrs place new attrs n status
