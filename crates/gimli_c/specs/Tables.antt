-- A table of abbreviations that lies in a caller's buffers, and the rows that it gives (DWARF 5,
-- 7.5.3).
use Rattle.std.specs.Prelude.{◌≡◌, ℕ, ◌+◌, ◌≤◌, ◌==◌, ◌^◌, ◌&&◌, nat_le, not, if◌then◌else◌, Bool}
use Rattle.std.specs.Prelude.{true}
use Rattle.std.specs.Prelude.{false, List, [], ◌∷◌, ◌++◌, map, take, drop, length, Result, Ok, Err}
use Rattle.std.specs.Prelude.{cond, IfOk}
use Rattle.gimli_base.specs.declared.error.Error.{Error}
use Rattle.gimli_base.specs.View.{View}
use Rattle.gimli_base.specs.Reading.{Reads, skip_at}
use Rattle.gimli_base.specs.Items.{Items}
use Rattle.gimli_base.specs.Abbreviations.{Specification, Declaration, constant_of}
use Rattle.gimli_base.specs.Abbreviations.{declarations_at}
use Rattle.gimli_base.specs.Steps.{IsRun}
use Rattle.gimli_base.specs.Table.{Table, codes_of}
use Rattle.gimli_units.specs.Rows.{Ahead}
use Rattle.gimli_units.specs.Unit.{UnitView}
use Rattle.gimli_c.specs.declared.rows.GimliPlace.{GimliPlace}
use Rattle.gimli_c.specs.declared.sections.GimliSections.{GimliSections}
use Rattle.gimli_c.specs.declared.table.GimliCounted.{GimliCounted}
use Rattle.gimli_c.specs.declared.table.GimliDeclaration.{GimliDeclaration}
use Rattle.gimli_c.specs.declared.table.GimliSpecification.{GimliSpecification}
use Rattle.gimli_c.specs.declared.table.GimliTable.{GimliTable}
use Rattle.gimli_c.specs.Fronts.{unit_ahead, section_rows}
use Rattle.gimli_c.specs.Status.{more, end, unordered, refusal_status, memory_refused}
use Rattle.gimli_c.specs.Units.{section_unit}

-- a declared attribute of a caller's
abbrev pub specification_in : GimliSpecification → Specification
specification_in s = record {
  name = record { 0 = s.name };
  form = record { 0 = s.form };
  constant = constant_of s.form s.constant;
}

-- the attributes of a caller's declaration: those that lie within the list
abbrev pub declared_in : List GimliSpecification → GimliDeclaration → List GimliSpecification
declared_in ss d = take d.attributes (drop d.first ss)

-- the step of each attribute is that of as many attributes from it on, where there are so many; one
-- of no values, all zeros, is always
abbrev pub HasSteps : List GimliSpecification → Type 0
HasSteps [] = Unit {0}
HasSteps (s ∷ ss) = (s.step.values ≤ length (s ∷ ss)
    → IsRun s.step (take s.step.values (map specification_in (s ∷ ss)))) × HasSteps ss

abbrev pub declaration_in : List GimliSpecification → GimliDeclaration → Declaration
declaration_in ss d = record {
  code = d.code;
  tag = record { 0 = d.tag };
  has_children = not (d.has_children == 0);
  attributes = map specification_in (declared_in ss d);
}

-- a caller's table: the declaration at index i is that of the code i + 1, whatever its `code` is
abbrev pub table_of : List GimliDeclaration → List GimliSpecification → Table
table_of ds ss = record { dense = map (declaration_in ss) ds; others = [] }

abbrev pub table_in : GimliTable → Table
table_in t = table_of t.declarations.now t.specifications.now

-- the rows of a unit from a place on by a table, or the status of a call that reads none
abbrev pub read_by : ℕ → Result UnitView Error → Table → GimliPlace → Result Ahead ℕ
read_by limit (Ok u) t place = unit_ahead limit u (codes_of t) place
read_by limit (Err e) t place = Err (refusal_status e)

-- those of the unit at an offset of a caller's units
abbrev pub rows_by : GimliSections → ℕ → Table → GimliPlace → Result Ahead ℕ
rows_by s unit t place = read_by (2 ^ 64) (section_unit s unit) t place

-- the status of a call that reads by a table: it never says that memory was refused for a table,
-- and a refusal of the unit has its own
abbrev pub NoTableRefused : Result UnitView Error → ℕ → Type 0
NoTableRefused (Ok u) status = status ≡ memory_refused → ⊥
NoTableRefused (Err e) status = status ≡ refusal_status e

-- the codes of declarations are k, k + 1, ..
abbrev pub in_order : ℕ → List Declaration → Bool
in_order k [] = true
in_order k (d ∷ ds) = if d.code == k then in_order (k + 1) ds else false

-- the attributes of declarations, one after the other
abbrev pub all_specifications : List Declaration → List Specification
all_specifications [] = []
all_specifications (d ∷ ds) = d.attributes ++ all_specifications ds

-- a declaration whose first attribute has this index
abbrev pub numbered : ℕ → Declaration → GimliDeclaration
numbered first d = record {
  code = d.code;
  first = first;
  attributes = length d.attributes;
  tag = d.tag.0;
  has_children = cond d.has_children 1 0;
}

abbrev pub number_declarations : ℕ → List Declaration → List GimliDeclaration
number_declarations first [] = []
number_declarations first (d ∷ ds) =
    numbered first d ∷ number_declarations (first + length d.attributes) ds

-- how many declarations and attributes there are
abbrev pub count_of : List Declaration → GimliCounted
count_of ds =
    record { declarations = length ds; specifications = length (all_specifications ds) }

-- whether there is room for all of them
abbrev pub have_room : ℕ → ℕ → GimliCounted → Bool
have_room room space n = nat_le n.declarations room && nat_le n.specifications space

-- the status, and how many are counted, where declarations are read and there is so much room
abbrev pub table_outcome : ℕ → ℕ → Items Declaration → ℕ × GimliCounted
table_outcome room space ds = if in_order 1 ds.items then elim ds.ending [
  | Ok w ↦ (if have_room room space (count_of ds.items) then end else more, count_of ds.items)
  | Err e ↦ (refusal_status e, count_of [])
] else (unordered, count_of [])

-- these declarations are written, and the rest of the buffers stays as it was
pub record AreWritten (ds : List Declaration) (old : List GimliDeclaration)
    (old_s : List GimliSpecification) (new : List GimliDeclaration)
    (new_s : List GimliSpecification) : Type 0 where
  pub declarations : new ≡ number_declarations 0 ds ++ drop (length ds) old
  pub specifications : let n = length (all_specifications ds) in
      map specification_in (take n new_s) ≡ all_specifications ds
  pub steps : HasSteps (take (length (all_specifications ds)) new_s)
  pub rest : let n = length (all_specifications ds) in drop n new_s ≡ drop n old_s

-- All declarations up to the code 0 are counted, and written where there is room for all of them
-- and for their attributes; else the buffers stay as they were.
pub record IsTable (ds : Items Declaration) (old : List GimliDeclaration)
    (old_s : List GimliSpecification) (new : List GimliDeclaration)
    (new_s : List GimliSpecification) (n : GimliCounted) (status : ℕ) : Type 0 where
  pub outcome : (status, n) ≡ table_outcome (length old) (length old_s) ds
  pub written : status ≡ end → AreWritten ds.items old old_s new new_s
  pub kept : (status ≡ end → ⊥) → (new ≡ old) × (new_s ≡ old_s)

-- the same of the declarations at a place of a section, which may be refused
abbrev pub IsTableIn : Reads (Unit {0}) → List GimliDeclaration → List GimliSpecification
    → List GimliDeclaration → List GimliSpecification → GimliCounted → ℕ → Type 0
IsTableIn (Ok p) old old_s new new_s n status =
    IsTable (declarations_at p.1) old old_s new new_s n status
IsTableIn (Err e) old old_s new new_s n status =
    (status ≡ refusal_status e) × (n ≡ count_of []) × (new ≡ old) × (new_s ≡ old_s)

abbrev pub IsTableAt : ℕ → View → List GimliDeclaration → List GimliSpecification
    → List GimliDeclaration → List GimliSpecification → GimliCounted → ℕ → Type 0
IsTableAt offset v old old_s new new_s n status =
    IsTableIn (skip_at offset v) old old_s new new_s n status

-- a unit's abbreviations are at an offset; it holds of a unit that is refused
abbrev pub HasTableAt : ℕ → Result UnitView Error → Type 0
HasTableAt offset r = IfOk r (λ u. u.abbreviations ≡ offset)

-- the rows of a unit by a table are its own
abbrev pub Serves : GimliSections → ℕ → Table → Type 0
Serves s unit t = (place : GimliPlace) → rows_by s unit t place ≡ section_rows s unit place
