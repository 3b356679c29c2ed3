-- Steps of reading a table of abbreviations into a caller's buffers (DWARF 5, 7.5.3).
use Rattle.std.specs.Prelude.{◌≡◌, ℕ, ◌+◌, ◌<◌, ◌≤◌, List, [], ◌∷◌, ◌++◌, map, take, drop}
use Rattle.std.specs.Prelude.{length, Option, Some, None, Ok}
use Rattle.gimli_base.specs.View.{View}
use Rattle.gimli_base.specs.Reading.{Reads}
use Rattle.gimli_base.specs.Items.{Items}
use Rattle.gimli_base.specs.Steps.{IsRun}
use Rattle.gimli_base.specs.Abbreviations.{Specification, Declaration, specifications_at}
use Rattle.gimli_base.specs.Abbreviations.{declaration_at}
use Rattle.gimli_c.specs.declared.table.GimliCounted.{GimliCounted}
use Rattle.gimli_c.specs.declared.table.GimliDeclaration.{GimliDeclaration}
use Rattle.gimli_c.specs.declared.table.GimliSpecification.{GimliSpecification}
use Rattle.gimli_c.specs.Status.{end}
use Rattle.gimli_c.specs.Tables.{specification_in, numbered, table_outcome, AreWritten}

-- the step of each attribute is that of as many attributes from it on, and there are so many
abbrev pub OwnSteps : List GimliSpecification → Type 0
OwnSteps [] = Unit {0}
OwnSteps (s ∷ ss) = IsRun s.step (take s.step.values (map specification_in (s ∷ ss)))
    × OwnSteps ss

-- these attributes are written after the first `from`, where there is room for them
pub record AreWrittenAfter (from : ℕ) (ss : List Specification) (old new : List GimliSpecification)
    : Type 0 where
  pub long : length new ≡ length old
  pub front : take from new ≡ take from old
  pub written : from + length ss ≤ length old
      → map specification_in (take (from + length ss) new)
      ≡ map specification_in (take from old) ++ ss
  pub rest : from + length ss ≤ length old
      → drop (from + length ss) new ≡ drop (from + length ss) old

-- if those before them have steps, so have these
abbrev pub HaveSteps : ℕ → ℕ → List GimliSpecification → List GimliSpecification → Type 0
HaveSteps from n old new =
    from + n ≤ length old → OwnSteps (take from old) → OwnSteps (take (from + n) new)

-- the declared attributes of a declaration are read, and written after the first `from`
pub record WroteDeclared (from : ℕ) (v w : View) (old new : List GimliSpecification) (n : ℕ)
    : Type 0 where
  pub specifications : List Specification
  pub read : ◌≡◌ {A = Reads (List Specification)} (Ok (specifications, w)) (specifications_at v)
  pub count : n ≡ length specifications
  pub takes : n + length w.bytes ≤ length v.bytes
  pub after : AreWrittenAfter from specifications old new
  pub steps : HaveSteps from (length specifications) old new

-- the next declaration is read, and its attributes are written after the first `from`
pub record WroteNext (from : ℕ) (v w : View) (old new : List GimliSpecification)
    (g : GimliDeclaration) : Type 0 where
  pub declaration : Declaration
  pub read : ◌≡◌ {A = Reads (Option Declaration)} (Ok (Some declaration, w)) (declaration_at v)
  pub is : g ≡ numbered from declaration
  pub takes : g.attributes + length w.bytes < length v.bytes
  pub after : AreWrittenAfter from declaration.attributes old new
  pub steps : HaveSteps from (length declaration.attributes) old new

-- the next declaration, or the code 0 that ends the table
abbrev pub ReadNext : ℕ → View → View → List GimliSpecification → List GimliSpecification
    → Option GimliDeclaration → Type 0
ReadNext from v w old new None =
    ◌≡◌ {A = Reads (Option Declaration)} (Ok (None, w)) (declaration_at v) × (new ≡ old)
ReadNext from v w old new (Some g) = WroteNext from v w old new g

-- all declarations are counted, and written where there is room for all
pub record IsScanned (ds : Items Declaration) (old : List GimliDeclaration)
    (old_s : List GimliSpecification) (new : List GimliDeclaration)
    (new_s : List GimliSpecification) (n : GimliCounted) (status : ℕ) : Type 0 where
  pub outcome : (status, n) ≡ table_outcome (length old) (length old_s) ds
  pub written : status ≡ end → AreWritten ds.items old old_s new new_s
