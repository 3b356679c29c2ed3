-- The declarations of abbreviations, and the finite map of codes to declarations that they make
-- (DWARF 5, 7.5.3).
use Rattle.std.specs.Prelude.{◌≡◌, ℕ, ℤ, Bool, true, false, ◌||◌, ◌==◌, if◌then◌else◌, is_some}
use Rattle.std.specs.Prelude.{List, [], ◌∷◌, Option, Some, None, Result, Ok, Err}
use Rattle.std.specs.Result.{is_ok}
use Rattle.gimli_base.specs.declared.constants.DwTag.{DwTag}
use Rattle.gimli_base.specs.declared.constants.DwAt.{DwAt}
use Rattle.gimli_base.specs.declared.constants.DwForm.{DwForm}
use Rattle.gimli_base.specs.declared.error.Error.{Error}
use Rattle.gimli_base.specs.declared.error.Error.TheVariants.{AbbreviationTagZero}
use Rattle.gimli_base.specs.declared.error.Error.TheVariants.{InvalidAbbreviationChildren}
use Rattle.gimli_base.specs.declared.error.Error.TheVariants.{AttributeNameZero, AttributeFormZero}
use Rattle.gimli_base.specs.declared.error.Error.TheVariants.{DuplicateAbbreviationCode}
use Rattle.gimli_base.specs.View.{View}
use Rattle.gimli_base.specs.Items.{Items, items_at, all_items}
use Rattle.gimli_base.specs.Reading.{Reads, ◌>>=◌, map_read, byte_at, uleb_at, uleb16_at, sleb_at}
use Rattle.gimli_base.specs.Reading.{skip_at}

-- a declared attribute: its name, its form, and the number that the form implicit_const has here
pub record Specification : Type 0 where
  pub name : DwAt
  pub form : DwForm
  pub constant : Option ℤ

-- the number that stands with a form: 0x21 is implicit_const
abbrev pub constant_of : ℕ → ℤ → Option ℤ
constant_of form n = if form == 0x21 then Some n else None

-- a number stands exactly with the form implicit_const
abbrev pub IsWellFormed : Specification → Type 0
IsWellFormed s = is_some s.constant ≡ (s.form.0 == 0x21)

-- the declaration of an abbreviation
pub record Declaration : Type 0 where
  pub code : ℕ
  pub tag : DwTag
  pub has_children : Bool
  pub attributes : List Specification

-- the next declared attribute, or none where two zeros end the list; 0x21 is implicit_const, whose
-- number follows
unfoldable pub specification_at : View → Reads (Option Specification)
specification_at v =
    uleb16_at v >>= λ name. uleb16_at name.1 >>= λ form.
    if name.0 == 0 then (if form.0 == 0 then Ok (None, form.1) else Err AttributeNameZero)
    else if form.0 == 0 then Err AttributeFormZero
    else if form.0 == 0x21
    then map_read
    (λ n.
    Some
    (record { name = record { 0 = name.0 }; form = record { 0 = form.0 }; constant = Some n }))
    (sleb_at form.1)
    else Ok (
      Some
          (record { name = record { 0 = name.0 }; form = record { 0 = form.0 }; constant = None }),
      form.1,
    )

-- the declared attributes up to two zeros
unfoldable pub specifications_at : View → Reads (List Specification)
specifications_at v = all_items (items_at specification_at v)

-- the byte that says whether the entries have children
unfoldable pub children_at : View → Reads Bool
children_at v = byte_at v >>= λ p. if p.0 == 0 then Ok (false, p.1)
    else if p.0 == 1 then Ok (true, p.1) else Err InvalidAbbreviationChildren

-- the tag of a declaration
unfoldable pub tag_at : View → Reads DwTag
tag_at v = uleb16_at v >>= λ p. if p.0 == 0 then Err AbbreviationTagZero
    else Ok (record { 0 = p.0 }, p.1)

-- the declaration of a code
unfoldable pub declared_at : ℕ → View → Reads Declaration
declared_at code v =
    tag_at v >>= λ tag. children_at tag.1 >>= λ children.
    map_read (λ ss. record { code = code; tag = tag.0; has_children = children.0; attributes = ss })
    (specifications_at children.1)

-- the next declaration, or none where the code 0 ends the table
unfoldable pub declaration_at : View → Reads (Option Declaration)
declaration_at v = uleb_at v >>= λ p. if p.0 == 0 then Ok (None, p.1)
    else map_read Some (declared_at p.0 p.1)

-- the declarations up to the code 0
unfoldable pub declarations_at : View → Items Declaration
declarations_at v = items_at declaration_at v

-- the declaration of a code, of those in the list
abbrev pub declaration_of : List Declaration → ℕ → Option Declaration
declaration_of [] code = None
declaration_of (d ∷ ds) code = if d.code == code then Some d else declaration_of ds code

-- whether a code is declared twice
abbrev pub repeats : List Declaration → Bool
repeats [] = false
repeats (d ∷ ds) = is_some (declaration_of ds d.code) || repeats ds

-- a finite map of codes to declarations
abbrev pub Map : Type 0
Map = ℕ → Option Declaration

-- the map of these declarations; a code that is declared twice is found before what ends them
abbrev pub map_of : Items Declaration → Result Map Error
map_of ds = if repeats ds.items then Err DuplicateAbbreviationCode else elim ds.ending [
  | Ok w ↦ Ok (declaration_of ds.items)
  | Err e ↦ Err e
]

-- the map of the declarations at an offset
unfoldable pub map_at : ℕ → View → Result Map Error
map_at offset v = elim (skip_at offset v) [ Ok p ↦ map_of (declarations_at p.1) | Err e ↦ Err e ]

-- whether a declaration goes on in these bytes with a tag and a children flag that are allowed
unfoldable pub is_headed : View → Bool
is_headed v = is_ok (tag_at v >>= λ tag. children_at tag.1)

-- whether a declaration follows a code that was read
abbrev pub is_declared_after : Reads ℕ → Bool
is_declared_after (Ok code) = if code.0 == 0 then false else is_headed code.1
is_declared_after (Err e) = false

-- whether reading the table in these bytes takes memory: only where its first declaration is read
-- as far as its attributes
unfoldable pub table_takes_memory : View → Bool
table_takes_memory v = is_declared_after (uleb_at v)

-- the same of the table at an offset
unfoldable pub table_takes_memory_at : ℕ → View → Bool
table_takes_memory_at offset v = elim (skip_at offset v)
    [ Ok p ↦ table_takes_memory p.1 | Err e ↦ false ]
