-- The entry at a view, under a finite map of codes to declarations (DWARF 5, 7.5.2 and 7.5.3).
use Rattle.std.specs.Prelude.{ℕ, ◌==◌, if◌then◌else◌, Bool, true, false, List, [], ◌∷◌, map, Option}
use Rattle.std.specs.Prelude.{Some, None, Ok, Err}
use Rattle.std.specs.List.{find}
use Rattle.gimli_base.specs.declared.common.Encoding.{Encoding}
use Rattle.gimli_base.specs.declared.constants.DwTag.{DwTag}
use Rattle.gimli_base.specs.declared.error.Error.TheVariants.{InvalidAbbreviationCode}
use Rattle.gimli_base.specs.View.{View}
use Rattle.gimli_base.specs.Reading.{Reads, ◌>>=◌, map_read, uleb_at}
use Rattle.gimli_base.specs.Abbreviations.{Specification, Declaration, Map}
use Rattle.gimli_units.specs.declared.attribute.Attribute.{Attribute}
use Rattle.gimli_units.specs.declared.entry.DebuggingInformationEntry.{DebuggingInformationEntry}
use Rattle.gimli_units.specs.Value.{Value, map_attribute}
use Rattle.gimli_units.specs.Form.{value_at}

-- an attribute at views and numbers
abbrev pub Attr : Type 0
Attr = Attribute View ℕ

-- the attribute of a specification that has this value
abbrev pub with_value : Specification → Value → Attr
with_value s x = record { name = s.name; form = s.form; value = x }

-- the attribute of a specification
unfoldable pub attribute_at : ℕ → Encoding → Specification → View → Reads Attr
attribute_at limit e s v =
    map_read (λ x. with_value s x)
    (value_at limit e s.name.0 s.constant s.form.0 v)

-- the attributes of these specifications, in their order
unfoldable pub attributes_at : ℕ → Encoding → List Specification → View → Reads (List Attr)
attributes_at limit e [] v = Ok ([], v)
attributes_at limit e (s ∷ ss) v =
    attribute_at limit e s v >>= λ p. map_read (λ xs. p.0 ∷ xs) (attributes_at limit e ss p.1)

-- an entry: a tag, whether children follow, and attributes. A null has the tag 0, which no other
-- entry has.
pub record Entry : Type 0 where
  pub tag : DwTag
  pub has_children : Bool
  pub attributes : List Attr

-- the entry that closes a list of children
abbrev pub null_entry : Entry
null_entry = record { tag = record { 0 = 0 }; has_children = false; attributes = [] }

abbrev pub is_null : Entry → Bool
is_null e = e.tag.0 == 0

-- an entry of these parts, by what their readers and offsets stand for
abbrev pub entry_of_parts : {R O : Type 0} → (R → View) → (O → ℕ) → DwTag → Bool
    → List (Attribute R O) → Entry
entry_of_parts f g tag has_children attrs =
    record { tag = tag; has_children = has_children; attributes = map (map_attribute f g) attrs }

-- an entry that code holds, likewise
abbrev pub entry_of : {R A O : Type 0} → (R → View) → (O → ℕ) → DebuggingInformationEntry R A O
    → Entry
entry_of f g e = entry_of_parts f g e.tag e.has_children e.attrs.items

-- the first attribute of a name
abbrev pub first_of : {R O : Type 0} → ℕ → List (Attribute R O) → Option (Attribute R O)
first_of name attributes = find (λ a. a.name.0 == name) attributes

-- the declaration that the next code names; the code 0 names none
unfoldable pub abbreviation_at : Map → View → Reads (Option Declaration)
abbreviation_at declared v = uleb_at v >>= λ code.
    if code.0 == 0 then Ok (None, code.1)
    else elim (declared code.0)
    [ Some d ↦ Ok (Some d, code.1) | None ↦ Err (InvalidAbbreviationCode code.0) ]

-- the entry of a declaration with these attributes; a declaration has no tag 0, so this is never a
-- null with children
abbrev pub entry_of_declared : Declaration → List Attr → Entry
entry_of_declared d xs =
    if d.tag.0 == 0 then null_entry
    else record { tag = d.tag; has_children = d.has_children; attributes = xs }

-- the entry of a declaration, or the null
abbrev pub content_at : ℕ → Encoding → Option Declaration → View → Reads Entry
content_at limit e None v = Ok (null_entry, v)
content_at limit e (Some d) v =
    map_read (entry_of_declared d) (attributes_at limit e d.attributes v)

-- the next entry
unfoldable pub entry_at : ℕ → Encoding → Map → View → Reads Entry
entry_at limit e declared v = abbreviation_at declared v >>= λ p. content_at limit e p.0 p.1

-- whether reading an entry takes memory: only where its declaration has attributes
abbrev pub takes_memory : Reads (Option Declaration) → Bool
takes_memory (Err e) = false
takes_memory (Ok p) =
    elim p.0 [ None ↦ false | Some d ↦ elim d.attributes [ [] ↦ false | s ∷ ss ↦ true ] ]
