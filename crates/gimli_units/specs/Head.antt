-- What an entry says without its attributes.
use Rattle.std.specs.Prelude.{◌≡◌, ℕ, Bool, false, if◌then◌else◌, List, Option, Some, None, Ok}
use Rattle.gimli_base.specs.declared.constants.DwTag.{DwTag}
use Rattle.gimli_base.specs.View.{View}
use Rattle.gimli_base.specs.Abbreviations.{Declaration, Map}
use Rattle.gimli_units.specs.Entry.{Attr, Entry, abbreviation_at}
use Rattle.gimli_units.specs.Kind.{kind_of, sibling_of}
use Rattle.gimli_units.specs.Honest.{target}

-- a tag, and whether children follow
pub record Head : Type 0 where
  pub tag : DwTag
  pub has_children : Bool

-- that of an entry
abbrev pub head : Entry → Head
head e = record { tag = e.tag; has_children = e.has_children }

-- that of the entries of a declaration, or of a null
abbrev pub head_of : Option Declaration → Head
head_of None = record { tag = record { 0 = 0 }; has_children = false }
head_of (Some d) = record { tag = d.tag; has_children = d.has_children }

-- that of an entry, and where its sibling is, if it has children and says so
abbrev pub head_and_sibling : Entry → Head × Option ℕ
head_and_sibling e = (head e, target (kind_of e))

-- that of a declaration, or of a null, with where a sibling is
abbrev pub head_with_sibling : Option Declaration → Option ℕ → Head × Option ℕ
head_with_sibling o sibling = (head_of o, sibling)

-- the declaration whose code stands there, or none, where it is the code of a null
abbrev pub IsDeclaredAt : Map → View → Option Declaration → Type 0
IsDeclaredAt declared v o = (w : View) × (Ok (o, w) ≡ abbreviation_at declared v)

-- where the attributes of an entry say that its sibling is, if it has children
abbrev pub sibling_below : Bool → List Attr → Option ℕ
sibling_below has_children xs = if has_children then sibling_of xs else None
