-- What the attributes of a root give, by those that the code holds.
use Rattle.std.proofs.Common.{◌≡◌, ℕ, List, map, Option, Some, None, Result, Ok, Err, refl, sym, ap}
use Rattle.std.proofs.Common.{◌∙◌}
use Rattle.std.specs.Option.{option_map}
use Rattle.gimli_base.specs.View.{View}
use Rattle.gimli_units.specs.declared.attribute.Attribute.{Attribute}
use Rattle.gimli_units.specs.Entry.{Attr, first_of}
use Rattle.gimli_units.specs.NormalValue.{sec_offset_of, normal_value}
use Rattle.gimli_units.specs.Value.{map_value, map_attribute}
use Rattle.gimli_units.proofs.Jumps.{first_of-map}
use Rattle.gimli_dwarf.specs.declared.error.DwarfError.{DwarfError}
use Rattle.gimli_dwarf.specs.Bases.{offset_or_invalid, offset_in, offset_named, address_value}
use Rattle.gimli_dwarf.specs.Bases.{low_or_invalid, low_pc_in, low_pc_named, invalid}
use Rattle.gimli_dwarf.specs.Bases.{UnlessMemoryRead}
use Rattle.gimli_dwarf.specs.Addresses.{raw_value_named, value_named}

-- what holds whether memory was refused or not
pub unless_given : {A : Type 0} → (r : Result A DwarfError) {p : Type 0} → p → UnlessMemoryRead r p
unless_given (Ok a) given = given
unless_given (Err e) given = λ _. given

module _ {R O : Type 0} (f : R → View) (g : O → ℕ) (name : ℕ) (attrs : List (Attribute R O)) where
  abbrev views : List Attr
  views = map (map_attribute f g) attrs

  -- the first attribute of the name, by what its readers and offsets stand for
  pub first : (o : Option (Attribute R O)) → o ≡ first_of name attrs
      → option_map (map_attribute f g) o ≡ first_of name views
  first o is = sym (first_of-map f g name attrs ∙ ap (option_map (map_attribute f g)) (sym is))

  -- the value of the first, as it is read, and as its name makes it
  pub raw_value_is : option_map (λ (a : Attribute R O). map_value f g a.value) (first_of name attrs)
      ≡ raw_value_named name views
  raw_value_is = viewed (first_of name attrs)
      ∙ ap (option_map (λ (a : Attr). a.value)) (first (first_of name attrs) refl)
    where
      viewed : (o : Option (Attribute R O)) → option_map (λ a. map_value f g a.value) o
          ≡ option_map (λ (a : Attr). a.value) (option_map (map_attribute f g) o)
      viewed None = refl
      viewed (Some a) = refl

  pub value_is : option_map
      (λ (a : Attribute R O). normal_value a.name.0 (map_value f g a.value)) (first_of name attrs)
      ≡ value_named name views
  value_is = viewed (first_of name attrs)
      ∙ ap (option_map (λ (a : Attr). normal_value a.name.0 a.value))
      (first (first_of name attrs) refl)
    where
      viewed : (o : Option (Attribute R O))
          → option_map (λ a. normal_value a.name.0 (map_value f g a.value)) o
          ≡ option_map (λ (a : Attr). normal_value a.name.0 a.value)
          (option_map (map_attribute f g) o)
      viewed None = refl
      viewed (Some a) = refl

  -- no attribute has the name
  pub named_none : None ≡ first_of name attrs → Ok None ≡ offset_named name views
  named_none is = ap (offset_in name) (first None is)

  module _ (a : Attribute R O) (is : Some a ≡ first_of name attrs) where
    -- the first has an offset as its value,
    pub named_offset : (o : ℕ) → Some o ≡ sec_offset_of (map_value f g a.value)
        → Ok (Some o) ≡ offset_named name views
    named_offset o offset =
        ap (offset_or_invalid name) offset ∙ ap (offset_in name) (first (Some a) is)

    -- or another value
    pub named_other : None ≡ sec_offset_of (map_value f g a.value)
        → invalid name ≡ offset_named name views
    named_other other =
        ap (offset_or_invalid name) other ∙ ap (offset_in name) (first (Some a) is)

module _ {R O : Type 0} (f : R → View) (g : O → ℕ) (attrs : List (Attribute R O)) (limit size : ℕ)
    (base : Option ℕ) (addresses : View) where
  abbrev low : Result (Option ℕ) DwarfError
  low = low_pc_named limit size base addresses (map (map_attribute f g) attrs)

  -- no attribute is a low_pc
  pub low_none : None ≡ first_of 0x11 attrs → Ok None ≡ low
  low_none is = ap (low_pc_in limit size base addresses) (first f g 0x11 attrs None is)

  -- what its value is
  pub low_first : (a : Attribute R O) → Some a ≡ first_of 0x11 attrs
      → (r : Result (Option ℕ) DwarfError)
      → r ≡ address_value limit size base addresses (map_value f g a.value)
      → low_or_invalid r ≡ low
  low_first a is r read = ap low_or_invalid read
      ∙ ap (low_pc_in limit size base addresses) (first f g 0x11 attrs (Some a) is)
