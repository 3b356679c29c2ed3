-- Where the reference of an entry leads, by the value of its first sibling attribute.
use Rattle.std.proofs.Common.{◌≡◌, ℕ, Bool, true, false, List, Option, Some, None, refl, ap, ◌∙◌}
use Rattle.std.specs.Option.{option_map}
use Rattle.gimli_base.specs.View.{View}
use Rattle.gimli_base.specs.declared.constants.DwTag.{DwTag}
use Rattle.gimli_units.specs.declared.attribute.Attribute.{Attribute}
use Rattle.gimli_units.specs.declared.value.AttributeValue.{AttributeValue}
use Rattle.gimli_units.specs.Value.{Value, map_value}
use Rattle.gimli_units.specs.Entry.{is_null, entry_of_parts, first_of}
use Rattle.gimli_units.specs.Kind.{kind_of, unit_reference}
use Rattle.gimli_units.specs.Honest.{target}
use Rattle.gimli_units.proofs.Jumps.{leads_to, target_of}

-- where a value leads, if there is one
abbrev pub value_leads : Option Value → Option ℕ
value_leads None = None
value_leads (Some x) = unit_reference x

pub entry_leads : {R O : Type 0}
    → (f : R → View) (g : O → ℕ) (tag : DwTag) (flag : Bool) (attrs : List (Attribute R O))
    (v : Option (AttributeValue R O))
    → is_null (entry_of_parts f g tag flag attrs) ≡ false → flag ≡ true
    → option_map (map_value f g) v ≡ option_map (λ a. map_value f g a.value) (first_of 1 attrs)
    → value_leads (option_map (map_value f g) v)
    ≡ target (kind_of (entry_of_parts f g tag flag attrs))
entry_leads {R} {O} f g tag flag attrs v null children is =
    ap value_leads is ∙ cases (first_of 1 attrs)
    ∙ target_of f g tag flag attrs (first_of 1 attrs) null children refl
  where
    cases : (x : Option (Attribute R O))
        → value_leads (option_map (λ a. map_value f g a.value) x) ≡ leads_to f g x
    cases (Some a) = refl
    cases None = refl
