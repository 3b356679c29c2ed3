-- Attributes that are handed over as they are read, and which sizes their forms have (DWARF 5,
-- 7.5.3 and 7.5.6).
use Rattle.std.specs.Prelude.{◌≡◌, ℕ, Bool, true, false, not, if◌then◌else◌, ◌==◌, List, [], ◌∷◌}
use Rattle.std.specs.Prelude.{Option, Some, None, Result, Ok, Err, OnErr}
use Rattle.gimli_base.specs.declared.common.Encoding.{Encoding}
use Rattle.gimli_base.specs.declared.error.Error.{Error}
use Rattle.gimli_base.specs.View.{View}
use Rattle.gimli_base.specs.Offset.{answer_of}
use Rattle.gimli_base.specs.Reading.{Reads, read_of, map_read}
use Rattle.gimli_base.specs.Abbreviations.{Specification}
use Rattle.gimli_units.specs.Layout.{Layout, uleb, sleb, offset_leb, offset_leb_and, block}
use Rattle.gimli_units.specs.Layout.{block_leb, text, forms}
use Rattle.gimli_units.specs.Form.{direct_at}
use Rattle.gimli_units.specs.Entry.{Attr, with_value}

-- whether the bytes of a value tell how many they are
abbrev pub is_variable : Layout → Bool
is_variable (uleb f) = true
is_variable (sleb f) = true
is_variable (offset_leb f) = true
is_variable (offset_leb_and n f) = true
is_variable (block n f) = true
is_variable (block_leb f) = true
is_variable (text f) = true
is_variable l = false

abbrev pub is_fixed : Layout → Bool
is_fixed l = not (is_variable l)

-- whether a form is in a list, with such a layout
abbrev pub is_among : (Layout → Bool) → ℕ → List (ℕ × Layout) → Bool
is_among such form [] = false
is_among such form (r ∷ rs) =
    if such r.1 then (if form == r.0 then true else is_among such form rs)
    else is_among such form rs

-- whether a form has a variable size, and whether its size is known before it is read
unfoldable pub has_variable_size : ℕ → Bool
unfolding forms
has_variable_size form = is_among is_variable form forms

unfoldable pub has_fixed_size : ℕ → Bool
unfolding forms
has_fixed_size form = is_among is_fixed form forms

-- what is made of the attribute of a specification, whose value has a form that is not indirect
abbrev pub read_into : {A : Type 0} → (Attr → A) → ℕ → Encoding → Specification → ℕ → View → Reads A
read_into f limit e s form v =
    map_read (λ x. f (with_value s x)) (direct_at limit e s.name.0 s.constant form v)

-- a fact about what was answered, unless nothing was read
abbrev pub IfRead : {A : Type 0} → Result (Option A) Error → (Result A Error → Type 0) → Type 0
IfRead (Ok None) p = Unit {0}
IfRead (Ok (Some a)) p = p (Ok a)
IfRead (Err e) p = p (Err e)

-- An attribute was read and handed to a sink, which means then what it does once it took that
-- attribute; where reading it was refused, the sink stays.
pub record HandedOver {S A M : Type 0} (meaning : S → A → M) (after_take : S → Attr → M)
    (old new : S) (outcome : Result A Error) (read : Reads Attr) (left : View) : Type 0 where
  pub value : read_of (answer_of (meaning new) outcome) left ≡ map_read (after_take old) read
  pub kept : OnErr outcome (new ≡ old)
