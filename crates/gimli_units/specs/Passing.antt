-- Passing values without reading them (DWARF 5, 7.5.5 and 7.5.6).
use Rattle.std.specs.Prelude.{◌≡◌, ℕ, ◌+◌, ◌≤◌, ◌==◌, if◌then◌else◌, length, List, [], ◌∷◌, Some}
use Rattle.std.specs.Prelude.{None, Ok, Err}
use Rattle.gimli_base.specs.declared.common.Encoding.{Encoding}
use Rattle.gimli_base.specs.declared.error.Error.{Error}
use Rattle.gimli_base.specs.declared.error.Error.TheVariants.{UnknownForm, UnexpectedEof}
use Rattle.gimli_base.specs.View.{View}
use Rattle.gimli_base.specs.Reading.{Reads, ◌>>=◌, map_read, uint_offset_at, text_at, word_size_of}
use Rattle.gimli_base.specs.Reading.{skip_at, skip_leb_at}
use Rattle.gimli_base.specs.Abbreviations.{Specification}
use Rattle.gimli_units.specs.Layout.{Layout, byte, number, section_or, address, uleb, sleb, offset}
use Rattle.gimli_units.specs.Layout.{word_offset, reference, offset_leb, offset_leb_and, block}
use Rattle.gimli_units.specs.Layout.{block_leb, text, nothing, constant, layout_of}
use Rattle.gimli_units.specs.Form.{uleb_offset_at, form_at}

-- passes the value in a layout
abbrev pub pass : ℕ → Encoding → Layout → View → Reads (Unit {0})
pass limit e (byte f) v = skip_at 1 v
pass limit e (number n f) v = skip_at n v
pass limit e (section_or n f) v = skip_at n v
pass limit e (address f) v = skip_at e.address_size v
pass limit e (offset n f) v = skip_at n v
pass limit e (word_offset f) v = skip_at (word_size_of e.format) v
pass limit e (reference f) v =
    skip_at (if e.version == 2 then e.address_size else word_size_of e.format) v
pass limit e (nothing x) v = skip_at 0 v
pass limit e (constant f) v = skip_at 0 v
pass limit e (uleb f) v = skip_leb_at v
pass limit e (sleb f) v = skip_leb_at v
pass limit e (offset_leb f) v = skip_leb_at v
pass limit e (offset_leb_and n f) v = skip_leb_at v >>= λ p. skip_at n p.1
pass limit e (block n f) v = uint_offset_at limit n v >>= λ p. skip_at p.0 p.1
pass limit e (block_leb f) v = uleb_offset_at limit v >>= λ p. skip_at p.0 p.1
pass limit e (text f) v = map_read (λ _. tt) (text_at v)

-- passes the value of a form that is not indirect
unfoldable pub pass_direct : ℕ → Encoding → ℕ → View → Reads (Unit {0})
unfolding layout_of
pass_direct limit e form v = elim (layout_of form) [
  | Some l ↦ pass limit e l v
  | None ↦ Err (UnknownForm (record { 0 = form }))
]

-- passes the value of a form
unfoldable pub pass_at : ℕ → Encoding → ℕ → View → Reads (Unit {0})
pass_at limit e form v = form_at form v >>= λ p. pass_direct limit e p.0 p.1

-- passes the values of these specifications, in their order
unfoldable pub pass_all : ℕ → Encoding → List Specification → View → Reads (Unit {0})
pass_all limit e [] v = Ok (tt, v)
pass_all limit e (s ∷ ss) v = pass_at limit e s.form.0 v >>= λ p. pass_all limit e ss p.1

-- a refusal, where the place at which input ends is left open
abbrev pub somewhere : Error → Error
somewhere (UnexpectedEof place) = UnexpectedEof (record { 0 = 0 })
somewhere e = e

abbrev pub without_place : Reads (Unit {0}) → Reads (Unit {0})
without_place (Ok p) = Ok p
without_place (Err e) = Err (somewhere e)

-- a refusal that names a place names one from the first of a view to its end
abbrev pub NamesPlaceOf : View → Error → Type 0
NamesPlaceOf v e = (n : ℕ) → e ≡ UnexpectedEof (record { 0 = n })
    → (v.place ≤ n) × (n ≤ v.place + length v.bytes)
