-- The units of a section, one after the other (DWARF 5, 7.5.1).
use Rattle.std.specs.Prelude.{◌≡◌, ℕ, ◌+◌, ◌<◌, ◌==◌, if◌then◌else◌, List, [], ◌∷◌, length, Option}
use Rattle.std.specs.Prelude.{Some, None, Result, Ok, Err, IfOk, IfSome}
use Rattle.gimli_base.specs.Address.{without_rest}
use Rattle.gimli_base.specs.declared.common.SectionId.{SectionId}
use Rattle.gimli_base.specs.declared.error.Error.{Error}
use Rattle.gimli_base.specs.View.{View, cut, end_of_view}
use Rattle.gimli_base.specs.Reading.{◌>>=◌, skip_at}
use Rattle.gimli_base.specs.Chain.{Chain, no_item, then_item, chain}
use Rattle.gimli_units.specs.Unit.{UnitView, whole_length, header_size, size_of_header}
use Rattle.gimli_headers.specs.Header.{unit_at}

-- where the reading of units stands: what is left of the section, and the offset at which it begins
pub record UnitsPlace : Type 0 where
  pub rest : View
  pub offset : ℕ

-- the place after the whole length of a unit
abbrev pub after_unit : UnitView → UnitsPlace → UnitsPlace
after_unit u p = record { rest = cut (whole_length u) p.rest; offset = p.offset + whole_length u }

-- units one after the other, and the refusal that ends them, if it isn't the end of the bytes
abbrev pub Units : Type 0
Units = Chain UnitView (Option Error)

-- what stands at a place: a unit, and the place after its whole length, or the end: `None` where no
-- byte is left, else the refusal of the header
unfoldable pub unit_or_end : ℕ → SectionId → UnitsPlace
    → Result (UnitView × UnitsPlace) (Option Error)
unit_or_end limit section p =
    if length p.rest.bytes == 0 then Err None
    else elim (unit_at limit section p.offset p.rest) [
      | Ok q ↦ Ok (q.0, after_unit q.0 p)
      | Err e ↦ Err (Some e)
    ]

-- the units from a place on, up to the end of the bytes or to the first header that is refused;
-- each takes a byte at least, so that the end handed to `chain` never shows
unfoldable pub units_ahead : ℕ → SectionId → UnitsPlace → Units
units_ahead limit section p =
    chain (λ q. length q.rest.bytes) (unit_or_end limit section) None p

-- the units of a section, the first at 0
abbrev pub units_of : ℕ → SectionId → View → Units
units_of limit section v = units_ahead limit section (record { rest = v; offset = 0 })

-- The next unit of a section, and the place that its reading leaves: none where nothing is left,
-- and after a refusal nothing is left.
unfoldable pub next_unit : ℕ → SectionId → UnitsPlace → Result (Option UnitView) Error × UnitsPlace
next_unit limit section p =
    if length p.rest.bytes == 0 then (Ok None, p)
    else elim (unit_at limit section p.offset p.rest) [
      | Ok q ↦ (Ok (Some q.0), record { rest = q.1; offset = p.offset + whole_length q.0 })
      | Err e ↦ (Err e, record { rest = end_of_view p.rest; offset = p.offset })
    ]

-- an answer before units
abbrev pub before_units : Result (Option UnitView) Error → Units → Units
before_units (Ok None) us = no_item None
before_units (Ok (Some u)) us = then_item u us
before_units (Err e) us = no_item (Some e)

-- What an iterator answers at a place, and the place that it leaves: the next unit. The units ahead
-- are that one, whose header has the size of its kind, and those ahead of the place that is left.
pub record IsNextUnit (limit : ℕ) (section : SectionId) (p : UnitsPlace)
    (a : Result (Option UnitView) Error) (q : UnitsPlace) : Type 0 where
  pub is : (a, q) ≡ next_unit limit section p
  pub ahead : units_ahead limit section p ≡ before_units a (units_ahead limit section q)
  pub size : IfOk a (λ o. IfSome o (λ u. size_of_header u ≡ header_size u))

-- the unit at an offset of a section
unfoldable pub header_at : ℕ → SectionId → ℕ → View → Result UnitView Error
header_at limit section offset v =
    without_rest (skip_at offset v >>= λ p. unit_at limit section offset p.1)

-- units that lie one after the other, the first at `start`, and the last up to `end`
abbrev pub Tile : ℕ → List UnitView → ℕ → Type 0
Tile start [] end = start ≡ end
Tile start (u ∷ us) end = (u.offset ≡ start) × Tile (start + whole_length u) us end

-- the units tile a section from 0 on: up to its end, or to the offset at which a header is refused
abbrev pub EndsAt : ℕ → SectionId → View → Option Error → ℕ → Type 0
EndsAt limit section v None end = end ≡ length v.bytes
EndsAt limit section v (Some e) end =
    (end < length v.bytes) × (header_at limit section end v ≡ Err e)

abbrev pub Tiles : ℕ → SectionId → View → Type 0
Tiles limit section v =
    let us : Units = units_of limit section v in
    (end : ℕ) × Tile 0 us.items end × EndsAt limit section v us.ending end

-- the header of a unit is that at the unit's offset
abbrev pub IsHeaderAt : ℕ → SectionId → View → UnitView → Type 0
IsHeaderAt limit section v u = header_at limit section u.offset v ≡ Ok u
