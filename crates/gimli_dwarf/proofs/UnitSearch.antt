-- The search for the unit that holds an offset, unit by unit.
use Rattle.std.proofs.Common.{◌≡◌, ℕ, true, false, Some, Ok, refl}
use Rattle.gimli_base.specs.Chain.{then_item}
use Rattle.gimli_units.specs.Unit.{UnitView}
use Rattle.gimli_headers.specs.Units.{Units}
use Rattle.gimli_dwarf.specs.Holding.{holds, unit_in}

-- the first unit holds it
pub holds_first : (offset : ℕ) (u : UnitView) (us : Units) → holds offset u ≡ true
    → unit_in offset (then_item u us) ≡ Ok (Some u)
holds_first offset u us is = rw is refl

-- or not
pub holds_later : (offset : ℕ) (u : UnitView) (us : Units) → holds offset u ≡ false
    → unit_in offset (then_item u us) ≡ unit_in offset us
holds_later offset u us is = rw is refl
