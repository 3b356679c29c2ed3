-- What the sets of a unit say, after those that were read.
use Rattle.std.proofs.Common.{◌≡◌, Bool, true, false, Option, Some, None, Result, Ok, Err, refl}
use Rattle.gimli_base.specs.declared.error.Error.{Error}
use Rattle.gimli_dwarf.specs.Addresses.{set_says}

-- the same, where one of the sets that were read is the unit's and does not hold the address, or
-- none is the unit's
abbrev pub said_after : Bool → Result (Option Bool) Error → Result (Option Bool) Error
said_after true rest = set_says false rest
said_after false rest = rest
