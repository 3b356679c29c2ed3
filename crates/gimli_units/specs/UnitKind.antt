-- The type of a unit at numbers, in place of offsets (DWARF 5, 7.5.1).
use Rattle.gimli_units.specs.declared.unit_type.UnitType.{UnitType}
use Rattle.gimli_units.specs.declared.unit_type.UnitType.TheVariants.{Compilation, TypeUnit}
use Rattle.gimli_units.specs.declared.unit_type.UnitType.TheVariants.{Partial, Skeleton}
use Rattle.gimli_units.specs.declared.unit_type.UnitType.TheVariants.{SplitCompilation, SplitType}
use Rattle.gimli_units.specs.declared.unit_type.UnitType.TheVariants.{Vendor}

-- a type of unit, by what its offsets stand for
abbrev pub map_type : {O P : Type 0} → (O → P) → UnitType O → UnitType P
map_type g Compilation = Compilation
map_type g (TypeUnit signature offset) = TypeUnit signature (record { 0 = g offset.0 })
map_type g Partial = Partial
map_type g (Skeleton id) = Skeleton id
map_type g (SplitCompilation id) = SplitCompilation id
map_type g (SplitType signature offset) = SplitType signature (record { 0 = g offset.0 })
map_type g (Vendor code) = Vendor code
