-- Values of attributes at views and numbers, in place of readers and offsets (DWARF 5, 7.5.5).
use Rattle.std.specs.Prelude.{ℕ}
use Rattle.gimli_base.specs.View.{View}
use Rattle.gimli_units.specs.declared.value.AttributeValue.{AttributeValue}
use Rattle.gimli_units.specs.declared.value.AttributeValue.TheVariants.{Addr, Block, Data1, Data2}
use Rattle.gimli_units.specs.declared.value.AttributeValue.TheVariants.{Data4, Data8, Data16, Sdata}
use Rattle.gimli_units.specs.declared.value.AttributeValue.TheVariants.{Udata, Exprloc, Flag}
use Rattle.gimli_units.specs.declared.value.AttributeValue.TheVariants.{SecOffset, DebugAddrBase}
use Rattle.gimli_units.specs.declared.value.AttributeValue.TheVariants.{DebugAddrIndex}
use Rattle.gimli_units.specs.declared.value.AttributeValue.TheVariants.{DebugAddrIndexOffset}
use Rattle.gimli_units.specs.declared.value.AttributeValue.TheVariants.{UnitRef, DebugInfoRef}
use Rattle.gimli_units.specs.declared.value.AttributeValue.TheVariants.{DebugInfoRefSup}
use Rattle.gimli_units.specs.declared.value.AttributeValue.TheVariants.{DebugLineRef}
use Rattle.gimli_units.specs.declared.value.AttributeValue.TheVariants.{LocationListsRef}
use Rattle.gimli_units.specs.declared.value.AttributeValue.TheVariants.{DebugLocListsBase}
use Rattle.gimli_units.specs.declared.value.AttributeValue.TheVariants.{DebugLocListsIndex}
use Rattle.gimli_units.specs.declared.value.AttributeValue.TheVariants.{DebugMacinfoRef}
use Rattle.gimli_units.specs.declared.value.AttributeValue.TheVariants.{DebugMacroRef}
use Rattle.gimli_units.specs.declared.value.AttributeValue.TheVariants.{RangeListsRef}
use Rattle.gimli_units.specs.declared.value.AttributeValue.TheVariants.{DebugRngListsBase}
use Rattle.gimli_units.specs.declared.value.AttributeValue.TheVariants.{DebugRngListsIndex}
use Rattle.gimli_units.specs.declared.value.AttributeValue.TheVariants.{DebugTypesRef, DebugStrRef}
use Rattle.gimli_units.specs.declared.value.AttributeValue.TheVariants.{DebugStrRefSup}
use Rattle.gimli_units.specs.declared.value.AttributeValue.TheVariants.{DebugStrOffsetsBase}
use Rattle.gimli_units.specs.declared.value.AttributeValue.TheVariants.{DebugStrOffsetsIndex}
use Rattle.gimli_units.specs.declared.value.AttributeValue.TheVariants.{DebugLineStrRef, String}
use Rattle.gimli_units.specs.declared.value.AttributeValue.TheVariants.{Encoding, DecimalSign}
use Rattle.gimli_units.specs.declared.value.AttributeValue.TheVariants.{Endianity, Accessibility}
use Rattle.gimli_units.specs.declared.value.AttributeValue.TheVariants.{Visibility, Virtuality}
use Rattle.gimli_units.specs.declared.value.AttributeValue.TheVariants.{Language, AddressClass}
use Rattle.gimli_units.specs.declared.value.AttributeValue.TheVariants.{IdentifierCase}
use Rattle.gimli_units.specs.declared.value.AttributeValue.TheVariants.{CallingConvention, Inline}
use Rattle.gimli_units.specs.declared.value.AttributeValue.TheVariants.{Ordering, FileIndex, DwoId}
use Rattle.gimli_units.specs.declared.attribute.Attribute.{Attribute}

-- a value, by what its readers and offsets stand for
abbrev pub map_value : {R O S P : Type 0} → (R → S) → (O → P) → AttributeValue R O
    → AttributeValue S P
map_value f g (Addr x) = Addr x
map_value f g (Block r) = Block (f r)
map_value f g (Data1 x) = Data1 x
map_value f g (Data2 x) = Data2 x
map_value f g (Data4 x) = Data4 x
map_value f g (Data8 x) = Data8 x
map_value f g (Data16 x) = Data16 x
map_value f g (Sdata x) = Sdata x
map_value f g (Udata x) = Udata x
map_value f g (Exprloc e) = Exprloc (record { 0 = f e.0 })
map_value f g (Flag x) = Flag x
map_value f g (SecOffset o) = SecOffset (g o)
map_value f g (DebugAddrBase o) = DebugAddrBase (record { 0 = g o.0 })
map_value f g (DebugAddrIndex o) = DebugAddrIndex (record { 0 = g o.0 })
map_value f g (DebugAddrIndexOffset o x) = DebugAddrIndexOffset (record { 0 = g o.0 }) x
map_value f g (UnitRef o) = UnitRef (record { 0 = g o.0 })
map_value f g (DebugInfoRef o) = DebugInfoRef (record { 0 = g o.0 })
map_value f g (DebugInfoRefSup o) = DebugInfoRefSup (record { 0 = g o.0 })
map_value f g (DebugLineRef o) = DebugLineRef (record { 0 = g o.0 })
map_value f g (LocationListsRef o) = LocationListsRef (record { 0 = g o.0 })
map_value f g (DebugLocListsBase o) = DebugLocListsBase (record { 0 = g o.0 })
map_value f g (DebugLocListsIndex o) = DebugLocListsIndex (record { 0 = g o.0 })
map_value f g (DebugMacinfoRef o) = DebugMacinfoRef (record { 0 = g o.0 })
map_value f g (DebugMacroRef o) = DebugMacroRef (record { 0 = g o.0 })
map_value f g (RangeListsRef o) = RangeListsRef (record { 0 = g o.0 })
map_value f g (DebugRngListsBase o) = DebugRngListsBase (record { 0 = g o.0 })
map_value f g (DebugRngListsIndex o) = DebugRngListsIndex (record { 0 = g o.0 })
map_value f g (DebugTypesRef x) = DebugTypesRef x
map_value f g (DebugStrRef o) = DebugStrRef (record { 0 = g o.0 })
map_value f g (DebugStrRefSup o) = DebugStrRefSup (record { 0 = g o.0 })
map_value f g (DebugStrOffsetsBase o) = DebugStrOffsetsBase (record { 0 = g o.0 })
map_value f g (DebugStrOffsetsIndex o) = DebugStrOffsetsIndex (record { 0 = g o.0 })
map_value f g (DebugLineStrRef o) = DebugLineStrRef (record { 0 = g o.0 })
map_value f g (String r) = String (f r)
map_value f g (Encoding x) = Encoding x
map_value f g (DecimalSign x) = DecimalSign x
map_value f g (Endianity x) = Endianity x
map_value f g (Accessibility x) = Accessibility x
map_value f g (Visibility x) = Visibility x
map_value f g (Virtuality x) = Virtuality x
map_value f g (Language x) = Language x
map_value f g (AddressClass x) = AddressClass x
map_value f g (IdentifierCase x) = IdentifierCase x
map_value f g (CallingConvention x) = CallingConvention x
map_value f g (Inline x) = Inline x
map_value f g (Ordering x) = Ordering x
map_value f g (FileIndex x) = FileIndex x
map_value f g (DwoId x) = DwoId x

-- an attribute, by what its readers and offsets stand for
abbrev pub map_attribute : {R O S P : Type 0} → (R → S) → (O → P) → Attribute R O → Attribute S P
map_attribute f g a = record { name = a.name; form = a.form; value = map_value f g a.value }

-- a value whose readers are views and whose offsets are numbers
abbrev pub Value : Type 0
Value = AttributeValue View ℕ
