-- The attributes of an entry, as numbers and places of bytes (DWARF 5, 7.5.4 to 7.5.6).
use Rattle.std.specs.Prelude.{ℕ, ◌%◌, ◌/◌, ◌^◌, cond, length}
use Rattle.std.specs.Int.{w64, cast_unsigned}
use Rattle.gimli_base.specs.View.{View}
use Rattle.gimli_units.specs.Entry.{Attr}
use Rattle.gimli_units.specs.Value.{Value}
use Rattle.gimli_units.specs.declared.value.AttributeValue.TheVariants.{Addr, Block, Data1, Data2}
use Rattle.gimli_units.specs.declared.value.AttributeValue.TheVariants.{Data4, Data8, Data16, Sdata}
use Rattle.gimli_units.specs.declared.value.AttributeValue.TheVariants.{Udata, Exprloc, Flag}
use Rattle.gimli_units.specs.declared.value.AttributeValue.TheVariants.{SecOffset, DebugAddrBase}
use Rattle.gimli_units.specs.declared.value.AttributeValue.TheVariants.{DebugAddrIndex, UnitRef}
use Rattle.gimli_units.specs.declared.value.AttributeValue.TheVariants.{DebugInfoRef}
use Rattle.gimli_units.specs.declared.value.AttributeValue.TheVariants.{DebugInfoRefSup}
use Rattle.gimli_units.specs.declared.value.AttributeValue.TheVariants.{DebugLineRef}
use Rattle.gimli_units.specs.declared.value.AttributeValue.TheVariants.{LocationListsRef}
use Rattle.gimli_units.specs.declared.value.AttributeValue.TheVariants.{DebugLocListsBase}
use Rattle.gimli_units.specs.declared.value.AttributeValue.TheVariants.{DebugLocListsIndex}
use Rattle.gimli_units.specs.declared.value.AttributeValue.TheVariants.{DebugMacinfoRef}
use Rattle.gimli_units.specs.declared.value.AttributeValue.TheVariants.{DebugMacroRef}
use Rattle.gimli_units.specs.declared.value.AttributeValue.TheVariants.{RangeListsRef}
use Rattle.gimli_units.specs.declared.value.AttributeValue.TheVariants.{DebugRngListsBase}
use Rattle.gimli_units.specs.declared.value.AttributeValue.TheVariants.{DebugRngListsIndex}
use Rattle.gimli_units.specs.declared.value.AttributeValue.TheVariants.{DebugTypesRef, DebugStrRef}
use Rattle.gimli_units.specs.declared.value.AttributeValue.TheVariants.{DebugStrRefSup}
use Rattle.gimli_units.specs.declared.value.AttributeValue.TheVariants.{DebugStrOffsetsBase}
use Rattle.gimli_units.specs.declared.value.AttributeValue.TheVariants.{DebugStrOffsetsIndex}
use Rattle.gimli_units.specs.declared.value.AttributeValue.TheVariants.{DebugLineStrRef, String}
use Rattle.gimli_units.specs.declared.value.AttributeValue.TheVariants.{Encoding, DecimalSign}
use Rattle.gimli_units.specs.declared.value.AttributeValue.TheVariants.{Endianity, Accessibility}
use Rattle.gimli_units.specs.declared.value.AttributeValue.TheVariants.{Visibility, Virtuality}
use Rattle.gimli_units.specs.declared.value.AttributeValue.TheVariants.{Language, AddressClass}
use Rattle.gimli_units.specs.declared.value.AttributeValue.TheVariants.{IdentifierCase}
use Rattle.gimli_units.specs.declared.value.AttributeValue.TheVariants.{CallingConvention, Inline}
use Rattle.gimli_units.specs.declared.value.AttributeValue.TheVariants.{Ordering, FileIndex, DwoId}
use Rattle.gimli_units.specs.declared.value.AttributeValue.TheVariants.{DebugAddrIndexOffset}
use Rattle.gimli_c.specs.declared.attrs.GimliAttr.{GimliAttr}
use Rattle.gimli_c.specs.declared.attrs.ValueNumbers.{ValueNumbers}

-- a kind, a number and another
abbrev pub numbers : ℕ → ℕ → ℕ → ValueNumbers
numbers kind number more = record { kind = kind; number = number; more = more }

-- where bytes lie in their section, and how many they are
abbrev pub place_numbers : ℕ → View → ValueNumbers
place_numbers kind v = numbers kind v.place (length v.bytes)

-- a value: its kind, and a number or where its bytes lie
abbrev pub values_of : Value → ValueNumbers
values_of (Addr x) = numbers 1 x 0
values_of (Block v) = place_numbers 2 v
values_of (Data1 x) = numbers 3 x 0
values_of (Data2 x) = numbers 4 x 0
values_of (Data4 x) = numbers 5 x 0
values_of (Data8 x) = numbers 6 x 0
values_of (Data16 x) = numbers 7 (x % 2 ^ 64) (x / 2 ^ 64)
values_of (Sdata z) = numbers 8 (cast_unsigned w64 z) 0
values_of (Udata x) = numbers 9 x 0
values_of (Exprloc e) = place_numbers 10 e.0
values_of (Flag b) = numbers 11 (cond b 1 0) 0
values_of (SecOffset x) = numbers 12 x 0
values_of (DebugAddrBase x) = numbers 13 x.0 0
values_of (DebugAddrIndex x) = numbers 14 x.0 0
values_of (UnitRef x) = numbers 15 x.0 0
values_of (DebugInfoRef x) = numbers 16 x.0 0
values_of (DebugInfoRefSup x) = numbers 17 x.0 0
values_of (DebugLineRef x) = numbers 18 x.0 0
values_of (LocationListsRef x) = numbers 19 x.0 0
values_of (DebugLocListsBase x) = numbers 20 x.0 0
values_of (DebugLocListsIndex x) = numbers 21 x.0 0
values_of (DebugMacinfoRef x) = numbers 22 x.0 0
values_of (DebugMacroRef x) = numbers 23 x.0 0
values_of (RangeListsRef x) = numbers 24 x.0 0
values_of (DebugRngListsBase x) = numbers 25 x.0 0
values_of (DebugRngListsIndex x) = numbers 26 x.0 0
values_of (DebugTypesRef x) = numbers 27 x.0 0
values_of (DebugStrRef x) = numbers 28 x.0 0
values_of (DebugStrRefSup x) = numbers 29 x.0 0
values_of (DebugStrOffsetsBase x) = numbers 30 x.0 0
values_of (DebugStrOffsetsIndex x) = numbers 31 x.0 0
values_of (DebugLineStrRef x) = numbers 32 x.0 0
values_of (String v) = place_numbers 33 v
values_of (Encoding x) = numbers 34 x.0 0
values_of (DecimalSign x) = numbers 35 x.0 0
values_of (Endianity x) = numbers 36 x.0 0
values_of (Accessibility x) = numbers 37 x.0 0
values_of (Visibility x) = numbers 38 x.0 0
values_of (Virtuality x) = numbers 39 x.0 0
values_of (Language x) = numbers 40 x.0 0
values_of (AddressClass x) = numbers 41 x.0 0
values_of (IdentifierCase x) = numbers 42 x.0 0
values_of (CallingConvention x) = numbers 43 x.0 0
values_of (Inline x) = numbers 44 x.0 0
values_of (Ordering x) = numbers 45 x.0 0
values_of (FileIndex x) = numbers 46 x 0
values_of (DwoId x) = numbers 47 x.0 0
values_of (DebugAddrIndexOffset x y) = numbers 48 x.0 y

abbrev pub attr_of : Attr → GimliAttr
attr_of a = record {
  number = (values_of a.value).number;
  more = (values_of a.value).more;
  name = a.name.0;
  form = a.form.0;
  kind = (values_of a.value).kind;
}
