-- The normal value of an attribute, by its name, and the conversions that it tries (DWARF 5, 7.5.4,
-- table 7.5).
use Rattle.std.specs.Prelude.{ℕ, ℤ, pos, ◌-ℤ◌, nat_lt, ◌==◌, ◌-◌, ◌^◌, if◌then◌else◌, List, [], ◌∷◌}
use Rattle.std.specs.Prelude.{Option, Some, None, Result, Ok, Err}
use Rattle.gimli_base.specs.declared.error.Error.{Error}
use Rattle.gimli_base.specs.View.{View}
use Rattle.gimli_base.specs.Reading.{text_from}
use Rattle.gimli_units.specs.Value.{Value}
use Rattle.gimli_units.specs.declared.value.AttributeValue.TheVariants.{Accessibility, AddressClass}
use Rattle.gimli_units.specs.declared.value.AttributeValue.TheVariants.{Block, CallingConvention}
use Rattle.gimli_units.specs.declared.value.AttributeValue.TheVariants.{Data1, Data2, Data4, Data8}
use Rattle.gimli_units.specs.declared.value.AttributeValue.TheVariants.{DebugAddrBase, DebugLineRef}
use Rattle.gimli_units.specs.declared.value.AttributeValue.TheVariants.{DebugLocListsBase}
use Rattle.gimli_units.specs.declared.value.AttributeValue.TheVariants.{DebugMacinfoRef}
use Rattle.gimli_units.specs.declared.value.AttributeValue.TheVariants.{DebugMacroRef}
use Rattle.gimli_units.specs.declared.value.AttributeValue.TheVariants.{DebugRngListsBase}
use Rattle.gimli_units.specs.declared.value.AttributeValue.TheVariants.{DebugStrOffsetsBase}
use Rattle.gimli_units.specs.declared.value.AttributeValue.TheVariants.{DecimalSign, DwoId}
use Rattle.gimli_units.specs.declared.value.AttributeValue.TheVariants.{Encoding, Endianity}
use Rattle.gimli_units.specs.declared.value.AttributeValue.TheVariants.{Exprloc, FileIndex}
use Rattle.gimli_units.specs.declared.value.AttributeValue.TheVariants.{IdentifierCase, Inline}
use Rattle.gimli_units.specs.declared.value.AttributeValue.TheVariants.{Language, LocationListsRef}
use Rattle.gimli_units.specs.declared.value.AttributeValue.TheVariants.{Ordering, RangeListsRef}
use Rattle.gimli_units.specs.declared.value.AttributeValue.TheVariants.{Sdata, SecOffset, String}
use Rattle.gimli_units.specs.declared.value.AttributeValue.TheVariants.{DebugStrRef, DebugStrRefSup}
use Rattle.gimli_units.specs.declared.value.AttributeValue.TheVariants.{Udata, Virtuality}
use Rattle.gimli_units.specs.declared.value.AttributeValue.TheVariants.{Visibility}

-- an unsigned number
abbrev pub udata_of : Value → Option ℕ
udata_of (Data1 n) = Some n
udata_of (Data2 n) = Some n
udata_of (Data4 n) = Some n
udata_of (Data8 n) = Some n
udata_of (Udata n) = Some n
udata_of (Sdata (pos n)) = Some n
udata_of _ = None

-- the number of n bits with a sign
abbrev pub signed_of : ℕ → ℕ → ℤ
signed_of n x = if nat_lt x (2 ^ (n - 1)) then pos x else pos x -ℤ pos (2 ^ n)

-- a signed number
abbrev pub sdata_of : Value → Option ℤ
sdata_of (Data1 n) = Some (signed_of 8 n)
sdata_of (Data2 n) = Some (signed_of 16 n)
sdata_of (Data4 n) = Some (signed_of 32 n)
sdata_of (Data8 n) = Some (signed_of 64 n)
sdata_of (Sdata z) = Some z
sdata_of (Udata n) = if nat_lt n (2 ^ 63) then Some (pos n) else None
sdata_of _ = None

-- an offset into a section
abbrev pub sec_offset_of : Value → Option ℕ
sec_offset_of (SecOffset o) = Some o
sec_offset_of _ = None

-- an expression
abbrev pub exprloc_of : Value → Option View
exprloc_of (Exprloc e) = Some e.0
exprloc_of (Block v) = Some v
exprloc_of _ = None

-- the bytes of a text that was found
abbrev pub bytes_found : Result View Error → Option View
bytes_found (Ok v) = Some v
bytes_found (Err e) = None

-- a text, which may stand in `.debug_str`
abbrev pub string_of : View → Value → Option View
string_of strings (String v) = Some v
string_of strings (DebugStrRef o) = bytes_found (text_from o.0 strings)
string_of strings _ = None

-- a text, which may also stand in `.debug_str` of the supplementary file, where that is given
abbrev pub string_sup_of : View → Option View → Value → Option View
string_sup_of strings (Some others) (DebugStrRefSup o) = bytes_found (text_from o.0 others)
string_sup_of strings others x = string_of strings x

-- an answer below a limit
abbrev pub below : ℕ → Option ℕ → Option ℕ
below limit (Some n) = if nat_lt n limit then Some n else None
below limit None = None

-- an answer made into a value
abbrev pub into : {A : Type 0} → (A → Value) → Option A → Option Value
into f (Some a) = Some (f a)
into f None = None

abbrev pub as_udata : (ℕ → Value) → Value → Option Value
as_udata f x = into f (udata_of x)

abbrev pub as_u8 : (ℕ → Value) → Value → Option Value
as_u8 f x = into f (below (2 ^ 8) (udata_of x))

abbrev pub as_u16 : (ℕ → Value) → Value → Option Value
as_u16 f x = into f (below (2 ^ 16) (udata_of x))

abbrev pub as_sec_offset : (ℕ → Value) → Value → Option Value
as_sec_offset f x = into f (sec_offset_of x)

abbrev pub as_exprloc : Value → Option Value
as_exprloc x = into (λ v. Exprloc (record { 0 = v })) (exprloc_of x)

abbrev pub loclists : ℕ → Value
loclists n = LocationListsRef (record { 0 = n })

abbrev pub line : ℕ → Value
line n = DebugLineRef (record { 0 = n })

abbrev pub ranges : ℕ → Value
ranges n = RangeListsRef (record { 0 = n })

abbrev pub macinfo : ℕ → Value
macinfo n = DebugMacinfoRef (record { 0 = n })

abbrev pub macro : ℕ → Value
macro n = DebugMacroRef (record { 0 = n })

abbrev pub str_offsets_base : ℕ → Value
str_offsets_base n = DebugStrOffsetsBase (record { 0 = n })

abbrev pub addr_base : ℕ → Value
addr_base n = DebugAddrBase (record { 0 = n })

abbrev pub rnglists_base : ℕ → Value
rnglists_base n = DebugRngListsBase (record { 0 = n })

abbrev pub loclists_base : ℕ → Value
loclists_base n = DebugLocListsBase (record { 0 = n })

abbrev pub dwo_id : ℕ → Value
dwo_id n = DwoId (record { 0 = n })

abbrev pub address_class : ℕ → Value
address_class n = AddressClass (record { 0 = n })

abbrev pub language : ℕ → Value
language n = Language (record { 0 = n })

abbrev pub ordering : ℕ → Value
ordering n = Ordering (record { 0 = n })

abbrev pub visibility : ℕ → Value
visibility n = Visibility (record { 0 = n })

abbrev pub inline_value : ℕ → Value
inline_value n = Inline (record { 0 = n })

abbrev pub accessibility : ℕ → Value
accessibility n = Accessibility (record { 0 = n })

abbrev pub calling_convention : ℕ → Value
calling_convention n = CallingConvention (record { 0 = n })

abbrev pub base_type : ℕ → Value
base_type n = Encoding (record { 0 = n })

abbrev pub identifier_case : ℕ → Value
identifier_case n = IdentifierCase (record { 0 = n })

abbrev pub virtuality : ℕ → Value
virtuality n = Virtuality (record { 0 = n })

abbrev pub decimal_sign : ℕ → Value
decimal_sign n = DecimalSign (record { 0 = n })

abbrev pub endianity : ℕ → Value
endianity n = Endianity (record { 0 = n })

-- the conversions of each name, in the order in which they are tried
unfoldable pub conversions : List (ℕ × List (Value → Option Value))
conversions =
    (0x02, as_exprloc ∷ as_sec_offset loclists ∷ []) ∷  -- location
    (0x19, as_exprloc ∷ as_sec_offset loclists ∷ []) ∷  -- string_length
    (0x2a, as_exprloc ∷ as_sec_offset loclists ∷ []) ∷  -- return_addr
    (0x40, as_exprloc ∷ as_sec_offset loclists ∷ []) ∷  -- frame_base
    (0x46, as_exprloc ∷ as_sec_offset loclists ∷ []) ∷  -- segment
    (0x48, as_exprloc ∷ as_sec_offset loclists ∷ []) ∷  -- static_link
    (0x4a, as_exprloc ∷ as_sec_offset loclists ∷ []) ∷  -- use_location
    (0x4d, as_exprloc ∷ as_sec_offset loclists ∷ []) ∷  -- vtable_elem_location
    (0x38, as_udata Udata ∷ as_exprloc ∷ as_sec_offset loclists ∷ []) ∷  -- data_member_location
    (0x0b, as_udata Udata ∷ as_exprloc ∷ []) ∷  -- byte_size
    (0x0c, as_udata Udata ∷ as_exprloc ∷ []) ∷  -- bit_offset
    (0x0d, as_udata Udata ∷ as_exprloc ∷ []) ∷  -- bit_size
    (0x2e, as_udata Udata ∷ as_exprloc ∷ []) ∷  -- bit_stride
    (0x51, as_udata Udata ∷ as_exprloc ∷ []) ∷  -- byte_stride
    (0x12, as_udata Udata ∷ []) ∷  -- high_pc
    (0x39, as_udata Udata ∷ []) ∷  -- decl_column
    (0x3b, as_udata Udata ∷ []) ∷  -- decl_line
    (0x57, as_udata Udata ∷ []) ∷  -- call_column
    (0x59, as_udata Udata ∷ []) ∷  -- call_line
    (0x3a, as_udata FileIndex ∷ []) ∷  -- decl_file
    (0x58, as_udata FileIndex ∷ []) ∷  -- call_file
    (0x33, as_udata address_class ∷ []) ∷  -- address_class
    (0x13, as_u16 language ∷ []) ∷  -- language
    (0x09, as_u8 ordering ∷ []) ∷  -- ordering
    (0x17, as_u8 visibility ∷ []) ∷  -- visibility
    (0x20, as_u8 inline_value ∷ []) ∷  -- inline
    (0x32, as_u8 accessibility ∷ []) ∷  -- accessibility
    (0x36, as_u8 calling_convention ∷ []) ∷  -- calling_convention
    (0x3e, as_u8 base_type ∷ []) ∷  -- encoding
    (0x42, as_u8 identifier_case ∷ []) ∷  -- identifier_case
    (0x4c, as_u8 virtuality ∷ []) ∷  -- virtuality
    (0x5e, as_u8 decimal_sign ∷ []) ∷  -- decimal_sign
    (0x65, as_u8 endianity ∷ []) ∷  -- endianity
    (0x22, as_exprloc ∷ []) ∷  -- lower_bound
    (0x2f, as_exprloc ∷ []) ∷  -- upper_bound
    (0x37, as_exprloc ∷ []) ∷  -- count
    (0x4e, as_exprloc ∷ []) ∷  -- allocated
    (0x4f, as_exprloc ∷ []) ∷  -- associated
    (0x50, as_exprloc ∷ []) ∷  -- data_location
    (0x71, as_exprloc ∷ []) ∷  -- rank
    (0x7e, as_exprloc ∷ []) ∷  -- call_value
    (0x7f, as_exprloc ∷ []) ∷  -- call_origin
    (0x83, as_exprloc ∷ []) ∷  -- call_target
    (0x84, as_exprloc ∷ []) ∷  -- call_target_clobbered
    (0x85, as_exprloc ∷ []) ∷  -- call_data_location
    (0x86, as_exprloc ∷ []) ∷  -- call_data_value
    (0x10, as_sec_offset line ∷ []) ∷  -- stmt_list
    (0x2c, as_sec_offset ranges ∷ []) ∷  -- start_scope
    (0x55, as_sec_offset ranges ∷ []) ∷  -- ranges
    (0x43, as_sec_offset macinfo ∷ []) ∷  -- macro_info
    (0x79, as_sec_offset macro ∷ []) ∷  -- macros
    (0x72, as_sec_offset str_offsets_base ∷ []) ∷  -- str_offsets_base
    (0x73, as_sec_offset addr_base ∷ []) ∷  -- addr_base
    (0x2133, as_sec_offset addr_base ∷ []) ∷  -- GNU_addr_base
    (0x74, as_sec_offset rnglists_base ∷ []) ∷  -- rnglists_base
    (0x2132, as_sec_offset rnglists_base ∷ []) ∷  -- GNU_ranges_base
    (0x8c, as_sec_offset loclists_base ∷ []) ∷  -- loclists_base
    (0x2131, as_udata dwo_id ∷ []) ∷  -- GNU_dwo_id
    []

-- the first conversion that applies, else the value itself
abbrev pub first_of_them : List (Value → Option Value) → Value → Value
first_of_them [] x = x
first_of_them (f ∷ fs) x = elim (f x) [ Some y ↦ y | None ↦ first_of_them fs x ]

abbrev pub by_name : ℕ → List (ℕ × List (Value → Option Value)) → Value → Value
by_name name [] x = x
by_name name (r ∷ rs) x = if name == r.0 then first_of_them r.1 x else by_name name rs x

unfoldable pub normal_value : ℕ → Value → Value
unfolding conversions
normal_value name x = by_name name conversions x
