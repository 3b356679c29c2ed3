-- How the value of each form lies in the bytes, and what it reads as (DWARF 5, 7.5.6, table 7.6).
use Rattle.std.specs.Prelude.{ℕ, ℤ, true, not, ◌==◌, if◌then◌else◌, List, [], ◌∷◌, Option, Some}
use Rattle.std.specs.Prelude.{None}
use Rattle.gimli_base.specs.View.{View}
use Rattle.gimli_units.specs.Value.{Value}
use Rattle.gimli_units.specs.declared.value.AttributeValue.TheVariants.{Addr, Block, Data1, Data2}
use Rattle.gimli_units.specs.declared.value.AttributeValue.TheVariants.{Data4, Data8, Data16, Sdata}
use Rattle.gimli_units.specs.declared.value.AttributeValue.TheVariants.{Udata, Exprloc, Flag}
use Rattle.gimli_units.specs.declared.value.AttributeValue.TheVariants.{SecOffset, String, UnitRef}
use Rattle.gimli_units.specs.declared.value.AttributeValue.TheVariants.{DebugStrRef, DebugStrRefSup}
use Rattle.gimli_units.specs.declared.value.AttributeValue.TheVariants.{DebugLineStrRef}
use Rattle.gimli_units.specs.declared.value.AttributeValue.TheVariants.{DebugInfoRef}
use Rattle.gimli_units.specs.declared.value.AttributeValue.TheVariants.{DebugInfoRefSup}
use Rattle.gimli_units.specs.declared.value.AttributeValue.TheVariants.{DebugTypesRef}
use Rattle.gimli_units.specs.declared.value.AttributeValue.TheVariants.{DebugStrOffsetsIndex}
use Rattle.gimli_units.specs.declared.value.AttributeValue.TheVariants.{DebugAddrIndex}
use Rattle.gimli_units.specs.declared.value.AttributeValue.TheVariants.{DebugAddrIndexOffset}
use Rattle.gimli_units.specs.declared.value.AttributeValue.TheVariants.{DebugLocListsIndex}
use Rattle.gimli_units.specs.declared.value.AttributeValue.TheVariants.{DebugRngListsIndex}

-- The bytes of a value, and the value that is made of what they hold.
pub data Layout : Type 0 where
  byte : (ℕ → Value) → Layout  -- one byte
  number : ℕ → (ℕ → Value) → Layout  -- n bytes
  -- n bytes; where the name is one of a section's and n is the format's width, an offset
  section_or : ℕ → (ℕ → Value) → Layout
  address : (ℕ → Value) → Layout  -- as many bytes as the unit's addresses have
  uleb : (ℕ → Value) → Layout  -- an unsigned LEB128 number
  sleb : (ℤ → Value) → Layout  -- a signed LEB128 number
  offset : ℕ → (ℕ → Value) → Layout  -- n bytes, an offset or index
  word_offset : (ℕ → Value) → Layout  -- as many bytes as the format's offsets have, an offset
  -- in version 2 as many bytes as addresses have, else as word_offset
  reference : (ℕ → Value) → Layout
  offset_leb : (ℕ → Value) → Layout  -- an unsigned LEB128 number, an offset or index
  -- an unsigned LEB128 number, an offset or index, and then n bytes
  offset_leb_and : ℕ → (ℕ → ℕ → Value) → Layout
  block : ℕ → (View → Value) → Layout  -- a length of n bytes, and that many bytes
  block_leb : (View → Value) → Layout  -- a length in LEB128, and that many bytes
  text : (View → Value) → Layout  -- bytes up to a zero, which is passed too
  nothing : Value → Layout  -- no bytes
  constant : (ℤ → Value) → Layout  -- no bytes; the value stands in the declaration

abbrev pub flag : ℕ → Value
flag n = Flag (not (n == 0))

abbrev pub exprloc : View → Value
exprloc v = Exprloc (record { 0 = v })

abbrev pub unit_ref : ℕ → Value
unit_ref n = UnitRef (record { 0 = n })

abbrev pub debug_str : ℕ → Value
debug_str n = DebugStrRef (record { 0 = n })

abbrev pub debug_str_sup : ℕ → Value
debug_str_sup n = DebugStrRefSup (record { 0 = n })

abbrev pub debug_line_str : ℕ → Value
debug_line_str n = DebugLineStrRef (record { 0 = n })

abbrev pub debug_info : ℕ → Value
debug_info n = DebugInfoRef (record { 0 = n })

abbrev pub debug_info_sup : ℕ → Value
debug_info_sup n = DebugInfoRefSup (record { 0 = n })

abbrev pub type_signature : ℕ → Value
type_signature n = DebugTypesRef (record { 0 = n })

abbrev pub str_index : ℕ → Value
str_index n = DebugStrOffsetsIndex (record { 0 = n })

abbrev pub addr_index : ℕ → Value
addr_index n = DebugAddrIndex (record { 0 = n })

abbrev pub addr_index_offset : ℕ → ℕ → Value
addr_index_offset n m = DebugAddrIndexOffset (record { 0 = n }) m

abbrev pub loclists_index : ℕ → Value
loclists_index n = DebugLocListsIndex (record { 0 = n })

abbrev pub rnglists_index : ℕ → Value
rnglists_index n = DebugRngListsIndex (record { 0 = n })

-- every form but indirect, by its code
unfoldable pub forms : List (ℕ × Layout)
forms =
    (0x01, address Addr) ∷  -- addr
    (0x03, block 2 Block) ∷  -- block2
    (0x04, block 4 Block) ∷  -- block4
    (0x05, number 2 Data2) ∷  -- data2
    (0x06, section_or 4 Data4) ∷  -- data4
    (0x07, section_or 8 Data8) ∷  -- data8
    (0x08, text String) ∷  -- string
    (0x09, block_leb Block) ∷  -- block
    (0x0a, block 1 Block) ∷  -- block1
    (0x0b, byte Data1) ∷  -- data1
    (0x0c, byte flag) ∷  -- flag
    (0x0d, sleb Sdata) ∷  -- sdata
    (0x0e, word_offset debug_str) ∷  -- strp
    (0x0f, uleb Udata) ∷  -- udata
    (0x10, reference debug_info) ∷  -- ref_addr
    (0x11, offset 1 unit_ref) ∷  -- ref1
    (0x12, offset 2 unit_ref) ∷  -- ref2
    (0x13, offset 4 unit_ref) ∷  -- ref4
    (0x14, offset 8 unit_ref) ∷  -- ref8
    (0x15, offset_leb unit_ref) ∷  -- ref_udata
    (0x17, word_offset SecOffset) ∷  -- sec_offset
    (0x18, block_leb exprloc) ∷  -- exprloc
    (0x19, nothing (Flag true)) ∷  -- flag_present
    (0x1a, offset_leb str_index) ∷  -- strx
    (0x1b, offset_leb addr_index) ∷  -- addrx
    (0x1c, offset 4 debug_info_sup) ∷  -- ref_sup4
    (0x1d, word_offset debug_str_sup) ∷  -- strp_sup
    (0x1e, number 16 Data16) ∷  -- data16
    (0x1f, word_offset debug_line_str) ∷  -- line_strp
    (0x20, number 8 type_signature) ∷  -- ref_sig8
    (0x21, constant Sdata) ∷  -- implicit_const
    (0x22, offset_leb loclists_index) ∷  -- loclistx
    (0x23, offset_leb rnglists_index) ∷  -- rnglistx
    (0x24, offset 8 debug_info_sup) ∷  -- ref_sup8
    (0x25, offset 1 str_index) ∷  -- strx1
    (0x26, offset 2 str_index) ∷  -- strx2
    (0x27, offset 3 str_index) ∷  -- strx3
    (0x28, offset 4 str_index) ∷  -- strx4
    (0x29, offset 1 addr_index) ∷  -- addrx1
    (0x2a, offset 2 addr_index) ∷  -- addrx2
    (0x2b, offset 3 addr_index) ∷  -- addrx3
    (0x2c, offset 4 addr_index) ∷  -- addrx4
    (0x1f01, offset_leb addr_index) ∷  -- GNU_addr_index
    (0x1f02, offset_leb str_index) ∷  -- GNU_str_index
    (0x1f20, word_offset debug_info_sup) ∷  -- GNU_ref_alt
    (0x1f21, word_offset debug_str_sup) ∷  -- GNU_strp_alt
    (0x3f01, offset_leb_and 4 addr_index_offset) ∷  -- own_addrx_offset
    []

abbrev pub layout_in : ℕ → List (ℕ × Layout) → Option Layout
layout_in form [] = None
layout_in form (r ∷ rs) = if form == r.0 then Some r.1 else layout_in form rs

unfoldable pub layout_of : ℕ → Option Layout
unfolding forms
layout_of form = layout_in form forms
