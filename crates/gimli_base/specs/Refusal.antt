-- The number of each refusal, by which tools name it.
use Rattle.std.specs.Prelude.{ℕ}
use Rattle.gimli_base.specs.declared.error.Error.{Error}
use Rattle.gimli_base.specs.declared.error.Error.TheVariants.{UnexpectedEof, BadUnsignedLeb128}
use Rattle.gimli_base.specs.declared.error.Error.TheVariants.{BadSignedLeb128}
use Rattle.gimli_base.specs.declared.error.Error.TheVariants.{UnknownReservedLength, UnknownVersion}
use Rattle.gimli_base.specs.declared.error.Error.TheVariants.{UnknownUnitType}
use Rattle.gimli_base.specs.declared.error.Error.TheVariants.{UnsupportedAddressSize}
use Rattle.gimli_base.specs.declared.error.Error.TheVariants.{UnsupportedSegmentSize}
use Rattle.gimli_base.specs.declared.error.Error.TheVariants.{UnsupportedOffset}
use Rattle.gimli_base.specs.declared.error.Error.TheVariants.{UnsupportedOffsetSize}
use Rattle.gimli_base.specs.declared.error.Error.TheVariants.{OffsetOutOfBounds}
use Rattle.gimli_base.specs.declared.error.Error.TheVariants.{NoEntryAtGivenOffset}
use Rattle.gimli_base.specs.declared.error.Error.TheVariants.{InvalidAbbreviationCode, UnknownForm}
use Rattle.gimli_base.specs.declared.error.Error.TheVariants.{InvalidImplicitConst}
use Rattle.gimli_base.specs.declared.error.Error.TheVariants.{UnknownRangeListsEntry}
use Rattle.gimli_base.specs.declared.error.Error.TheVariants.{UnknownLocListsEntry, AddressOverflow}
use Rattle.gimli_base.specs.declared.error.Error.TheVariants.{AbbreviationTagZero}
use Rattle.gimli_base.specs.declared.error.Error.TheVariants.{InvalidAbbreviationChildren}
use Rattle.gimli_base.specs.declared.error.Error.TheVariants.{AttributeNameZero, AttributeFormZero}
use Rattle.gimli_base.specs.declared.error.Error.TheVariants.{DuplicateAbbreviationCode}
use Rattle.gimli_base.specs.declared.error.Error.TheVariants.{OutOfMemory}

abbrev pub number_of : Error → ℕ
number_of (UnexpectedEof place) = 1
number_of BadUnsignedLeb128 = 2
number_of BadSignedLeb128 = 3
number_of UnknownReservedLength = 4
number_of (UnknownVersion version) = 5
number_of (UnknownUnitType kind) = 6
number_of (UnsupportedAddressSize size) = 7
number_of (UnsupportedSegmentSize size) = 8
number_of UnsupportedOffset = 9
number_of (UnsupportedOffsetSize size) = 10
number_of (OffsetOutOfBounds offset) = 11
number_of (NoEntryAtGivenOffset offset) = 12
number_of (InvalidAbbreviationCode code) = 13
number_of (UnknownForm form) = 14
number_of InvalidImplicitConst = 15
number_of (UnknownRangeListsEntry code) = 16
number_of (UnknownLocListsEntry code) = 17
number_of AddressOverflow = 18
number_of AbbreviationTagZero = 19
number_of InvalidAbbreviationChildren = 20
number_of AttributeNameZero = 21
number_of AttributeFormZero = 22
number_of DuplicateAbbreviationCode = 23
number_of OutOfMemory = 24
