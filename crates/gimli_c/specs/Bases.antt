-- What the values of a unit count from, as a caller's numbers (DWARF 5, 3.1.1 to 3.1.3 and 7.26 to
-- 7.29).
use Rattle.std.specs.Prelude.{◌≡◌, ℕ, ◌==◌, ◌&&◌, nat_le, if◌then◌else◌, Option, Some, None}
use Rattle.std.specs.Prelude.{Result, Ok, Err, false, List, slice_get, ◌^◌}
use Rattle.std.specs.Option.{option_map}
use Rattle.gimli_base.specs.declared.common.DwarfFileType.{DwarfFileType}
use Rattle.gimli_base.specs.declared.common.DwarfFileType.TheVariants.{Main, Dwo}
use Rattle.gimli_base.specs.declared.common.Encoding.{Encoding}
use Rattle.gimli_base.specs.declared.error.Error.{Error}
use Rattle.gimli_base.specs.Abbreviations.{Map, map_at, table_takes_memory_at}
use Rattle.gimli_base.specs.ListsBase.{default_base}
use Rattle.gimli_base.specs.View.{View}
use Rattle.gimli_units.specs.Unit.{UnitView, header_size, range_from, takes_memory_in}
use Rattle.gimli_dwarf.specs.declared.error.DwarfError.{DwarfError}
use Rattle.gimli_dwarf.specs.declared.error.DwarfError.TheVariants.{Read}
use Rattle.gimli_dwarf.specs.Bases.{Bases, and_then, or_refused, table_header_size, unit_bases}
use Rattle.gimli_c.specs.declared.bases.GimliBases.{GimliBases}
use Rattle.gimli_c.specs.declared.sections.GimliSections.{GimliSections}
use Rattle.gimli_c.specs.Status.{more, unresolved}
use Rattle.gimli_c.specs.Units.{view_in, abbreviations_view, section_unit}

-- a base, unless it is named as missing or less than it can be
abbrev pub base_in : ℕ → ℕ → ℕ → Option ℕ
base_in missing least number =
    if missing == 0 && nat_le least number then Some number else None

-- the kind of a file
abbrev pub file_in : ℕ → DwarfFileType
file_in dwo = if dwo == 0 then Main else Dwo

-- the bases that a caller's numbers are, of a unit that is read so; none lies in the first header of
-- its section
abbrev pub bases_in : Encoding → GimliBases → Bases
bases_in e b = record {
  encoding = e;
  file_type = file_in b.dwo;
  low_pc = base_in b.no_address 0 b.address;
  addr_base = base_in b.no_addresses (table_header_size e) b.addresses;
  str_offsets_base = base_in b.no_str_offsets (table_header_size e) b.str_offsets;
  rnglists_base = base_in b.no_rnglists (default_base e Dwo) b.rnglists;
  loclists_base = base_in b.no_loclists (default_base e Dwo) b.loclists;
  gnu_ranges_base = base_in b.no_gnu_ranges 0 b.gnu_ranges;
}

-- the number of a base, and whether it is missing
abbrev pub number_of_base : Option ℕ → ℕ × ℕ
number_of_base (Some n) = (n, 0)
number_of_base None = (0, 1)

abbrev pub number_of_file : DwarfFileType → ℕ
number_of_file Main = 0
number_of_file Dwo = 1

-- bases, as numbers
abbrev pub bases_numbers : Bases → GimliBases
bases_numbers b = record {
  address = (number_of_base b.low_pc).0;
  addresses = (number_of_base b.addr_base).0;
  rnglists = (number_of_base b.rnglists_base).0;
  loclists = (number_of_base b.loclists_base).0;
  str_offsets = (number_of_base b.str_offsets_base).0;
  gnu_ranges = (number_of_base b.gnu_ranges_base).0;
  dwo = number_of_file b.file_type;
  no_address = (number_of_base b.low_pc).1;
  no_addresses = (number_of_base b.addr_base).1;
  no_rnglists = (number_of_base b.rnglists_base).1;
  no_loclists = (number_of_base b.loclists_base).1;
  no_str_offsets = (number_of_base b.str_offsets_base).1;
  no_gnu_ranges = (number_of_base b.gnu_ranges_base).1;
}

-- the bases of a unit by its root, and by those of its skeleton, if it has one
abbrev pub bases_by : ℕ → View → DwarfFileType → Option GimliBases → UnitView → Map
    → Result Bases DwarfError
bases_by limit addresses file skeleton u =
    unit_bases limit addresses file (option_map (bases_in u.encoding) skeleton) u

-- the same, the unit's table read from these declarations
abbrev pub bases_of_unit : ℕ → View → DwarfFileType → Option GimliBases → Result UnitView Error
    → View → Result Bases DwarfError
bases_of_unit limit addresses file skeleton (Err e) declarations = Err (Read e)
bases_of_unit limit addresses file skeleton (Ok u) declarations =
    and_then (or_refused (map_at u.abbreviations declarations))
    (bases_by limit addresses file skeleton u)

-- the status, and the bases that the caller has then
abbrev pub bases_outcome : Result Bases DwarfError → GimliBases → ℕ × GimliBases
bases_outcome (Ok b) old = (more, bases_numbers b)
bases_outcome (Err e) old = (unresolved e, old)

-- the same of a unit of a caller's sections, the first of `skeleton` being its skeleton's, if there
-- is one
abbrev pub section_bases : GimliSections → ℕ → ℕ → List GimliBases → GimliBases → ℕ × GimliBases
section_bases s unit dwo skeleton old =
    bases_outcome (bases_of_unit (2 ^ 64) (view_in s s.addresses.now) (file_in dwo)
    (slice_get skeleton 0) (section_unit s unit) (abbreviations_view s)) old

-- reading the root of a unit takes no memory
abbrev pub RootTakesNone : UnitView → Result Map Error → Type 0
RootTakesNone u (Ok declared) =
    takes_memory_in declared (range_from u (header_size u)) ≡ false
RootTakesNone u (Err e) = Unit {0}

-- neither the unit's table nor its root takes memory
abbrev pub TakeNoMemory : Result UnitView Error → View → Type 0
TakeNoMemory (Ok u) declarations =
    (table_takes_memory_at u.abbreviations declarations ≡ false)
    × RootTakesNone u (map_at u.abbreviations declarations)
TakeNoMemory (Err e) declarations = Unit {0}
