-- The ranges and the locations that a call writes, of those of a list (DWARF 5, 2.6.2 and 2.17.3).
use Rattle.std.specs.Prelude.{◌≡◌, ℕ, ◌==◌, ◌^◌, nat_lt, not, if◌then◌else◌, Bool, List, [], ◌∷◌}
use Rattle.std.specs.Prelude.{◌++◌, map, take, drop, length, Option, Some, None, Result, Ok, Err}
use Rattle.std.specs.Prelude.{false}
use Rattle.gimli_base.specs.declared.error.Error.{Error}
use Rattle.gimli_base.specs.declared.error.Error.TheVariants.{UnsupportedAddressSize}
use Rattle.gimli_base.specs.Reading.{is_size}
use Rattle.gimli_base.specs.View.{View}
use Rattle.gimli_units.specs.declared.value.AttributeValue.TheVariants.{RangeListsRef, Flag}
use Rattle.gimli_units.specs.declared.value.AttributeValue.TheVariants.{DebugRngListsIndex}
use Rattle.gimli_units.specs.declared.value.AttributeValue.TheVariants.{LocationListsRef}
use Rattle.gimli_units.specs.declared.value.AttributeValue.TheVariants.{DebugLocListsIndex}
use Rattle.gimli_units.specs.Value.{Value}
use Rattle.gimli_lists.specs.Locations.{locations_ahead}
use Rattle.gimli_lists.specs.Places.{ListPlace, ListSections}
use Rattle.gimli_lists.specs.Ranges.{ranges_ahead}
use Rattle.gimli_lists.specs.Resolved.{Resolved}
use Rattle.gimli_dwarf.specs.declared.error.DwarfError.{DwarfError}
use Rattle.gimli_dwarf.specs.Lists.{ranges_of_value, locations_of_value}
use Rattle.gimli_c.specs.declared.attrs.GimliAttr.{GimliAttr}
use Rattle.gimli_c.specs.declared.bases.GimliBases.{GimliBases}
use Rattle.gimli_c.specs.declared.lists.GimliLocation.{GimliLocation}
use Rattle.gimli_c.specs.declared.lists.GimliRange.{GimliRange}
use Rattle.gimli_c.specs.declared.lists.Listed.{Listed}
use Rattle.gimli_c.specs.declared.sections.GimliSections.{GimliSections}
use Rattle.gimli_c.specs.declared.unit.GimliUnit.{GimliUnit}
use Rattle.gimli_c.specs.Bases.{bases_in}
use Rattle.gimli_c.specs.Status.{more, end, no_list, refusal_status, row_refused, unresolved}
use Rattle.gimli_c.specs.Units.{encoding_in}

abbrev pub range_row : Resolved (Unit {0}) → GimliRange
range_row r = record { begin = r.begin; end = r.end }

abbrev pub location_row : Resolved View → GimliLocation
location_row r =
    record {
      begin = r.begin;
      end = r.end;
      place = r.payload.place;
      length = length r.payload.bytes;
    }

-- what is before the first refusal, and that refusal
abbrev pub before_refusal : {X : Type 0} → List (Result X Error) → List X
before_refusal [] = []
before_refusal (Ok x ∷ rest) = x ∷ before_refusal rest
before_refusal (Err e ∷ rest) = []

abbrev pub first_refusal : {X : Type 0} → List (Result X Error) → Option Error
first_refusal [] = None
first_refusal (Ok x ∷ rest) = first_refusal rest
first_refusal (Err e ∷ rest) = Some e

-- the status where there are so many, and room for so many
abbrev pub list_status : ℕ → ℕ → ℕ → ℕ
list_status room count last = if nat_lt room count then more else last

-- the status after the last
abbrev pub list_end_status : Option Error → ℕ
list_end_status None = end
list_end_status (Some e) = row_refused e

-- What is before the first refusal is counted, and written as far as there is room; the rest of the
-- buffer stays as it was.
pub record IsListed {X Y : Type 0} (f : X → Y) (answers : List (Result X Error)) (old new : List Y)
    (count status : ℕ) : Type 0 where
  pub rows : new ≡ map f (take (length old) (before_refusal answers)) ++ drop count old
  pub whole : count ≡ length (before_refusal answers)
  pub status_is : status ≡ list_status (length old) count (list_end_status (first_refusal answers))

-- nothing is written
pub record IsUnlisted {Y : Type 0} (stop : ℕ) (old new : List Y) (count status : ℕ) : Type 0 where
  pub rows : new ≡ old
  pub none : count ≡ 0
  pub stopped : status ≡ stop

-- what a call does
abbrev pub IsListOutcome : {X Y : Type 0} → (X → Y) → Result (List (Result X Error)) ℕ → List Y
    → List Y
    → ℕ → ℕ → Type 0
IsListOutcome f (Ok answers) old new count status = IsListed f answers old new count status
IsListOutcome f (Err stop) old new count status = IsUnlisted stop old new count status

-- the same of a count and a status, or of the status alone where nothing is read
abbrev pub IsListResult : {X Y : Type 0} → (X → Y) → Result (List (Result X Error)) ℕ → List Y
    → List Y → Result Listed ℕ → Type 0
IsListResult f outcome old new (Ok l) = IsListOutcome f outcome old new l.count l.status
IsListResult f outcome old new (Err stop) = IsListOutcome f outcome old new 0 stop

-- the view of a section's bytes in a byte order
abbrev pub section_view : Bool → List ℕ → View
section_view big bytes = record { big = big; place = 0; bytes = bytes }

abbrev pub section_is_big : GimliSections → Bool
section_is_big s = not (s.big == 0)

abbrev pub range_sections : Bool → GimliSections → ListSections
range_sections big s = record {
  old = section_view big s.ranges.now;
  new = section_view big s.rnglists.now;
}

abbrev pub location_sections : Bool → GimliSections → ListSections
location_sections big s = record {
  old = section_view big s.loc.now;
  new = section_view big s.loclists.now;
}

-- the value of an attribute that may name a range list, or a location list
abbrev pub range_value : GimliAttr → Value
range_value a =
    if a.kind == 12 then RangeListsRef (record { 0 = a.number })
    else if a.kind == 26 then DebugRngListsIndex (record { 0 = a.number })
    else Flag false

abbrev pub location_value : GimliAttr → Value
location_value a =
    if a.kind == 12 then LocationListsRef (record { 0 = a.number })
    else if a.kind == 21 then DebugLocListsIndex (record { 0 = a.number })
    else Flag false

-- the answers of the list that a value names
abbrev pub answers_of : {A : Type 0} → (ListPlace → A) → Result (Option ListPlace) DwarfError
    → Result A ℕ
answers_of ahead (Ok (Some p)) = Ok (ahead p)
answers_of ahead (Ok None) = Err no_list
answers_of ahead (Err e) = Err (unresolved e)

-- those of a unit whose addresses have a size that an address may have
abbrev pub if_sized : {A : Type 0} → GimliUnit → Result A ℕ → Result A ℕ
if_sized u r =
    if is_size u.address_size then r
    else Err (refusal_status (UnsupportedAddressSize u.address_size))

-- the ranges of the list at an attribute's value, each or its refusal
abbrev pub ranges_at : Bool → GimliSections → GimliUnit → GimliAttr → GimliBases
    → Result (List (Result (Resolved (Unit {0})) Error)) ℕ
ranges_at big s u a b =
    if_sized u
    (answers_of (ranges_ahead (2 ^ 64))
    (ranges_of_value (2 ^ 64) (bases_in (encoding_in u) b)
    (section_view big s.addresses.now) (range_sections big s) (range_value a)))

-- the locations of the list at an attribute's value, each or its refusal
abbrev pub locations_at : Bool → GimliSections → GimliUnit → GimliAttr → GimliBases
    → Result (List (Result (Resolved View) Error)) ℕ
locations_at big s u a b =
    if_sized u
    (answers_of (locations_ahead (2 ^ 64))
    (locations_of_value (2 ^ 64) (bases_in (encoding_in u) b)
    (section_view big s.addresses.now) (location_sections big s) (location_value a)))
