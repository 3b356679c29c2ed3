-- What the reading of a set takes: the whole length of the set (DWARF 5, 6.1.2).
use Rattle.std.specs.Prelude.{◌≡◌, ℕ, ◌+◌, ◌-◌, ◌<◌, ◌≤◌, ◌==◌, ◌||◌, if◌then◌else◌, Bool, true}
use Rattle.std.specs.Prelude.{false, length, Ok, Err}
use Rattle.std.proofs.Common.{refl, sym, ap, ◌∙◌, subst, arith, length-drop}
use Rattle.gimli_base.specs.declared.common.Encoding.{Encoding}
use Rattle.gimli_base.specs.declared.common.Format.{Format}
use Rattle.gimli_base.specs.declared.common.Format.TheVariants.{Dwarf32, Dwarf64}
use Rattle.gimli_base.specs.declared.error.Error.TheVariants.{UnknownVersion}
use Rattle.gimli_base.specs.declared.error.Error.TheVariants.{UnsupportedSegmentSize}
use Rattle.gimli_base.specs.declared.error.Error.TheVariants.{UnsupportedAddressSize}
use Rattle.gimli_base.specs.View.{View, cut}
use Rattle.gimli_base.specs.Reading.{Reads, ◌>>=◌, map_read, byte_at, uint_at, offset_at}
use Rattle.gimli_base.specs.Reading.{address_size_at, is_size, initial_length_at}
use Rattle.gimli_base.specs.Reading.{initial_length_size_of, skip_at, split_at}
use Rattle.gimli_base.proofs.Taken.{TakenAfter, TakesAfter, Takes, taken, TakenAfter-trans}
use Rattle.gimli_base.proofs.Taken.{after_takes, initial_length_at-takes, split_at-takes}
use Rattle.gimli_lists.specs.ArangeSets.{ArangeSet, padding_size, set_fields_at, set_in, set_at}
use Rattle.gimli_lists.specs.ArangeSets.{set_length}

-- the size of an address that was read is 1, 2, 4 or 8
pub size_is : (v : View) (z : ℕ) (w : View) → Ok (z, w) ≡ address_size_at v → is_size z ≡ true
unfolding address_size_at
size_is v z w h = begin (byte_at v) h
  where
    tested : (p : ℕ × View) (t : Bool) → is_size p.0 ≡ t
        → ◌≡◌ {A = Reads ℕ} (Ok (z, w)) (if t then Ok p else Err (UnsupportedAddressSize p.0))
        → is_size z ≡ true
    tested p true is e =
        let same : ◌≡◌ {A = ℕ × View} (z, w) p = cc in
        let P : ℕ × View → Type 0 = λ q. is_size q.0 ≡ true in
        subst P (sym same) is
    tested p false is e = absurd (cc)

    begin : (r : Reads ℕ)
        → ◌≡◌ {A = Reads ℕ} (Ok (z, w))
        (r >>= λ p. if is_size p.0 then Ok p else Err (UnsupportedAddressSize p.0))
        → is_size z ≡ true
    begin (Ok p) e = tested p (is_size p.0) refl e
    begin (Err f) e = absurd (cc)

-- the fields of a set have the format that the length field showed
pub set_fields_at-format : (limit : ℕ) (format : Format) (v : View) (f : Encoding × ℕ) (w : View)
    → Ok (f, w) ≡ set_fields_at limit format v → f.0.format ≡ format
unfolding set_fields_at
set_fields_at-format limit format v f w h = version (uint_at 2 v) h
  where
    HasFormat : Reads (Encoding × ℕ) → Type 0
    HasFormat r = ◌≡◌ {A = Reads (Encoding × ℕ)} (Ok (f, w)) r → f.0.format ≡ format

    padding : (number size info : ℕ) (r : Reads (Unit {0}))
        → HasFormat
        (map_read (λ _. (record { format = format; version = number; address_size = size }, info))
        r)
    padding number size info (Ok p) e =
        let same : ◌≡◌ {A = (Encoding × ℕ) × View} (f, w)
        ((record { format = format; version = number; address_size = size }, info), p.1) =
        cc in
        ap (λ (x : (Encoding × ℕ) × View). x.0.0.format) same
    padding number size info (Err x) e = absurd (cc)

    selected : (number size info : ℕ) (segment : ℕ × View) (t : Bool)
        → HasFormat
        (if t
        then map_read
        (λ _. (record { format = format; version = number; address_size = size }, info))
        (skip_at (padding_size format size) segment.1)
        else Err (UnsupportedSegmentSize segment.0))
    selected number size info segment true e =
        padding number size info (skip_at (padding_size format size) segment.1) e
    selected number size info segment false e = absurd (cc)

    segment : (number size info : ℕ) (r : Reads ℕ)
        → HasFormat
        (r >>= λ segment. if segment.0 == 0
        then map_read
        (λ _. (record { format = format; version = number; address_size = size }, info))
        (skip_at (padding_size format size) segment.1)
        else Err (UnsupportedSegmentSize segment.0))
    segment number size info (Ok p) e = selected number size info p (p.0 == 0) e
    segment number size info (Err x) e = absurd (cc)

    size : (number info : ℕ) (r : Reads ℕ)
        → HasFormat
        (r >>= λ size. byte_at size.1 >>= λ segment. if segment.0 == 0
        then map_read
        (λ _. (record { format = format; version = number; address_size = size.0 }, info))
        (skip_at (padding_size format size.0) segment.1)
        else Err (UnsupportedSegmentSize segment.0))
    size number info (Ok p) e = segment number p.0 info (byte_at p.1) e
    size number info (Err x) e = absurd (cc)

    info : (number : ℕ) (r : Reads ℕ)
        → HasFormat
        (r >>= λ info. address_size_at info.1 >>= λ size. byte_at size.1
        >>= λ segment. if segment.0 == 0
        then map_read
        (λ _. (record { format = format; version = number; address_size = size.0 }, info.0))
        (skip_at (padding_size format size.0) segment.1)
        else Err (UnsupportedSegmentSize segment.0))
    info number (Ok p) e = size number p.0 (address_size_at p.1) e
    info number (Err x) e = absurd (cc)

    known : (p : ℕ × View) (t : Bool)
        → HasFormat
        (if t
        then
        (offset_at limit format p.1 >>= λ info. address_size_at info.1
        >>= λ size. byte_at size.1 >>= λ segment. if segment.0 == 0
        then map_read
        (λ _. (record { format = format; version = p.0; address_size = size.0 }, info.0))
        (skip_at (padding_size format size.0) segment.1)
        else Err (UnsupportedSegmentSize segment.0)) else Err (UnknownVersion p.0))
    known p true e = info p.0 (offset_at limit format p.1) e
    known p false e = absurd (cc)

    version : (r : Reads ℕ)
        → HasFormat
        (r >>= λ version. if version.0 == 2
        || version.0 == 3 then
        (offset_at limit format version.1 >>= λ info. address_size_at info.1
        >>= λ size. byte_at size.1 >>= λ segment. if segment.0 == 0
        then map_read
        (λ _. (record { format = format; version = version.0; address_size = size.0 }, info.0))
        (skip_at (padding_size format size.0) segment.1)
        else Err (UnsupportedSegmentSize segment.0)) else Err (UnknownVersion version.0))
    version (Ok p) e = known p (p.0 == 2 || p.0 == 3) e
    version (Err x) e = absurd (cc)

-- what is known of a set that was read at an offset of its section, with w left of v
pub record SetRead (offset : ℕ) (v : View) (s : ArangeSet) (w : View) : Type 0 where
  pub offset_is : s.offset ≡ offset
  pub within : set_length s ≤ length v.bytes
  pub rest : w ≡ cut (set_length s) v

-- what is left begins after the whole length
pub set_at-read : (limit offset : ℕ) (v : View) (s : ArangeSet) (w : View)
    → Ok (s, w) ≡ set_at limit offset v → SetRead offset v s w
unfolding set_at
set_at-read limit offset v s w h =
    begin (initial_length_at limit v) (initial_length_at-takes limit v) h
  where
    Total : ℕ × Format → ℕ
    Total field = initial_length_size_of field.1 + field.0

    built : (field : ℕ × Format) (rest : View) (r : Reads (Encoding × ℕ))
        → ((f : Encoding × ℕ) (u : View) → Ok (f, u) ≡ r → f.0.format ≡ field.1)
        → TakenAfter 0 (Total field) v rest → Ok (s, w) ≡ set_in offset field.0 r rest
        → SetRead offset v s w
    built field rest (Ok fields) kind t e =
        let made_set : ArangeSet =
        record {
          offset = offset;
          encoding = fields.0.0;
          length_field = field.0;
          info_offset = fields.0.1;
          tuples = fields.1;
        } in
        let same : ◌≡◌ {A = ArangeSet × View} (s, w) (made_set, rest) = cc in
        let P : ArangeSet × View → Type 0 = λ x. SetRead offset v x.0 x.1 in
        let total : Total field
        ≡ set_length made_set =
        ap (λ g. initial_length_size_of g + field.0) (sym (kind fields.0 fields.1 refl)) in
        let Q : ℕ → Type 0 = λ n. (n ≤ length v.bytes) × (rest ≡ cut n v) in
        let left = subst Q total (taken (Total field) v rest t) in
        subst P (sym same) (record { offset_is = refl; within = left.0; rest = left.1 })
    built field rest (Err f) kind t e = absurd (cc)

    cut_off : (field : (ℕ × Format) × View) (r : Reads View)
        → TakenAfter 0 (initial_length_size_of field.0.1) v field.1 → Takes field.0.0 field.1 r
        → Ok (s, w)
        ≡ (r >>= λ own. set_in offset field.0.0 (set_fields_at limit field.0.1 own.0) own.1)
        → SetRead offset v s w
    cut_off field (Ok own) t takes e =
        let all = after_takes (initial_length_size_of field.0.1) field.0.0 (Total field.0) field.1
        (Ok own) refl takes own.0 own.1 refl in
        built field.0 own.1 (set_fields_at limit field.0.1 own.0)
        (set_fields_at-format limit field.0.1 own.0)
        (TakenAfter-trans 0 (initial_length_size_of field.0.1) (Total field.0) v field.1 own.1 t
        all) e
    cut_off field (Err f) t takes e = absurd (cc)

    begin : (r : Reads (ℕ × Format))
        → TakesAfter 0 (λ (p : ℕ × Format). initial_length_size_of p.1) v r
        → Ok (s, w)
        ≡ (r >>= λ field. split_at field.0.0 field.1
        >>= λ own. set_in offset field.0.0 (set_fields_at limit field.0.1 own.0) own.1)
        → SetRead offset v s w
    begin (Ok field) takes e =
        cut_off field (split_at field.0.0 field.1) (takes field.0 field.1 refl)
        (split_at-takes field.0.0 field.1) e
    begin (Err f) takes e = absurd (cc)

-- the length field takes bytes
some_size : (format : Format) → 0 < initial_length_size_of format
some_size Dwarf32 = omega arith
some_size Dwarf64 = omega arith

-- so many bytes are left
pub set_at-left : (limit offset : ℕ) (v : View) (s : ArangeSet) (w : View)
    → Ok (s, w) ≡ set_at limit offset v → set_length s + length w.bytes ≡ length v.bytes
set_at-left limit offset v s w h =
    let read = set_at-read limit offset v s w h in
    let left : length w.bytes
    ≡ length v.bytes - set_length s =
    ap (λ (x : View). length x.bytes) read.rest ∙ length-drop (set_length s) v.bytes in
    omega (arith, left, read.within)

-- a set that was read is no longer there
pub set_at-shorter : (limit offset : ℕ) (v : View) (s : ArangeSet) (w : View)
    → Ok (s, w) ≡ set_at limit offset v → length w.bytes < length v.bytes
set_at-shorter limit offset v s w h =
    omega (arith, set_at-left limit offset v s w h, some_size s.encoding.format)
