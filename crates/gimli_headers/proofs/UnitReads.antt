-- What the reading of a unit takes: the whole length of the unit, of which the header has the size
-- of its kind (DWARF 5, 7.5.1).
use Rattle.std.specs.Prelude.{◌≡◌, ℕ, ◌+◌, ◌-◌, ◌<◌, ◌≤◌, ◌==◌, nat_le, if◌then◌else◌, true, false}
use Rattle.std.specs.Prelude.{length, Ok, Err}
use Rattle.std.proofs.Common.{refl, sym, ap, ◌∙◌, subst, arith, length-drop}
use Rattle.std.proofs.lemmas.Bool.{leb-true, ne_eqb}
use Rattle.gimli_base.specs.declared.common.Format.{Format}
use Rattle.gimli_base.specs.declared.common.Format.TheVariants.{Dwarf32, Dwarf64}
use Rattle.gimli_base.specs.declared.common.SectionId.{SectionId}
use Rattle.gimli_base.proofs.Both.{both}
use Rattle.gimli_base.specs.View.{View, cut}
use Rattle.gimli_base.specs.Reading.{Reads, ◌>>=◌, map_read, byte_at, uint_at, offset_at}
use Rattle.gimli_base.specs.Reading.{address_size_at, initial_length_at, initial_length_size_of}
use Rattle.gimli_base.specs.Reading.{split_at, word_size_of}
use Rattle.gimli_base.proofs.Later.{split_at-front}
use Rattle.gimli_base.proofs.Taken.{TakenAfter, TakesAfter, Takes, taken, taken_length}
use Rattle.gimli_base.proofs.Taken.{TakenAfter-none, TakenAfter-trans, after_takes, then_takes}
use Rattle.gimli_base.proofs.Taken.{made_takes, if_takes, ok_takes, err_takes, byte_at-takes}
use Rattle.gimli_base.proofs.Taken.{uint_at-takes, offset_at-takes, address_size_at-takes}
use Rattle.gimli_base.proofs.Taken.{initial_length_at-takes, split_at-takes}
use Rattle.gimli_units.specs.Unit.{UnitView, whole_length, header_size, added_size, size_of_header}
use Rattle.gimli_units.specs.declared.unit_type.UnitType.{UnitType}
use Rattle.gimli_units.specs.declared.unit_type.UnitType.TheVariants.{Compilation, Partial}
use Rattle.gimli_units.specs.declared.unit_type.UnitType.TheVariants.{Skeleton, SplitCompilation}
use Rattle.gimli_units.specs.declared.unit_type.UnitType.TheVariants.{Vendor}
use Rattle.gimli_headers.specs.Header.{Common, is_old, old_common_at, new_common_at, common_at}
use Rattle.gimli_headers.specs.Header.{signature_at, is_vendor, type_at, fields_at, unit_of}
use Rattle.gimli_headers.specs.Header.{unit_in, unit_at}

-- the number of bytes of the fields that every header has, after the length field
abbrev pub common_size : Format → Common → ℕ
common_size format c = 2 + word_size_of format + 1 + (if c.version == 5 then 1 else 0)

-- the number of bytes of all fields after the length field
abbrev pub fields_size : Format → Common × UnitType ℕ → ℕ
fields_size format fields = common_size format fields.0 + added_size format fields.1

old_is_not_5 : (version : ℕ) → is_old version ≡ true → (version == 5) ≡ false
old_is_not_5 version h =
    let le : version ≤ 4 = leb-true version 4 (both (nat_le 2 version) (nat_le version 4) h).1 in
    ne_eqb version 5 (λ e. omega (arith, le, e))

module _ (limit : ℕ) (format : Format) where
  old_common_at-takes : (section : SectionId) (version : ℕ) (v : View) → (version == 5) ≡ false
      → TakesAfter 2 (common_size format) v (old_common_at limit section format version v)
  unfolding old_common_at
  old_common_at-takes section version v old =
      then_takes 2 (λ _. 2 + word_size_of format) (common_size format) v (offset_at limit format v)
      _
      (after_takes 2 (word_size_of format) (2 + word_size_of format) v _ refl
      (offset_at-takes limit format v))
      (λ abbreviations. then_takes (2 + word_size_of format) (λ _. 2 + word_size_of format + 1)
      (common_size format) abbreviations.1 (address_size_at abbreviations.1) _
      (after_takes (2 + word_size_of format) 1 (2 + word_size_of format + 1) abbreviations.1 _ refl
      (address_size_at-takes abbreviations.1))
      (λ size. ok_takes (2 + word_size_of format + 1) (common_size format) size.1 _
      (TakenAfter-none _ _ size.1 (rw old (omega arith)))))

  new_common_at-takes : (version : ℕ) (v : View) → (version == 5) ≡ true
      → TakesAfter 2 (common_size format) v (new_common_at limit format version v)
  unfolding new_common_at
  new_common_at-takes version v new = then_takes 2 (λ _. 3) (common_size format) v (byte_at v) _
      (after_takes 2 1 3 v _ refl (byte_at-takes v))
      (λ code. then_takes 3 (λ _. 4) (common_size format) code.1 (address_size_at code.1) _
      (after_takes 3 1 4 code.1 _ refl (address_size_at-takes code.1))
      (λ size. then_takes 4 (λ _. 4 + word_size_of format) (common_size format) size.1
      (offset_at limit format size.1) _
      (after_takes 4 (word_size_of format) (4 + word_size_of format) size.1 _ refl
      (offset_at-takes limit format size.1))
      (λ abbreviations. ok_takes (4 + word_size_of format) (common_size format) abbreviations.1 _
      (TakenAfter-none _ _ abbreviations.1 (rw new (omega arith))))))

  pub common_at-takes : (section : SectionId) (v : View)
      → TakesAfter 0 (common_size format) v (common_at limit section format v)
  unfolding common_at
  common_at-takes section v =
      then_takes 0 (λ _. 2) (common_size format) v (uint_at 2 v) _ (uint_at-takes 2 v)
      (λ version. if_takes 2 (common_size format) version.1 (is_old version.0) _ _
      (λ old. old_common_at-takes section version.0 version.1 (old_is_not_5 version.0 old))
      (λ _. if_takes 2 (common_size format) version.1 (version.0 == 5) _ _
      (λ new. new_common_at-takes version.0 version.1 new)
      (λ _. err_takes {A = Common} 2 (common_size format) version.1 _)))

  module _ (n : ℕ) where
    signature_at-takes : (v : View)
        → TakesAfter n (λ _. n + (8 + word_size_of format)) v (signature_at limit format v)
    unfolding signature_at
    signature_at-takes v =
        then_takes n (λ _. n + 8) _ v (uint_at 8 v) _
        (after_takes n 8 (n + 8) v _ refl (uint_at-takes 8 v))
        (λ signature. made_takes (n + 8) _ signature.1 _ (offset_at limit format signature.1)
        (after_takes (n + 8) (word_size_of format) (n + (8 + word_size_of format)) signature.1 _
        (omega arith) (offset_at-takes limit format signature.1)))

    abbrev pub kind_size : UnitType ℕ → ℕ
    kind_size kind = n + added_size format kind

    id_takes : (f : ℕ → UnitType ℕ) (v : View) → ((id : ℕ) → kind_size (f id) ≡ n + 8)
        → TakesAfter n kind_size v (map_read f (uint_at 8 v))
    id_takes f v e = made_takes n kind_size v f (uint_at 8 v)
        (λ x w is.
        let t = after_takes n 8 (n + 8) v (uint_at 8 v) refl (uint_at-takes 8 v) x w is in
        record { count = t.count; sum = t.sum ∙ sym (e x); within = t.within; is = t.is })

    pub type_at-takes : (code : ℕ) (v : View)
        → TakesAfter n kind_size v (type_at limit format code v)
    unfolding type_at
    type_at-takes code v =
        if_takes n kind_size v (code == 1) _ _
        (λ _. ok_takes n kind_size v (Compilation, v) (TakenAfter-none _ _ v (omega arith)))
        (λ _. if_takes n kind_size v (code == 2) _ _
        (λ _. made_takes n kind_size v _ (signature_at limit format v) (signature_at-takes v))
        (λ _. if_takes n kind_size v (code == 3) _ _
        (λ _. ok_takes n kind_size v (Partial, v) (TakenAfter-none _ _ v (omega arith)))
        (λ _. if_takes n kind_size v (code == 4) _ _
        (λ _. id_takes (λ id. Skeleton (record { 0 = id })) v (λ id. refl))
        (λ _. if_takes n kind_size v (code == 5) _ _
        (λ _. id_takes (λ id. SplitCompilation (record { 0 = id })) v (λ id. refl))
        (λ _. if_takes n kind_size v (code == 6) _ _
        (λ _. made_takes n kind_size v _ (signature_at limit format v) (signature_at-takes v))
        (λ _. if_takes n kind_size v (is_vendor code) _ _
        (λ _. ok_takes n kind_size v (Vendor (record { 0 = code }), v)
        (TakenAfter-none _ _ v (omega arith)))
        (λ _. err_takes {A = UnitType ℕ} n kind_size v _)))))))

  -- the fields take as many bytes as they say
  pub fields_at-takes : (section : SectionId) (v : View)
      → TakesAfter 0 (fields_size format) v (fields_at limit section format v)
  unfolding fields_at
  fields_at-takes section v =
      then_takes 0 (common_size format) (fields_size format) v (common_at limit section format v) _
      (common_at-takes section v)
      (λ common. made_takes (common_size format common.0) (fields_size format) common.1 _
      (type_at limit format common.0.type_code common.1)
      (type_at-takes (common_size format common.0) common.0.type_code common.1))

-- what is known of a unit that was read at an offset of its section, with w left of v
pub record UnitRead (section : SectionId) (offset : ℕ) (v : View) (u : UnitView) (w : View) : Type
    0 where
  pub section_is : u.section ≡ section
  pub offset_is : u.offset ≡ offset
  pub within : whole_length u ≤ length v.bytes
  pub rest : w ≡ cut (whole_length u) v
  pub size : size_of_header u ≡ header_size u

-- the header has the size of its kind, and what is left begins after the whole length
pub unit_at-read : (limit : ℕ) (section : SectionId) (offset : ℕ) (v : View) (u : UnitView)
    (w : View) → Ok (u, w) ≡ unit_at limit section offset v → UnitRead section offset v u w
unfolding unit_at
unit_at-read limit section offset v u w h =
    begin (initial_length_at limit v) (initial_length_at-takes limit v) h
  where
    built : (field : ℕ × Format) (own rest : View) (r : Reads (Common × UnitType ℕ))
        → length own.bytes ≡ field.0 → TakesAfter 0 (fields_size field.1) own r
        → TakenAfter 0 (initial_length_size_of field.1 + field.0) v rest
        → Ok (u, w) ≡ unit_in section offset field r rest → UnitRead section offset v u w
    built field own rest (Ok fields) whole takes t e =
        let same : ◌≡◌ {A = UnitView × View} (u, w)
        (unit_of section offset field fields.0 fields.1, rest) = cc in
        let P : UnitView × View → Type 0 = λ x. UnitRead section offset v x.0 x.1 in
        let left = taken (initial_length_size_of field.1 + field.0) v rest t in
        let size = taken_length 0 (fields_size field.1 fields.0) own fields.1
        (takes fields.0 fields.1 refl) in
        subst P (sym same)
        (record {
          section_is = refl;
          offset_is = refl;
          within = left.0;
          rest = left.1;
          size = omega (arith, size, whole);
        })
    built field own rest (Err f) whole takes t e = absurd (cc)

    cut_off : (field : (ℕ × Format) × View) (r : Reads View)
        → ((own rest : View) → Ok (own, rest) ≡ r → length own.bytes ≡ field.0.0)
        → TakenAfter 0 (initial_length_size_of field.0.1) v field.1 → Takes field.0.0 field.1 r
        → Ok (u, w)
        ≡ (r >>= λ own. unit_in section offset field.0 (fields_at limit section field.0.1 own.0)
        own.1) → UnitRead section offset v u w
    cut_off field (Ok own) whole t takes e =
        let all = after_takes (initial_length_size_of field.0.1) field.0.0
        (initial_length_size_of field.0.1 + field.0.0) field.1 (Ok own) refl takes own.0 own.1
        refl in
        built field.0 own.0 own.1 (fields_at limit section field.0.1 own.0) (whole own.0 own.1 refl)
        (fields_at-takes limit field.0.1 section own.0)
        (TakenAfter-trans 0 (initial_length_size_of field.0.1)
        (initial_length_size_of field.0.1 + field.0.0) v field.1 own.1 t all) e
    cut_off field (Err f) whole t takes e = absurd (cc)

    begin : (r : Reads (ℕ × Format))
        → TakesAfter 0 (λ (p : ℕ × Format). initial_length_size_of p.1) v r
        → Ok (u, w)
        ≡ (r >>= λ field. split_at field.0.0 field.1
        >>= λ own. unit_in section offset field.0 (fields_at limit section field.0.1 own.0)
        own.1) → UnitRead section offset v u w
    begin (Ok field) takes e =
        cut_off field (split_at field.0.0 field.1)
        (λ own rest is. split_at-front field.0.0 field.1 own rest is)
        (takes field.0 field.1 refl) (split_at-takes field.0.0 field.1) e
    begin (Err f) takes e = absurd (cc)

-- the length field takes bytes
pub some_size : (format : Format) → 0 < initial_length_size_of format
some_size Dwarf32 = omega arith
some_size Dwarf64 = omega arith

-- so many bytes are left
pub unit_at-left : (limit : ℕ) (section : SectionId) (offset : ℕ) (v : View) (u : UnitView)
    (w : View) → Ok (u, w) ≡ unit_at limit section offset v
    → whole_length u + length w.bytes ≡ length v.bytes
unit_at-left limit section offset v u w h =
    let read = unit_at-read limit section offset v u w h in
    let left : length w.bytes
    ≡ length v.bytes - whole_length u =
    ap (λ (x : View). length x.bytes) read.rest ∙ length-drop (whole_length u) v.bytes in
    omega (arith, left, read.within)

-- a unit that was read is no longer there
pub unit_at-shorter : (limit : ℕ) (section : SectionId) (offset : ℕ) (v : View) (u : UnitView)
    (w : View) → Ok (u, w) ≡ unit_at limit section offset v → length w.bytes < length v.bytes
unit_at-shorter limit section offset v u w h =
    omega (arith, unit_at-left limit section offset v u w h, some_size u.encoding.format)
