-- Entries that are read by a table in a caller's buffers.
use Rattle.std.proofs.Common.{◌≡◌, ◌≢◌, ℕ, zero, suc, ◌-◌, ◌<◌, ◌≤◌, ◌==◌}
use Rattle.std.proofs.Common.{Bool, true, false, if◌then◌else◌}
use Rattle.std.proofs.Common.{◌&&◌, not, cond, nat_lt, ℤ, pos, List, [], ◌∷◌, map, length}
use Rattle.std.proofs.Common.{get_or, Option, Some, None, Result, Ok, Err, refl, sym, ap, ◌∙◌}
use Rattle.std.proofs.Common.{arith}
use Rattle.std.proofs.Common.{length-drop}
use Rattle.std.specs.Prelude.{slice_get}
use Rattle.std.specs.Option.{option_map}
use Rattle.std.proofs.lemmas.Bool.{ne_eqb, ltb-true}
use Rattle.std.proofs.lemmas.List.{length-map, get_or-map}
use Rattle.std.proofs.lemmas.Option.{slice_get-map, slice_get_past}
use Rattle.gimli_base.specs.declared.common.Encoding.{Encoding}
use Rattle.gimli_base.specs.declared.error.Error.{Error}
use Rattle.gimli_base.specs.declared.error.Error.TheVariants.{OffsetOutOfBounds}
use Rattle.gimli_base.specs.View.{View, cut}
use Rattle.gimli_base.specs.declared.error.Error.TheVariants.{InvalidAbbreviationCode}
use Rattle.gimli_base.specs.Reading.{Reads, uleb_at}
use Rattle.gimli_base.specs.Abbreviations.{Specification, Declaration}
use Rattle.gimli_base.specs.Table.{Table, codes_of}
use Rattle.gimli_units.specs.Entry.{Attr, Entry, attributes_at, abbreviation_at, entry_at}
use Rattle.gimli_units.specs.Entry.{entry_of_declared, null_entry}
use Rattle.gimli_units.specs.RawPlace.{RawPlace, depth_after, below_flag}
use Rattle.gimli_units.specs.Sized.{left_by}
use Rattle.gimli_units.specs.Unit.{UnitView, whole_length, header_size, in_bounds, range_from}
use Rattle.gimli_units.specs.Unit.{entries_from}
use Rattle.gimli_c.specs.declared.attrs.GimliAttr.{GimliAttr}
use Rattle.gimli_c.specs.declared.table.GimliDeclaration.{GimliDeclaration}
use Rattle.gimli_c.specs.declared.table.GimliSpecification.{GimliSpecification}
use Rattle.gimli_c.specs.Attrs.{attr_of}
use Rattle.gimli_c.specs.Heads.{null_head, declared_head, head_in_c, AreRead, IsReadPast}
use Rattle.gimli_c.specs.Heads.{IsReadWith}
use Rattle.gimli_c.specs.Heads.{table_head, depth_after_head, place_after}
use Rattle.gimli_c.specs.Tables.{specification_in, declaration_in, table_of}

-- what a caller's table has under a code
pub code_in : (ds : List GimliDeclaration) (ss : List GimliSpecification) (code : ℕ) → 0 < code
    → codes_of (table_of ds ss) code ≡ option_map (declaration_in ss) (slice_get ds (code - 1))
unfolding codes_of
code_in ds ss code some = cases (nat_lt 0 code) (nat_lt (code - 1) (length dense)) refl refl
  where
    dense : List Declaration
    dense = map (declaration_in ss) ds

    cases : (a b : Bool) → nat_lt 0 code ≡ a → nat_lt (code - 1) (length dense) ≡ b
        → (if a && b then slice_get dense (code - 1) else None)
        ≡ option_map (declaration_in ss) (slice_get ds (code - 1))
    cases true true i j = slice_get-map (declaration_in ss) ds (code - 1)
    cases true false i j =
        let long : length dense ≡ length ds = length-map ds (declaration_in ss) in
        let past : length ds ≤ code - 1 = grind (arith, j, long) in
        rw (slice_get_past ds (code - 1) past) refl
    cases false b i j = absurd (grind (arith, i, some))

-- attributes that were passed can be read
pub are_read : (limit : ℕ) (e : Encoding) (ss : List Specification) (v w : View)
    → Ok (tt {0}, w) ≡ left_by (attributes_at limit e ss v) → AreRead limit e ss v w
are_read limit e ss v w h = cases (attributes_at limit e ss v) refl h
  where
    cases : (r : Reads (List Attr)) → r ≡ attributes_at limit e ss v → Ok (tt {0}, w) ≡ left_by r
        → AreRead limit e ss v w
    cases (Ok p) is k =
        let same : ◌≡◌ {A = Unit {0} × View} (tt {0}, w) (tt {0}, p.1) = cc in
        record {
          attributes = p.0;
          are = ap (λ (q : Unit {0} × View). Ok (p.0, q.1)) same ∙ is;
        }
    cases (Err x) is k = absurd (cc)

pub are_refused : (limit : ℕ) (e : Encoding) (ss : List Specification) (v : View) (x : Error)
    → ◌≡◌ {A = Reads (Unit {0})} (Err x) (left_by (attributes_at limit e ss v))
    → ◌≡◌ {A = Reads (List Attr)} (Err x) (attributes_at limit e ss v)
are_refused limit e ss v x h = cases (attributes_at limit e ss v) h
  where
    cases : (r : Reads (List Attr)) → ◌≡◌ {A = Reads (Unit {0})} (Err x) (left_by r)
        → ◌≡◌ {A = Reads (List Attr)} (Err x) r
    cases (Ok p) k = absurd (cc)
    cases (Err y) k = let same : x ≡ y = cc in ap (λ (z : Error). Err z) same

get_in : {X : Type 0} → (xs : List X) (i : ℕ) (d : X) → i < length xs
    → slice_get xs i ≡ Some (get_or xs i d)
get_in [] i d h = absurd (omega (arith, h))
get_in (x ∷ xs) zero d h = refl
get_in (x ∷ xs) (suc i) d h = get_in xs i d (omega (arith, h))

-- what a caller's table declares under the next code
module _ (ds : List GimliDeclaration) (ss : List GimliSpecification) (v w : View) (code : ℕ)
    (read : Ok (code, w) ≡ uleb_at v) (some : code ≢ 0) where
  other : (code == 0) ≡ false
  other = ne_eqb code 0 some

  pub declared_some : (d : GimliDeclaration) → true ≡ nat_lt (code - 1) (length ds)
      → d ≡ get_or ds (code - 1) d
      → ◌≡◌ {A = Reads (Option Declaration)} (Ok (Some (declaration_in ss d), w))
      (abbreviation_at (codes_of (table_of ds ss)) v)
  unfolding abbreviation_at
  declared_some d lt is =
      let there : slice_get ds (code - 1) ≡ Some d =
      get_in ds (code - 1) d (ltb-true _ _ (sym lt)) ∙ ap Some (sym is) in
      let found : codes_of (table_of ds ss) code ≡ Some (declaration_in ss d) =
      code_in ds ss code (omega (arith, some)) ∙ rw there refl in
      rw (← read, other, found) refl

  pub declared_none : length ds ≤ code - 1
      → ◌≡◌ {A = Reads (Option Declaration)} (Err (InvalidAbbreviationCode code))
      (abbreviation_at (codes_of (table_of ds ss)) v)
  unfolding abbreviation_at
  declared_none past =
      let found : codes_of (table_of ds ss) code ≡ None =
      code_in ds ss code (omega (arith, some)) ∙ rw (slice_get_past ds (code - 1) past) refl in
      rw (← read, other, found) refl

-- a null is read
pub null_past : (limit : ℕ) (p : RawPlace) (w : View)
    → ◌≡◌ {A = Reads (Option Declaration)} (Ok (None, w))
    (abbreviation_at (codes_of p.abbreviations) p.rest)
    → IsReadPast limit p null_head (place_after p w null_head)
unfolding entry_at
null_past limit p w h =
    record { entry = null_entry; is = rw (← h) refl; head_is = refl; moved = refl }

pub null_past_with : (limit : ℕ) (p : RawPlace) (w : View) (ns : List GimliAttr)
    → ◌≡◌ {A = Reads (Option Declaration)} (Ok (None, w))
    (abbreviation_at (codes_of p.abbreviations) p.rest) → ns ≡ []
    → IsReadWith limit p null_head ns (place_after p w null_head)
unfolding null_past
null_past_with limit p w ns h none = record { past = null_past limit p w h; numbers_are = none }

-- an entry of a declaration is read, which may have the tag 0
module _ (limit : ℕ) (p : RawPlace) (v w : View) (d : Declaration)
    (h : ◌≡◌ {A = Reads (Option Declaration)} (Ok (Some d, v))
    (abbreviation_at (codes_of p.abbreviations) p.rest))
    (r : AreRead limit p.encoding d.attributes v w) where
  abbrev entry_read : Entry
  entry_read = entry_of_declared d r.attributes

  abbrev entry_set : Entry
  entry_set = record { tag = d.tag; has_children = d.has_children; attributes = r.attributes }

  entry_is : ◌≡◌ {A = Reads Entry} (Ok (entry_read, w))
      (entry_at limit p.encoding (codes_of p.abbreviations) p.rest)
  unfolding entry_at
  entry_is = rw (← h, ← r.are) refl

  head_is : table_head d ≡ head_in_c entry_read
  head_is = cases (d.tag.0 == 0)
    where
      cases : (b : Bool)
          → (if b then null_head else declared_head d)
          ≡ head_in_c (if b then null_entry else entry_set)
      cases true = refl
      cases false = refl

  depth_is : depth_after_head (table_head d) p.depth ≡ depth_after entry_read p.depth
  depth_is = cases (d.tag.0 == 0) refl
    where
      flag : (f : Bool) → below_flag (not (cond f 1 0 == 0)) p.depth ≡ below_flag f p.depth
      flag true = refl
      flag false = refl

      cases : (b : Bool) → (d.tag.0 == 0) ≡ b
          → depth_after_head (if b then null_head else declared_head d) p.depth
          ≡ depth_after (if b then null_entry else entry_set) p.depth
      cases true known = refl
      cases false known = rw known (flag d.has_children)

  pub entry_past : IsReadPast limit p (table_head d) (place_after p w (table_head d))
  entry_past = record {
    entry = entry_read;
    is = entry_is;
    head_is = head_is;
    moved = ap (λ (k : ℤ). record p { rest = w; depth = k }) depth_is;
  }

  pub entry_past_with : (ns : List GimliAttr)
      → ns ≡ (if d.tag.0 == 0 then [] else map attr_of r.attributes)
      → IsReadWith limit p (table_head d) ns (place_after p w (table_head d))
  unfolding entry_past
  entry_past_with ns are = record { past = entry_past; numbers_are = are ∙ cases (d.tag.0 == 0) }
    where
      cases : (b : Bool)
          → (if b then [] else map attr_of r.attributes)
          ≡ map attr_of (if b then null_entry else entry_set).attributes
      cases true = refl
      cases false = refl

-- an attribute of a caller's declaration, as the library has it
pub item_in : (ss : List GimliSpecification) (i : ℕ) (d : GimliSpecification) (s : Specification)
    → i < length ss → s ≡ specification_in (get_or ss i d)
    → (i < length (map specification_in ss)) × (s ≡ get_or (map specification_in ss) i s)
item_in ss i d s lt is =
    let long = length-map ss specification_in in (
      omega (arith, long, lt),
      is ∙ sym (get_or-map specification_in ss i d s lt),
    )

-- a reader of the entries of a unit from an offset on
module _ (u : UnitView) where
  pub unranged : (t : Table) (offset : ℕ) (e : Error) → Err e ≡ range_from u offset
      → Err e ≡ entries_from u t (Some offset)
  unfolding entries_from
  unranged t offset e h = rw (← h) refl

  pub opened_by : (t : Table) (offset : ℕ) (v : View) → Ok v ≡ range_from u offset
      → Ok
      (record {
        rest = v;
        encoding = u.encoding;
        abbreviations = t;
        end = whole_length u;
        depth = pos 0;
      })
      ≡ entries_from u t (Some offset)
  unfolding entries_from
  opened_by t offset v h = rw (← h) refl

  pub ranged : (offset : ℕ) (v : View) → Ok v ≡ range_from u offset
      → length v.bytes ≤ length u.entries.bytes
  unfolding range_from
  ranged offset v h = cases (in_bounds u offset) h
    where
      cases : (b : Bool)
          → ◌≡◌ {A = Result View Error} (Ok v)
          (if b then Ok (cut (offset - header_size u) u.entries)
          else Err (OffsetOutOfBounds offset))
          → length v.bytes ≤ length u.entries.bytes
      cases true is =
          let same : v ≡ cut (offset - header_size u) u.entries = cc in
          let bytes = ap (λ (w : View). length w.bytes) same in
          let left = length-drop (offset - header_size u) u.entries.bytes in
          omega (arith, bytes, left)
      cases false is = absurd (cc)

-- what has no attributes was told none
pub none_in : (ss : List GimliSpecification) → map specification_in ss ≡ [] → ss ≡ []
none_in [] none = refl
none_in (s ∷ ss) none = absurd (cc)
