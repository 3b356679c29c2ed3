-- A table that was written into a caller's buffers gives the rows that the unit's own gives.
use Rattle.std.proofs.Common.{◌≡◌, ℕ, suc, ◌+◌, ◌-◌, ◌<◌, ◌≤◌, ◌==◌, ◌^◌, Bool, true, false}
use Rattle.std.proofs.Common.{if◌then◌else◌, ◌&&◌, not, cond, nat_lt, List, [], ◌∷◌}
use Rattle.std.proofs.Common.{◌++◌, map, take, drop, length, None, Result, Ok, Err}
use Rattle.std.proofs.Common.{refl, sym, ap, ◌∙◌, inl, inr, arith}
use Rattle.std.specs.Prelude.{slice_get}
use Rattle.std.proofs.Math.Path.{fun_ext}
use Rattle.std.proofs.Math.Seq.{take-append_seam, drop-append_seam}
use Rattle.std.proofs.lemmas.List.{take-map, drop-map, drop-drop}
use Rattle.std.proofs.lemmas.Bool.{ne_eqb}
use Rattle.std.proofs.lemmas.Bool.Decides.{eqb_tells}
use Rattle.std.proofs.lemmas.Option.{slice_get_past}
use Rattle.gimli_base.specs.declared.error.Error.{Error}
use Rattle.gimli_base.specs.View.{View}
use Rattle.gimli_base.specs.Items.{Items}
use Rattle.gimli_base.specs.Reading.{Reads, skip_at}
use Rattle.gimli_base.specs.Abbreviations.{Declaration, declaration_of, repeats}
use Rattle.gimli_base.specs.Abbreviations.{Map, map_of, map_at, declarations_at}
use Rattle.gimli_base.specs.Table.{Table, codes_of}
use Rattle.gimli_units.specs.Unit.{UnitView}
use Rattle.gimli_c.specs.declared.sections.GimliSections.{GimliSections}
use Rattle.gimli_c.specs.declared.table.GimliCounted.{GimliCounted}
use Rattle.gimli_c.specs.declared.table.GimliDeclaration.{GimliDeclaration}
use Rattle.gimli_c.specs.declared.table.GimliSpecification.{GimliSpecification}
use Rattle.gimli_c.specs.Status.{more, end, unordered, refusal_status}
use Rattle.gimli_c.specs.Tables.{specification_in, declared_in, declaration_in, table_of, in_order}
use Rattle.gimli_c.specs.Tables.{all_specifications, numbered, number_declarations, count_of}
use Rattle.gimli_c.specs.Tables.{have_room, table_outcome, AreWritten, IsTableIn, IsTableAt}
use Rattle.gimli_c.specs.Tables.{HasTableAt, Serves, read_by}
use Rattle.gimli_c.specs.Fronts.{read_ahead}
use Rattle.gimli_c.specs.Lists.{section_view}
use Rattle.gimli_c.specs.Units.{section_unit, abbreviations_view}
use Rattle.gimli_c.proofs.TableFront.{length-number}

-- a flag that is written as a number
flag_back : (b : Bool) → not (cond b 1 0 == 0) ≡ b
flag_back true = refl
flag_back false = refl

-- declarations mean what they were, where the attributes from `first` on mean theirs
means : (ss : List GimliSpecification) (first : ℕ) (ds : List Declaration)
    → map specification_in (drop first ss) ≡ all_specifications ds
    → map (declaration_in ss) (number_declarations first ds) ≡ ds
means ss first [] h = refl
means ss first (d ∷ ds) h =
    let own : map specification_in (declared_in ss (numbered first d)) ≡ d.attributes =
    sym (take-map specification_in (length d.attributes) (drop first ss))
    ∙ ap (take (length d.attributes)) h
    ∙ take-append_seam d.attributes (all_specifications ds) in
    let others : map specification_in (drop (first + length d.attributes) ss)
    ≡ all_specifications ds =
    ap (map specification_in) (sym (drop-drop (length d.attributes) first ss))
    ∙ sym (drop-map specification_in (length d.attributes) (drop first ss))
    ∙ ap (drop (length d.attributes)) h
    ∙ drop-append_seam d.attributes (all_specifications ds) in
    let one : declaration_in ss (numbered first d) ≡ d = rw (own, flag_back d.has_children) refl in
    rw one (ap (λ t. d ∷ t) (means ss (first + length d.attributes) ds others))

-- the declaration of a code, of those whose codes are in order
found : (k : ℕ) (ds : List Declaration) (code : ℕ) → in_order k ds ≡ true → k ≤ code
    → declaration_of ds code ≡ slice_get ds (code - k)
found k [] code h le = refl
found k (d ∷ ds) code h le =
    cases (d.code == k) refl (λ g later. found (k + 1) ds code g later) h
  where
    cases : (b : Bool) → (d.code == k) ≡ b
        → (in_order (k + 1) ds ≡ true → k + 1 ≤ code
        → declaration_of ds code ≡ slice_get ds (code - (k + 1)))
        → (if b then in_order (k + 1) ds else false) ≡ true
        → declaration_of (d ∷ ds) code ≡ slice_get (d ∷ ds) (code - k)
    cases true here others g = elim (eqb_tells d.code code) [
      | inl e ↦
          let none : code - k ≡ 0 = grind (arith, here, e.1) in
          rw (e.0, none) refl
      | inr e ↦
          let later : k + 1 ≤ code = grind (arith, here, e.1, le) in
          let place : code - k ≡ suc (code - (k + 1)) = omega (arith, later) in
          rw (e.0, place) (others g later)
    ]
    cases false here others g = absurd (cc)

-- before their first none is found
unfound : (k : ℕ) (ds : List Declaration) (code : ℕ) → in_order k ds ≡ true → code < k
    → declaration_of ds code ≡ None
unfound k [] code h lt = refl
unfound k (d ∷ ds) code h lt =
    cases (d.code == k) refl (λ g. unfound (k + 1) ds code g (omega (arith, lt))) h
  where
    cases : (b : Bool) → (d.code == k) ≡ b
        → (in_order (k + 1) ds ≡ true → declaration_of ds code ≡ None)
        → (if b then in_order (k + 1) ds else false) ≡ true
        → declaration_of (d ∷ ds) code ≡ None
    cases true here others g =
        let other : (d.code == code) ≡ false = grind (arith, here, lt) in
        rw other (others g)
    cases false here others g = absurd (cc)

-- no code is declared twice
apart : (k : ℕ) (ds : List Declaration) → in_order k ds ≡ true → repeats ds ≡ false
apart k [] h = refl
apart k (d ∷ ds) h = cases (d.code == k) refl (λ g. apart (k + 1) ds g) h
  where
    cases : (b : Bool) → (d.code == k) ≡ b
        → (in_order (k + 1) ds ≡ true → repeats ds ≡ false)
        → (if b then in_order (k + 1) ds else false) ≡ true → repeats (d ∷ ds) ≡ false
    cases true here others g =
        let before : d.code < k + 1 = grind (arith, here) in
        rw (unfound (k + 1) ds d.code g before) (others g)
    cases false here others g = absurd (cc)

-- what a table of these declarations finds
finds : (ds : List Declaration) → in_order 1 ds ≡ true → (code : ℕ)
    → codes_of (record { dense = ds; others = [] }) code ≡ declaration_of ds code
unfolding codes_of
finds ds h code = cases (nat_lt 0 code) (nat_lt (code - 1) (length ds)) refl refl
  where
    cases : (a b : Bool) → nat_lt 0 code ≡ a → nat_lt (code - 1) (length ds) ≡ b
        → (if a && b then slice_get ds (code - 1) else None) ≡ declaration_of ds code
    cases true true i j = sym (found 1 ds code h (grind (arith, i)))
    cases true false i j =
        sym (found 1 ds code h (grind (arith, i))
        ∙ slice_get_past ds (code - 1) (grind (arith, j)))
    cases false b i j = sym (unfound 1 ds code h (grind (arith, i)))

-- what is told at the end of the declarations
abbrev end_outcome : ℕ → ℕ → Items Declaration → Result View Error → ℕ × GimliCounted
end_outcome room space ds (Ok w) =
    (if have_room room space (count_of ds.items) then end else more, count_of ds.items)
end_outcome room space ds (Err e) = (refusal_status e, count_of [])

-- a status that tells of the end tells that the codes are in order, and none was refused
pub ended : (room space : ℕ) (ds : Items Declaration) (n : GimliCounted)
    → ◌≡◌ {A = ℕ × GimliCounted} (end, n) (table_outcome room space ds)
    → (in_order 1 ds.items ≡ true) × (n ≡ count_of ds.items) × (map_of ds
    ≡ Ok (declaration_of ds.items))
ended room space ds n is = ordered (in_order 1 ds.items) refl is
  where
    outcome : (ending : Result View Error)
        → ◌≡◌ {A = ℕ × GimliCounted} (end, n) (end_outcome room space ds ending)
        → (n ≡ count_of ds.items)
        × ◌≡◌ {A = Result Map Error}
        (elim ending [ Ok w ↦ Ok (declaration_of ds.items) | Err e ↦ Err e ])
        (Ok (declaration_of ds.items))
    outcome (Ok w) h = (ap (λ (p : ℕ × GimliCounted). p.1) h, refl)
    outcome (Err e) h =
        let status : end ≡ refusal_status e = ap (λ (p : ℕ × GimliCounted). p.0) h in
        absurd (omega (arith, status))

    ordered : (b : Bool) → in_order 1 ds.items ≡ b
        → ◌≡◌ {A = ℕ × GimliCounted} (end, n)
        (if b then end_outcome room space ds ds.ending else (unordered, count_of []))
        → (in_order 1 ds.items ≡ true) × (n ≡ count_of ds.items) × (map_of ds
        ≡ Ok (declaration_of ds.items))
    ordered true known h =
        let t = outcome ds.ending h in
        (known, t.0, rw (apart 1 ds.items known) t.1)
    ordered false known h =
        let status : end ≡ unordered = ap (λ (p : ℕ × GimliCounted). p.0) h in
        absurd (omega (arith, status))

-- what is told with room, by what is told with none
pub outcome_again : (room space : ℕ) (ds : Items Declaration) (status : ℕ) (n : GimliCounted)
    → ◌≡◌ {A = ℕ × GimliCounted} (status, n) (table_outcome 0 0 ds)
    → (end < status → ◌≡◌ {A = ℕ × GimliCounted} (status, n) (table_outcome room space ds))
    × (status ≤ end → ◌≡◌ {A = ℕ × GimliCounted} (table_outcome room space ds)
    (if have_room room space n then end else more, n))
outcome_again room space ds status n is = ordered (in_order 1 ds.items) refl is
  where
    small : (b : Bool) → (if b then end else more) ≤ end
    small true = omega arith
    small false = omega arith

    outcome : (ending : Result View Error)
        → ◌≡◌ {A = ℕ × GimliCounted} (status, n) (end_outcome 0 0 ds ending)
        → (end < status → ◌≡◌ {A = ℕ × GimliCounted} (status, n) (end_outcome room space ds ending))
        × (status ≤ end → ◌≡◌ {A = ℕ × GimliCounted} (end_outcome room space ds ending)
        (if have_room room space n then end else more, n))
    outcome (Ok w) h =
        let status_is = ap (λ (p : ℕ × GimliCounted). p.0) h in
        let count_is : n ≡ count_of ds.items = ap (λ (p : ℕ × GimliCounted). p.1) h in
        let few = small (have_room 0 0 (count_of ds.items)) in (
          λ many. absurd (omega (arith, many, status_is, few)),
          λ _. rw count_is refl,
        )
    outcome (Err e) h =
        let status_is : status ≡ refusal_status e = ap (λ (p : ℕ × GimliCounted). p.0) h in (
          λ _. h,
          λ le. absurd (omega (arith, le, status_is)),
        )

    ordered : (b : Bool) → in_order 1 ds.items ≡ b
        → ◌≡◌ {A = ℕ × GimliCounted} (status, n)
        (if b then end_outcome 0 0 ds ds.ending else (unordered, count_of []))
        → (end < status → ◌≡◌ {A = ℕ × GimliCounted} (status, n) (table_outcome room space ds))
        × (status ≤ end → ◌≡◌ {A = ℕ × GimliCounted} (table_outcome room space ds)
        (if have_room room space n then end else more, n))
    ordered true known h = rw known (outcome ds.ending h)
    ordered false known h =
        let status_is : status ≡ unordered = ap (λ (p : ℕ × GimliCounted). p.0) h in (
          λ _. rw known h,
          λ le. absurd (omega (arith, le, status_is)),
        )

module _ (old new : List GimliDeclaration) (old_s new_s : List GimliSpecification)
    (ds : List Declaration) (w : AreWritten ds old old_s new new_s) where
  abbrev written : Table
  written = table_of (take (length ds) new) (take (length (all_specifications ds)) new_s)

  front : take (length ds) new ≡ number_declarations 0 ds
  front =
      ap (take (length ds)) w.declarations
      ∙ ap (λ k. take k (number_declarations 0 ds ++ drop (length ds) old))
      (sym (length-number 0 ds))
      ∙ take-append_seam (number_declarations 0 ds) (drop (length ds) old)

  written_is : written ≡ record { dense = ds; others = [] }
  written_is =
      let ss = take (length (all_specifications ds)) new_s in
      let dense : map (declaration_in ss) (take (length ds) new) ≡ ds =
      ap (map (declaration_in ss)) front ∙ means ss 0 ds w.specifications in
      ap (λ (t : List Declaration). record { dense = t; others = [] }) dense

  pub written_finds : in_order 1 ds ≡ true → codes_of written ≡ declaration_of ds
  written_finds h = ap codes_of written_is ∙ fun_ext (finds ds h)

-- the section of abbreviations in a byte order
pub as_little : (s : GimliSections) → s.big ≡ 0
    → section_view false s.abbreviations.now ≡ abbreviations_view s
as_little s is = rw is refl

pub as_big : (s : GimliSections) → (s.big ≡ 0 → ⊥)
    → section_view true s.abbreviations.now ≡ abbreviations_view s
as_big s apart = let test : (s.big == 0) ≡ false = ne_eqb s.big 0 apart in rw test refl

-- the rows by a table that was written are those of each unit that has its abbreviations there
pub serves : (s : GimliSections) (unit offset : ℕ) (old new : List GimliDeclaration)
    (old_s new_s : List GimliSpecification) (n : GimliCounted) (status : ℕ)
    → IsTableAt offset (abbreviations_view s) old old_s new new_s n status → status ≡ end
    → HasTableAt offset (section_unit s unit)
    → Serves s unit (table_of (take n.declarations new) (take n.specifications new_s))
unfolding map_at
serves s unit offset old new old_s new_s n status outcome is has =
    skipped (skip_at offset (abbreviations_view s)) refl outcome
  where
    t : Table
    t = table_of (take n.declarations new) (take n.specifications new_s)

    by_map : (m : Map) → codes_of t ≡ m → map_at offset (abbreviations_view s) ≡ Ok m
        → Serves s unit t
    by_map m finds_m at_offset place = cases (section_unit s unit) has
      where
        cases : (r : Result UnitView Error) → HasTableAt offset r
            → read_by (2 ^ 64) r t place ≡ read_ahead (2 ^ 64) r (abbreviations_view s) place
        cases (Ok u) here = rw (here, at_offset, finds_m) refl
        cases (Err e) here = refl

    skipped : (r : Reads (Unit {0})) → skip_at offset (abbreviations_view s) ≡ r
        → IsTableIn r old old_s new new_s n status → Serves s unit t
    skipped (Ok p) known table =
        let ds = declarations_at p.1 in
        let outcome_end : ◌≡◌ {A = ℕ × GimliCounted} (end, n)
        (table_outcome (length old) (length old_s) ds) =
        ap (λ (k : ℕ). (k, n)) (sym is) ∙ table.outcome in
        let e = ended (length old) (length old_s) ds n outcome_end in
        let same : t ≡ written old new old_s new_s ds.items (table.written is) =
        ap (λ (c : GimliCounted). table_of (take c.declarations new)
        (take c.specifications new_s)) e.1 in
        let finds_ds : codes_of t ≡ declaration_of ds.items =
        ap codes_of same ∙ written_finds old new old_s new_s ds.items (table.written is) e.0 in
        by_map (declaration_of ds.items) finds_ds (rw (map_at, known) e.2)
    skipped (Err e) known refused =
        let no : end ≡ refusal_status e = sym is ∙ refused.0 in
        absurd (omega (arith, no))
