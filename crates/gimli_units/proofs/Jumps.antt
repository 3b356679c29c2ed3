-- Where a reference leads, by what the code tests.
use Rattle.std.proofs.Common.{◌≡◌, ℕ, ◌-◌, ◌≤◌, ◌==◌, ℤ, Bool, true, false, List, [], ◌∷◌, map}
use Rattle.std.proofs.Common.{length, Option, Some, None, Ok, Err, refl, sym, ap, ◌∙◌, arith}
use Rattle.std.proofs.Common.{length-drop}
use Rattle.std.specs.Prelude.{nat_le, int_le, if◌then◌else◌}
use Rattle.std.specs.Option.{option_map}
use Rattle.std.proofs.lemmas.Bool.{le-leb, leb-true, leb-false, lt-leb}
use Rattle.gimli_base.specs.declared.error.Error.{Error}
use Rattle.gimli_base.specs.Offset.{difference_of}
use Rattle.gimli_base.specs.View.{View, cut}
use Rattle.gimli_base.specs.Reading.{Reads, eof, skip_at}
use Rattle.gimli_units.specs.declared.attribute.Attribute.{Attribute}
use Rattle.gimli_base.specs.declared.constants.DwTag.{DwTag}
use Rattle.gimli_units.specs.Value.{map_value, map_attribute}
use Rattle.gimli_units.specs.Entry.{Entry, Attr, null_entry, is_null, entry_of_parts, first_of}
use Rattle.gimli_units.specs.Kind.{kind_of, unit_reference, parent, sibling_of}
use Rattle.gimli_units.specs.RawPlace.{RawPlace, next_offset_of}
use Rattle.gimli_units.specs.Honest.{within, target}
use Rattle.gimli_units.specs.CursorModel.{CursorView, view_from}
use Rattle.gimli_units.specs.SearchSteps.{stands_at, stands_if, reference_for, target_for, leave_entry}

-- the first attribute of a name, by what its readers and offsets stand for
pub first_of-map : {R O : Type 0}
    → (f : R → View) (g : O → ℕ) (name : ℕ) (attrs : List (Attribute R O))
    → first_of name (map (map_attribute f g) attrs)
    ≡ option_map (map_attribute f g) (first_of name attrs)
first_of-map f g name [] = refl
first_of-map f g name (a ∷ rest) = cases (a.name.0 == name) refl (first_of-map f g name rest)
  where
    cases : (b : Bool) → (a.name.0 == name) ≡ b
        → first_of name (map (map_attribute f g) rest)
        ≡ option_map (map_attribute f g) (first_of name rest)
        → first_of name (map (map_attribute f g) (a ∷ rest))
        ≡ option_map (map_attribute f g) (first_of name (a ∷ rest))
    cases true h more = rw h refl
    cases false h more = rw h more

-- where the first of these attributes leads
abbrev pub leads_to : {R O : Type 0} → (R → View) → (O → ℕ) → Option (Attribute R O) → Option ℕ
leads_to f g (Some a) = unit_reference (map_value f g a.value)
leads_to f g None = None

-- where the reference of an entry with children leads
pub target_of : {R O : Type 0}
    → (f : R → View) (g : O → ℕ) (tag : DwTag) (flag : Bool) (attrs : List (Attribute R O))
    (o : Option (Attribute R O))
    → is_null (entry_of_parts f g tag flag attrs) ≡ false → flag ≡ true → o ≡ first_of 1 attrs
    → leads_to f g o ≡ target (kind_of (entry_of_parts f g tag flag attrs))
target_of {R} {O} f g tag flag attrs o null children is =
    let e : Entry = entry_of_parts f g tag flag attrs in
    let kind : kind_of e ≡ parent (sibling_of e.attributes) = rw (null, children) refl in
    let first : first_of 1 e.attributes
    ≡ option_map (map_attribute f g) o =
    first_of-map f g 1 attrs ∙ ap (option_map (map_attribute f g)) (sym is) in
    cases o ∙ ap from (sym first) ∙ ap target (sym kind)
  where
    from : Option Attr → Option ℕ
    from x = elim x [ Some a ↦ unit_reference a.value | None ↦ None ]

    cases : (x : Option (Attribute R O)) → leads_to f g x ≡ from (option_map (map_attribute f g) x)
    cases (Some a) = refl
    cases None = refl

-- what a difference says
pub difference : (a b n : ℕ) → Some n ≡ difference_of a b → (b ≤ a) × (n ≡ a - b)
difference a b n = cases (nat_le b a) refl
  where
    cases : (t : Bool) → nat_le b a ≡ t → Some n ≡ (if t then Some (a - b) else None)
        → (b ≤ a) × (n ≡ a - b)
    cases true h is = let same : n ≡ a - b = cc in (leb-true b a h, same)
    cases false h is = absurd (cc)

-- what is skipped to is no longer
pub skipped : (n : ℕ) (v w : View) → ◌≡◌ {A = Reads (Unit {0})} (Ok (tt, w)) (skip_at n v)
    → length w.bytes ≤ length v.bytes
unfolding skip_at
skipped n v w = cases (nat_le n (length v.bytes))
  where
    cases : (b : Bool) → ◌≡◌ {A = Reads (Unit {0})} (Ok (tt, w))
        (if b then Ok (tt, cut n v) else Err (eof v)) → length w.bytes ≤ length v.bytes
    cases true e =
        let k : ◌≡◌ {A = Unit {0} × View} (tt, w) (tt, cut n v) = cc in
        let same = ap (λ (q : Unit {0} × View). length q.1.bytes) k ∙ length-drop n v.bytes in
        omega (arith, same)
    cases false e = absurd (cc)

-- an offset that can be skipped to is not past the end
pub stands_there : (p : RawPlace) (t : ℕ) (depth : ℤ) (w : View) → length p.rest.bytes ≤ p.end
    → next_offset_of p ≤ t
    → ◌≡◌ {A = Reads (Unit {0})} (Ok (tt, w)) (skip_at (t - next_offset_of p) p.rest)
    → stands_at p w depth ≡ stands_if p (within (next_offset_of p) p.end (Some t)) depth
unfolding skip_at
stands_there p t depth w fits low is =
    cases (nat_le (t - next_offset_of p) (length p.rest.bytes)) refl is
  where
    cases : (b : Bool) → nat_le (t - next_offset_of p) (length p.rest.bytes) ≡ b
        → ◌≡◌ {A = Reads (Unit {0})} (Ok (tt, w))
        (if b then Ok (tt, cut (t - next_offset_of p) p.rest) else Err (eof p.rest))
        → stands_at p w depth ≡ stands_if p (within (next_offset_of p) p.end (Some t)) depth
    cases true h e =
        let k : ◌≡◌ {A = Unit {0} × View} (tt, w) (tt, cut (t - next_offset_of p) p.rest) = cc in
        let same : w ≡ view_from p t = ap (λ (q : Unit {0} × View). q.1) k in
        let enough = leb-true (t - next_offset_of p) (length p.rest.bytes) h in
        let a : nat_le (next_offset_of p) t ≡ true = le-leb (next_offset_of p) t low in
        let b : nat_le t p.end ≡ true = le-leb t p.end (omega (arith, enough, fits, low)) in
        rw (a, b, same) refl
    cases false h e = absurd (cc)

-- and one that can't be is
pub stands_here : (p : RawPlace) (t : ℕ) (depth : ℤ) (x : Error) → length p.rest.bytes ≤ p.end
    → next_offset_of p ≤ t
    → ◌≡◌ {A = Reads (Unit {0})} (Err x) (skip_at (t - next_offset_of p) p.rest)
    → p ≡ stands_if p (within (next_offset_of p) p.end (Some t)) depth
unfolding skip_at
stands_here p t depth x fits low is =
    cases (nat_le (t - next_offset_of p) (length p.rest.bytes)) refl is
  where
    cases : (b : Bool) → nat_le (t - next_offset_of p) (length p.rest.bytes) ≡ b
        → ◌≡◌ {A = Reads (Unit {0})} (Err x)
        (if b then Ok (tt, cut (t - next_offset_of p) p.rest) else Err (eof p.rest))
        → p ≡ stands_if p (within (next_offset_of p) p.end (Some t)) depth
    cases true h e = absurd (cc)
    cases false h e =
        let more = leb-false (t - next_offset_of p) (length p.rest.bytes) h in
        let b : nat_le t p.end ≡ false = lt-leb t p.end (omega (arith, more, fits, low)) in
        let a : nat_le (next_offset_of p) t ≡ true = le-leb (next_offset_of p) t low in
        rw (a, b) refl

-- a reference that is looked at is followed where it can be
pub some_for : (sought : ℤ) (c : CursorView) (t : ℕ) → Some t ≡ reference_for sought c
    → within (next_offset_of c.raw) c.raw.end (Some t) ≡ target_for sought c
some_for sought c t = cases (int_le sought c.depth) c.follows (target (kind_of c.entry))
  where
    cases : (deep follows : Bool) (o : Option ℕ)
        → ◌≡◌ {A = Option ℕ} (Some t) (if deep then (if follows then o else None) else None)
        → ◌≡◌ {A = Option ℕ} (within (next_offset_of c.raw) c.raw.end (Some t))
        (if deep then (if follows then within (next_offset_of c.raw) c.raw.end o else None)
        else None)
    cases false follows o is = absurd (cc)
    cases true false o is = absurd (cc)
    cases true true o is = ap (within (next_offset_of c.raw) c.raw.end) is

-- a cursor that left its entry for where the reference leads
pub left_at : (c : CursorView) (sought : ℤ) (t : ℕ) (raw : RawPlace) (e : Entry) (offset : ℕ)
    (depth : ℤ) → Some t ≡ reference_for sought c
    → raw ≡ stands_if c.raw (within (next_offset_of c.raw) c.raw.end (Some t)) c.depth
    → e ≡ null_entry → offset ≡ c.offset → depth ≡ c.depth
    → record {
      raw = raw;
      entry = e;
      offset = offset;
      depth = depth;
      follows = c.follows;
      reads = c.reads;
    } ≡ leave_entry sought c
left_at c sought t raw e offset depth looks is null at deep =
    rw (is, some_for sought c t looks, null, at, deep) refl
