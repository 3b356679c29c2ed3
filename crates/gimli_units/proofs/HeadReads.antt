-- The entry of which a head was read, alone or with where its sibling is.
use Rattle.std.proofs.Common.{◌≡◌, ℕ, ◌<◌, ℤ, false}
use Rattle.std.proofs.Common.{length, Option, Some, None, Ok, Err, refl, sym, ap, ◌∙◌}
use Rattle.std.specs.Prelude.{◌≢◌, ◌==◌, IfSome}
use Rattle.std.proofs.lemmas.Bool.{ne_eqb}
use Rattle.gimli_base.specs.declared.error.Error.{Error}
use Rattle.gimli_base.specs.View.{View}
use Rattle.gimli_base.specs.Reading.{Reads, map_read}
use Rattle.gimli_base.specs.Table.{codes_of}
use Rattle.gimli_base.specs.Abbreviations.{Declaration, Map}
use Rattle.gimli_units.specs.Entry.{Entry, abbreviation_at}
use Rattle.gimli_units.specs.Head.{Head, head, head_of, head_with_sibling, head_and_sibling, IsDeclaredAt}
use Rattle.gimli_units.specs.Kind.{kind_of}
use Rattle.gimli_units.specs.Honest.{target}
use Rattle.gimli_units.specs.RawPlace.{RawPlace, depth_read, depth_after}
use Rattle.gimli_units.specs.CursorModel.{next_of}
use Rattle.gimli_units.proofs.EntryReads.{entry_at-shorter}

-- the depth after a head is that after its entry
head_depth : (o : Option Declaration) (e : Entry) (depth : ℤ) → IfSome o (λ d. d.tag.0 ≢ 0)
    → head_of o ≡ head e → depth_read o depth ≡ depth_after e depth
head_depth None e depth some same =
    let tag : e.tag.0 ≡ 0 = sym (ap (λ (h : Head). h.tag.0) same) in
    let flag : e.has_children ≡ false = sym (ap (λ (h : Head). h.has_children) same) in
    rw (tag, flag) refl
head_depth (Some d) e depth some same =
    let tag : e.tag.0 ≡ d.tag.0 = sym (ap (λ (h : Head). h.tag.0) same) in
    let flag : e.has_children ≡ d.has_children =
    sym (ap (λ (h : Head). h.has_children) same) in
    let other : (e.tag.0 == 0) ≡ false = rw tag (ne_eqb d.tag.0 0 some) in
    rw (other, flag) refl

-- the entry of a head
pub record EntryOf (limit : ℕ) (p : RawPlace) (o : Option Declaration) (w : View) (depth : ℤ) : Type 0 where
  pub entry : Entry
  pub reads : Ok (entry, w) ≡ next_of limit p p.rest
  pub same : head_of o ≡ head entry
  pub after : depth ≡ depth_after entry p.depth

pub entry_of : (limit : ℕ) (p : RawPlace) (o : Option Declaration) (w : View) (depth : ℤ)
    → Ok (head_of o, w) ≡ map_read head (next_of limit p p.rest) → IfSome o (λ d. d.tag.0 ≢ 0)
    → depth ≡ depth_read o p.depth → EntryOf limit p o w depth
entry_of limit p o w depth read some deep = cases (next_of limit p p.rest) refl read
  where
    cases : (r : Reads Entry) → next_of limit p p.rest ≡ r → Ok (head_of o, w) ≡ map_read head r
        → EntryOf limit p o w depth
    cases (Ok x) is h =
        let both : ◌≡◌ {A = Head × View} (head_of o, w) (head x.0, x.1) = cc in
        let same : head_of o ≡ head x.0 = ap (λ (q : Head × View). q.0) both in
        let left : w ≡ x.1 = ap (λ (q : Head × View). q.1) both in
        record {
          entry = x.0;
          reads = rw left (sym is);
          same = same;
          after = deep ∙ head_depth o x.0 p.depth some same;
        }
    cases (Err e) is h = absurd (cc)

-- a refusal of a head is that of its entry
pub refusal_of : (limit : ℕ) (p : RawPlace) (x : Error)
    → Err x ≡ map_read head (next_of limit p p.rest) → Err x ≡ next_of limit p p.rest
refusal_of limit p x read = cases (next_of limit p p.rest) read
  where
    cases : (r : Reads Entry) → Err x ≡ map_read head r → Err x ≡ r
    cases (Ok y) h = absurd (cc)
    cases (Err e) h = let same : x ≡ e = cc in ap Err same

-- what is left has fewer bytes
pub entry_shorter : (limit : ℕ) (p : RawPlace) (o : Option Declaration) (w : View) (depth : ℤ)
    → EntryOf limit p o w depth → length w.bytes < length p.rest.bytes
entry_shorter limit p o w depth h =
    entry_at-shorter limit p.encoding (codes_of p.abbreviations) p.rest w h.entry h.reads

-- the same with where its sibling is
pub record HeadOf (limit : ℕ) (p : RawPlace) (o : Option Declaration) (sibling : Option ℕ) (w : View)
    (depth : ℤ) : Type 0 where
  pub of : EntryOf limit p o w depth
  pub to_sibling : sibling ≡ target (kind_of of.entry)

pub entry_of_head : (limit : ℕ) (p : RawPlace) (o : Option Declaration) (sibling : Option ℕ) (w : View)
    (depth : ℤ) → Ok (head_with_sibling o sibling, w) ≡ map_read head_and_sibling (next_of limit p p.rest)
    → IfSome o (λ d. d.tag.0 ≢ 0) → depth ≡ depth_read o p.depth
    → HeadOf limit p o sibling w depth
entry_of_head limit p o sibling w depth read some deep =
    let h = entry_of limit p o w depth (alone (next_of limit p p.rest) read) some deep in
    let led : Ok (head_with_sibling o sibling, w) ≡ map_read head_and_sibling (Ok (h.entry, w)) =
    read ∙ ap (map_read head_and_sibling) (sym h.reads) in
    let both : ◌≡◌ {A = (Head × Option ℕ) × View} (head_with_sibling o sibling, w)
    (head_and_sibling h.entry, w) = cc in
    record { of = h; to_sibling = ap (λ (q : (Head × Option ℕ) × View). q.0.1) both }
  where
    alone : (r : Reads Entry) → Ok (head_with_sibling o sibling, w) ≡ map_read head_and_sibling r
        → Ok (head_of o, w) ≡ map_read head r
    alone (Ok x) h =
        let both : ◌≡◌ {A = (Head × Option ℕ) × View} (head_with_sibling o sibling, w)
        (head_and_sibling x.0, x.1) = cc in
        ap (λ (q : (Head × Option ℕ) × View). Ok (q.0.0, q.1)) both
    alone (Err e) h = absurd (cc)

pub refusal_of_head : (limit : ℕ) (p : RawPlace) (x : Error)
    → Err x ≡ map_read head_and_sibling (next_of limit p p.rest) → Err x ≡ next_of limit p p.rest
refusal_of_head limit p x read = cases (next_of limit p p.rest) read
  where
    cases : (r : Reads Entry) → Err x ≡ map_read head_and_sibling r → Err x ≡ r
    cases (Ok y) h = absurd (cc)
    cases (Err e) h = let same : x ≡ e = cc in ap Err same

-- what was read of a code is the declaration that stands there
pub declared_here : (declared : Map) (v w : View) (o : Option Declaration)
    → Ok (o, w) ≡ abbreviation_at declared v → IsDeclaredAt declared v o
declared_here declared v w o h = (w, h)
