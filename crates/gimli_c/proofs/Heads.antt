-- Entries that are read past: the code's parts, then the whole.
use Rattle.std.proofs.Common.{◌≡◌, ◌≢◌, ℕ, ◌+◌, ◌<◌, ◌≤◌, ◌==◌, false, List, [], ◌∷◌}
use Rattle.std.proofs.Common.{◌++◌, map, drop, length, get_or, Option, Some, None, Result, Ok, Err}
use Rattle.std.proofs.Common.{refl}
use Rattle.std.proofs.Common.{sym, ap, ◌∙◌}
use Rattle.std.proofs.Common.{append_assoc, ℤ}
use Rattle.std.specs.Prelude.{cond}
use Rattle.std.proofs.lemmas.Bool.{ne_eqb}
use Rattle.std.proofs.lemmas.List.{drop_more, drop_all, append-nil}
use Rattle.gimli_base.specs.declared.common.Encoding.{Encoding}
use Rattle.gimli_base.specs.declared.error.Error.{Error}
use Rattle.gimli_base.specs.Offset.{answer_of}
use Rattle.gimli_base.specs.View.{View}
use Rattle.gimli_base.specs.Reading.{Reads, ◌>>=◌, map_read}
use Rattle.gimli_base.specs.Abbreviations.{Specification, Declaration, Map}
use Rattle.gimli_base.specs.Table.{codes_of}
use Rattle.gimli_units.specs.Entry.{Attr, Entry, attribute_at, attributes_at, abbreviation_at}
use Rattle.gimli_units.specs.Entry.{entry_at, null_entry, entry_of_declared}
use Rattle.gimli_units.specs.RawPlace.{RawPlace, depth_read, depth_after, below_flag}
use Rattle.gimli_units.specs.Head.{Head as RowHead, head_of}
use Rattle.gimli_units.proofs.AttributeTurns.{after}
use Rattle.gimli_units.proofs.HeadReads.{EntryOf}
use Rattle.gimli_c.specs.declared.attrs.GimliAttr.{GimliAttr}
use Rattle.gimli_c.specs.declared.reading.Head.{Head}
use Rattle.gimli_c.specs.Attrs.{attr_of}
use Rattle.gimli_c.specs.Heads.{null_head, declared_head, IsReadPast, IsReadWith, AreRead}
use Rattle.gimli_c.specs.Heads.{AsksMemory}

-- the attributes of these specifications, as numbers
abbrev pub numbers_at : ℕ → Encoding → List Specification → View → Reads (List GimliAttr)
numbers_at limit e ss v = map_read (map attr_of) (attributes_at limit e ss v)

-- a turn of the loop that keeps them: the first i are ns
module _ (limit : ℕ) (e : Encoding) (ss : List Specification) (i : ℕ) (all v : View)
    (ns : List GimliAttr)
    (so_far : numbers_at limit e ss all ≡ after ns (numbers_at limit e (drop i ss) v)) where
  -- the others, of which this is the first
  others : (s : Specification) → i < length ss → s ≡ get_or ss i s
      → numbers_at limit e ss all ≡ after ns (numbers_at limit e (s ∷ drop (i + 1) ss) v)
  others s lt is =
      let next = drop_more ss i s lt ∙ ap (λ x. x ∷ drop (i + 1) ss) (sym is) in
      so_far ∙ ap (λ ss. after ns (numbers_at limit e ss v)) next

  -- their numbers were put onto those before them, beside what does not depend on them
  module _ {B : Type 0} (b : B) (s : Specification) (lt : i < length ss) (is : s ≡ get_or ss i s) where
    abbrev onto : Reads Attr → Reads (List GimliAttr × B)
    onto r = map_read {B = List GimliAttr × B} (λ a. (ns ++ attr_of a ∷ [], b)) r

    first : (a : Attr) (r : Reads (List Attr))
        → after ns (map_read (map attr_of) (map_read (λ xs. a ∷ xs) r))
        ≡ after (ns ++ attr_of a ∷ []) (map_read (map attr_of) r)
    first a (Ok p) = ap (λ (ys : List GimliAttr). Ok (ys, p.1))
        (sym (append_assoc ns (attr_of a ∷ []) (map attr_of p.0)))
    first a (Err y) = refl

    pub numbers_onto : (ms : List GimliAttr) (c : B) (w : View)
        → Ok ((ms, c), w) ≡ onto (attribute_at limit e s v)
        → (numbers_at limit e ss all ≡ after ms (numbers_at limit e (drop (i + 1) ss) w)) × (c ≡ b)
    unfolding attributes_at
    numbers_onto ms c w h = cases (attribute_at limit e s v) refl h
      where
        cases : (r : Reads Attr) → attribute_at limit e s v ≡ r → Ok ((ms, c), w) ≡ onto r
            → (numbers_at limit e ss all
            ≡ after ms (numbers_at limit e (drop (i + 1) ss) w)) × (c ≡ b)
        cases (Ok p) read given =
            let both : ◌≡◌ {A = (List GimliAttr × B) × View} ((ms, c), w)
            ((ns ++ attr_of p.0 ∷ [], b), p.1) = cc in
            let items : ms ≡ ns ++ attr_of p.0 ∷ []
            = ap (λ (q : (List GimliAttr × B) × View). q.0.0) both in
            let left : w ≡ p.1 = ap (λ (q : (List GimliAttr × B) × View). q.1) both in (
              rw (items, left)
                  (others s lt is ∙ rw read (first p.0 (attributes_at limit e (drop (i + 1) ss) p.1))),
              ap (λ (q : (List GimliAttr × B) × View). q.0.1) both,
            )
        cases (Err y) read given = absurd (cc)

    pub numbers_not : (x : Error) → Err x ≡ onto (attribute_at limit e s v)
        → Err x ≡ numbers_at limit e ss all
    unfolding attributes_at
    numbers_not x h = cases (attribute_at limit e s v) refl h
      where
        cases : (r : Reads Attr) → attribute_at limit e s v ≡ r → Err x ≡ onto r
            → Err x ≡ numbers_at limit e ss all
        cases (Ok p) read given = absurd (cc)
        cases (Err y) read given =
            let same : x ≡ y = cc in rw same (sym (others s lt is ∙ rw read refl))

  pub numbers_end : length ss ≤ i → Ok (ns, v) ≡ numbers_at limit e ss all
  unfolding attributes_at
  numbers_end le =
      let none = ap (λ ss. after ns (numbers_at limit e ss v)) (drop_all i ss le) in
      sym (so_far ∙ none ∙ ap (λ (ys : List GimliAttr). Ok (ys, v)) (append-nil ns))

-- what numbers were made of
pub numbers_of : (limit : ℕ) (e : Encoding) (ss : List Specification) (v w : View)
    (ns : List GimliAttr)
    → ◌≡◌ {A = Reads (List GimliAttr)} (Ok (ns, w))
    (map_read (map attr_of) (attributes_at limit e ss v))
    → (r : AreRead limit e ss v w) × (ns ≡ map attr_of r.attributes)
numbers_of limit e ss v w ns h = cases (attributes_at limit e ss v) refl h
  where
    cases : (r : Reads (List Attr)) → r ≡ attributes_at limit e ss v
        → ◌≡◌ {A = Reads (List GimliAttr)} (Ok (ns, w)) (map_read (map attr_of) r)
        → (r : AreRead limit e ss v w) × (ns ≡ map attr_of r.attributes)
    cases (Ok p) is k =
        let same : ◌≡◌ {A = List GimliAttr × View} (ns, w) (map attr_of p.0, p.1) = cc in (
          record {
            attributes = p.0;
            are = ap (λ (q : List GimliAttr × View). Ok (p.0, q.1)) same ∙ is;
          },
          ap (λ (q : List GimliAttr × View). q.0) same,
        )
    cases (Err x) is k = absurd (cc)

pub refused_of : (limit : ℕ) (e : Encoding) (ss : List Specification) (v : View) (x : Error)
    → ◌≡◌ {A = Reads (List GimliAttr)} (Err x) (map_read (map attr_of) (attributes_at limit e ss v))
    → ◌≡◌ {A = Reads (List Attr)} (Err x) (attributes_at limit e ss v)
refused_of limit e ss v x h = cases (attributes_at limit e ss v) h
  where
    cases : (r : Reads (List Attr))
        → ◌≡◌ {A = Reads (List GimliAttr)} (Err x) (map_read (map attr_of) r)
        → ◌≡◌ {A = Reads (List Attr)} (Err x) r
    cases (Ok p) k = absurd (cc)
    cases (Err y) k = let same : x ≡ y = cc in ap (λ (z : Error). Err z) same

-- a null was read
module _ (limit : ℕ) (p q : RawPlace) (h : ◌≡◌ {A = Reads (Option Declaration)} (Ok (None, q.rest))
    (abbreviation_at (codes_of p.abbreviations) p.rest))
    (moved : q ≡ record p { rest = q.rest; depth = depth_read None p.depth }) where
  null_is : ◌≡◌ {A = Reads Entry} (Ok (null_entry, q.rest))
      (entry_at limit p.encoding (codes_of p.abbreviations) p.rest)
  unfolding entry_at
  null_is = rw (← h) refl

  pub null_with : (ns : List GimliAttr) → ns ≡ [] → IsReadWith limit p null_head ns q
  null_with ns none = record {
    past = record { entry = null_entry; is = null_is; head_is = refl; moved = moved };
    numbers_are = none;
  }

-- an entry of a declaration was read
module _ (limit : ℕ) (p q : RawPlace) (d : Declaration) (v : View)
    (h : ◌≡◌ {A = Reads (Option Declaration)} (Ok (Some d, v))
    (abbreviation_at (codes_of p.abbreviations) p.rest))
    (r : AreRead limit p.encoding d.attributes v q.rest) (set : d.tag.0 ≡ 0 → ⊥)
    (moved : q ≡ record p { rest = q.rest; depth = below_flag d.has_children p.depth }) where
  some : d.tag.0 == 0 ≡ false
  some = ne_eqb d.tag.0 0 set

  abbrev entry_read : Entry
  entry_read = record { tag = d.tag; has_children = d.has_children; attributes = r.attributes }

  entry_is : ◌≡◌ {A = Reads Entry} (Ok (entry_read, q.rest))
      (entry_at limit p.encoding (codes_of p.abbreviations) p.rest)
  unfolding entry_at
  entry_is = rw (← h, ← r.are, some) refl

  moved_is : q ≡ record p { rest = q.rest; depth = depth_after entry_read p.depth }
  moved_is = rw some moved

  pub entry_with : (ns : List GimliAttr) → ns ≡ map attr_of r.attributes
      → IsReadWith limit p (declared_head d) ns q
  entry_with ns are = record {
    past = record { entry = entry_read; is = entry_is; head_is = refl; moved = moved_is };
    numbers_are = are;
  }

-- the code was refused
pub past_code : (limit : ℕ) (e : Encoding) (m : Map) (v : View) (x : Error)
    → ◌≡◌ {A = Reads (Option Declaration)} (Err x) (abbreviation_at m v)
    → ◌≡◌ {A = Reads Entry} (Err x) (entry_at limit e m v)
unfolding entry_at
past_code limit e m v x h = rw (← h) refl

-- an attribute was refused
pub past_attribute : (limit : ℕ) (e : Encoding) (m : Map) (v w : View) (d : Declaration)
    (x : Error)
    → ◌≡◌ {A = Reads (Option Declaration)} (Ok (Some d, w)) (abbreviation_at m v)
    → ◌≡◌ {A = Reads (List Attr)} (Err x) (attributes_at limit e d.attributes w)
    → ◌≡◌ {A = Reads Entry} (Err x) (entry_at limit e m v)
unfolding entry_at
past_attribute limit e m v w d x h k = rw (← h, ← k) refl

-- what is refused asks for no more than that
pub asks_refused : (r : Reads Entry) (x : Error) → Err x ≡ r → AsksMemory r
asks_refused r x h = rw (← h) tt

-- no attributes are read of some
some_read : (limit : ℕ) (e : Encoding) (ss : List Specification) (v : View) (p : List Attr × View)
    → attributes_at limit e ss v ≡ Ok p → p.0 ≡ [] → ss ≡ []
unfolding attributes_at
some_read limit e [] v p is none = refl
some_read limit e (s ∷ ss) v p is none =
    absurd (first (attribute_at limit e s v) (λ w. attributes_at limit e ss w) is)
  where
    others : (a : Attr) (r : Reads (List Attr)) → map_read (λ xs. a ∷ xs) r ≡ Ok p → ⊥
    others a (Ok q) k = let both : ◌≡◌ {A = List Attr × View} (a ∷ q.0, q.1) p = cc in cc
    others a (Err x) k = cc

    first : (r : Reads Attr) (next : View → Reads (List Attr))
        → (r >>= λ q. map_read (λ xs. q.0 ∷ xs) (next q.1)) ≡ Ok p → ⊥
    first (Ok q) next k = others q.0 (next q.1) k
    first (Err x) next k = cc

-- an entry with declared attributes
pub asks_declared : (limit : ℕ) (e : Encoding) (m : Map) (v a : View) (d : Declaration)
    → ◌≡◌ {A = Reads (Option Declaration)} (Ok (Some d, a)) (abbreviation_at m v)
    → (d.tag.0 ≡ 0 → ⊥) → d.attributes ≢ [] → AsksMemory (entry_at limit e m v)
unfolding entry_at
asks_declared limit e m v a d h set some =
    rw (← h) (cases (attributes_at limit e d.attributes a) refl)
  where
    cases : (r : Reads (List Attr)) → attributes_at limit e d.attributes a ≡ r
        → AsksMemory (map_read (entry_of_declared d) r)
    cases (Ok p) is =
        rw (ne_eqb d.tag.0 0 set) (λ none. some (some_read limit e d.attributes a p is none))
    cases (Err x) is = tt

-- a reader that stands for itself
pub same_answer : {A : Type 0} {r s : Result A Error} → r ≡ s → answer_of (λ x. x) r ≡ s
same_answer {A} {r} {s} is = cases r ∙ is
  where
    cases : (q : Result A Error) → answer_of (λ x. x) q ≡ q
    cases (Ok x) = refl
    cases (Err e) = refl

-- what a row tells of a head
abbrev outcome : RowHead → Head
outcome x = record { tag = x.tag.0; has_children = cond x.has_children 1 0 }

-- the head of the next entry was read
pub past_head : (limit : ℕ) (p q : RawPlace) (o : Option Declaration) (h : Head)
    → EntryOf limit p o q.rest q.depth → h ≡ outcome (head_of o)
    → q ≡ record p { rest = q.rest; depth = q.depth } → IsReadPast limit p h q
past_head limit p q o h e is same = record {
  entry = e.entry;
  is = e.reads;
  head_is = is ∙ ap outcome e.same;
  moved = same ∙ ap (λ (d : ℤ). record p { rest = q.rest; depth = d }) e.after;
}
