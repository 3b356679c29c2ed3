-- Reading a table of abbreviations never answers want of memory: no definition of a read does.
use Rattle.std.proofs.Common.{◌≡◌, ℕ, zero, suc, ◌-◌, ◌*◌, ◌+◌, ◌==◌, Bool, true, false, List}
use Rattle.std.proofs.Common.{Option, Some, None, Result, Ok, Err, ap, pos}
use Rattle.std.specs.Prelude.{◌-ℤ◌, ◌+ℤ◌, ◌*ℤ◌, nat_lt, nat_le, length, slice_index, if◌then◌else◌}
use Rattle.gimli_base.specs.declared.error.Error.{Error}
use Rattle.gimli_base.specs.declared.error.Error.TheVariants.{OutOfMemory, BadUnsignedLeb128}
use Rattle.gimli_base.specs.declared.error.Error.TheVariants.{BadSignedLeb128}
use Rattle.gimli_base.specs.declared.error.Error.TheVariants.{AbbreviationTagZero}
use Rattle.gimli_base.specs.declared.error.Error.TheVariants.{InvalidAbbreviationChildren}
use Rattle.gimli_base.specs.declared.error.Error.TheVariants.{DuplicateAbbreviationCode}
use Rattle.gimli_base.specs.View.{View, cut}
use Rattle.gimli_base.specs.Reading.{Reads, ◌>>=◌, map_read, eof, skip_at, byte_at, uleb_within}
use Rattle.gimli_base.specs.Reading.{uleb_at, uleb16_at, sleb_within, sleb_at}
use Rattle.gimli_base.specs.Chain.{chain_within, chain, then_others}
use Rattle.gimli_base.specs.Items.{Items, items_at, item_of_read, all_items}
use Rattle.gimli_base.specs.Abbreviations.{Specification, Declaration, Map, specification_at}
use Rattle.gimli_base.specs.Abbreviations.{specifications_at, children_at, tag_at, declared_at}
use Rattle.gimli_base.specs.Abbreviations.{declaration_at, declarations_at, declaration_of, map_of, map_at}
use Rattle.gimli_base.specs.Abbreviations.{repeats}

-- a read that never answers want of memory
abbrev pub Never : {A : Type 0} → Result A Error → Type 0
Never {A} r = ◌≡◌ {A = Result A Error} r (Err OutOfMemory) → ⊥

pub never_then : {A B : Type 0} → (r : Reads A) (f : A × View → Reads B) → Never r
    → ((p : A × View) → Never (f p)) → Never (r >>= f)
never_then (Ok p) f h k = k p
never_then (Err e) f h k = λ is. let same : e ≡ OutOfMemory = cc in h (ap Err same)

pub never_if : {A : Type 0} → (b : Bool) (x y : Result A Error) → Never x → Never y
    → Never (if b then x else y)
never_if true x y h k = h
never_if false x y h k = k

pub never_ok : {A : Type 0} → (p : A) → Never {A = A} (Ok p)
never_ok p = λ is. cc

pub byte_at-never : (v : View) → Never (byte_at v)
unfolding byte_at
byte_at-never v = never_if (nat_lt 0 (length v.bytes)) (Ok (slice_index v.bytes 0, cut 1 v))
    (Err (eof v)) (λ is. cc) (λ is. cc)

pub skip_at-never : (n : ℕ) (v : View) → Never (skip_at n v)
unfolding skip_at
skip_at-never n v =
    never_if (nat_le n (length v.bytes)) (Ok (tt, cut n v)) (Err (eof v)) (λ is. cc) (λ is. cc)

uleb_within-never : (top n : ℕ) (v : View) → Never (uleb_within top n v)
unfolding uleb_within
uleb_within-never top zero v =
    never_then (byte_at v) _ (byte_at-never v)
    (λ p. never_if (nat_le p.0 top) (Ok p) (Err BadUnsignedLeb128) (never_ok p) (λ is. cc))
uleb_within-never top (suc n) v = never_then (byte_at v) _ (byte_at-never v)
    (λ p. never_if (nat_lt p.0 128) (Ok p)
    (map_read (λ m. p.0 - 128 + 128 * m) (uleb_within top n p.1))
    (never_ok p)
    (never_then (uleb_within top n p.1) _ (uleb_within-never top n p.1)
    (λ q. never_ok (p.0 - 128 + 128 * q.0, q.1))))

pub uleb_at-never : (v : View) → Never (uleb_at v)
unfolding uleb_at
uleb_at-never v = uleb_within-never 1 9 v

pub uleb16_at-never : (v : View) → Never (uleb16_at v)
unfolding uleb16_at
uleb16_at-never v = uleb_within-never 3 2 v

sleb_within-never : (n : ℕ) (v : View) → Never (sleb_within n v)
unfolding sleb_within
sleb_within-never zero v =
    never_then (byte_at v) _ (byte_at-never v)
    (λ p. never_if (p.0 == 0) (Ok (pos 0, p.1)) _ (never_ok (pos 0, p.1))
    (never_if (p.0 == 127) (Ok (pos 0 -ℤ pos 1, p.1)) (Err BadSignedLeb128)
    (never_ok (pos 0 -ℤ pos 1, p.1)) (λ is. cc)))
sleb_within-never (suc n) v =
    never_then (byte_at v) _ (byte_at-never v)
    (λ p. never_if (nat_lt p.0 64) (Ok (pos p.0, p.1)) _ (never_ok (pos p.0, p.1))
    (never_if (nat_lt p.0 128) (Ok (pos p.0 -ℤ pos 128, p.1)) _ (never_ok (pos p.0 -ℤ pos 128, p.1))
    (never_then (sleb_within n p.1) _ (sleb_within-never n p.1)
    (λ q. never_ok (pos (p.0 - 128) +ℤ (pos 128 *ℤ q.0), q.1)))))

pub sleb_at-never : (v : View) → Never (sleb_at v)
unfolding sleb_at
sleb_at-never v = sleb_within-never 9 v

specification_at-never : (v : View) → Never (specification_at v)
unfolding specification_at
specification_at-never v = never_then (uleb16_at v) _ (uleb16_at-never v)
    (λ name. never_then (uleb16_at name.1) _ (uleb16_at-never name.1)
    (λ form. never_if (name.0 == 0) _ _
    (never_if (form.0 == 0) _ _ (λ is. cc) (λ is. cc))
    (never_if (form.0 == 0) _ _ (λ is. cc)
    (never_if (form.0 == 0x21) _ _
    (never_then (sleb_at form.1) _ (sleb_at-never form.1) (λ q is. cc)) (λ is. cc)))))

-- items end by no want of memory, where reading one never answers it
items_within-never : {A : Type 0} → (next : View → Reads (Option A)) → ((v : View) → Never (next v))
    → (cut_short : Result View Error) → Never cut_short → (n : ℕ) (v : View)
    → Never (chain_within (λ w. item_of_read (next w)) cut_short n v).ending
unfolding chain_within
items_within-never next each cut_short short zero v = short
items_within-never {A} next each cut_short short (suc n) v =
    cases (next v) (each v) (items_within-never next each cut_short short n)
  where
    others : View → Items A
    others = chain_within (λ w. item_of_read (next w)) cut_short n

    cases : (r : Reads (Option A)) → Never r → ((w : View) → Never (others w).ending)
        → Never (then_others (item_of_read r) others).ending
    cases (Ok (Some a, w)) never rest = rest w
    cases (Ok (None, w)) never rest = λ is. cc
    cases (Err e) never rest = λ is. let same : e ≡ OutOfMemory = cc in never (ap Err same)

items_at-never : {A : Type 0} → (next : View → Reads (Option A)) → ((v : View) → Never (next v))
    → (v : View) → Never (items_at next v).ending
unfolding items_at chain
items_at-never next each v =
    items_within-never next each (Err (eof v)) (λ is. cc) (suc (length v.bytes)) v

specifications_at-never : (v : View) → Never (specifications_at v)
unfolding specifications_at
specifications_at-never v = cases (items_at specification_at v)
    (items_at-never specification_at specification_at-never v)
  where
    cases : (r : Items Specification) → Never r.ending → Never (all_items r)
    cases r never = ended r.items r.ending never
      where
        ended : (xs : List Specification) (e : Result View Error) → Never e
            → Never (all_items (record { items = xs; ending = e }))
        ended xs (Ok w) h = λ is. cc
        ended xs (Err e) h = λ is. let same : e ≡ OutOfMemory = cc in h (ap Err same)

tag_at-never : (v : View) → Never (tag_at v)
unfolding tag_at
tag_at-never v = never_then (uleb16_at v) _ (uleb16_at-never v)
    (λ p. never_if (p.0 == 0) (Err AbbreviationTagZero) _ (λ is. cc) (λ is. cc))

children_at-never : (v : View) → Never (children_at v)
unfolding children_at
children_at-never v = never_then (byte_at v) _ (byte_at-never v)
    (λ p. never_if (p.0 == 0) (Ok (false, p.1)) _ (never_ok (false, p.1))
    (never_if (p.0 == 1) (Ok (true, p.1)) (Err InvalidAbbreviationChildren) (never_ok (true, p.1))
    (λ is. cc)))

declared_at-never : (code : ℕ) (v : View) → Never (declared_at code v)
unfolding declared_at
declared_at-never code v = never_then (tag_at v) _ (tag_at-never v)
    (λ tag. never_then (children_at tag.1) _ (children_at-never tag.1)
    (λ children. never_then (specifications_at children.1) _ (specifications_at-never children.1)
    (λ ss is. cc)))

declaration_at-never : (v : View) → Never (declaration_at v)
unfolding declaration_at
declaration_at-never v = never_then (uleb_at v) _ (uleb_at-never v)
    (λ p. never_if (p.0 == 0) (Ok (None, p.1)) _ (λ is. cc)
    (never_then (declared_at p.0 p.1) _ (declared_at-never p.0 p.1) (λ d is. cc)))

map_of-never : (ds : Items Declaration) → Never ds.ending → Never (map_of ds)
map_of-never ds never =
    never_if (repeats ds.items) (Err DuplicateAbbreviationCode) _ (λ is. cc) (ended ds.ending never)
  where
    ended : (e : Result View Error) → Never e
        → Never {A = Map} (elim e [ Ok w ↦ Ok (declaration_of ds.items) | Err x ↦ Err x ])
    ended (Ok w) h = λ is. cc
    ended (Err x) h = λ is. let same : x ≡ OutOfMemory = cc in h (ap Err same)

-- a table of abbreviations is refused for its bytes alone
pub map_at-never : (offset : ℕ) (v : View) → Never (map_at offset v)
unfolding map_at declarations_at
map_at-never offset v = cases (skip_at offset v) (skip_at-never offset v)
  where
    cases : (r : Reads (Unit {0})) → Never r
        → Never {A = Map} (elim r [ Ok p ↦ map_of (declarations_at p.1) | Err e ↦ Err e ])
    cases (Ok p) never =
        map_of-never (declarations_at p.1)
        (items_at-never declaration_at declaration_at-never p.1)
    cases (Err e) never = λ is. let same : e ≡ OutOfMemory = cc in never (ap Err same)
