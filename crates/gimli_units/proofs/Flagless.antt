-- A null has no children.
use Rattle.std.proofs.Common.{◌≡◌, ℕ, ◌==◌, Bool, true, false, List, Option, Some, None, Ok, Err}
use Rattle.std.proofs.Common.{refl, sym, ap, ◌∙◌}
use Rattle.std.specs.Prelude.{if◌then◌else◌}
use Rattle.gimli_base.specs.declared.common.Encoding.{Encoding}
use Rattle.gimli_base.specs.View.{View}
use Rattle.gimli_base.specs.Reading.{Reads, ◌>>=◌, map_read}
use Rattle.gimli_base.specs.Abbreviations.{Declaration, Map}
use Rattle.gimli_units.specs.Entry.{Entry, Attr, is_null, null_entry, entry_of_declared}
use Rattle.gimli_units.specs.Entry.{attributes_at, abbreviation_at, content_at, entry_at}

-- that what was read, if it is a null, has no children
abbrev Flagless : Reads Entry → Type 0
Flagless r = (e : Entry) (w : View) → ◌≡◌ {A = Reads Entry} (Ok (e, w)) r → is_null e ≡ true
    → e.has_children ≡ false

declared_flagless : (d : Declaration) (xs : List Attr) → is_null (entry_of_declared d xs) ≡ true
    → (entry_of_declared d xs).has_children ≡ false
declared_flagless d xs = cases (d.tag.0 == 0) refl
  where
    cases : (b : Bool) → (d.tag.0 == 0) ≡ b
        → is_null
        (if b then null_entry
        else record { tag = d.tag; has_children = d.has_children; attributes = xs }) ≡ true
        → (if b then null_entry
        else
        record { tag = d.tag; has_children = d.has_children; attributes = xs }).has_children
        ≡ false
    cases true h null = refl
    cases false h null = let x : false ≡ true = sym h ∙ null in absurd (cc)

content_flagless : (limit : ℕ) (x : Encoding) (o : Option Declaration) (v : View)
    → Flagless (content_at limit x o v)
content_flagless limit x None v e w is null =
    let same : ◌≡◌ {A = Entry × View} (e, w) (null_entry, v) = cc in
    ap (λ (p : Entry × View). p.0.has_children) same
content_flagless limit x (Some d) v e w is null = cases (attributes_at limit x d.attributes v) is
  where
    cases : (r : Reads (List Attr))
        → ◌≡◌ {A = Reads Entry} (Ok (e, w)) (map_read (entry_of_declared d) r) → e.has_children
        ≡ false
    cases (Ok p) is =
        let same : ◌≡◌ {A = Entry × View} (e, w) (entry_of_declared d p.0, p.1) = cc in
        let one : e ≡ entry_of_declared d p.0 = ap (λ (p : Entry × View). p.0) same in
        ap (λ (x : Entry). x.has_children) one
        ∙ declared_flagless d p.0 (sym (ap (λ (x : Entry). is_null x) one) ∙ null)
    cases (Err y) is = absurd (cc)

-- a null that is read has no children
pub entry_at-flagless : (limit : ℕ) (x : Encoding) (declared : Map) (v w : View) (e : Entry)
    → Ok (e, w) ≡ entry_at limit x declared v → is_null e ≡ true → e.has_children ≡ false
unfolding entry_at
entry_at-flagless limit x declared v w e = cases (abbreviation_at declared v)
  where
    cases : (r : Reads (Option Declaration))
        → ◌≡◌ {A = Reads Entry} (Ok (e, w)) (r >>= λ p. content_at limit x p.0 p.1)
        → is_null e ≡ true → e.has_children ≡ false
    cases (Ok p) is null = content_flagless limit x p.0 p.1 e w is null
    cases (Err y) is null = absurd (cc)
