-- A turn of the loop that reads the declarations of a table.
use Rattle.std.proofs.Common.{◌≡◌, ℕ, ◌<◌, List, [], ◌∷◌, ◌++◌, Option, None, Some, Ok, Err, length}
use Rattle.std.proofs.Common.{refl, sym, ap, ◌∙◌, append_assoc, zero, suc, ◌-◌}
use Rattle.std.proofs.Math.Path.{fun_ext}
use Rattle.std.specs.Prelude.{Bool, true, false, if◌then◌else◌, ◌==◌, is_some, slice_get, nat_lt}
use Rattle.std.specs.Prelude.{◌&&◌}
use Rattle.gimli_base.specs.declared.error.Error.{Error}
use Rattle.gimli_base.specs.declared.error.Error.TheVariants.{DuplicateAbbreviationCode}
use Rattle.gimli_base.specs.View.{View}
use Rattle.gimli_base.specs.Items.{Items}
use Rattle.gimli_base.specs.Items.{ItemsSoFar, items_within}
use Rattle.gimli_base.proofs.ItemTurns.{items_begin, items_more}
use Rattle.gimli_base.proofs.ItemTurns.{items_refused, items_end}
use Rattle.gimli_base.specs.Abbreviations.{Declaration, declaration_of, repeats, map_of}
use Rattle.gimli_base.specs.Abbreviations.{declaration_at, declarations_at}
use Rattle.gimli_base.specs.Table.{Table, codes_of}
use Rattle.gimli_base.proofs.AbbreviationMap.{declaration_of-last, repeats-again, repeats-new}

-- the table has the declarations that were read so far, none twice
pub record TableSoFar (all : Items Declaration) (t : Table) (v : View) : Type 0 where
  pub declared : List Declaration
  pub read : ItemsSoFar declaration_at all declared v
  pub apart : repeats declared ≡ false
  pub same : (code : ℕ) → codes_of t code ≡ declaration_of declared code

none_found : (t : Bool) (i : ℕ)
    → ◌≡◌ {A = Option Declaration} (if t then slice_get [] i else None) None
none_found true zero = refl
none_found true (suc i) = refl
none_found false i = refl

pub table_begin : (v : View) → TableSoFar (declarations_at v) (record { dense = []; others = [] }) v
unfolding declarations_at codes_of
table_begin v =
    record {
      declared = [];
      read = items_begin declaration_at v;
      apart = refl;
      same = λ code. none_found (nat_lt 0 code && nat_lt (code - 1) 0) (code - 1);
    }

pub table_more : (all : Items Declaration) (t t' : Table) (v : View) (d : Declaration) (w : View)
    → TableSoFar all t v
    → Ok (Some d, w) ≡ declaration_at v → length w.bytes < length v.bytes
    → codes_of t d.code ≡ None
    → ((code : ℕ) → codes_of t' code ≡ (if d.code == code then Some d else codes_of t code))
    → TableSoFar all t' w
table_more all t t' v d w s h lt none adds =
    let none' : declaration_of s.declared d.code ≡ None = sym (s.same d.code) ∙ none in
    record {
      declared = s.declared ++ d ∷ [];
      read = items_more declaration_at all s.declared v d w s.read h lt;
      apart = repeats-new s.declared d s.apart none';
      same = λ code. adds code ∙ ap (λ r. if d.code == code then Some d else r) (s.same code)
          ∙ sym (declaration_of-last s.declared d code none');
    }

pub table_again : (all : Items Declaration) (t : Table) (v : View) (d : Declaration) (w : View)
    → TableSoFar all t v
    → Ok (Some d, w) ≡ declaration_at v → length w.bytes < length v.bytes
    → is_some (codes_of t d.code) ≡ true → map_of all ≡ Err DuplicateAbbreviationCode
table_again all t v d w s h lt some =
    let more = items_more declaration_at all s.declared v d w s.read h lt in
    let others = items_within declaration_at more.cut_short more.fuel w in
    let there : is_some (declaration_of s.declared d.code)
    ≡ true = ap is_some (sym (s.same d.code)) ∙ some in
    let again : repeats ((s.declared ++ d ∷ []) ++ others.items)
    ≡ true = rw (append_assoc s.declared (d ∷ []) others.items)
    (repeats-again s.declared d others.items there) in
    ap map_of more.same ∙ rw again refl

pub table_refused : (all : Items Declaration) (t : Table) (v : View) (e : Error)
    → TableSoFar all t v → Err e ≡ declaration_at v → Err e ≡ map_of all
table_refused all t v e s h =
    sym (ap map_of (items_refused declaration_at all s.declared v e s.read h) ∙ rw s.apart refl)

pub table_end : (all : Items Declaration) (t : Table) (v w : View) → TableSoFar all t v
    → Ok (None, w) ≡ declaration_at v → Ok (codes_of t) ≡ map_of all
table_end all t v w s h =
    sym
    (ap map_of (items_end declaration_at all s.declared v w s.read h)
    ∙ rw s.apart (ap Ok (sym (fun_ext s.same))))
