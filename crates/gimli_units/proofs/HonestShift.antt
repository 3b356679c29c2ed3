-- Rows are honest whatever the depth from which they are counted (DWARF 5, 2.3).
use Rattle.std.specs.Prelude.{◌≡◌, ℕ, ℤ, pos, ◌+ℤ◌, ◌-ℤ◌, Bool, true, false, ◌&&◌, List, [], ◌∷◌}
use Rattle.std.specs.Prelude.{◌++◌, map}
use Rattle.std.specs.Ordering.{int_eq}
use Rattle.std.proofs.Common.{refl, sym, ap, ◌∙◌, arith}
use Rattle.std.proofs.lemmas.Int.{ints}
use Rattle.std.proofs.lemmas.Bool.Decides.{Decides-int_eq}
use Rattle.gimli_base.specs.View.{View}
use Rattle.gimli_base.specs.Reading.{Reads}
use Rattle.gimli_units.specs.Entry.{Entry, is_null}
use Rattle.gimli_units.specs.Rows.{Sited, Row, depth_after_all, rows_after, entries_at, ahead_at}
use Rattle.gimli_units.specs.Honest.{closes, past_closer, AreHonest}

-- a row that is counted from elsewhere
abbrev pub deeper_by : ℤ → Row → Row
deeper_by k r = record { offset = r.offset; next = r.next; depth = r.depth +ℤ k; entry = r.entry }

counted_by : (start k : ℤ) (before : List Sited)
    → depth_after_all (start +ℤ k) before ≡ depth_after_all start before +ℤ k
unfolding depth_after_all
counted_by start k before = omega (arith, ints)

after_by : (start k : ℤ) (before rest : List Sited)
    → rows_after (start +ℤ k) before rest ≡ map (deeper_by k) (rows_after start before rest)
unfolding rows_after
after_by start k before [] = refl
after_by start k before (s ∷ rest) =
    rw (counted_by start k before, after_by start k (before ++ s ∷ []) rest) refl

-- the rows from a view on, counted from elsewhere
pub rows_by : (next : View → Reads Entry) (end : ℕ) (depth k : ℤ) (v : View)
    → (ahead_at next end (depth +ℤ k) v).rows ≡ map (deeper_by k) (ahead_at next end depth v).rows
unfolding ahead_at
rows_by next end depth k v = after_by depth k [] (entries_at next end v).items

bool_by : (a b : Bool) → (a ≡ true → b ≡ true) → (b ≡ true → a ≡ true) → a ≡ b
bool_by true b f g = sym (f refl)
bool_by false true f g = g refl
bool_by false false f g = refl

same_depth : (a b k : ℤ) → int_eq (a +ℤ k) ((b +ℤ k) +ℤ pos 1) ≡ int_eq a (b +ℤ pos 1)
same_depth a b k = bool_by _ _
    (λ h. let e : (a +ℤ k) ≡ ((b +ℤ k) +ℤ pos 1) = (Decides-int_eq _ _).0 h in
    (Decides-int_eq a (b +ℤ pos 1)).1 (omega (arith, ints, e)))
    (λ h. let e : a ≡ (b +ℤ pos 1) = (Decides-int_eq _ _).0 h in
    (Decides-int_eq (a +ℤ k) ((b +ℤ k) +ℤ pos 1)).1 (omega (arith, ints, e)))

closes_by : (d k : ℤ) (r : Row) → closes (d +ℤ k) (deeper_by k r) ≡ closes d r
closes_by d k r = ap (λ b. is_null r.entry && b) (same_depth r.depth d k)

past_by : (d k : ℤ) (rows : List Row) → past_closer (d +ℤ k) (map (deeper_by k) rows)
    ≡ past_closer d rows
past_by d k [] = refl
past_by d k (r ∷ rest) = rw (closes_by d k r, past_by d k rest) refl

honest_by : (end : ℕ) (k : ℤ) (rows : List Row) → AreHonest end rows
    → AreHonest end (map (deeper_by k) rows)
honest_by end k [] h = tt
honest_by end k (r ∷ rest) h =
    (λ t to_sibling. past_by r.depth k rest ∙ h.0 t to_sibling, honest_by end k rest h.1)

-- rows that are honest are so from every depth
pub honest_from_depth : (next : View → Reads Entry) (end : ℕ) (v : View) (depth other : ℤ)
    → AreHonest end (ahead_at next end depth v).rows
    → AreHonest end (ahead_at next end other v).rows
honest_from_depth next end v depth other h =
    let there : depth +ℤ (other -ℤ depth) ≡ other = omega (arith, ints) in
    let rows = ap (λ d. (ahead_at next end d v).rows) (sym there)
    ∙ rows_by next end depth (other -ℤ depth) v in
    rw rows (honest_by end (other -ℤ depth) (ahead_at next end depth v).rows h)
