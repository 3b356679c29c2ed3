-- Lines that were written, joined to those that are still to come.
use Rattle.std.proofs.Common.{◌≡◌, ℕ, ◌<◌, suc, List, [], ◌∷◌, sym, ◌++◌, Option, None, Some, refl}
use Rattle.std.proofs.Common.{ap, ◌∙◌, append_assoc, arith, length, subst, Result}
use Rattle.std.proofs.lemmas.List.{append-nil}
use Rattle.std.specs.Prelude.{take, IfOk}
use Rattle.std.specs.List.{concat}
use Rattle.std.specs.Io.KnownBytes.{Appends}
use Rattle.gimli_walk.specs.Lines.{Text, one_line, memory_line}
use Rattle.gimli_walk.specs.Text.{Wrote, all_lines, some_lines}

-- two writes are one
pub Appends-trans : (a b c : Option (List ℕ)) (xs ys : List ℕ) → Appends a b xs → Appends b c ys
    → Appends a c (xs ++ ys)
Appends-trans None b c xs ys h t = tt
Appends-trans (Some p) None c xs ys h t = absurd h
Appends-trans (Some p) (Some q) None xs ys h t = absurd t
Appends-trans (Some p) (Some q) (Some r) xs ys h t = t ∙ ap (λ z. z ++ ys) h ∙ append_assoc p xs ys

-- nothing is written
pub Appends-none : (a : Option (List ℕ)) → Appends a a []
Appends-none None = tt
Appends-none (Some p) = sym (append-nil p)

-- a line, and then all that follows it
pub Wrote-more : (a b c : Option (List ℕ)) (line : List ℕ) (lines : List (List ℕ))
    (status given : ℕ)
    → Appends a b line → Wrote b c (record { lines = lines; status = status }) given
    → Wrote a c (record { lines = line ∷ lines; status = status }) given
Wrote-more a b c line lines status given h (all_lines wrote is) =
    all_lines (Appends-trans a b c line (concat lines) h wrote) is
Wrote-more a b c line lines status given h (some_lines k below wrote is) =
    some_lines (suc k) (omega (arith, below))
    (rw (append_assoc line (concat (take k lines)) memory_line)
    (Appends-trans a b c line (concat (take k lines) ++ memory_line) h wrote)) is

-- the only line
pub Wrote-only : (a b : Option (List ℕ)) (line : List ℕ) (status : ℕ) → Appends a b line
    → Wrote a b (one_line line status) status
Wrote-only a b line status h = all_lines (rw append-nil h) refl

-- no line but that of refused memory
pub Wrote-memory : (a b : Option (List ℕ)) (text : Text) → 0 < length text.lines
    → Appends a b memory_line → Wrote a b text 1
Wrote-memory a b text some h = some_lines 0 some h refl

-- the same text
pub Wrote-same : (a b : Option (List ℕ)) (t u : Text) (status : ℕ) → t ≡ u → Wrote a b t status
    → Wrote a b u status
Wrote-same a b t u status e w = let P : Text → Type 0 = λ x. Wrote a b x status in subst P e w

pub Wrote-same_if : {E : Type 0} → (r : Result ℕ E) (a b : Option (List ℕ)) (t u : Text) → t ≡ u
    → IfOk r (λ status. Wrote a b t status) → IfOk r (λ status. Wrote a b u status)
Wrote-same_if r a b t u e w = let P : Text → Type 0 = λ x. IfOk r (λ status. Wrote a b x status) in
    subst P e w

-- what is written onto nothing, put after other bytes
pub Wrote-after : (old new : List ℕ) (t : Text) (status : ℕ) → Wrote (Some []) (Some new) t status
    → Wrote (Some old) (Some (old ++ new)) t status
Wrote-after old new t status (all_lines wrote is) = all_lines (ap (λ z. old ++ z) wrote) is
Wrote-after old new t status (some_lines k below wrote is) =
    some_lines k below (ap (λ z. old ++ z) wrote) is
