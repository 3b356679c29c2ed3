-- Lines that may end before their last one, joined to those that are still to come.
use Rattle.std.proofs.Common.{◌≡◌, ℕ, ◌<◌, suc, List, ◌∷◌, Option, refl, arith, length, subst}
use Rattle.std.proofs.Common.{Result, Ok, Err}
use Rattle.std.proofs.lemmas.List.{append-nil}
use Rattle.std.specs.Prelude.{take}
use Rattle.std.specs.List.{concat}
use Rattle.std.specs.Io.KnownBytes.{Appends}
use Rattle.gimli_walk.specs.declared.lines.Stop.{Stop}
use Rattle.gimli_walk.specs.declared.lines.Stop.TheVariants.{Memory, Write}
use Rattle.gimli_walk.specs.Lines.{Text, one_line, memory_line}
use Rattle.gimli_walk.specs.Text.{Wrote, some_lines}
use Rattle.gimli_walk.specs.Stops.{WroteFront, WroteUntil}
use Rattle.gimli_walk.proofs.WrittenLines.{Appends-trans, Appends-none}

-- the only line
pub until_only : (a b : Option (List ℕ)) (line : List ℕ) (status : ℕ) → Appends a b line
    → WroteUntil a b (one_line line status) (Ok status)
until_only a b line status h = record { lines = rw append-nil h; same_status = refl }

-- no line
pub front_none : (a : Option (List ℕ)) (text : Text) → 0 < length text.lines → WroteFront a a text
front_none a text some = record { count = 0; fewer = some; lines = Appends-none a }

-- a line, and then all that follows it
pub until_more : (a b c : Option (List ℕ)) (line : List ℕ) (lines : List (List ℕ)) (status : ℕ)
    (r : Result ℕ Stop)
    → Appends a b line → WroteUntil b c (record { lines = lines; status = status }) r
    → WroteUntil a c (record { lines = line ∷ lines; status = status }) r
until_more a b c line lines status (Ok given) h wrote =
    record {
      lines = Appends-trans a b c line (concat lines) h wrote.lines;
      same_status = wrote.same_status;
    }
until_more a b c line lines status (Err Memory) h wrote =
    record {
      count = suc wrote.count;
      fewer = let k = wrote.fewer in
          omega (arith, k);
      lines =
          Appends-trans a b c line (concat (take wrote.count lines)) h wrote.lines;
    }
until_more a b c line lines status (Err Write) h wrote = tt

-- the same text
pub until_same : (a b : Option (List ℕ)) (t u : Text) (r : Result ℕ Stop) → t ≡ u
    → WroteUntil a b t r → WroteUntil a b u r
until_same a b t u r e w = let P : Text → Type 0 = λ x. WroteUntil a b x r in subst P e w

-- after lines that were stopped for memory comes the line that says so
pub front_ends : (a b c : Option (List ℕ)) (text : Text) → WroteFront a b text
    → Appends b c memory_line → Wrote a c text 1
front_ends a b c text front h =
    some_lines front.count front.fewer
    (Appends-trans a b c (concat (take front.count text.lines)) memory_line front.lines h) refl
