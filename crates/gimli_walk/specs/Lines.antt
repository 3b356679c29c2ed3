-- The lines that a walk writes (DWARF 5, 2.3).
use Rattle.std.specs.Prelude.{◌≡◌, ℕ, Bool, true, false, ℤ, List, [], ◌∷◌, ◌++◌, codes, Option}
use Rattle.std.specs.List.{concat}
use Rattle.std.specs.Io.KnownBytes.{Appends}
use Rattle.std.specs.Fmt.{digits, signed_decimal, decimal}
use Rattle.gimli_base.specs.declared.error.Error.TheVariants.{OutOfMemory}
use Rattle.gimli_base.specs.Refusal.{number_of}

-- the lines of a walk, and the exit status
pub record Text : Type 0 where
  pub lines : List (List ℕ)
  pub status : ℕ

-- a number in hexadecimal, in lower case and without a prefix
abbrev pub hexadecimal : ℕ → List ℕ
hexadecimal n = digits 16 false n

abbrev pub bit : Bool → ℕ
bit true = 1
bit false = 0

-- offset, depth, tag, and whether children follow
unfoldable pub row_line : ℕ → ℤ → ℕ → Bool → List ℕ
row_line offset depth tag has_children =
    hexadecimal offset
    ++ (32
    ∷ (signed_decimal depth
    ++ (32 ∷ (hexadecimal tag ++ (32 ∷ (decimal (bit has_children) ++ 10 ∷ []))))))

abbrev pub end_line : List ℕ
end_line = codes "end\n"

abbrev pub no_unit_line : List ℕ
no_unit_line = codes "no unit\n"

-- a refusal, by its number
unfoldable pub error_line : ℕ → List ℕ
error_line number = codes "error " ++ (decimal number ++ (10 ∷ []))

-- a refusal at an offset of the unit
unfoldable pub error_line_at : ℕ → ℕ → List ℕ
error_line_at number offset =
    codes "error " ++ (decimal number ++ (32 ∷ (hexadecimal offset ++ (10 ∷ []))))

-- a unit: its offset, its version, and the number of its type
unfoldable pub unit_line : ℕ → ℕ → ℕ → List ℕ
unit_line offset version type_number =
    codes "unit "
    ++ (hexadecimal offset
    ++ (32 ∷ (decimal version ++ (32 ∷ (hexadecimal type_number ++ (10 ∷ []))))))

abbrev pub honest_line : List ℕ
honest_line = codes "honest\n"

-- an entry whose sibling reference is false
unfoldable pub false_line : ℕ → List ℕ
false_line offset = codes "false " ++ (hexadecimal offset ++ (10 ∷ []))

-- the line that ends a walk for want of memory
abbrev pub memory_line : List ℕ
memory_line = error_line (number_of OutOfMemory)

-- a text of one line
abbrev pub one_line : List ℕ → ℕ → Text
one_line line status = record { lines = line ∷ []; status = status }

-- what a run of these answers writes, whether it was stopped or not: their lines, with their
-- status, or those and the line that says so
abbrev pub WroteRun : Option (List ℕ) → Option (List ℕ) → Text → Bool → ℕ → Type 0
WroteRun old new text true status =
    Appends old new (concat text.lines ++ memory_line) × (status ≡ 1)
WroteRun old new text false status = Appends old new (concat text.lines) × (status ≡ text.status)
