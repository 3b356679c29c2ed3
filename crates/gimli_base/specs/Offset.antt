-- Numbers that are offsets of a reader: those below a limit, which the reader's type of offsets has
-- (DWARF 5, 7.4).
use Rattle.std.specs.Prelude.{ℕ, ◌+◌, ◌-◌, nat_lt, nat_le, if◌then◌else◌, Option, Some, None}
use Rattle.std.specs.Prelude.{Result, Ok, Err}
use Rattle.gimli_base.specs.declared.error.Error.{Error}
use Rattle.gimli_base.specs.declared.error.Error.TheVariants.{UnsupportedOffset}

-- this number as an offset, refused where it is not below the limit
abbrev pub offset_of : ℕ → ℕ → Result ℕ Error
offset_of limit n = if nat_lt n limit then Ok n else Err UnsupportedOffset

-- a sum, where it is an offset
abbrev pub sum_of : ℕ → ℕ → ℕ → Option ℕ
sum_of limit a b = if nat_lt (a + b) limit then Some (a + b) else None

-- a difference, where it is not below 0
abbrev pub difference_of : ℕ → ℕ → Option ℕ
difference_of a b = if nat_le b a then Some (a - b) else None

-- an answer, by what its value stands for
abbrev pub answer_of : {A B : Type 0} → (A → B) → Result A Error → Result B Error
answer_of f (Ok a) = Ok (f a)
answer_of f (Err e) = Err e
