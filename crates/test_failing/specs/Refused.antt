-- Which of an allocator's requests are refused, counted from 1 on.
use Rattle.std.specs.Prelude.{ℕ, ◌==◌, nat_le, Bool, false}
use Rattle.test_failing.specs.declared.Refusal.{Refusal}
use Rattle.test_failing.specs.declared.Refusal.TheVariants.{Never, Nth, From}

-- whether the request of a number is refused
abbrev pub is_refused : Refusal → ℕ → Bool
is_refused Never number = false
is_refused (Nth refused) number = number == refused
is_refused (From first) number = nat_le first number
