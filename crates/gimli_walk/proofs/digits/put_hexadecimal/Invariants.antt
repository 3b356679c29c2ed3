use Rattle.std.proofs.Common.{◌+◌, ◌-◌, ◌≡◌, ◌++◌, ◌^◌, ◌<◌, ◌≤◌, drop, false, length}
use Rattle.std.specs.Fmt.{digits}
use Rattle.gimli_walk.proofs.digits.put_hexadecimal.Given as goal

abbrev pub invariant-pairs : goal.invariant-pairs
invariant-pairs l =
    (l.at ≤ l.end) × (l.end < l.at + 16) × (length l.line ≡ 48)
    × (l.rest < 16 ^ (l.at + 16 - l.end))
    × (digits 16 false l.rest ++ drop l.at l.line
    ≡ digits 16 false l.number ++ drop l.end l.fn.line)

abbrev pub decreases-pairs : goal.decreases-pairs
decreases-pairs l = l.rest
