use Rattle.std.proofs.Common.{◌+◌, ◌-◌, ◌≡◌, ◌++◌, ◌^◌, ◌<◌, ◌≤◌, drop, false, length}
use Rattle.std.specs.Fmt.{digits}
use Rattle.gimli_walk.proofs.digits.put_decimal.Given as goal

abbrev pub invariant-decimals : goal.invariant-decimals
invariant-decimals l =
    (l.at ≤ l.end) × (l.end < l.at + 20) × (length l.line ≡ 48)
    × (l.rest < 10 ^ (l.at + 20 - l.end))
    × (digits 10 false l.rest ++ drop l.at l.line
    ≡ digits 10 false l.number ++ drop l.end l.fn.line)

abbrev pub decreases-decimals : goal.decreases-decimals
decreases-decimals l = l.rest
