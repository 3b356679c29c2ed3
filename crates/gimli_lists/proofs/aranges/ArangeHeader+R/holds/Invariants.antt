use Rattle.std.proofs.Common.{◌≡◌, length}
use Rattle.gimli_lists.proofs.Held.{ahead_holds}
use Rattle.gimli_lists.proofs.aranges.ArangeHeader+R.holds.Given as goal

-- a tuple of the set holds the address where one that is left does
abbrev pub invariant-entries : goal.invariant-entries
invariant-entries g l = ahead_holds l.address l.initial.entries ≡ ahead_holds l.address l.entries

abbrev pub decreases-entries : goal.decreases-entries
decreases-entries g l = length l.entries.rest.bytes
