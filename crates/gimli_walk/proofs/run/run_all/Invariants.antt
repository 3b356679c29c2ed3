use Rattle.std.proofs.Common.{◌≡◌}
use Rattle.gimli_walk.proofs.run.run_all.Given as goal

-- the answers are the items that were yielded
abbrev pub invariant-items : goal.invariant-items
invariant-items g l = l.answers.items ≡ l.yielded
