use Rattle.std.proofs.Common.{arith}
use Rattle.gimli_base.proofs.Later.{IsLater-length, made_leaves_later}
use Rattle.gimli_units.specs.Kind.{sibling_of}
use Rattle.gimli_units.proofs.EntryReads.{attributes_at-later}
use Rattle.gimli_units.proofs.raw.EntriesRaw.pass_values.Goals as goal

pub go_past_entry-requires : goal.go_past_entry-requires
go_past_entry-requires g c =
    let passed = IsLater-length 0 _ _
    (made_leaves_later 0 _ sibling_of _ (attributes_at-later _ _ _ _) _ _
    c.in_ok-sibling.ensures) in
    omega (arith, passed, c.requires.shorter)

pub go_past_entry-requires-2 : goal.go_past_entry-requires-2
go_past_entry-requires-2 g c =
    let passed = IsLater-length 0 _ _
    (made_leaves_later 0 _ (λ _. tt) _ (attributes_at-later _ _ _ _) _ _
    c.in_ok-pass_declared.ensures) in
    omega (arith, passed, c.requires.shorter)
