use Rattle.std.proofs.Common.{arith, length, ap, rules}
use Rattle.gimli_base.specs.View.{View}
use Rattle.gimli_base.proofs.Later.{IsLater-length, made_leaves_later}
use Rattle.gimli_units.specs.RawPlace.{RawPlace}
use Rattle.gimli_units.proofs.EntryReads.{abbreviation_at-later, attributes_at-later}
use Rattle.gimli_units.proofs.HeadReads.{declared_here}
use Rattle.gimli_units.proofs.raw.EntriesRaw.read_head.Goals as goal

pub go_past_null-requires : goal.go_past_null-requires
go_past_null-requires g c =
    let shorter = IsLater-length 1 _ _
    (abbreviation_at-later _ _ _ _ c.in_ok-declared.ensures) in
    let same = ap (λ (v : View). length v.bytes) c.copy-rest.ensures in
    let left = ap (λ (p : RawPlace). length p.rest.bytes) c.self.view_is in
    omega (arith, shorter, same, left)

pub go_past_entry-requires : goal.go_past_entry-requires
go_past_entry-requires g c =
    let shorter = IsLater-length 1 _ _
    (abbreviation_at-later _ _ _ _ c.in_ok-declared.ensures) in
    let passed = IsLater-length 0 _ _
    (made_leaves_later 0 _ (λ _. tt) _ (attributes_at-later _ _ _ _) _ _
    c.in_ok-pass_declared.ensures) in
    let same = ap (λ (v : View). length v.bytes) c.copy-rest.ensures in
    let left = ap (λ (p : RawPlace). length p.rest.bytes) c.self.view_is in
    omega (arith, shorter, passed, same, left)

pub returns-in_default-clause-declared : goal.returns-in_default-clause-declared
returns-in_default-clause-declared g c =
    let there = declared_here _ _ _ _ c.in_ok-declared.ensures in
    search rules

pub returns-clause-declared : goal.returns-clause-declared
returns-clause-declared g c =
    let there = declared_here _ _ _ _ c.in_ok-declared.ensures in
    search rules
