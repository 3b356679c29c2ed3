use Rattle.std.proofs.Common.{arith, length, ap}
use Rattle.gimli_base.specs.View.{View}
use Rattle.gimli_base.proofs.Later.{IsLater-length}
use Rattle.gimli_units.specs.RawPlace.{RawPlace}
use Rattle.gimli_units.proofs.EntryReads.{abbreviation_at-later}
use Rattle.gimli_units.proofs.raw.EntriesRaw.read_abbreviation.Goals as goal

pub go_past_null-requires : goal.go_past_null-requires
go_past_null-requires g c =
    let shorter = IsLater-length 1 _ _
    (abbreviation_at-later _ _ _ _ c.in_ok-abbreviation.ensures) in
    let same = ap (λ (v : View). length v.bytes) c.copy-rest.ensures in
    let left = ap (λ (p : RawPlace). length p.rest.bytes) c.self.view_is in
    omega (arith, shorter, same, left)

pub go_past_entry-requires : goal.go_past_entry-requires
go_past_entry-requires g c =
    let shorter = IsLater-length 1 _ _
    (abbreviation_at-later _ _ _ _ c.in_ok-abbreviation.ensures) in
    let same = ap (λ (v : View). length v.bytes) c.copy-rest.ensures in
    let left = ap (λ (p : RawPlace). length p.rest.bytes) c.self.view_is in
    omega (arith, shorter, same, left)
