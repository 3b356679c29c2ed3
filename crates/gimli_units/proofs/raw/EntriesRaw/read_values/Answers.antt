use Rattle.std.proofs.Common.{arith, length, ap}
use Rattle.gimli_base.specs.View.{View}
use Rattle.gimli_base.proofs.Later.{IsLater-length}
use Rattle.gimli_units.proofs.EntryReads.{attributes_at-later}
use Rattle.gimli_units.specs.RawPlace.{RawPlace}
use Rattle.gimli_units.proofs.raw.EntriesRaw.read_values.Goals as goal

pub go_past_entry-requires : goal.go_past_entry-requires
go_past_entry-requires g c =
    let same = ap (λ (v : View). length v.bytes) c.copy-rest.ensures in
    let later = IsLater-length 0 _ _
    (attributes_at-later _ _ _ _ _ _ c.in_ok-parse_attributes.ensures.value) in
    let left = ap (λ (p : RawPlace). length p.rest.bytes) c.self.view_is in
    omega (arith, same, left, later, c.requires.shorter)
