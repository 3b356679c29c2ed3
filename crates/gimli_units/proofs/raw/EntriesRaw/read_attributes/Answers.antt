use Rattle.std.proofs.Common.{arith, ap, length}
use Rattle.gimli_base.specs.View.{View}
use Rattle.gimli_base.proofs.Later.{IsLater-length}
use Rattle.gimli_units.proofs.EntryReads.{attributes_at-later}
use Rattle.gimli_units.proofs.raw.EntriesRaw.read_attributes.Goals as goal

pub invariant_of-self : goal.invariant_of-self
invariant_of-self g c =
    let later = IsLater-length 0 _ _ (attributes_at-later _ _ _ _ _ _ c.in-Ok.ensures.value) in
    let same = ap (λ (v : View). length v.bytes) c.copy-rest.ensures in
    (omega (arith, later, same), omega (arith, later, same))
