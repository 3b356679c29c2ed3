use Rattle.std.proofs.Common.{◌≡◌, length}
use Rattle.gimli_units.proofs.CursorSteps.{did_read, did_refuse, sound_read}
use Rattle.gimli_units.proofs.cursor.EntriesCursor.read_next.Goals as goal

pub returns-in-Ok-clause-read : goal.returns-in-Ok-clause-read
returns-in-Ok-clause-read g c =
    let o = c.in-Ok.ensures in
    let some : length c.self.inside.raw.rest.bytes ≡ 0 → ⊥ = λ none.
    let t = c.is_empty.ensures.1 none in cc in
    rw (← c.self.view_is)
    (did_read g.R.Offset.ReaderOffset.limit _ c.read_entry.new.self _ _
    c.read_entry.new.entry.depth some o.value o.advances.same o.advances.depth o.offset o.entry_depth)

pub returns-in-Err-clause-read : goal.returns-in-Err-clause-read
returns-in-Err-clause-read g c =
    let o = c.in-Err.ensures in
    let some : length c.self.inside.raw.rest.bytes ≡ 0 → ⊥ = λ none.
    let t = c.is_empty.ensures.1 none in cc in
    rw (← c.self.view_is)
    (did_refuse g.R.Offset.ReaderOffset.limit _ c.empty.new.self c.read_entry.new.self
    c.in-Err.error _ _ c.read_entry.new.entry.depth some o.value o.without_memory
    c.empty.ensures o.advances.kept o.null o.offset o.entry_depth)

pub invariant_of-self-in-Ok : goal.invariant_of-self-in-Ok
invariant_of-self-in-Ok g c =
    let o = c.in-Ok.ensures in
    let some : length c.self.inside.raw.rest.bytes ≡ 0 → ⊥ = λ none.
    let t = c.is_empty.ensures.1 none in cc in
    sound_read g.R.Offset.ReaderOffset.limit _ _ _ c.self.invariant
    (did_read g.R.Offset.ReaderOffset.limit _ c.read_entry.new.self _ _ c.read_entry.new.entry.depth
    some o.value o.advances.same o.advances.depth o.offset o.entry_depth)

pub invariant_of-self-in-Err : goal.invariant_of-self-in-Err
invariant_of-self-in-Err g c =
    let o = c.in-Err.ensures in
    let some : length c.self.inside.raw.rest.bytes ≡ 0 → ⊥ = λ none.
    let t = c.is_empty.ensures.1 none in cc in
    sound_read g.R.Offset.ReaderOffset.limit _ _ _ c.self.invariant
    (did_refuse g.R.Offset.ReaderOffset.limit _ c.empty.new.self c.read_entry.new.self
    c.in-Err.error _ _ c.read_entry.new.entry.depth some o.value o.without_memory
    c.empty.ensures o.advances.kept o.null o.offset o.entry_depth)
