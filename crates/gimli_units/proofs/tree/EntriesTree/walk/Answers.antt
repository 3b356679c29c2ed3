use Rattle.gimli_units.proofs.tree.EntriesTree.walk.Goals as goal

pub invariant_of-result : goal.invariant_of-result
invariant_of-result g c =
    rw c.new.ensures.items
    (record { tree = c.next_depth.ensures.tree; shallow = tt; node = λ k. absurd (cc) })
