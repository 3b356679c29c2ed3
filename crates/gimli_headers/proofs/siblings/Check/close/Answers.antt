use Rattle.std.proofs.Common.{◌≡◌, ◌-◌, ℤ, pos, ◌+ℤ◌, None, sym, ap, ◌∙◌, take, length, rules}
use Rattle.std.proofs.Common.{arith, w64, FitsSigned, to_z, of_z}
use Rattle.std.specs.Prelude.{◌≤ℤ◌, slice_get}
use Rattle.std.proofs.lemmas.Int.{ints, to_z-of_z}
use Rattle.gimli_headers.proofs.Innermost.{innermost_less, none_rise, other_rise, closed_rise}
use Rattle.gimli_headers.proofs.Innermost.{stays, closes_well, closes_badly}
use Rattle.gimli_headers.proofs.siblings.Check.close.Goals as goal

deep_is : (d depth : ℤ) → FitsSigned w64 d → FitsSigned w64 depth → (d +ℤ pos 1) ≤ℤ depth
    → of_z w64 (to_z w64 (of_z w64 d) +ℤ pos 1) ≡ of_z w64 depth → (d +ℤ pos 1) ≡ depth
deep_is d depth fits range less same =
    let one : FitsSigned w64 (d +ℤ pos 1) = omega (arith, ints, less, fits, range) in
    sym (to_z-of_z w64 (d +ℤ pos 1) one) ∙ ap (to_z w64) (rw (to_z-of_z w64 d fits) at same)
    ∙ to_z-of_z w64 depth range

pub overflow_add-entry : goal.overflow_add-entry
overflow_add-entry g c =
    let e = c.in-Some.entry.now in
    let fits : FitsSigned w64 e.depth = search rules in
    let back : to_z w64 (of_z w64 e.depth) ≡ e.depth = to_z-of_z w64 e.depth fits in
    let range : FitsSigned w64 c.args.depth = c.ranges.depth in
    let less : (e.depth +ℤ pos 1)
    ≤ℤ c.args.depth = innermost_less g.Offset.ReaderOffset.number c.args.depth
    c.args.self.now.open.items c.requires e
    (sym (rw c.deref.ensures.value at c.in-Some.ensures.value)) in
    rw back (omega (arith, ints, less, fits, range))

pub returns-in_default-clause-judged : goal.returns-in_default-clause-judged
returns-in_default-clause-judged g c = λ end r rest null at after.
    let items = c.args.self.now.open.items in
    let there : slice_get items (length items - 1)
    ≡ None = sym (rw (c.deref.ensures.value, c.in_default.is) at c.last.ensures.value) in
    stays g.Offset.ReaderOffset.number c.args.depth items c.requires end _ r rest null at
    (none_rise g.Offset.ReaderOffset.number c.args.depth items c.requires there)

pub returns-in_default-clause-rise : goal.returns-in_default-clause-rise
returns-in_default-clause-rise g c =
    let items = c.args.self.now.open.items in
    let there : slice_get items (length items - 1)
    ≡ None = sym (rw (c.deref.ensures.value, c.in_default.is) at c.last.ensures.value) in
    none_rise g.Offset.ReaderOffset.number c.args.depth items c.requires there

pub returns-then-entry-depth-clause-rise : goal.returns-then-entry-depth-clause-rise
returns-then-entry-depth-clause-rise g c =
    let e = c.in-Some.entry.now in
    let items = c.args.self.now.open.items in
    let there = sym (rw c.deref.ensures.value at c.in-Some.ensures.value) in
    let other : (e.depth +ℤ pos 1) ≡ c.args.depth → ⊥ = search rules in
    other_rise g.Offset.ReaderOffset.number c.args.depth items c.requires e there other

pub returns-then-entry-depth-clause-judged : goal.returns-then-entry-depth-clause-judged
returns-then-entry-depth-clause-judged g c = λ end r rest null at after.
    let e = c.in-Some.entry.now in
    let items = c.args.self.now.open.items in
    let there = sym (rw c.deref.ensures.value at c.in-Some.ensures.value) in
    let other : (e.depth +ℤ pos 1) ≡ c.args.depth → ⊥ = search rules in
    stays g.Offset.ReaderOffset.number c.args.depth items c.requires end _ r rest null at
    (other_rise g.Offset.ReaderOffset.number c.args.depth items c.requires e there other)

pub returns-then-well-clause-rise : goal.returns-then-well-clause-rise
returns-then-well-clause-rise g c =
    let e = c.in-Some.entry.now in
    let items = c.args.self.now.open.items in
    let there = sym (rw c.deref.ensures.value at c.in-Some.ensures.value) in
    let fits : FitsSigned w64 e.depth = search rules in
    let less = innermost_less g.Offset.ReaderOffset.number c.args.depth items c.requires e there in
    let deep : (e.depth +ℤ pos 1)
    ≡ c.args.depth = deep_is e.depth c.args.depth fits c.ranges.depth less
    c.if-entry-depth.false in
    let left : c.pop.new.self.items
    ≡ take (length items - 1) items =
    rw (← c.deref.ensures.len, c.deref.ensures.value) at c.pop.ensures.rest in
    closed_rise g.Offset.ReaderOffset.number c.args.depth items c.requires e c.pop.new.self.items
    there deep left

pub returns-then-well-clause-judged : goal.returns-then-well-clause-judged
returns-then-well-clause-judged g c = λ end r rest null at after.
    let e = c.in-Some.entry.now in
    let items = c.args.self.now.open.items in
    let there = sym (rw c.deref.ensures.value at c.in-Some.ensures.value) in
    let fits : FitsSigned w64 e.depth = search rules in
    let less = innermost_less g.Offset.ReaderOffset.number c.args.depth items c.requires e there in
    let deep : (e.depth +ℤ pos 1)
    ≡ c.args.depth = deep_is e.depth c.args.depth fits c.ranges.depth less
    c.if-entry-depth.false in
    let left : c.pop.new.self.items
    ≡ take (length items - 1) items =
    rw (← c.deref.ensures.len, c.deref.ensures.value) at c.pop.ensures.rest in
    let well : g.Offset.ReaderOffset.number e.target.0
    ≡ r.next = sym c.into_u64.ensures.value ∙ c.if-well.true ∙ c.into_u64-2.ensures.value
    ∙ sym after in
    closes_well g.Offset.ReaderOffset.number c.args.depth items c.requires end _ r rest null at e
    c.pop.new.self.items there deep left well

pub returns-clause-rise : goal.returns-clause-rise
returns-clause-rise g c =
    let e = c.in-Some.entry.now in
    let items = c.args.self.now.open.items in
    let there = sym (rw c.deref.ensures.value at c.in-Some.ensures.value) in
    let fits : FitsSigned w64 e.depth = search rules in
    let less = innermost_less g.Offset.ReaderOffset.number c.args.depth items c.requires e there in
    let deep : (e.depth +ℤ pos 1)
    ≡ c.args.depth = deep_is e.depth c.args.depth fits c.ranges.depth less
    c.if-entry-depth.false in
    let left : c.pop.new.self.items
    ≡ take (length items - 1) items =
    rw (← c.deref.ensures.len, c.deref.ensures.value) at c.pop.ensures.rest in
    closed_rise g.Offset.ReaderOffset.number c.args.depth items c.requires e c.pop.new.self.items
    there deep left

pub returns-clause-judged : goal.returns-clause-judged
returns-clause-judged g c = λ end r rest null at after.
    let e = c.in-Some.entry.now in
    let items = c.args.self.now.open.items in
    let there = sym (rw c.deref.ensures.value at c.in-Some.ensures.value) in
    let fits : FitsSigned w64 e.depth = search rules in
    let less = innermost_less g.Offset.ReaderOffset.number c.args.depth items c.requires e there in
    let deep : (e.depth +ℤ pos 1)
    ≡ c.args.depth = deep_is e.depth c.args.depth fits c.ranges.depth less
    c.if-entry-depth.false in
    let left : c.pop.new.self.items
    ≡ take (length items - 1) items =
    rw (← c.deref.ensures.len, c.deref.ensures.value) at c.pop.ensures.rest in
    let badly : g.Offset.ReaderOffset.number e.target.0 ≡ r.next
    → ⊥ = λ same. c.if-well.false
    (c.into_u64.ensures.value ∙ same ∙ after ∙ sym c.into_u64-2.ensures.value) in
    closes_badly g.Offset.ReaderOffset.number c.args.depth items c.requires end _ r rest null at e
    c.pop.new.self.items there deep left badly
