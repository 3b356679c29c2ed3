use Rattle.std.proofs.Common.{◌≡◌, ◌∙◌, Err, sym, rules}
use Rattle.gimli_units.proofs.Bounds.{begins_at, memory_at, depth_at, some_read, null_read}
use Rattle.gimli_units.proofs.Bounds.{none_read}
use Rattle.gimli_units.proofs.header.UnitHeader+R.entry.Goals as goal

pub returns-in_err-read_entry-clause-value : goal.returns-in_err-read_entry-clause-value
returns-in_err-read_entry-clause-value g c =
    let r : c.from_residual-in_err-read_entry.result
    ≡ Err c.in_err-read_entry.field-0.0 = search rules in
    rw r (λ h. none_read _ _ _ _ _ c.in_ok-entries.ensures _ (c.in_err-read_entry.ensures.value h))

pub returns-in_err-read_entry-clause-without_memory : goal.returns-in_err-read_entry-clause-without_memory
returns-in_err-read_entry-clause-without_memory g c =
    let r : c.from_residual-in_err-read_entry.result
    ≡ Err c.in_err-read_entry.field-0.0 = search rules in
    rw r
    (λ m. none_read _ _ _ _ _ c.in_ok-entries.ensures _
    (c.in_err-read_entry.ensures.without_memory
    (sym (memory_at _ _ _ _ c.in_ok-entries.ensures) ∙ m)))

pub returns-then-branch-clause-value : goal.returns-then-branch-clause-value
returns-then-branch-clause-value g c =
    some_read _ _ _ _ _ c.in_ok-entries.ensures _ _ _ c.in_ok-read_entry.ensures.some
    c.if-branch.true c.in_ok-read_entry.ensures.value

pub returns-then-branch-clause-without_memory : goal.returns-then-branch-clause-without_memory
returns-then-branch-clause-without_memory g c _ =
    some_read _ _ _ _ _ c.in_ok-entries.ensures _ _ _ c.in_ok-read_entry.ensures.some
    c.if-branch.true c.in_ok-read_entry.ensures.value

pub returns-then-branch-clause-offset : goal.returns-then-branch-clause-offset
returns-then-branch-clause-offset g c =
    let start = begins_at _ _ _ _ c.args.self.now.entries_fit c.in_ok-entries.ensures in
    c.read_entry.ensures.offset ∙ start

pub returns-then-branch-clause-depth : goal.returns-then-branch-clause-depth
returns-then-branch-clause-depth g c =
    c.read_entry.ensures.entry_depth ∙ depth_at _ _ _ _ c.in_ok-entries.ensures

pub returns-else-branch-clause-value : goal.returns-else-branch-clause-value
returns-else-branch-clause-value g c =
    rw c.into_u64.ensures.value
    (λ _. null_read _ _ _ _ _ c.in_ok-entries.ensures _ _ _ c.in_ok-read_entry.ensures.some
    c.if-branch.false c.in_ok-read_entry.ensures.value)

pub returns-else-branch-clause-without_memory : goal.returns-else-branch-clause-without_memory
returns-else-branch-clause-without_memory g c =
    rw c.into_u64.ensures.value
    (λ _. null_read _ _ _ _ _ c.in_ok-entries.ensures _ _ _ c.in_ok-read_entry.ensures.some
    c.if-branch.false c.in_ok-read_entry.ensures.value)
