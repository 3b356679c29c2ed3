use Rattle.std.proofs.Common.{length, ◌-◌}
use Rattle.gimli_c.proofs.EntryFront.{EntryFront}
use Rattle.gimli_c.proofs.entries.fill_entries.Given as goal

abbrev pub invariant-rows : goal.invariant-rows
invariant-rows g l =
    let start = g.T.ReadEntries.place l.initial.entries in
    let now = g.T.ReadEntries.place l.entries in
    EntryFront g.R.Offset.ReaderOffset.limit l.fn.base start now l.initial.rows l.rows
    l.initial.attrs l.attrs l.count l.used

abbrev pub decreases-rows : goal.decreases-rows
decreases-rows g l = length l.initial.rows - l.count
