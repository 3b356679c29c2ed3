use Rattle.std.proofs.Common.{◌≡◌, w64, to_z, of_z}
use Rattle.std.proofs.lemmas.Int.{to_z-of_z}
use Rattle.gimli_units.specs.UnitHeld.{unit_view}
use Rattle.gimli_c.proofs.EntryFront.{idle_entries}
use Rattle.gimli_c.proofs.Memory.{bytes_fit, unit_takes}
use Rattle.gimli_c.proofs.entries.unit_entries.Goals as goal

pub fill_entries-requires : goal.fill_entries-requires
fill_entries-requires g c =
    let back : to_z w64 (of_z w64 c.args.depth) ≡ c.args.depth = to_z-of_z w64 _ c.ranges.depth in
    rw back (rw back at c.in-Ok.ensures.stands.fits)

pub returns-in-Ok-clause-outcome : goal.returns-in-Ok-clause-outcome
returns-in-Ok-clause-outcome g c = λ t opened.
    let back : to_z w64 (of_z w64 c.args.depth) ≡ c.args.depth = to_z-of_z w64 _ c.ranges.depth in
    rw (rw back at c.in-Ok.ensures.ahead t opened) (rw back at c.fill_entries.ensures.outcome)

pub returns-in-Ok-clause-row_memory : goal.returns-in-Ok-clause-row_memory
returns-in-Ok-clause-row_memory g c = λ t opened outcome.
    let p = g.T.ReadEntries.place c.in-Ok.entries in
    let is = rw c.in-Ok.ensures.opened at opened in
    let u = unit_view c.args.unit.now in
    let number = g.R.Offset.ReaderOffset.number c.args.offset in
    let fits = c.args.unit.now.entries_fit in
    (unit_takes u t number fits p is c.fill_entries.result.place.offset
    (c.fill_entries.ensures.row_memory (bytes_fit u t number fits p is) outcome)).1

pub returns-in-Err-clause-outcome : goal.returns-in-Err-clause-outcome
returns-in-Err-clause-outcome g c = λ t opened.
    let back : to_z w64 (of_z w64 c.args.depth) ≡ c.args.depth = to_z-of_z w64 _ c.ranges.depth in
    rw (c.no_entries.ensures, back)
    (idle_entries _ _ _ _ _ (rw back at c.in-Err.ensures.ahead t opened)
    c.in-Err.ensures.row_memory)

pub returns-in-Err-clause-row_memory : goal.returns-in-Err-clause-row_memory
returns-in-Err-clause-row_memory g c =
    rw c.no_entries.ensures (λ _ _ outcome. absurd (c.in-Err.ensures.row_memory outcome))
