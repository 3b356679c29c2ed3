use Rattle.std.proofs.Common.{◌≡◌, w64, to_z, of_z}
use Rattle.std.proofs.lemmas.Int.{to_z-of_z}
use Rattle.std.specs.Prelude.{IfOk}
use Rattle.gimli_c.specs.Fronts.{ahead_of, Filled}
use Rattle.gimli_c.proofs.Bounds.{idle_rows, outcome_any}
use Rattle.gimli_c.proofs.rows.unit_rows.Goals as goal

pub fill_rows-requires-clause-fits : goal.fill_rows-requires-clause-fits
fill_rows-requires-clause-fits g c =
    let back : to_z w64 (of_z w64 c.args.depth) ≡ c.args.depth = to_z-of_z w64 _ c.ranges.depth in
    rw back (rw back at c.in-Ok.ensures.stands.fits)

pub returns-in-Ok-clause-outcome : goal.returns-in-Ok-clause-outcome
returns-in-Ok-clause-outcome g c = λ t opened.
    let back : to_z w64 (of_z w64 c.args.depth) ≡ c.args.depth = to_z-of_z w64 _ c.ranges.depth in
    let filled : IfOk c.args.opened g.T.ReadEntries.has_steps
    → Filled (ahead_of g.R.Offset.ReaderOffset.limit c.args.depth
    (g.T.ReadEntries.place c.in-Ok.entries)) c.args.rows.now c.fill_rows.result.place
    c.fill_rows.new.rows c.fill_rows.result.count c.fill_rows.result.status =
    λ given. rw back at (c.fill_rows.ensures.outcome (rw c.in-Ok.ensures.opened at given)) in
    rw (rw back at c.in-Ok.ensures.ahead t opened) filled

pub returns-in-Ok-clause-further : goal.returns-in-Ok-clause-further
returns-in-Ok-clause-further g c =
    rw (c.in-Ok.ensures.stands.offset) at c.fill_rows.ensures.further

pub returns-in-Err-clause-outcome : goal.returns-in-Err-clause-outcome
returns-in-Err-clause-outcome g c = λ t opened.
    let back : to_z w64 (of_z w64 c.args.depth) ≡ c.args.depth = to_z-of_z w64 _ c.ranges.depth in
    rw (c.no_rows.ensures, back)
    (outcome_any _ _ _ _ _ _ _ _ (idle_rows _ _ _ _
    (rw back at c.in-Err.ensures.ahead t opened)))
