use Rattle.gimli_units.specs.UnitHeld.{unit_view}
use Rattle.gimli_walk.proofs.StoppedLines.{until_same}
use Rattle.gimli_walk.proofs.Roots.{root_text, root_refused}
use Rattle.gimli_walk.proofs.rows.write_rows.Goals as goal

pub returns-in-Ok-clause-text : goal.returns-in-Ok-clause-text
returns-in-Ok-clause-text g c =
    until_same _ _ _ _ c.write_rows_left.result
    (root_text g.R.Offset.ReaderOffset.limit (unit_view c.args.unit.now)
    c.args.abbreviations.now c.in-Ok.entries c.in-Ok.ensures) c.write_rows_left.ensures.text

pub returns-in_ok-write_end-in-Err-clause-text : goal.returns-in_ok-write_end-in-Err-clause-text
returns-in_ok-write_end-in-Err-clause-text g c =
    root_refused g.R.Offset.ReaderOffset.limit (unit_view c.args.unit.now) c.args.abbreviations.now
    (g.W.Write.contents c.args.out.now) (g.W.Write.contents c.write_end.new.out) _
    c.in-Err.ensures c.in_ok-write_end-in-Err.ensures
