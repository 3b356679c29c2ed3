use Rattle.std.proofs.Common.{◌≡◌}
use Rattle.gimli_units.proofs.SizedReads.{offset_is}
use Rattle.gimli_units.proofs.SumReads.{skipped_there}
use Rattle.gimli_units.proofs.pass.pass_bytes.Goals as goal

pub returns-in-Ok : goal.returns-in-Ok
returns-in-Ok g c =
    let n = g.R.Offset.ReaderOffset.number in
    let same : n c.in-Ok.size ≡ c.args.size = offset_is _ _ _ c.in-Ok.ensures in
    skipped_there c.skip.result (g.R.Reader.view c.skip.new.self) (g.R.Reader.view c.args.input.now)
    c.args.size (rw same at c.skip.ensures.value) c.requires
