use Rattle.gimli_base.specs.declared.common.SectionId.TheVariants.{DebugInfo as InfoSection}
use Rattle.gimli_headers.proofs.UnitSteps.{answers_ahead, first_answer}
use Rattle.gimli_walk.proofs.RunSteps.{run-from_yields}
use Rattle.gimli_walk.proofs.run.run_units.Goals as goal

pub returns : goal.returns
returns g c =
    let limit = g.R.Offset.ReaderOffset.limit in
    let all = c.run_all.ensures in
    let run = run-from_yields _ _ (answers_ahead limit InfoSection)
    (first_answer limit InfoSection _) _ _ _ all.front all.fewer all.whole in
    rw c.units.ensures.begin at run
