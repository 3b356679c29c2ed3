use Rattle.gimli_lists.specs.Places.{answers_ahead}
use Rattle.gimli_lists.proofs.PlaceSteps.{first_answer, list_answers-listed}
use Rattle.gimli_lists.specs.RangeEntry.{range_grammar}
use Rattle.gimli_lists.specs.RangeReads.{range_grammar-takes}
use Rattle.gimli_lists.specs.Ranges.{resolved_of}
use Rattle.gimli_walk.proofs.RunSteps.{run-from_yields}
use Rattle.gimli_walk.proofs.ranges.run_ranges.Goals as goal

pub returns : goal.returns
returns g c =
    let limit = g.R.Offset.ReaderOffset.limit in
    let grammar = range_grammar limit in
    let listed = list_answers-listed grammar limit _ _ _ _ _ _ _ c.in_ok-ranges.ranges
    c.in_ok-ranges.ensures in
    let all = c.run_all.ensures in
    rw listed
    (run-from_yields _ _ (answers_ahead grammar limit)
    (first_answer grammar (range_grammar-takes limit) limit resolved_of) _ _ _ all.front all.fewer
    all.whole)
