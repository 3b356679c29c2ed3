use Rattle.gimli_lists.specs.Places.{answers_ahead}
use Rattle.gimli_lists.proofs.PlaceSteps.{first_answer, list_answers-listed}
use Rattle.gimli_lists.specs.LocationEntry.{location_grammar}
use Rattle.gimli_lists.specs.LocationReads.{location_grammar-takes}
use Rattle.gimli_lists.specs.Locations.{location_of}
use Rattle.gimli_walk.proofs.RunSteps.{run-from_yields}
use Rattle.gimli_walk.proofs.locations.run_locations.Goals as goal

pub returns : goal.returns
returns g c =
    let limit = g.R.Offset.ReaderOffset.limit in
    let grammar = location_grammar limit in
    let listed = list_answers-listed grammar limit _ _ _ _ _ _ _ c.in_ok-locations.locations
    c.in_ok-locations.ensures in
    let all = c.run_all.ensures in
    rw listed
    (run-from_yields _ _ (answers_ahead grammar limit)
    (first_answer grammar (location_grammar-takes limit) limit (location_of g.R.Reader.view)) _
    _ _ all.front all.fewer all.whole)
