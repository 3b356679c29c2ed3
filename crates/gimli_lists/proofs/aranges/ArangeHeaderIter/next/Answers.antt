use Rattle.std.proofs.Common.{rules, ◌≡◌, ◌∙◌, ◌++◌, Ok, None, sym, ap}
use Rattle.std.specs.Option.{option_to_list, option_transpose}
use Rattle.gimli_lists.specs.ArangeSets.{SetsPlace, next_set, sets_ahead}
use Rattle.gimli_lists.proofs.SetSteps.{ahead_next, ahead_none}
use Rattle.gimli_lists.proofs.aranges.ArangeHeaderIter.next.Goals as goal

pub returns-clause-ahead : goal.returns-clause-ahead
returns-clause-ahead g c =
    let limit = g.R.Offset.ReaderOffset.limit in
    let place : SetsPlace =
    record {
      rest = g.R.Reader.view c.next_header.new.input;
      offset = g.R.Offset.ReaderOffset.number c.next_header.new.offset.0;
    } in
    let left : place ≡ (next_set limit c.args.self.now).1 = search rules in
    ahead_next limit c.args.self.now
    ∙ ap (λ p. option_to_list (next_set limit c.args.self.now).0 ++ sets_ahead limit p)
    (sym left)

pub returns-clause-ended : goal.returns-clause-ended
returns-clause-ended g c none =
    let limit = g.R.Offset.ReaderOffset.limit in
    let no : Ok None ≡ option_transpose (next_set limit c.args.self.now).0 = search rules in
    ahead_none limit c.args.self.now no
