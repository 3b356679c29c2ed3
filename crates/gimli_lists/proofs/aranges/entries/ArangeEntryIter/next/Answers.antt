use Rattle.std.proofs.Common.{◌≡◌, ◌∙◌, ◌++◌, sym, ap}
use Rattle.std.specs.Option.{option_to_list}
use Rattle.gimli_base.specs.View.{View}
use Rattle.gimli_lists.specs.Aranges.{ArangesPlace, answer_to, first_of_tuples, aranges_of}
use Rattle.gimli_lists.proofs.ArangeSteps.{ahead_none}
use Rattle.gimli_lists.proofs.TupleSteps.{some_bytes, made_of-first}
use Rattle.gimli_lists.proofs.aranges.entries.ArangeEntryIter.next.Goals as goal

pub returns-clause-ahead : goal.returns-clause-ahead
returns-clause-ahead g c =
    let z = c.self.inside.encoding.address_size in
    let v = g.R.Reader.view c.self.inside.input in
    let rest = g.R.Reader.view c.next_range.new.input in
    let place : ArangesPlace = record { rest = v; encoding = c.self.inside.encoding } in
    let is : place ≡ c.args.self.now = c.self.view_is in
    sym (ap (λ (p : ArangesPlace). aranges_of p.encoding.address_size p.rest) is)
    ∙ made_of-first z (some_bytes z c.self.invariant) (answer_to z) v
    ∙ sym
    (ap (λ (u : View). option_to_list (first_of_tuples (answer_to z) z v).0 ++ aranges_of z u)
    c.next_range.ensures.left)
    ∙ ap
    (λ (p : ArangesPlace).
    option_to_list
    (first_of_tuples (answer_to p.encoding.address_size) p.encoding.address_size p.rest).0
    ++ aranges_of z rest) is

pub returns-clause-ended : goal.returns-clause-ended
returns-clause-ended g c none =
    let z = c.self.inside.encoding.address_size in
    let v = g.R.Reader.view c.self.inside.input in
    let place : ArangesPlace = record { rest = v; encoding = c.self.inside.encoding } in
    let is : place ≡ c.args.self.now = c.self.view_is in
    sym (ap (λ (p : ArangesPlace). aranges_of p.encoding.address_size p.rest) is)
    ∙ ahead_none z v c.self.invariant (sym none ∙ c.next_range.ensures.value)
