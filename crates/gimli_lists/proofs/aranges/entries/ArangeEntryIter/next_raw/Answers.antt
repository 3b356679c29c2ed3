use Rattle.std.proofs.Common.{◌≡◌, ◌∙◌, ◌++◌, sym, ap}
use Rattle.std.specs.Option.{option_to_list}
use Rattle.gimli_base.specs.View.{View}
use Rattle.gimli_lists.specs.Aranges.{ArangesPlace, raw_entry, first_of_tuples, raw_entries}
use Rattle.gimli_lists.proofs.ArangeSteps.{raw_none}
use Rattle.gimli_lists.proofs.TupleSteps.{some_bytes, made_of-first}
use Rattle.gimli_lists.proofs.aranges.entries.ArangeEntryIter.next_raw.Goals as goal

pub returns-clause-ahead : goal.returns-clause-ahead
returns-clause-ahead g c =
    let z = c.self.inside.encoding.address_size in
    let v = g.R.Reader.view c.self.inside.input in
    let rest = g.R.Reader.view c.next_entry.new.input in
    let place : ArangesPlace = record { rest = v; encoding = c.self.inside.encoding } in
    let is : place ≡ c.args.self.now = c.self.view_is in
    sym (ap (λ (p : ArangesPlace). raw_entries p.encoding.address_size p.rest) is)
    ∙ made_of-first z (some_bytes z c.self.invariant) raw_entry v
    ∙ sym
    (ap (λ (u : View). option_to_list (first_of_tuples raw_entry z v).0 ++ raw_entries z u)
    c.next_entry.ensures.left)
    ∙ ap
    (λ (p : ArangesPlace).
    option_to_list (first_of_tuples raw_entry p.encoding.address_size p.rest).0
    ++ raw_entries z rest) is

pub returns-clause-ended : goal.returns-clause-ended
returns-clause-ended g c none =
    let z = c.self.inside.encoding.address_size in
    let v = g.R.Reader.view c.self.inside.input in
    let place : ArangesPlace = record { rest = v; encoding = c.self.inside.encoding } in
    let is : place ≡ c.args.self.now = c.self.view_is in
    sym (ap (λ (p : ArangesPlace). raw_entries p.encoding.address_size p.rest) is)
    ∙ raw_none z v c.self.invariant (sym none ∙ c.next_entry.ensures.value)
