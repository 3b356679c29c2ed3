use Rattle.std.proofs.Common.{rules, arith, ◌≡◌, ◌∙◌, sym, ap, Ok, Some, None}
use Rattle.gimli_lists.specs.Aranges.{next_tuple, raw_entry}
use Rattle.gimli_lists.proofs.TupleSteps.{Next, some_bytes, next_none, next_some, next_over}
use Rattle.gimli_lists.proofs.TupleSteps.{next_shorter}
use Rattle.gimli_lists.proofs.aranges.entries.next_entry.Goals as goal

pub returns-in-Some-raw_entry-clause-value : goal.returns-in-Some-raw_entry-clause-value
returns-in-Some-raw_entry-clause-value g c =
    let z = c.args.address_size in
    let v = g.R.Reader.view c.loop-address.input in
    let w = g.R.Reader.view c.next_tuple.new.input in
    let read : ◌≡◌ {A = Next} (Ok (Some (c.in-Some.address, c.in-Some.length)), w)
    (next_tuple z v) = search rules in
    ap (λ p. Ok p.0)
    (sym
    (c.loop-address.invariant.same
    ∙ next_some z (some_bytes z c.requires) raw_entry v _ w _ read
    (sym c.in-Some-raw_entry.ensures)))

pub returns-in-Some-raw_entry-clause-left : goal.returns-in-Some-raw_entry-clause-left
returns-in-Some-raw_entry-clause-left g c =
    let z = c.args.address_size in
    let v = g.R.Reader.view c.loop-address.input in
    let w = g.R.Reader.view c.next_tuple.new.input in
    let read : ◌≡◌ {A = Next} (Ok (Some (c.in-Some.address, c.in-Some.length)), w)
    (next_tuple z v) = search rules in
    ap (λ p. p.1)
    (sym
    (c.loop-address.invariant.same
    ∙ next_some z (some_bytes z c.requires) raw_entry v _ w _ read
    (sym c.in-Some-raw_entry.ensures)))

pub loop-address-preserved : goal.loop-address-preserved
loop-address-preserved g c =
    let z = c.args.address_size in
    let v = g.R.Reader.view c.loop-address.input in
    let w = g.R.Reader.view c.next_tuple.new.input in
    let read : ◌≡◌ {A = Next} (Ok (Some (c.in-Some.address, c.in-Some.length)), w)
    (next_tuple z v) = search rules in
    let none : raw_entry (c.in-Some.address, c.in-Some.length) ≡ None = search rules in
    let lt = next_shorter z (some_bytes z c.requires) raw_entry v _ w read in
    record {
      same = c.loop-address.invariant.same
          ∙ next_over z (some_bytes z c.requires) raw_entry v _ w read none;
      shorter = omega (arith, lt, c.loop-address.invariant.shorter);
    }

pub returns-clause-value : goal.returns-clause-value
returns-clause-value g c =
    let z = c.args.address_size in
    let v = g.R.Reader.view c.loop-address.input in
    let w = g.R.Reader.view c.next_tuple.new.input in
    let read : ◌≡◌ {A = Next} (Ok None, w) (next_tuple z v) = search rules in
    ap (λ p. Ok p.0)
    (sym
    (c.loop-address.invariant.same ∙ next_none z (some_bytes z c.requires) raw_entry v w read))

pub returns-clause-left : goal.returns-clause-left
returns-clause-left g c =
    let z = c.args.address_size in
    let v = g.R.Reader.view c.loop-address.input in
    let w = g.R.Reader.view c.next_tuple.new.input in
    let read : ◌≡◌ {A = Next} (Ok None, w) (next_tuple z v) = search rules in
    ap (λ p. p.1)
    (sym
    (c.loop-address.invariant.same ∙ next_none z (some_bytes z c.requires) raw_entry v w read))
