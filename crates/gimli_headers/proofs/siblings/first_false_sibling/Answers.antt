use Rattle.std.proofs.Common.{None, Ok, sym, ap, ◌∙◌}
use Rattle.gimli_base.specs.Table.{codes_of}
use Rattle.gimli_units.specs.RawPlace.{RawPlace}
use Rattle.gimli_units.specs.UnitHeld.{unit_view}
use Rattle.gimli_headers.proofs.Checks.{exact, if_honest, if_least, if_starts, if_exact}
use Rattle.gimli_headers.proofs.Roots.{root_is, root_none}
use Rattle.gimli_headers.proofs.siblings.first_false_sibling.Goals as goal

pub first_false_ahead-requires : goal.first_false_ahead-requires
first_false_ahead-requires g c =
    c.length_including_self.ensures
    ∙ sym
    (ap (λ (p : RawPlace). p.end)
    (root_is (unit_view c.args.unit.now) c.args.abbreviations.now c.in-Ok.entries
    c.in-Ok.ensures))

pub returns-in-Ok-clause-value : goal.returns-in-Ok-clause-value
returns-in-Ok-clause-value g c =
    let limit = g.R.Offset.ReaderOffset.limit in
    let same = root_is (unit_view c.args.unit.now) c.args.abbreviations.now c.in-Ok.entries
    c.in-Ok.ensures in
    exact limit (unit_view c.args.unit.now) c.args.abbreviations.now c.in-Ok.entries _ _ same
    c.first_false_ahead.ensures.value

pub returns-in-Ok-clause-honest : goal.returns-in-Ok-clause-honest
returns-in-Ok-clause-honest g c =
    let limit = g.R.Offset.ReaderOffset.limit in
    let same = root_is (unit_view c.args.unit.now) c.args.abbreviations.now c.in-Ok.entries
    c.in-Ok.ensures in
    if_honest limit (unit_view c.args.unit.now) (codes_of c.args.abbreviations.now) _ _
    (exact limit (unit_view c.args.unit.now) c.args.abbreviations.now c.in-Ok.entries _ _ same
    c.first_false_ahead.ensures.value)

pub returns-in-Ok-clause-least : goal.returns-in-Ok-clause-least
returns-in-Ok-clause-least g c =
    let limit = g.R.Offset.ReaderOffset.limit in
    let same = root_is (unit_view c.args.unit.now) c.args.abbreviations.now c.in-Ok.entries
    c.in-Ok.ensures in
    if_least limit (unit_view c.args.unit.now) (codes_of c.args.abbreviations.now) _ _
    (exact limit (unit_view c.args.unit.now) c.args.abbreviations.now c.in-Ok.entries _ _ same
    c.first_false_ahead.ensures.value)

pub returns-in-Ok-clause-starts : goal.returns-in-Ok-clause-starts
returns-in-Ok-clause-starts g c =
    let limit = g.R.Offset.ReaderOffset.limit in
    let same = root_is (unit_view c.args.unit.now) c.args.abbreviations.now c.in-Ok.entries
    c.in-Ok.ensures in
    if_starts limit (unit_view c.args.unit.now) (codes_of c.args.abbreviations.now)
    c.args.unit.now.entries_fit _ _
    (exact limit (unit_view c.args.unit.now) c.args.abbreviations.now c.in-Ok.entries _ _ same
    c.first_false_ahead.ensures.value)

pub returns-in-Ok-clause-without_memory : goal.returns-in-Ok-clause-without_memory
returns-in-Ok-clause-without_memory g c = λ none.
    let limit = g.R.Offset.ReaderOffset.limit in
    let same = root_is (unit_view c.args.unit.now) c.args.abbreviations.now c.in-Ok.entries
    c.in-Ok.ensures in
    c.first_false_ahead.ensures.without_memory
    (rw same none)

pub returns-in-Err-clause-value : goal.returns-in-Err-clause-value
returns-in-Err-clause-value g c =
    let none = root_none g.R.Offset.ReaderOffset.limit (unit_view c.args.unit.now)
    c.args.abbreviations.now c.in-Err.field-0 c.in-Err.ensures in
    if_exact _ _ none

pub returns-in-Err-clause-honest : goal.returns-in-Err-clause-honest
returns-in-Err-clause-honest g c =
    let limit = g.R.Offset.ReaderOffset.limit in
    let none = root_none limit (unit_view c.args.unit.now) c.args.abbreviations.now c.in-Err.field-0
    c.in-Err.ensures in
    if_honest limit (unit_view c.args.unit.now) (codes_of c.args.abbreviations.now)
    (λ o. g.R.Offset.ReaderOffset.number o.0) (Ok None) (if_exact _ _ none)

pub returns-in-Err-clause-starts : goal.returns-in-Err-clause-starts
returns-in-Err-clause-starts g c =
    let limit = g.R.Offset.ReaderOffset.limit in
    let none = root_none limit (unit_view c.args.unit.now) c.args.abbreviations.now c.in-Err.field-0
    c.in-Err.ensures in
    if_starts limit (unit_view c.args.unit.now) (codes_of c.args.abbreviations.now)
    c.args.unit.now.entries_fit (λ o. g.R.Offset.ReaderOffset.number o.0) (Ok None)
    (if_exact _ _ none)
