use Rattle.gimli_c.proofs.ByTable.{declared_some, declared_none}
use Rattle.gimli_c.proofs.by_table.next_declared.Goals as goal

pub returns-in-Some : goal.returns-in-Some
returns-in-Some g c =
    let found = c.in-Some.ensures.lookup in
    declared_some _ _ _ _ _ c.in_ok-code.ensures.value c.if-code-eq0.false _ found.0 found.1

pub returns-in-None : goal.returns-in-None
returns-in-None g c =
    let past = c.in-None.ensures.lookup in
    declared_none _ c.args.table.specifications.now _ _ _ c.in_ok-code.ensures.value
    c.if-code-eq0.false past.3
