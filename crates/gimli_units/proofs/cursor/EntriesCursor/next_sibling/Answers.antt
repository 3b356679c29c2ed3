use Rattle.std.proofs.Common.{rules, ◌≡◌, refl, Err}
use Rattle.gimli_units.proofs.cursor.EntriesCursor.next_sibling.Goals as goal

pub returns-in_err-advance_sibling : goal.returns-in_err-advance_sibling
returns-in_err-advance_sibling g c =
    let r : c.from_residual.result ≡ Err c.in_err-advance_sibling.field-0.0 = search rules in
    let fails : c.advance_sibling.result ≡ Err c.in_err-advance_sibling.field-0.0 = search rules in
    rw r ((refl, (λ w. tt), (rw fails at c.advance_sibling.ensures, tt)), record { leaves = tt })
