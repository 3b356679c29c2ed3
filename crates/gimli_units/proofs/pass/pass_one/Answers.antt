use Rattle.std.proofs.Common.{◌≡◌, ◌∙◌, sym, true, false}
use Rattle.std.specs.Prelude.{None}
use Rattle.gimli_base.specs.Steps.{is_sibling}
use Rattle.gimli_units.specs.Sized.{found_numbers}
use Rattle.gimli_units.proofs.SiblingReads.{value_passed, reference_found}
use Rattle.gimli_units.proofs.StepReads.{none_numbers, some_numbers, not_true, not_false}
use Rattle.gimli_units.proofs.pass.pass_one.Goals.{then-is_some-via-then-is_some}
use Rattle.gimli_units.proofs.pass.pass_one.Goals.{then-is_some-via-else-is_some+then-ne}
use Rattle.gimli_units.proofs.pass.pass_one.Goals as goal

pub returns-then-is_some : goal.returns-then-is_some
returns-then-is_some g c =
    let s = c.args.specification.now in
    let found = found_numbers g.R.Offset.ReaderOffset.number c.args.found in
    let other : found ≡ None → is_sibling s ≡ false = elim c.then-is_some.branch [
      | then-is_some-via-then-is_some w ↦ some_numbers g.R.Offset.ReaderOffset.number c.args.found
          (is_sibling s) (sym c.is_some.ensures ∙ w.if-is_some.true)
      | then-is_some-via-else-is_some+then-ne w ↦ λ _. not_true (is_sibling s)
          (sym (rw w.name.ensures at w.ne.ensures) ∙ w.if-ne.true)
    ] in
    value_passed g.R.Offset.ReaderOffset.limit c.args.encoding s (g.R.Reader.view c.args.input.now)
    found other _ _ c.in_ok-pass_value.ensures

pub returns : goal.returns
returns g c =
    let s = c.args.specification.now in
    let is : is_sibling s ≡ true = not_false (is_sibling s)
    (sym (rw c.name.ensures at c.ne.ensures) ∙ c.if-ne.false) in
    rw (none_numbers g.R.Offset.ReaderOffset.number c.args.found
    (sym c.is_some.ensures ∙ c.if-is_some.false))
    (reference_found g.R.Offset.ReaderOffset.limit c.args.encoding s
    (g.R.Reader.view c.args.input.now) is _ _ c.in_ok-reference.ensures)
