use Rattle.std.proofs.Common.{length}
use Rattle.gimli_units.specs.Form.{form_at}
use Rattle.gimli_units.proofs.Chains.{EndsAs}
use Rattle.gimli_units.proofs.form.direct_form.Given as goal

abbrev pub invariant-indirect : goal.invariant-indirect
invariant-indirect g l =
    EndsAs (form_at l.initial.form.0 (g.R.Reader.view l.initial.input)) l.form.0
    (g.R.Reader.view l.input)

abbrev pub decreases-indirect : goal.decreases-indirect
decreases-indirect g l = length (g.R.Reader.view l.input).bytes
