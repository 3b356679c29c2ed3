use Rattle.gimli_c.proofs.TableSteps.{StepsPut}
use Rattle.gimli_c.proofs.table.put_steps.Given as goal

abbrev pub invariant-each : goal.invariant-each
invariant-each l = StepsPut l.initial.specifications l.specifications l.index l.step

abbrev pub decreases-each : goal.decreases-each
decreases-each l = l.index
