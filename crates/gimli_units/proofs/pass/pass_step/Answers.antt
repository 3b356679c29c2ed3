use Rattle.std.proofs.Common.{◌≤◌, ◌∙◌, arith, length, sym}
use Rattle.gimli_base.specs.Steps.{step_size}
use Rattle.gimli_units.proofs.SizedReads.{step_reads}
use Rattle.gimli_units.proofs.SumReads.{attributes_together}
use Rattle.gimli_units.proofs.pass.pass_step.Goals as goal

pub returns-clause-passed : goal.returns-clause-passed
returns-clause-passed g c = λ _ ss run.
    let limit = g.R.Offset.ReaderOffset.limit in
    let e = c.args.encoding in
    let v = g.R.Reader.view c.args.input.now in
    let n = step_size e c.args.step.now in
    let there : n ≤ length v.bytes =
    omega (arith, c.size-size.ensures, c.if-into_u64-size.false, c.into_u64.ensures.value, c.len.ensures)
    in
    let reads = step_reads limit e c.args.step.now
    (sym c.reads_all.ensures ∙ c.if-not-reads_all.false) ss run in
    rw (c.pass_bytes.ensures, c.size-size.ensures)
    (sym
    (attributes_together limit e ss reads run.well_formed n v (sym (run.size e)) there
    (g.met.R.Reader.bytes_fit c.args.input.now)))
