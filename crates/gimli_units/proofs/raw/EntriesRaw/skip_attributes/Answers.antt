use Rattle.std.proofs.Common.{◌≡◌, Ok, Err, ap, arith, rules, length}
use Rattle.gimli_base.specs.View.{View}
use Rattle.gimli_units.specs.Passing.{pass_all, without_place}
use Rattle.gimli_units.proofs.PassLaw.{attributes-passed}
use Rattle.gimli_units.proofs.PassReads.{passed-shorter, reads-somewhere}
use Rattle.gimli_units.proofs.raw.EntriesRaw.skip_attributes.Goals as goal

pub returns-in_err-skip_all-clause-as_read : goal.returns-in_err-skip_all-clause-as_read
returns-in_err-skip_all-clause-as_read g c =
    let r : c.from_residual.result ≡ Err c.in_err-skip_all.field-0.0 = search rules in
    let passed : without_place (Err c.in_err-skip_all.field-0.0)
    ≡ without_place
    (pass_all g.R.Offset.ReaderOffset.limit c.args.self.now.encoding c.args.specifications.now
    c.args.self.now.rest) = search rules in
    rw r (reads-somewhere _ _ _ passed (attributes-passed _ _ _ _))

pub invariant_of-self : goal.invariant_of-self
invariant_of-self g c =
    let shorter = passed-shorter _ _ _ _ _ c.in_ok-skip_all.ensures.value in
    let same = ap (λ (v : View). length v.bytes) c.copy-rest.ensures in
    (omega (arith, shorter, same), omega (arith, shorter, same))

pub returns-clause-as_read : goal.returns-clause-as_read
returns-clause-as_read g c =
    let passed : without_place (Ok (tt, g.R.Reader.view c.skip_all.new.input))
    ≡ without_place
    (pass_all g.R.Offset.ReaderOffset.limit c.args.self.now.encoding c.args.specifications.now
    c.args.self.now.rest) = search rules in
    reads-somewhere _ _ _ passed (attributes-passed _ _ _ _)
