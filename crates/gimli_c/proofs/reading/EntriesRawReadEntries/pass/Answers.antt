use Rattle.std.proofs.Common.{◌≡◌, rules, Err, None, Some}
use Rattle.gimli_units.proofs.HeadReads.{entry_of, refusal_of}
use Rattle.gimli_units.proofs.Memory.{entry_at-never}
use Rattle.gimli_c.proofs.Heads.{past_head}
use Rattle.gimli_c.proofs.Shorter.{past_goes_on, refused_never}
use Rattle.gimli_c.proofs.reading.EntriesRawReadEntries.pass.Goals as goal

pub returns-in_err-declared-clause-refused : goal.returns-in_err-declared-clause-refused
returns-in_err-declared-clause-refused g c = λ _.
    let r : c.from_residual.result ≡ Err c.in_err-declared.field-0.0 = search rules in
    rw r (refusal_of _ c.args.self.now _ c.in_err-declared.ensures.value)

pub returns-in-None-clause-past : goal.returns-in-None-clause-past
returns-in-None-clause-past g c = λ _.
    let limit = g.R.Offset.ReaderOffset.limit in
    let p = c.args.self.now in
    let q = c.read_head.new.self in
    let e = rw c.in-None.is at c.in_ok-declared.ensures in
    past_head limit p q None c.null.result
    (entry_of limit p None q.rest q.depth e.value e.some e.advances.depth)
    c.null.ensures e.advances.same

pub returns-in-Some-clause-past : goal.returns-in-Some-clause-past
returns-in-Some-clause-past g c = λ _.
    let limit = g.R.Offset.ReaderOffset.limit in
    let p = c.args.self.now in
    let q = c.read_head.new.self in
    let o = Some c.in-Some.declared.now in
    let e = rw c.in-Some.is at c.in_ok-declared.ensures in
    past_head limit p q o c.declared_head.result
    (entry_of limit p o q.rest q.depth e.value e.some e.advances.depth)
    c.declared_head.ensures.value e.advances.same

pub returns-in_err-declared-clause-memory : goal.returns-in_err-declared-clause-memory
returns-in_err-declared-clause-memory g c =
    let r : c.from_residual.result ≡ Err c.in_err-declared.field-0.0 = search rules in
    rw r (refused_never _ _ (entry_at-never _ _ _ _)
    (refusal_of g.R.Offset.ReaderOffset.limit c.args.self.now _ c.in_err-declared.ensures.value))

pub returns-in-None-clause-further : goal.returns-in-None-clause-further
returns-in-None-clause-further g c = past_goes_on _ _ _ _ (returns-in-None-clause-past g c tt)

pub returns-in-Some-clause-further : goal.returns-in-Some-clause-further
returns-in-Some-clause-further g c = past_goes_on _ _ _ _ (returns-in-Some-clause-past g c tt)
