use Rattle.std.proofs.Common.{rules, arith, sym, ◌∙◌}
use Rattle.gimli_base.proofs.Later.{IsLater-length, byte_at-later}
use Rattle.gimli_base.proofs.PassTurns.{pass_ended, pass_last, pass_more}
use Rattle.gimli_base.proofs.reader.Reader.skip_leb128.Goals as goal

pub returns-in_err-read_u8-clause-value : goal.returns-in_err-read_u8-clause-value
returns-in_err-read_u8-clause-value g c =
    let ended = pass_ended _ _ c.in_err-read_u8.ensures.value in
    let begun = c.loop-rest.invariant in
    search rules

pub loop-rest-smaller : goal.loop-rest-smaller
loop-rest-smaller g c =
    omega (arith, IsLater-length 1 _ _ (byte_at-later _ _ _ c.in_ok-read_u8.ensures.value))

pub loop-rest-preserved : goal.loop-rest-preserved
loop-rest-preserved g c =
    sym (pass_more _ _ _ c.in_ok-read_u8.ensures.value c.if-branch-ge128.true)
    ∙ c.loop-rest.invariant

pub returns-clause-value : goal.returns-clause-value
returns-clause-value g c =
    let last = sym (pass_last _ _ _ c.in_ok-read_u8.ensures.value c.if-branch-ge128.false) in
    let begun = c.loop-rest.invariant in
    search rules
