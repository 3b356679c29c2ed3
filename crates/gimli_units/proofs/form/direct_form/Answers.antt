use Rattle.std.proofs.Common.{rules, ◌≡◌}
use Rattle.gimli_units.proofs.Chains.{uleb16_at-shorter, chain_more, chain_refused, chain_end}
use Rattle.gimli_units.proofs.Chains.{chain_begin}
use Rattle.gimli_units.proofs.form.direct_form.Goals as goal

pub indirect-init : goal.indirect-init
indirect-init g c = chain_begin _ _

pub returns-in_err-read_uleb128_u16 : goal.returns-in_err-read_uleb128_u16
returns-in_err-read_uleb128_u16 g c =
    let is : c.indirect.form.0 ≡ 0x16 = search rules in
    let r = chain_refused _ _ _ _ is c.indirect.invariant c.in_err-read_uleb128_u16.ensures.value in
    search rules

pub indirect-smaller : goal.indirect-smaller
indirect-smaller g c = uleb16_at-shorter _ _ _ c.in_ok-read_uleb128_u16.ensures.value

pub indirect-preserved : goal.indirect-preserved
indirect-preserved g c =
    let is : c.indirect.form.0 ≡ 0x16 = search rules in
    chain_more _ _ _ _ _ is c.indirect.invariant c.in_ok-read_uleb128_u16.ensures.value

pub returns : goal.returns
returns g c =
    let ne : c.indirect.form.0 ≡ 0x16 → ⊥ = search rules in
    chain_end _ _ _ ne c.indirect.invariant
