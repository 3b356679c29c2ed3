use Rattle.std.proofs.Common.{◌≡◌, ◌+◌, ap, sym, ◌∙◌, arith, length}
use Rattle.gimli_base.specs.Abbreviations.{Declaration}
use Rattle.gimli_base.proofs.AbbreviationTable.{found-insert, found-push, not_inside, none_of}
use Rattle.gimli_base.proofs.abbrev.Abbreviations.insert.Goals as goal

pub returns-then-code-len-clause-ok : goal.returns-then-code-len-clause-ok
returns-then-code-len-clause-ok g c =
    let code_is = ap (λ (d : Declaration). d.code) c.declared.view_is in
    let place : c.args.declared.code ≡ length c.self.inside.dense.items + 1 =
    omega (
      arith,
      c.if-code-len.true,
      c.if-code-gt0.true,
      c.len.ensures,
      c.self.inside.dense.ok.0,
      code_is,
    ) in
    rw (c.push_reserved.ensures.items, c.in_ok-reserve.ensures.items, ← c.self.view_is)
    (found-push _ _ c.args.declared place)

pub returns-clause-ok : goal.returns-clause-ok
returns-clause-ok g c =
    let code_is : c.declared.inside.code
    ≡ c.args.declared.code = ap (λ (d : Declaration). d.code) c.declared.view_is in
    let updates = rw code_is at c.in_ok-insert_other.ensures.updates in
    let none = rw (code_is, ← c.self.view_is) at
    (sym c.get.ensures ∙ none_of c.get.result c.if-is_some.ensures) in
    rw (← c.self.view_is)
    (found-insert _ _ _ c.args.declared
    (not_inside c.self.inside.dense.items c.self.inside.others.entries c.args.declared.code
    none) updates)

pub returns-clause-new : goal.returns-clause-new
returns-clause-new g c =
    let code_is = ap (λ (d : Declaration). d.code) c.declared.view_is in
    rw code_is at (sym c.get.ensures ∙ none_of c.get.result c.if-is_some.ensures)

pub returns-then-code-len-clause-new : goal.returns-then-code-len-clause-new
returns-then-code-len-clause-new g c =
    let code_is = ap (λ (d : Declaration). d.code) c.declared.view_is in
    rw code_is at (sym c.get.ensures ∙ none_of c.get.result c.if-is_some.ensures)
