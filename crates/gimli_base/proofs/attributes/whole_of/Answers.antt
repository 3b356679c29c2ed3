use Rattle.std.proofs.Common.{◌≡◌, ◌∙◌, [], sym, false}
use Rattle.std.proofs.lemmas.Bool.{eqb-true}
use Rattle.std.proofs.lemmas.List.{nil_from_length}
use Rattle.gimli_base.proofs.StepTurns.{one_step, joined_run}
use Rattle.gimli_base.proofs.attributes.whole_of.Goals as goal

pub returns-in_default : goal.returns-in_default
returns-in_default c =
    let others : c.in_ok-first.others.now ≡ [] =
    nil_from_length c.in_ok-first.others.now c.in_default.ensures.cases in
    let steps = rw c.in_ok-first.ensures.cases.0 at c.requires in
    one_step false c.in_ok-first.first.now c.args.specifications.now (rw others at steps)

pub returns : goal.returns
returns c =
    let more : c.in-Some.more.now ≡ [] =
    nil_from_length c.in-Some.more.now
    (eqb-true _ 0 (sym c.is_empty.ensures ∙ c.if-not-is_empty.false)) in
    let steps = rw c.in_ok-first.ensures.cases.0 at c.requires in
    let both = rw c.in-Some.ensures.cases.0 at steps in
    joined_run false _ _ _ _ _ (rw more at both) c.in_ok-value.ensures.cases.0 c.join.result
    c.join.ensures
