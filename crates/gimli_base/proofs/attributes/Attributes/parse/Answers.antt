use Rattle.std.proofs.Common.{rules, ap, sym}
use Rattle.gimli_base.specs.Items.{all_items}
use Rattle.gimli_base.proofs.ItemTurns.{items_begin, items_more, items_refused, items_end}
use Rattle.gimli_base.specs.Abbreviations.{specifications_at}
use Rattle.gimli_base.proofs.AbbreviationReads.{specification_at-shorter}
use Rattle.gimli_base.proofs.StepTurns.{steps_begin, steps_run, steps_close, steps_end}
use Rattle.gimli_base.proofs.attributes.Attributes.parse.Goals.{else-not-push}
use Rattle.gimli_base.proofs.attributes.Attributes.parse.Goals.{then-not-push+in_ok-push}
use Rattle.gimli_base.proofs.attributes.Attributes.parse.Goals as goal

pub loop-specification-init : goal.loop-specification-init
loop-specification-init g c = rw (c.requires, c.new-run.ensures)
    (record { read = items_begin _ _; steps = steps_begin })

pub returns-in_err-specification-clause-read : goal.returns-in_err-specification-clause-read
unfolding specifications_at
returns-in_err-specification-clause-read g c =
    let ended =
    ap all_items
    (items_refused _ _ _ _ _ c.loop-specification.invariant.read
    c.in_err-specification.ensures) in
    search rules

pub loop-specification-smaller : goal.loop-specification-smaller
loop-specification-smaller g c = specification_at-shorter _ _ _ c.in_ok-specification.ensures

pub loop-specification-preserved : goal.loop-specification-preserved
loop-specification-preserved g c =
    let read = items_more _ _ _ _ _ _ c.loop-specification.invariant.read
    (rw c.in-Some.is at c.in_ok-specification.ensures)
    (specification_at-shorter _ _ _ c.in_ok-specification.ensures) in
    let so_far = c.loop-specification.invariant.steps in
    elim c.if-not-push.branch [
      | else-not-push w ↦ rw (c.in_ok-push-2.ensures, w.self-is, w.run-is, w.is_seen-is) (record {
        read = read;
        steps = steps_run _ _ _ _ so_far _ _ (c.push.ensures.pushed w.if-not-push.false)
            (c.push.ensures.no_sibling w.if-not-push.false);
      })
      | then-not-push+in_ok-push w ↦ rw (
        c.in_ok-push-2.ensures,
        w.self-is,
        w.run-is,
        w.is_seen-is,
        w.in_ok-push.ensures,
        c.push.ensures.kept w.if-not-push.true,
        w.new-run-then-not-push.ensures,
        w.eq-is_seen.ensures,
        w.name.ensures,
      )
          (record { read = read; steps = steps_close _ _ _ _ so_far _ })
    ]

pub returns-clause-read : goal.returns-clause-read
unfolding specifications_at
returns-clause-read g c =
    sym
    (ap all_items
    (items_end _ _ _ _ _ c.loop-specification.invariant.read
    (rw c.in_default.is at c.in_ok-specification.ensures)))

pub returns-clause-steps : goal.returns-clause-steps
returns-clause-steps g c = rw c.in_ok-push-3.ensures
    (steps_end _ _ _ _ c.loop-specification.invariant.steps)

pub whole_of-self-requires : goal.whole_of-self-requires
whole_of-self-requires g c = rw (c.steps.ensures, c.specifications.ensures, c.in_ok-push-3.ensures)
    (steps_end _ _ _ _ c.loop-specification.invariant.steps)
