use Rattle.std.proofs.Common.{rules, ◌≡◌, ◌+◌, ◌∙◌, ap, Err, [], ◌∷◌, arith, length, drop}
use Rattle.std.proofs.lemmas.List.{drop_more, append-nil}
use Rattle.gimli_walk.specs.declared.tree.TreeStep.TheVariants.{Root}
use Rattle.gimli_walk.specs.TreeTurns.{HasTreeRun}
use Rattle.gimli_walk.proofs.TreeRuns.{tree_run_more, tree_run_none}
use Rattle.gimli_walk.proofs.Telling.{so_far_none, so_far_more, so_far_whole, so_far_refused}
use Rattle.gimli_walk.proofs.tree.run_steps.Goals as goal

pub steps-init : goal.steps-init
steps-init g c = so_far_none _ _ (g.met.S.TreeSink.none c.args.sink.now)

pub steps-preserved : goal.steps-preserved
steps-preserved g c =
    let limit = g.R.Offset.ReaderOffset.limit in
    let turned = c.in_ok-turn.ensures.turned in
    let so = c.steps.invariant in
    let new = c.turn.new.walker in
    let steps = c.args.steps.now in
    let next = drop_more steps c.steps.step-index Root c.steps-test.true in
    so_far_more _ _ (HasTreeRun limit new (drop (c.steps.step-index + 1) steps)) _ _
    c.steps.step-index turned.0 so
    (tree_run_more limit c.steps.walker new steps c.steps.step-index _ turned.0 next turned.1)
    (g.met.S.TreeSink.more c.args.sink.now c.steps.sink c.turn.new.sink so.all (turned.0 ∷ [])
    so.are_answered turned.2)

pub returns-in_err-turn : goal.returns-in_err-turn
returns-in_err-turn g c =
    let r : c.from_residual.result ≡ Err c.in_err-turn.field-0.0 = search rules in
    let so = c.steps.invariant in
    let left = drop c.steps.step-index c.args.steps.now in
    rw r
    (so_far_refused _ _ _ _ g.S.TreeSink.writes _ _ c.in_err-turn.field-0.0 so
    (tree_run_none g.R.Offset.ReaderOffset.limit c.steps.walker left) c.steps-test.true
    (λ m. rw append-nil at
    (g.met.S.TreeSink.more c.args.sink.now c.steps.sink c.turn.new.sink so.all [] so.are_answered
    (c.turn.ensures.kept (c.in_err-turn.was ∙ ap Err m))))
    (λ w. c.turn.ensures.fault (c.in_err-turn.was ∙ ap Err w)))

pub returns : goal.returns
returns g c =
    let end : c.steps.step-index ≡ length c.args.steps.now = omega arith in
    let left = drop c.steps.step-index c.args.steps.now in
    so_far_whole _ _ _ _ _ c.steps.invariant
    (tree_run_none g.R.Offset.ReaderOffset.limit c.steps.walker left) end
