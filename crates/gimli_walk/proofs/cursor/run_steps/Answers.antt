use Rattle.std.proofs.Common.{rules, ◌≡◌, ◌+◌, ◌∙◌, refl, ap, Err, [], ◌∷◌, arith, length, drop}
use Rattle.std.proofs.lemmas.List.{drop_more, append-nil}
use Rattle.gimli_walk.specs.declared.cursor.CursorStep.TheVariants.{NextEntry}
use Rattle.gimli_walk.specs.CursorTurns.{answer_at, HasRun}
use Rattle.gimli_walk.proofs.CursorRuns.{run_more, run_none}
use Rattle.gimli_walk.proofs.Telling.{so_far_none, so_far_more, so_far_whole, so_far_stopped}
use Rattle.gimli_walk.proofs.Telling.{so_far_refused}
use Rattle.gimli_walk.proofs.cursor.run_steps.Goals as goal

pub steps-init : goal.steps-init
steps-init g c = so_far_none _ _ (g.met.S.Sink.none c.args.sink.now)

pub steps-preserved : goal.steps-preserved
steps-preserved g c =
    let limit = g.R.Offset.ReaderOffset.limit in
    let t = c.take-outcome.ensures in
    let so = c.steps.invariant in
    let new = c.take-outcome.new.cursor in
    let steps = c.args.steps.now in
    let a = answer_at c.take-outcome.result new in
    let next = drop_more steps c.steps.step-index NextEntry c.steps-test.true in
    so_far_more _ _ (HasRun limit new (drop (c.steps.step-index + 1) steps)) _ _ c.steps.step-index
    a so
    (run_more limit c.steps.cursor new steps c.steps.step-index _ a next (record {
      step =
          record {
            moves = t.moves;
            true_entry = t.true_entry;
            idle = t.idle;
            beside = t.beside;
            not_found = t.not_found;
            none = t.none;
            refused = t.refused;
            taken = t.taken;
            further =
                t.further;
            unit = t.unit;
          };
      is = refl;
      fine = c.wants_memory.ensures c.if-wants_memory.false;
    }))
    (g.met.S.Sink.more c.args.sink.now c.steps.sink c.tell.new.self so.all (a ∷ []) so.are_answered
    c.in_ok-tell.ensures.answer)

pub returns-then-wants_memory : goal.returns-then-wants_memory
returns-then-wants_memory g c =
    let left = drop c.steps.step-index c.args.steps.now in
    so_far_stopped _ _ _ _ _ _ c.steps.invariant
    (run_none g.R.Offset.ReaderOffset.limit c.steps.cursor left) c.steps-test.true
    c.steps.invariant.are_answered

pub returns-in_err-tell : goal.returns-in_err-tell
returns-in_err-tell g c =
    let r : c.from_residual.result ≡ Err c.in_err-tell.field-0.0 = search rules in
    let so = c.steps.invariant in
    let left = drop c.steps.step-index c.args.steps.now in
    rw r
    (so_far_refused _ _ _ _ g.S.Sink.writes _ _ c.in_err-tell.field-0.0 so
    (run_none g.R.Offset.ReaderOffset.limit c.steps.cursor left) c.steps-test.true
    (λ m. rw append-nil at
    (g.met.S.Sink.more c.args.sink.now c.steps.sink c.tell.new.self so.all [] so.are_answered
    (c.tell.ensures.kept (c.in_err-tell.was ∙ ap Err m))))
    (λ w. c.tell.ensures.fault (c.in_err-tell.was ∙ ap Err w)))

pub returns : goal.returns
returns g c =
    let end : c.steps.step-index ≡ length c.args.steps.now = omega arith in
    let left = drop c.steps.step-index c.args.steps.now in
    so_far_whole _ _ _ _ _ c.steps.invariant
    (run_none g.R.Offset.ReaderOffset.limit c.steps.cursor left) end
