-- The lines of a run of a tree, as a text.
use Rattle.std.proofs.Common.{◌≡◌, ℕ, ◌≤◌, Bool, true, false, List, [], length, Option, None}
use Rattle.std.proofs.Common.{Result, Ok, Err, refl, sym, ap, map}
use Rattle.std.specs.Prelude.{if◌then◌else◌}
use Rattle.std.specs.List.{concat, list_any}
use Rattle.std.specs.Io.KnownBytes.{Appends}
use Rattle.gimli_base.specs.declared.error.Error.{Error}
use Rattle.gimli_base.specs.Refusal.{number_of}
use Rattle.gimli_base.specs.View.{View}
use Rattle.gimli_base.specs.Abbreviations.{Map}
use Rattle.gimli_base.specs.Offset.{answer_of}
use Rattle.gimli_base.specs.Table.{Table, codes_of}
use Rattle.gimli_units.specs.Unit.{UnitView, whole_length}
use Rattle.gimli_units.specs.UnitRows.{IsHonestFrom}
use Rattle.gimli_units.specs.TreePlace.{StepAnswer}
use Rattle.gimli_units.specs.TreeMoves.{TreeView, tree_from}
use Rattle.gimli_units.specs.TreeWalker.{at_none}
use Rattle.gimli_walk.specs.declared.lines.Stop.TheVariants.{Memory}
use Rattle.gimli_walk.specs.declared.tree.TreeStep.{TreeStep}
use Rattle.gimli_walk.specs.Lines.{error_line, memory_line, WroteRun}
use Rattle.gimli_walk.specs.Runs.{RunAnswers, run_of, RunsAs}
use Rattle.gimli_walk.specs.Cursors.{IsStopped}
use Rattle.gimli_walk.specs.Sinks.{HasWrittenSteps}
use Rattle.gimli_walk.specs.TrueStepAnswers.{IsTreeRunFrom}
use Rattle.gimli_walk.specs.TreeText.{WroteTrueTree, tree_lines}
use Rattle.gimli_walk.specs.TreeTurns.{HasTreeRun}
use Rattle.gimli_walk.specs.Trees.{step_answer_line, step_answers_text, is_fault, tree_view, tree_answers_at}
use Rattle.gimli_walk.specs.Trees.{run_tree_answers, run_text_of}
use Rattle.gimli_walk.specs.Text.{Wrote}
use Rattle.gimli_walk.proofs.AnswerLines.{run_wrote}
use Rattle.gimli_walk.proofs.TreeTurned.{tree_run_from}
use Rattle.gimli_walk.proofs.WrittenLines.{Appends-trans, Wrote-only}

module _ (limit : ℕ) (u : UnitView) (declared : Map) (steps : List TreeStep)
    (old new : Option (List ℕ)) where
  -- the lines of a run are those of the definition, where its answers are
  tree_run_text : (xs : List StepAnswer) (stopped : Bool) (status : ℕ)
      → RunsAs (Ok (run_of xs stopped)) (run_tree_answers limit u declared None steps)
      → WroteRun old new (step_answers_text xs) stopped status
      → Wrote old new (run_text_of (run_tree_answers limit u declared None steps)) status
  tree_run_text xs stopped status runs h = cases (tree_view u None) refl
    where
      cases : (r : Result View Error) → tree_view u None ≡ r
          → Wrote old new (run_text_of (run_tree_answers limit u declared None steps)) status
      cases (Ok v) is =
          let r = rw is at runs in
          rw is
          (run_wrote step_answer_line (λ all. if list_any is_fault all then 1 else 0) old new xs
          (tree_answers_at limit u declared steps v) stopped status r h)
      cases (Err e) is = absurd (rw is at runs)

  -- a start that is refused is the text
  pub no_tree_line : (e : Error) → tree_view u None ≡ Err e
      → Appends old new (error_line (number_of e))
      → Wrote old new (run_text_of (run_tree_answers limit u declared None steps)) 1
  no_tree_line e is h = rw is (Wrote-only old new (error_line (number_of e)) 1 h)

  -- the lines of a run are true
  pub tree_true_lines : (run : RunAnswers StepAnswer) (status : ℕ)
      → IsTreeRunFrom limit u declared steps (tree_view u None) (Ok run)
      → WroteRun old new (step_answers_text run.answers) run.stopped status
      → WroteTrueTree limit u declared steps old new status
  tree_true_lines run status h w = cases (tree_view u None) refl h
    where
      cases : (r : Result View Error) → tree_view u None ≡ r
          → IsTreeRunFrom limit u declared steps r (Ok run)
          → WroteTrueTree limit u declared steps old new status
      cases (Ok v) is h = tree_lines run.answers run.stopped h.are_true
          (rw is (h.are_roots, h.are_turned)) h.are_growing h.are_taken h.stopped w
      cases (Err e) is h = absurd h

module _ (limit : ℕ) (u : UnitView) (declared : Map) (steps : List TreeStep) where
  -- a run that told the definition's answers where the rows are honest
  pub tree_run_as_said : (run : RunAnswers StepAnswer)
      → IsTreeRunFrom limit u declared steps (tree_view u None) (Ok run)
      → IsHonestFrom limit u declared (tree_view u None)
      → RunsAs (Ok run) (run_tree_answers limit u declared None steps)
  tree_run_as_said run = cases (tree_view u None)
    where
      cases : (r : Result View Error) → IsTreeRunFrom limit u declared steps r (Ok run)
          → IsHonestFrom limit u declared r
          → RunsAs (Ok run) (answer_of (tree_answers_at limit u declared steps) r)
      cases (Ok v) h honest = h.answers honest
      cases (Err e) h honest = h

  -- a run that is refused says that there is no tree
  pub no_tree_said : (e : Error) → IsTreeRunFrom limit u declared steps (tree_view u None) (Err e)
      → tree_view u None ≡ Err e
  no_tree_said e = cases (tree_view u None)
    where
      cases : (r : Result View Error) → IsTreeRunFrom limit u declared steps r (Err e) → r ≡ Err e
      cases (Ok v) h = absurd h
      cases (Err x) h = ap Err (sym h)

module _ (limit : ℕ) (u : UnitView) (t : Table) (steps : List TreeStep)
    (old new : Option (List ℕ)) where
  -- what a run told
  answer_from : (tree : TreeView) (stopped : Bool) (all : List StepAnswer)
      → length u.entries.bytes ≤ whole_length u → Ok tree ≡ tree_from u t None
      → HasTreeRun limit (at_none tree []) steps all → IsStopped stopped (length all) (length steps)
      → IsTreeRunFrom limit u (codes_of t) steps (tree_view u None) (Ok (run_of all stopped))
  answer_from tree stopped all fits begins runs count =
      tree_run_from limit u t None steps all stopped (length all) tree fits begins runs refl count

  module _ (tree : TreeView) (fits : length u.entries.bytes ≤ whole_length u)
      (begins : Ok tree ≡ tree_from u t None) where
    -- all lines of a run
    pub tree_answer_text : (status : ℕ)
        → HasWrittenSteps (HasTreeRun limit (at_none tree []) steps) step_answers_text old new
        (length steps) (Ok status)
        → IsHonestFrom limit u (codes_of t) (tree_view u None)
        → Wrote old new (run_text_of (run_tree_answers limit u (codes_of t) None steps)) status
    tree_answer_text status answer honest =
        let from = answer_from tree false answer.all fits begins answer.runs answer.count in
        tree_run_text limit u (codes_of t) steps old new answer.all false status
        (tree_run_as_said limit u (codes_of t) steps (run_of answer.all false) from honest)
        answer.are_answered

    pub tree_answer_true : (status : ℕ)
        → HasWrittenSteps (HasTreeRun limit (at_none tree []) steps) step_answers_text old new
        (length steps) (Ok status)
        → WroteTrueTree limit u (codes_of t) steps old new status
    tree_answer_true status answer =
        let from = answer_from tree false answer.all fits begins answer.runs answer.count in
        tree_true_lines limit u (codes_of t) steps old new (run_of answer.all false) status from
        answer.are_answered

    -- the lines of a run that was stopped, and then the line that says so
    pub tree_stopped_text : (mid : Option (List ℕ))
        → HasWrittenSteps (HasTreeRun limit (at_none tree []) steps) step_answers_text old mid
        (length steps) (Err Memory)
        → Appends mid new memory_line → IsHonestFrom limit u (codes_of t) (tree_view u None)
        → Wrote old new (run_text_of (run_tree_answers limit u (codes_of t) None steps)) 1
    tree_stopped_text mid answer h honest =
        let from = answer_from tree true answer.all fits begins answer.runs answer.count in
        tree_run_text limit u (codes_of t) steps old new answer.all true 1
        (tree_run_as_said limit u (codes_of t) steps (run_of answer.all true) from honest) (
          Appends-trans old mid new (concat (map step_answer_line answer.all)) memory_line answer.are_answered h,
          refl,
        )

    pub tree_stopped_true : (mid : Option (List ℕ))
        → HasWrittenSteps (HasTreeRun limit (at_none tree []) steps) step_answers_text old mid
        (length steps) (Err Memory)
        → Appends mid new memory_line → WroteTrueTree limit u (codes_of t) steps old new 1
    tree_stopped_true mid answer h =
        let from = answer_from tree true answer.all fits begins answer.runs answer.count in
        tree_true_lines limit u (codes_of t) steps old new (run_of answer.all true) 1 from (
          Appends-trans old mid new (concat (map step_answer_line answer.all)) memory_line answer.are_answered h,
          refl,
        )
