use Rattle.std.proofs.Common.{◌≡◌, refl, ◌∙◌, w64, to_z, of_z}
use Rattle.std.proofs.lemmas.Int.{to_z-of_z}
use Rattle.gimli_walk.specs.CursorTurns.{answer_at}
use Rattle.gimli_walk.specs.SinkLaws.{collected_none}
use Rattle.gimli_walk.proofs.CursorRuns.{same_pair}
use Rattle.gimli_walk.proofs.Telling.{collected_one}
use Rattle.gimli_walk.specs.Cursors.{answer_held, IsPaired}
use Rattle.gimli_walk.proofs.cursor.CollectedSink.tell.Goals as goal

pub returns-in-Err-clause-kept : goal.returns-in-Err-clause-kept
returns-in-Err-clause-kept g c =
    λ m. rw c.in-Err.ensures.items
    (collected_none (answer_held g.R.Reader.view g.R.Offset.ReaderOffset.number)
    (IsPaired g.R.Offset.ReaderOffset.number) c.args.self.now.answers.items)

pub returns-clause-answer : goal.returns-clause-answer
returns-clause-answer g c =
    let number = g.R.Offset.ReaderOffset.number in
    let depth : to_z w64 (of_z w64 c.depth.result)
    ≡ c.depth.result = to_z-of_z w64 _ (record { sfits = c.depth.type_inv }) in
    let next_depth : to_z w64 (of_z w64 c.next_depth.result)
    ≡ c.next_depth.result = to_z-of_z w64 _ (record { sfits = c.next_depth.type_inv }) in
    collected_one (answer_held g.R.Reader.view number) (IsPaired number)
    c.args.self.now.answers.items
    c.push.new.self.items _ (answer_at c.args.outcome c.args.cursor.now)
    c.in-Ok-push.ensures.items
    (rw (
      depth,
      next_depth,
      c.in-Ok.ensures.entry,
      c.offset.ensures,
      c.depth.ensures,
      c.next_offset.ensures,
      c.next_depth.ensures,
    ) refl)
    (same_pair c.in-Ok.current (λ e. number e.offset.0) (λ e. e.depth) _ _ _ _ c.offset.ensures
    (depth ∙ c.depth.ensures) c.in-Ok.ensures.pair)
