use Rattle.std.proofs.Common.{rules, ◌≡◌, ◌∙◌, ap, length, Ok, Err, true, false, w64}
use Rattle.std.specs.Ordering.{int_eq}
use Rattle.std.proofs.lemmas.Int.{to_z-of_z}
use Rattle.gimli_units.specs.CursorModel.{CursorView}
use Rattle.gimli_units.proofs.SeekTurns.{Leaving, leaving_start, leaving_sound, leaving_to}
use Rattle.gimli_units.proofs.SeekTurns.{leaving_after, left_to, left_end, left_out}
use Rattle.gimli_units.proofs.cursor.EntriesCursor.seek.Goals.{then-is_at_other_depth+in_ok-pass_to}
use Rattle.gimli_units.proofs.cursor.EntriesCursor.seek.Goals.{else-is_at_other_depth}
use Rattle.gimli_units.proofs.cursor.EntriesCursor.seek.Goals as goal

pub pass_to-requires : goal.pass_to-requires
pass_to-requires g c =
    let deep = to_z-of_z w64 c.args.depth c.ranges.depth in
    let offset = g.R.Offset.ReaderOffset.number c.args.offset.0 in
    record {
      sound =
          leaving_sound g.R.Offset.ReaderOffset.limit c.args.depth offset c.args.self.now
          c.follow.new.self
          (leaving_start g.R.Offset.ReaderOffset.limit c.args.depth offset c.args.self.now
          c.follow.new.self c.requires.sound (rw deep at c.follow.ensures));
      none = ap (λ (x : CursorView). x.entry) c.follow.ensures;
    }

pub returns-in_err-pass_to : goal.returns-in_err-pass_to
returns-in_err-pass_to g c =
    let limit = g.R.Offset.ReaderOffset.limit in
    let deep = to_z-of_z w64 c.args.depth c.ranges.depth in
    let offset = g.R.Offset.ReaderOffset.number c.args.offset.0 in
    let r : c.from_residual.result ≡ Err c.in_err-pass_to.field-0.0 = search rules in
    let k = leaving_start limit c.args.depth offset c.args.self.now c.follow.new.self
    c.requires.sound (rw deep at c.follow.ensures) in
    rw r
    (leaving_after limit c.args.depth offset c.args.self.now c.follow.new.self _ c.pass_to.new.self
    k (rw deep at c.in_err-pass_to.ensures.refused))

pub returns-in_err-read_next : goal.returns-in_err-read_next
returns-in_err-read_next g c =
    let limit = g.R.Offset.ReaderOffset.limit in
    let deep = to_z-of_z w64 c.args.depth c.ranges.depth in
    let offset = g.R.Offset.ReaderOffset.number c.args.offset.0 in
    let start = leaving_start limit c.args.depth offset c.args.self.now c.follow.new.self
    c.requires.sound (rw deep at c.follow.ensures) in
    let k : Leaving limit c.args.depth offset c.args.self.now c.if-is_at_other_depth.self =
    elim c.if-is_at_other_depth.branch [
      | then-is_at_other_depth+in_ok-pass_to w ↦
          rw w.self-is
          (leaving_to limit c.args.depth offset c.args.self.now c.follow.new.self _ start
          (rw deep at w.in_ok-pass_to.ensures.passed))
      | else-is_at_other_depth w ↦ rw w.self-is start
    ] in
    let there : (length c.if-is_at_other_depth.self.raw.rest.bytes ≡ 0 → ⊥)
    → int_eq c.if-is_at_other_depth.self.raw.depth c.args.depth ≡ true = elim c.if-is_at_other_depth.branch [
      | then-is_at_other_depth+in_ok-pass_to w ↦
          let to = rw deep at w.in_ok-pass_to.ensures.passed in rw w.self-is to.there
      | else-is_at_other_depth w ↦
          let raw = ap (λ (x : CursorView). x.raw) c.self.view_is in
          rw w.self-is (rw (deep, raw) at (c.is_at_other_depth.ensures.same w.if-is_at_other_depth.false))
    ] in
    let r : c.from_residual-in_err-read_next.result ≡ Err c.in_err-read_next.field-0.0 = search
    rules in
    rw r
    (left_out limit c.args.depth offset c.args.self.now c.if-is_at_other_depth.self c.read_next.result
    c.read_next.new.self k c.read_next.ensures.read c.in_err-read_next.field-0.0
    c.in_err-read_next.was there)

pub returns-then-branch : goal.returns-then-branch
returns-then-branch g c =
    let limit = g.R.Offset.ReaderOffset.limit in
    let deep = to_z-of_z w64 c.args.depth c.ranges.depth in
    let offset = g.R.Offset.ReaderOffset.number c.args.offset.0 in
    let start = leaving_start limit c.args.depth offset c.args.self.now c.follow.new.self
    c.requires.sound (rw deep at c.follow.ensures) in
    let k : Leaving limit c.args.depth offset c.args.self.now c.if-is_at_other_depth.self =
    elim c.if-is_at_other_depth.branch [
      | then-is_at_other_depth+in_ok-pass_to w ↦
          rw w.self-is
          (leaving_to limit c.args.depth offset c.args.self.now c.follow.new.self _ start
          (rw deep at w.in_ok-pass_to.ensures.passed))
      | else-is_at_other_depth w ↦ rw w.self-is start
    ] in
    let there : (length c.if-is_at_other_depth.self.raw.rest.bytes ≡ 0 → ⊥)
    → int_eq c.if-is_at_other_depth.self.raw.depth c.args.depth ≡ true = elim c.if-is_at_other_depth.branch [
      | then-is_at_other_depth+in_ok-pass_to w ↦
          let to = rw deep at w.in_ok-pass_to.ensures.passed in rw w.self-is to.there
      | else-is_at_other_depth w ↦
          let raw = ap (λ (x : CursorView). x.raw) c.self.view_is in
          rw w.self-is (rw (deep, raw) at (c.is_at_other_depth.ensures.same w.if-is_at_other_depth.false))
    ] in
    let took : c.read_next.result ≡ Ok true = c.in_ok-read_next.was ∙ ap Ok c.if-branch.true in
    rw c.is_on_entry.ensures
    (left_to limit c.args.depth offset c.args.self.now c.if-is_at_other_depth.self c.read_next.result
    c.read_next.new.self k c.read_next.ensures.read took there)

pub returns : goal.returns
returns g c =
    let limit = g.R.Offset.ReaderOffset.limit in
    let deep = to_z-of_z w64 c.args.depth c.ranges.depth in
    let offset = g.R.Offset.ReaderOffset.number c.args.offset.0 in
    let start = leaving_start limit c.args.depth offset c.args.self.now c.follow.new.self
    c.requires.sound (rw deep at c.follow.ensures) in
    let k : Leaving limit c.args.depth offset c.args.self.now c.if-is_at_other_depth.self =
    elim c.if-is_at_other_depth.branch [
      | then-is_at_other_depth+in_ok-pass_to w ↦
          rw w.self-is
          (leaving_to limit c.args.depth offset c.args.self.now c.follow.new.self _ start
          (rw deep at w.in_ok-pass_to.ensures.passed))
      | else-is_at_other_depth w ↦ rw w.self-is start
    ] in
    let ends : c.read_next.result ≡ Ok false = c.in_ok-read_next.was ∙ ap Ok c.if-branch.false in
    let pair = rw deep at c.set_pair.ensures in
    rw pair
    (left_end limit c.args.depth offset c.args.self.now c.if-is_at_other_depth.self c.read_next.result
    c.read_next.new.self k c.read_next.ensures.read ends)
