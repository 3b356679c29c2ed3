use Rattle.std.proofs.Common.{◌≡◌, ◌∙◌, ap, w64, to_z, of_z}
use Rattle.std.proofs.lemmas.Int.{to_z-of_z}
use Rattle.gimli_units.specs.CursorModel.{CursorView}
use Rattle.gimli_units.proofs.PassedOn.{sound_pass}
use Rattle.gimli_units.proofs.SeekTurns.{passing_on, passing_shorter, passing_out, passing_to}
use Rattle.gimli_units.proofs.SeekTurns.{passed_here}
use Rattle.gimli_units.proofs.cursor.EntriesCursor.pass_to.Goals as goal

pub set_place-requires : goal.set_place-requires
set_place-requires g c =
    let limit = g.R.Offset.ReaderOffset.limit in
    let deep : to_z w64 (of_z w64 c.next_depth-depth.result) ≡ c.passing.raw.depth =
    to_z-of_z w64 _ (record { sfits = c.next_depth-depth.type_inv }) ∙ c.next_depth-depth.ensures in
    let follows : c.self.inside.follows ≡ c.args.self.now.follows =
    ap (λ (x : CursorView). x.follows) c.self.view_is in
    let passed = passed_here limit _ _ _ _ _ _ follows c.pass_on.ensures _ _ _ in
    let kept = ap (λ (x : CursorView). x.follows) c.passing.invariant.kept in
    rw (kept, deep, c.next_offset-offset.ensures)
    (sound_pass limit _ _ _ _ c.passing.invariant.passing.sound passed)

pub returns-in-Err-clause-refused : goal.returns-in-Err-clause-refused
returns-in-Err-clause-refused g c =
    let limit = g.R.Offset.ReaderOffset.limit in
    let deep : to_z w64 (of_z w64 c.next_depth-depth.result) ≡ c.passing.raw.depth =
    to_z-of_z w64 _ (record { sfits = c.next_depth-depth.type_inv }) ∙ c.next_depth-depth.ensures in
    let follows : c.self.inside.follows ≡ c.args.self.now.follows =
    ap (λ (x : CursorView). x.follows) c.self.view_is in
    let passed = passed_here limit _ _ _ _ _ _ follows c.pass_on.ensures
    (g.R.Offset.ReaderOffset.number c.passing.offset.0) (to_z w64 c.passing.depth-bits)
    c.passing.reads in
    let same = to_z-of_z w64 c.args.sought c.ranges.sought in
    let kept = ap (λ (x : CursorView). x.follows) c.passing.invariant.kept in
    rw (c.set_place.ensures, kept, deep, c.next_offset-offset.ensures)
    (passing_out limit c.args.sought c.args.self.now _ c.pass_on.result _
    (rw same at c.passing.invariant.passing) (rw same at passed) c.in-Err.refusal
    c.in-Err.is)

pub passing-smaller : goal.passing-smaller
passing-smaller g c =
    let limit = g.R.Offset.ReaderOffset.limit in
    let passed = passed_here limit _ _ _ _ _ _ (ap (λ (x : CursorView). x.follows) c.self.view_is)
    c.pass_on.ensures _ _ _ in
    passing_shorter limit _ c.args.self.now _ _ _ c.passing.invariant.passing.sound passed
    c.in-Ok.is

pub passing-preserved : goal.passing-preserved
passing-preserved g c =
    let limit = g.R.Offset.ReaderOffset.limit in
    let deep : to_z w64 (of_z w64 c.next_depth-depth.result) ≡ c.passing.raw.depth =
    to_z-of_z w64 _ (record { sfits = c.next_depth-depth.type_inv }) ∙ c.next_depth-depth.ensures in
    let passed = passed_here limit _ _ _ _ _ _ (ap (λ (x : CursorView). x.follows) c.self.view_is)
    c.pass_on.ensures _ _ _ in
    record {
      kept = c.passing.invariant.kept;
      passing =
          rw (deep, c.next_offset-offset.ensures)
          (passing_on limit _ c.args.self.now _ _ _ c.passing.invariant.passing passed c.in-Ok.is
          (c.is_at_other_depth.ensures.other c.passing-test.true));
    }

pub returns-clause-passed : goal.returns-clause-passed
returns-clause-passed g c =
    let same = to_z-of_z w64 c.args.sought c.ranges.sought in
    rw (c.set_place-2.ensures, ap (λ (x : CursorView). x.follows) c.passing.invariant.kept)
    (passing_to g.R.Offset.ReaderOffset.limit c.args.sought c.args.self.now _
    (rw same at c.passing.invariant.passing)
    (rw same at c.is_at_other_depth.ensures.same c.passing-test.false))
