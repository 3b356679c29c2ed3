use Rattle.std.proofs.Common.{◌≡◌, ◌+◌, ◌-◌, ◌<◌, ◌≤◌, ◌^◌, sym, ap, ◌∙◌, arith, length}
use Rattle.std.proofs.Common.{unsigned_abs, w64, to_z, of_z}
use Rattle.std.proofs.lemmas.Int.{to_z-of_z}
use Rattle.gimli_base.specs.Table.{codes_of}
use Rattle.gimli_units.specs.Unit.{whole_length}
use Rattle.gimli_units.specs.RawPlace.{RawPlace}
use Rattle.gimli_units.specs.UnitHeld.{unit_view}
use Rattle.gimli_c.specs.Fronts.{at}
use Rattle.gimli_c.proofs.Bounds.{unread_bounds, read_bounds, below_end, bytes_left, idle_ended}
use Rattle.gimli_c.proofs.Bounds.{idle_outside, idle_deep, rows_there}
use Rattle.gimli_c.proofs.Memory.{refusal_no_row}
use Rattle.gimli_c.proofs.reading.start_at.Goals.{then-left-via-then-left}
use Rattle.gimli_c.proofs.reading.start_at.Goals.{then-left-via-else-left+then-steps-left}
use Rattle.gimli_c.proofs.reading.start_at.Goals as goal

pub returns-then-start-whole-clause-ahead : goal.returns-then-start-whole-clause-ahead
returns-then-start-whole-clause-ahead g c = λ t opened.
    let number = g.R.Offset.ReaderOffset.number c.args.offset in
    let u = unit_view c.args.unit.now in
    let here : number ≡ whole_length u =
    sym c.into_u64-start.ensures.value ∙ c.if-start-whole.true ∙ c.into_u64-whole.ensures.value
    ∙ c.length_including_self.ensures in
    idle_ended g.R.Offset.ReaderOffset.limit u (at number c.args.depth) (codes_of t)
    c.args.unit.now.entries_fit here

pub returns-in-Err-clause-ahead : goal.returns-in-Err-clause-ahead
returns-in-Err-clause-ahead g c = λ t opened.
    let number = g.R.Offset.ReaderOffset.number c.args.offset in
    let u = unit_view c.args.unit.now in
    let not_end : number ≡ whole_length u → ⊥ =
    λ h. c.if-start-whole.false (c.into_u64-start.ensures.value ∙ h
    ∙ sym (c.into_u64-whole.ensures.value ∙ c.length_including_self.ensures)) in
    rw c.refusal_status.ensures
    (idle_outside g.R.Offset.ReaderOffset.limit u (at number c.args.depth) not_end t c.in-Err.error
    (rw c.in-Err.is at opened))

pub returns-in-Err-clause-memory : goal.returns-in-Err-clause-memory
returns-in-Err-clause-memory g c =
    let number = g.R.Offset.ReaderOffset.number c.args.offset in
    let no = rw c.in-Err.is at c.requires.1 in
    let e = (unread_bounds (unit_view c.args.unit.now) c.requires.0 number c.in-Err.error no).1 in
    rw (c.refusal_status.ensures, e) (λ is. absurd (omega (arith, is)))

pub returns-in-Err-clause-row_memory : goal.returns-in-Err-clause-row_memory
returns-in-Err-clause-row_memory g c =
    rw c.refusal_status.ensures (λ is. absurd (refusal_no_row c.in-Err.error is))

pub overflow_sub-left : goal.overflow_sub-left
overflow_sub-left g c =
    let u = unit_view c.args.unit.now in
    let number = g.R.Offset.ReaderOffset.number c.args.offset in
    let p = g.T.ReadEntries.place c.in-Ok.entries in
    let is = rw c.in-Ok.is at c.requires.1 in
    let below = below_end u number (read_bounds u c.requires.0 number p is).0 in
    omega (
      arith,
      below.1,
      c.into_u64-start.ensures.value,
      c.into_u64-whole.ensures.value,
      c.length_including_self.ensures,
    )

pub returns-then-left-clause-ahead : goal.returns-then-left-clause-ahead
returns-then-left-clause-ahead g c = λ t opened.
    let u = unit_view c.args.unit.now in
    let number = g.R.Offset.ReaderOffset.number c.args.offset in
    let p = g.T.ReadEntries.place c.in-Ok.entries in
    let is = rw c.in-Ok.is at opened in
    let back : to_z w64 (of_z w64 c.args.depth) ≡ c.args.depth = to_z-of_z w64 _ c.ranges.depth in
    let not_end : number ≡ whole_length u → ⊥ =
    λ h. c.if-start-whole.false (c.into_u64-start.ensures.value ∙ h
    ∙ sym (c.into_u64-whole.ensures.value ∙ c.length_including_self.ensures)) in
    let start : c.into_u64-start.result ≡ number = c.into_u64-start.ensures.value in
    let whole : c.into_u64-whole.result ≡ whole_length u =
    c.into_u64-whole.ensures.value ∙ c.length_including_self.ensures in
    let steps : c.unsigned_abs-steps.result ≡ unsigned_abs c.args.depth =
    c.unsigned_abs-steps.ensures.value ∙ ap unsigned_abs back in
    let deep : 2 ^ 63 ≤ unsigned_abs c.args.depth + (whole_length u - number) =
    elim c.then-left.branch [
      | then-left-via-then-left w ↦ omega (arith, w.if-left.true, start, whole)
      | then-left-via-else-left+then-steps-left w ↦
          omega (arith, w.if-left.false, w.if-steps-left.true, start, whole, steps)
    ] in
    idle_deep g.R.Offset.ReaderOffset.limit u (at number c.args.depth) not_end t p is deep

pub returns-clause-ahead : goal.returns-clause-ahead
returns-clause-ahead g c = λ t opened.
    let u = unit_view c.args.unit.now in
    let number = g.R.Offset.ReaderOffset.number c.args.offset in
    let p = g.T.ReadEntries.place c.in-Ok.entries in
    let is = rw c.in-Ok.is at opened in
    let back : to_z w64 (of_z w64 c.args.depth) ≡ c.args.depth = to_z-of_z w64 _ c.ranges.depth in
    let not_end : number ≡ whole_length u → ⊥ =
    λ h. c.if-start-whole.false (c.into_u64-start.ensures.value ∙ h
    ∙ sym (c.into_u64-whole.ensures.value ∙ c.length_including_self.ensures)) in
    let start : c.into_u64-start.result ≡ number = c.into_u64-start.ensures.value in
    let whole : c.into_u64-whole.result ≡ whole_length u =
    c.into_u64-whole.ensures.value ∙ c.length_including_self.ensures in
    let steps : c.unsigned_abs-steps.result ≡ unsigned_abs c.args.depth =
    c.unsigned_abs-steps.ensures.value ∙ ap unsigned_abs back in
    let shallow : unsigned_abs c.args.depth + (whole_length u - number) < 2 ^ 63 =
    omega (arith, c.if-left.false, c.if-steps-left.false, start, whole, steps) in
    rows_there g.R.Offset.ReaderOffset.limit u (at number c.args.depth) not_end t p is shallow

pub returns-clause-stands : goal.returns-clause-stands
returns-clause-stands g c =
    let u = unit_view c.args.unit.now in
    let number = g.R.Offset.ReaderOffset.number c.args.offset in
    let p = g.T.ReadEntries.place c.in-Ok.entries in
    let is = rw c.in-Ok.is at c.requires.1 in
    let back : to_z w64 (of_z w64 c.args.depth) ≡ c.args.depth = to_z-of_z w64 _ c.ranges.depth in
    let start : c.into_u64-start.result ≡ number = c.into_u64-start.ensures.value in
    let whole : c.into_u64-whole.result ≡ whole_length u =
    c.into_u64-whole.ensures.value ∙ c.length_including_self.ensures in
    let steps : c.unsigned_abs-steps.result ≡ unsigned_abs c.args.depth =
    c.unsigned_abs-steps.ensures.value ∙ ap unsigned_abs back in
    let yes = read_bounds u c.requires.0 number p is in
    let below = below_end u number yes.0 in
    let bytes : length p.rest.bytes ≡ whole_length u - number =
    ap (λ (p : RawPlace). length p.rest.bytes) yes.1
    ∙ bytes_left u number c.args.unit.now.entries_fit yes.0 in
    let end = ap (λ (p : RawPlace). p.end) yes.1 in
    let none : unsigned_abs p.depth ≡ 0 = ap (λ (p : RawPlace). unsigned_abs p.depth) yes.1 in
    record {
      offset = omega (arith, bytes, end, below.1);
      within = omega (arith, bytes, end);
      fits = omega (
        arith,
        c.if-left.false,
        c.if-steps-left.false,
        start,
        whole,
        steps,
        bytes,
        none,
      );
    }
