use Rattle.std.proofs.Common.{◌≡◌, ◌+◌, ◌-◌, ◌<◌, ◌≤◌, rules, ap, sym, arith, [], ◌∷◌, ◌++◌}
use Rattle.std.proofs.Common.{length, length-append, refl}
use Rattle.gimli_base.specs.Abbreviations.{specifications_at}
use Rattle.gimli_base.specs.Items.{all_items}
use Rattle.gimli_base.proofs.ItemTurns.{items_begin, items_more, items_refused, items_end}
use Rattle.gimli_base.proofs.AbbreviationReads.{specification_at-shorter}
use Rattle.gimli_c.specs.TableReads.{AreWrittenAfter, HaveSteps}
use Rattle.gimli_c.proofs.TableFront.{after_none, after_more, after_counted, after_put}
use Rattle.gimli_c.proofs.TableFront.{steps_put, steps_left}
use Rattle.gimli_c.proofs.table.read_specifications.Goals.{then-at-specifications}
use Rattle.gimli_c.proofs.table.read_specifications.Goals.{else-at-specifications}
use Rattle.gimli_c.proofs.table.read_specifications.Goals.{then-at-specifications-2, else-at-specifications-2}
use Rattle.gimli_c.proofs.table.read_specifications.Goals as goal

pub each-init : goal.each-init
each-init g c = record {
  taken = [];
  read = items_begin _ _;
  at_is = omega arith;
  takes = omega arith;
  after = after_none c.args.from c.args.specifications.now;
}

pub returns-in_err-specification-clause-refused : goal.returns-in_err-specification-clause-refused
unfolding specifications_at
returns-in_err-specification-clause-refused g c =
    let ended =
    ap all_items (items_refused _ _ _ _ _ c.each.invariant.read c.in_err-specification.ensures.value) in
    search rules

pub each-smaller : goal.each-smaller
each-smaller g c = specification_at-shorter _ _ _ c.in_ok-specification.ensures.value

pub each-preserved : goal.each-preserved
each-preserved g c =
    let inv = c.each.invariant in
    let s = c.in-Some.specification in
    let next = rw c.in-Some.is at c.in_ok-specification.ensures.value in
    let shorter = specification_at-shorter _ _ _ next in
    let longer : length (inv.taken ++ s ∷ []) ≡ length inv.taken + 1 = rw (length-append) refl in
    record {
      taken = inv.taken ++ s ∷ [];
      read = items_more _ _ _ _ _ _ inv.read next shorter;
      at_is = omega (arith, inv.at_is, longer);
      takes = omega (arith, inv.takes, longer, shorter);
      after = elim c.if-at-specifications.branch [
        | then-at-specifications w ↦
            let room : c.args.from + length inv.taken < length c.each.specifications =
            omega (arith, w.if-at-specifications.true, inv.at_is, c.each.auto.specifications) in
            rw (w.specifications-is, inv.at_is)
            (after_more c.args.from inv.taken c.args.specifications.now c.each.specifications
            w.of.result s inv.after room w.of.ensures)
        | else-at-specifications w ↦
            let full : length c.each.specifications ≤ c.args.from + length inv.taken =
            omega (arith, w.if-at-specifications.false, inv.at_is, c.each.auto.specifications) in
            rw w.specifications-is
            (after_counted c.args.from inv.taken c.args.specifications.now
            c.each.specifications s inv.after full)
      ];
    }

pub returns-clause-read : goal.returns-clause-read
unfolding specifications_at
returns-clause-read g c =
    let inv = c.each.invariant in
    let last = rw c.in_default.is at c.in_ok-specification.ensures.value in
    let ended = ap all_items (items_end _ _ _ _ _ inv.read last) in
    let shorter = specification_at-shorter _ _ _ last in
    let n = length inv.taken in
    let count : c.each.at - c.args.from ≡ n = omega (arith, inv.at_is) in
    let both : AreWrittenAfter c.args.from inv.taken c.args.specifications.now
    c.if-at-specifications-2.specifications
    × HaveSteps c.args.from n c.args.specifications.now c.if-at-specifications-2.specifications =
    elim c.if-at-specifications-2.branch [
      | then-at-specifications-2 w ↦
          let fits : c.args.from + n ≤ length c.each.specifications =
          omega (arith, inv.at_is, w.if-at-specifications-2.true) in
          let same = rw count at w.put_steps.ensures.same in
          rw (w.specifications-is, count) (
            after_put c.args.from inv.taken c.args.specifications.now c.each.specifications _
                inv.after fits same,
            steps_put c.args.from inv.taken c.args.specifications.now c.each.specifications _
                inv.after fits same w.put_steps.ensures.steps,
          )
      | else-at-specifications-2 w ↦
          rw w.specifications-is (
            inv.after,
            steps_left c.args.from n c.args.specifications.now c.each.specifications
                inv.after.long (omega (arith, inv.at_is, w.if-at-specifications-2.false)),
          )
    ] in
    record {
      specifications = inv.taken;
      read = sym ended;
      count = omega (arith, inv.at_is);
      takes = omega (arith, inv.at_is, inv.takes, shorter);
      after = both.0;
      steps = both.1;
    }
