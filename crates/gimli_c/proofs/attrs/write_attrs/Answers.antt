use Rattle.std.proofs.Common.{◌≡◌, ◌<◌, length, refl, sym, arith, add-zero}
use Rattle.std.proofs.Math.Seq.{take-length}
use Rattle.std.proofs.lemmas.List.{append-nil, take-append-drop}
use Rattle.gimli_c.proofs.Slots.{slot_more}
use Rattle.gimli_c.proofs.attrs.write_attrs.Goals as goal

pub each-init : goal.each-init
each-init c = record {
  place = omega arith;
  written = rw (append-nil, add-zero) (sym (take-append-drop c.args.from c.args.into.now));
}

pub each-preserved : goal.each-preserved
each-preserved c =
    let inv = c.each.invariant in
    let i = c.each.number-index in
    let h : i < length c.args.numbers.now = omega (arith, c.each-test.true) in
    record {
      place = omega (arith, inv.place);
      written = rw inv.place (slot_more c.args.numbers.now c.args.into.now c.each.into
          c.args.from i _ _ h c.requires inv.written refl);
    }

pub returns : goal.returns
returns c =
    let all : c.each.number-index ≡ length c.args.numbers.now =
    omega (arith, c.each-test.false, c.each.auto.number-index-end) in
    let w = rw all at c.each.invariant.written in
    rw take-length at w
