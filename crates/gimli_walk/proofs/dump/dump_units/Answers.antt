use Rattle.std.proofs.Common.{rules, ◌≡◌, ◌∙◌, sym, ap, Ok, Err, ℕ, max}
use Rattle.std.proofs.Math.Nat.{max-zero}
use Rattle.gimli_units.specs.UnitHeld.{unit_view}
use Rattle.gimli_walk.proofs.Dumps.{dump_ended, dump_refused, dump_more, dump_cut, dump_whole}
use Rattle.gimli_walk.proofs.Dumps.{after_status, after_after, until_outcome, first_takes_none}
use Rattle.gimli_walk.proofs.Dumps.{others_take_none}
use Rattle.gimli_walk.proofs.dump.dump_units.Goals as goal

pub returns-in_err-next-in-Ok-Some-clause-text : goal.returns-in_err-next-in-Ok-Some-clause-text
returns-in_err-next-in-Ok-Some-clause-text g c =
    let limit = g.R.Offset.ReaderOffset.limit in
    let declarations = g.R.Reader.view c.args.debug_abbrev.now.section in
    let start = g.W.Write.contents c.args.out.now in
    let out = g.W.Write.contents c.units.out in
    let new = g.W.Write.contents c.dump_unit.new.out in
    let stop = c.in_err-next-in-Ok-Some.field-0.0 in
    let r : c.from_residual.result ≡ Err stop = search rules in
    let cut = dump_cut limit declarations out new c.units.units c.next.new.self
    (unit_view c.in-Ok-Some.unit) stop
    (rw c.in-Ok-Some.field-0-is at c.in-Ok-Some.ensures.ahead)
    c.in_err-next-in-Ok-Some.ensures.text in
    rw r
    (dump_whole limit declarations start new c.units-units.result _ (Err stop)
    c.units-units.ensures.begin (c.units.invariant.completes new (Err stop) cut))

pub returns-in_err-next-in-Ok-Some-clause-without_memory : goal.returns-in_err-next-in-Ok-Some-clause-without_memory
returns-in_err-next-in-Ok-Some-clause-without_memory g c = λ none is.
    let declarations = g.R.Reader.view c.args.debug_abbrev.now.section in
    let ahead = rw c.in-Ok-Some.field-0-is at c.in-Ok-Some.ensures.ahead in
    let stop = c.in_err-next-in-Ok-Some.field-0.0 in
    let r : c.from_residual.result ≡ Err stop = search rules in
    c.in_err-next-in-Ok-Some.ensures.without_memory
    (first_takes_none _ declarations _ _ _ ahead (c.units.invariant.idle none))
    (let k = sym r ∙ is in cc)

pub units-preserved : goal.units-preserved
units-preserved g c =
    let limit = g.R.Offset.ReaderOffset.limit in
    let declarations = g.R.Reader.view c.args.debug_abbrev.now.section in
    let start = g.W.Write.contents c.args.out.now in
    let out = g.W.Write.contents c.units.out in
    let mid = g.W.Write.contents c.dump_unit.new.out in
    let next = c.in_ok-next-in-Ok-Some.next in
    let u = unit_view c.in-Ok-Some.unit in
    let greater : c.max-status.result ≡ max c.units.status next = search rules in
    record {
      completes = λ final written rest.
          until_outcome start final _ (after_status c.units.status (after_status next written))
          (after_status c.max-status.result written)
          (after_after c.units.status next written
          ∙ ap (λ (n : ℕ). after_status n written) (sym greater))
          (c.units.invariant.completes final (after_status next written)
          (dump_more limit declarations out mid final c.units.units c.next.new.self u next
          written (rw c.in-Ok-Some.field-0-is at c.in-Ok-Some.ensures.ahead)
          c.in_ok-next-in-Ok-Some.ensures.text rest));
      idle = λ none. others_take_none _ declarations _ _ _
          (rw c.in-Ok-Some.field-0-is at c.in-Ok-Some.ensures.ahead)
          (c.units.invariant.idle none);
      held = c.dump_unit.ensures.held;
    }

pub returns-in-Ok-None-clause-text : goal.returns-in-Ok-None-clause-text
returns-in-Ok-None-clause-text g c =
    let limit = g.R.Offset.ReaderOffset.limit in
    let declarations = g.R.Reader.view c.args.debug_abbrev.now.section in
    let start = g.W.Write.contents c.args.out.now in
    let out = g.W.Write.contents c.units.out in
    let all = c.units.invariant.completes out (Ok 0)
    (dump_ended limit declarations out c.units.units c.next.new.self
    (rw c.in-Ok-None.field-0-is at c.in-Ok-None.ensures.ahead)) in
    rw max-zero at
    (dump_whole limit declarations start out c.units-units.result _ (Ok (max c.units.status 0))
    c.units-units.ensures.begin all)

pub returns-in-Err-clause-text : goal.returns-in-Err-clause-text
returns-in-Err-clause-text g c =
    let limit = g.R.Offset.ReaderOffset.limit in
    let declarations = g.R.Reader.view c.args.debug_abbrev.now.section in
    let start = g.W.Write.contents c.args.out.now in
    let out = g.W.Write.contents c.units.out in
    let new = g.W.Write.contents c.write_error.new.out in
    let all = c.units.invariant.completes new (Ok 1)
    (dump_refused limit declarations out new c.units.units c.next.new.self c.in-Err.error
    c.in-Err.ensures.ahead c.in_ok-write_error-in-Err.ensures) in
    let greater : c.max.result ≡ max c.units.status 1 = search rules in
    rw greater
    (dump_whole limit declarations start new c.units-units.result _ (Ok (max c.units.status 1))
    c.units-units.ensures.begin all)
