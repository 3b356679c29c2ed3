use Rattle.std.proofs.Common.{◌<◌, ◌≤◌, sym, ◌∙◌, arith, length, true, false}
use Rattle.gimli_base.proofs.AbbreviationReads.{declaration_at-shorter}
use Rattle.gimli_c.proofs.TableFront.{scan_begin, scan_unordered, scan_written, scan_counted}
use Rattle.gimli_c.proofs.TableFront.{scan_refused, scan_ended}
use Rattle.gimli_c.proofs.table.scan.Goals.{then-count-declarations, else-count-declarations}
use Rattle.gimli_c.proofs.table.scan.Goals as goal

pub declared-init : goal.declared-init
declared-init g c = record {
  front = scan_begin (g.R.Reader.view c.args.input.now) c.args.declarations.now
      c.args.specifications.now;
  count_fits = omega arith;
  used_fits = omega arith;
}

pub returns-then-declared-count : goal.returns-then-declared-count
returns-then-declared-count g c =
    let inv = c.declared.invariant in
    let n = rw c.in-Ok-Some.field-0-is at c.in-Ok-Some.ensures.read in
    let lt = declaration_at-shorter _ _ _ n.read in
    rw c.no_table.ensures (record {
      outcome = scan_unordered _ _ _ _ _ _ _ _ inv.front _ _ _ n lt c.if-declared-count.true;
      written = λ is. absurd (omega (arith, is));
    })

pub declared-preserved : goal.declared-preserved
declared-preserved g c =
    let inv = c.declared.invariant in
    let n = rw c.in-Ok-Some.field-0-is at c.in-Ok-Some.ensures.read in
    let lt = declaration_at-shorter _ _ _ n.read in
    record {
      front = elim c.if-count-declarations.branch [
        | then-count-declarations w ↦
            let room : c.declared.count < length c.declared.declarations =
            omega (arith, w.if-count-declarations.true, c.declared.auto.declarations) in
            rw w.declarations-is
            (scan_written _ _ _ _ _ _ _ _ inv.front _ _ _ n lt c.if-declared-count.false room)
        | else-count-declarations w ↦
            let full : length c.declared.declarations ≤ c.declared.count =
            omega (arith, w.if-count-declarations.false, c.declared.auto.declarations) in
            rw w.declarations-is
            (scan_counted _ _ _ _ _ _ _ _ inv.front _ _ _ n lt c.if-declared-count.false full)
      ];
      count_fits = omega (arith, inv.count_fits, lt);
      used_fits = omega (arith, inv.used_fits, n.takes);
    }

pub returns-then-fits : goal.returns-then-fits
returns-then-fits g c =
    let inv = c.declared.invariant in
    let read = rw c.in-Ok-None.field-0-is at c.in-Ok-None.ensures.read in
    rw (read.1) (scan_ended _ _ _ _ _ _ _ _ inv.front _ read.0 true
    (rw (read.1) at (sym c.if-fits.true ∙ c.has_room-fits.ensures)))

pub returns-else-fits : goal.returns-else-fits
returns-else-fits g c =
    let inv = c.declared.invariant in
    let read = rw c.in-Ok-None.field-0-is at c.in-Ok-None.ensures.read in
    rw (read.1) (scan_ended _ _ _ _ _ _ _ _ inv.front _ read.0 false
    (rw (read.1) at (sym c.if-fits.false ∙ c.has_room-fits.ensures)))

pub returns-in-Err : goal.returns-in-Err
returns-in-Err g c =
    let inv = c.declared.invariant in
    rw (c.no_table-in-Err.ensures, c.refusal_status.ensures) (record {
      outcome = scan_refused _ _ _ _ _ _ _ _ inv.front _ c.in-Err.ensures.refused;
      written = λ is. absurd (omega (arith, is));
    })
