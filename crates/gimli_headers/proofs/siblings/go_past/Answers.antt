use Rattle.std.proofs.Common.{◌≡◌, false, sym, ◌∙◌, rules, w64, to_z, of_z, FitsSigned, Some}
use Rattle.std.proofs.Common.{None, [], ◌∷◌, ◌++◌, subst}
use Rattle.gimli_headers.specs.OpenRows.{check_held, Rise}
use Rattle.std.proofs.lemmas.Int.{to_z-of_z}
use Rattle.gimli_units.specs.Entry.{is_null}
use Rattle.gimli_units.specs.Honest.{usable_target}
use Rattle.gimli_headers.proofs.RowTurns.{null_rise, entry_rise, opened_rise, on_ok, found_on}
use Rattle.gimli_headers.proofs.RowTurns.{passed_on, opened_on}
use Rattle.gimli_headers.proofs.siblings.go_past.Goals as goal

pub returns-then-passed-clause-judged : goal.returns-then-passed-clause-judged
returns-then-passed-clause-judged g c = λ r rest is.
    let x = c.args.passed.now in
    let fits : FitsSigned w64 x.depth = search rules in
    let back : to_z w64 (of_z w64 x.depth) ≡ x.depth = to_z-of_z w64 x.depth fits in
    let judges = rw back at c.close.ensures.judged in
    judges (g.Offset.ReaderOffset.number c.args.end.0) r rest (is.null ∙ c.if-passed.true) is.depth
    is.next

pub returns-then-passed-clause-rise : goal.returns-then-passed-clause-rise
returns-then-passed-clause-rise g c = λ r is.
    let x = c.args.passed.now in
    let fits : FitsSigned w64 x.depth = search rules in
    let back : to_z w64 (of_z w64 x.depth) ≡ x.depth = to_z-of_z w64 x.depth fits in
    let rises = rw back at c.close.ensures.rise in
    null_rise r.entry r.depth _ (is.null ∙ c.if-passed.true) (rw is.depth rises)

pub returns-then-is_some-clause-judged : goal.returns-then-is_some-clause-judged
returns-then-is_some-clause-judged g c = λ r rest is.
    let entry : is_null r.entry ≡ false = is.null ∙ c.if-passed.false in
    found_on (g.Offset.ReaderOffset.number c.args.end.0) _ r rest entry (rw is.depth c.requires) _
    (search rules)

pub returns-then-is_some-clause-rise : goal.returns-then-is_some-clause-rise
returns-then-is_some-clause-rise g c = λ r is.
    entry_rise r.entry r.depth _ (is.null ∙ c.if-passed.false) (rw is.depth c.requires)

pub returns-in-Some-clause-judged : goal.returns-in-Some-clause-judged
returns-in-Some-clause-judged g c =
    let number = g.Offset.ReaderOffset.number in
    let x = c.args.passed.now in
    let fits : FitsSigned w64 x.depth = search rules in
    let back : to_z w64 (of_z w64 x.depth) ≡ x.depth = to_z-of_z w64 x.depth fits in
    let added = rw back at c.enter.ensures.value in
    on_ok c.enter.result
    (λ new r rest is.
    let to_sibling : usable_target (number c.args.end.0) r ≡ Some (number c.in-Some.target.0) =
    rw (is.next, is.to_sibling) (sym c.in-Some.ensures) in
    let rise : Rise r.depth (check_held number c.args.check.now).opens =
    subst (λ d. Rise d (check_held number c.args.check.now).opens) (sym is.depth) c.requires in
    let opened : check_held number c.enter.new.self
    ≡ record {
      opens =
          (check_held number c.args.check.now).opens
          ++ record {
            offset = r.offset;
            depth = r.depth;
            target = number c.in-Some.target.0;
          } ∷ [];
      first = (check_held number c.args.check.now).first;
    } = rw (is.offset, is.depth) new in
    opened_on (number c.args.end.0) _ r rest (is.null ∙ c.if-passed.false) rise _
    (number c.in-Some.target.0) _ (search rules) to_sibling opened) added

pub returns-in-Some-clause-rise : goal.returns-in-Some-clause-rise
returns-in-Some-clause-rise g c =
    let number = g.Offset.ReaderOffset.number in
    let x = c.args.passed.now in
    let fits : FitsSigned w64 x.depth = search rules in
    let back : to_z w64 (of_z w64 x.depth) ≡ x.depth = to_z-of_z w64 x.depth fits in
    let added = rw back at c.enter.ensures.value in
    on_ok c.enter.result
    (λ new r is.
    let to_sibling : usable_target (number c.args.end.0) r ≡ Some (number c.in-Some.target.0) =
    rw (is.next, is.to_sibling) (sym c.in-Some.ensures) in
    let rise : Rise r.depth (check_held number c.args.check.now).opens =
    subst (λ d. Rise d (check_held number c.args.check.now).opens) (sym is.depth) c.requires in
    let opened : check_held number c.enter.new.self
    ≡ record {
      opens =
          (check_held number c.args.check.now).opens
          ++ record {
            offset = r.offset;
            depth = r.depth;
            target = number c.in-Some.target.0;
          } ∷ [];
      first = (check_held number c.args.check.now).first;
    } = rw (is.offset, is.depth) new in
    opened_rise (number c.args.end.0) r _ _ (number c.in-Some.target.0) _
    (is.null ∙ c.if-passed.false) to_sibling rise opened) added

pub returns-in-None-clause-judged : goal.returns-in-None-clause-judged
returns-in-None-clause-judged g c = λ r rest is.
    let to_sibling : usable_target (g.Offset.ReaderOffset.number c.args.end.0) r ≡ None =
    rw (is.next, is.to_sibling) (sym c.in-None.ensures) in
    passed_on (g.Offset.ReaderOffset.number c.args.end.0) _ r rest (is.null ∙ c.if-passed.false)
    (rw is.depth c.requires) _ (search rules) to_sibling

pub returns-in-None-clause-rise : goal.returns-in-None-clause-rise
returns-in-None-clause-rise g c = λ r is.
    entry_rise r.entry r.depth _ (is.null ∙ c.if-passed.false) (rw is.depth c.requires)

pub returns-in-Some-clause-without_memory : goal.returns-in-Some-clause-without_memory
returns-in-Some-clause-without_memory g c = λ r is none.
    let number = g.Offset.ReaderOffset.number in
    let to_sibling : usable_target (number c.args.end.0) r ≡ Some (number c.in-Some.target.0) =
    rw (is.next, is.to_sibling) (sym c.in-Some.ensures) in
    absurd (cc)
