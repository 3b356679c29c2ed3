use Rattle.std.proofs.Common.{rules, ◌≡◌, refl, sym, ap, ◌∙◌, [], Ok, Err, true, false}
use Rattle.gimli_units.proofs.TreeSteps.{end_answer}
use Rattle.gimli_units.proofs.tree.EntriesTreeIter.next.Goals as goal

pub returns-in_err-advance-clause-refused : goal.returns-in_err-advance-clause-refused
returns-in_err-advance-clause-refused g c =
    let r : c.from_residual.result ≡ Err c.in_err-advance.field-0.0 = search rules in
    let e = c.in_err-advance.field-0.0 in
    let was = c.in_err-advance.was in
    let sought = (c.advance.ensures.moved (λ k. let x = sym was ∙ k in absurd (cc))).1.sought in
    rw r (
      c.advance.new.self.tree.now.cursor,
      sought.refused e was,
      (
        (λ honest. sought.place e was (λ f. honest)),
        (λ t to_sibling deep. sought.refused_there e was t to_sibling deep),
      ),
    )

pub returns-then-not-branch-clause-answers : goal.returns-then-not-branch-clause-answers
returns-then-not-branch-clause-answers g c fits honest =
    let no : c.advance.result ≡ Ok false = search rules in
    end_answer g.R.Offset.ReaderOffset.limit c.args.self.now.tree.now c.advance.new.self.tree.now
    c.args.self.now.depth c.args.self.now.is_open
    (λ o. rw no at c.advance.ensures.gone_on o fits) honest

pub returns-in_err-advance-clause-as_advance : goal.returns-in_err-advance-clause-as_advance
returns-in_err-advance-clause-as_advance g c opened near =
    let r : c.from_residual.result ≡ Err c.in_err-advance.field-0.0 = search rules in
    let was = c.in_err-advance.was in
    rw r (c.advance.new.self.tree.now, rw was at c.advance.ensures.gone_on opened near)

pub returns-then-not-branch-clause-as_advance : goal.returns-then-not-branch-clause-as_advance
returns-then-not-branch-clause-as_advance g c opened near =
    let no : c.advance.result ≡ Ok false = search rules in
    (c.advance.new.self.tree.now, rw no at c.advance.ensures.gone_on opened near)

pub returns-clause-as_advance : goal.returns-clause-as_advance
returns-clause-as_advance g c opened near =
    let yes : c.advance.result ≡ Ok true = search rules in
    (c.advance.new.self.tree.now, rw yes at c.advance.ensures.gone_on opened near)

pub returns-clause-child : goal.returns-clause-child
returns-clause-child g c =
    let yes : c.advance.result ≡ Ok true = search rules in
    let asked = c.advance.ensures.moved (λ k. let x = sym yes ∙ k in absurd (cc)) in
    let gone = rw yes at asked.1 in
    let found = gone.sought.yes refl in
    rw c.node.ensures.tree (
    record {
      true_entry = found.0;
      no_null = found.1;
      deep = found.2;
      past = gone.past refl;
      inside = λ near. record { low = gone.inside refl; shallow = near };
      place = λ honest. rw asked.0 (ap (λ moved. moved.place) (gone.goes honest []));
      gone_on = gone;
      few = gone.sought.few;
      one_read = λ deep t to_sibling. gone.sought.once t to_sibling deep;
    }
    )
