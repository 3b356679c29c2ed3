use Rattle.std.proofs.Common.{rules, ◌≡◌, sym, ap, ◌∙◌, Ok, true, false}
use Rattle.std.proofs.lemmas.Bool.{not-true, not-false}
use Rattle.gimli_units.proofs.Walking.{walking_on, has_walked_to, has_walked_out, read_shorter}
use Rattle.gimli_units.proofs.cursor.EntriesCursor.advance_dfs.Goals as goal

pub walk-preserved : goal.walk-preserved
walk-preserved g c =
    let took : c.read_next.result ≡ Ok true = c.in_ok-read_next.was ∙ ap Ok c.if-branch.true in
    walking_on g.R.Offset.ReaderOffset.limit c.args.self.now c.walk.self c.read_next.result
    c.read_next.new.self c.walk.invariant c.read_next.ensures.read took
    (not-false _ (sym c.is_on_entry.ensures ∙ c.if-is_on_entry.false))

pub walk-smaller : goal.walk-smaller
walk-smaller g c =
    let took : c.read_next.result ≡ Ok true = c.in_ok-read_next.was ∙ ap Ok c.if-branch.true in
    read_shorter g.R.Offset.ReaderOffset.limit c.walk.self c.read_next.result c.read_next.new.self
    c.read_next.ensures.read took

pub returns-then-is_on_entry : goal.returns-then-is_on_entry
returns-then-is_on_entry g c =
    let took : c.read_next.result ≡ Ok true = c.in_ok-read_next.was ∙ ap Ok c.if-branch.true in
    has_walked_to g.R.Offset.ReaderOffset.limit c.args.self.now c.walk.self c.read_next.result
    c.read_next.new.self c.walk.invariant c.read_next.ensures.read took
    (not-true _ (sym c.is_on_entry.ensures ∙ c.if-is_on_entry.true))

pub returns-in_err-read_next : goal.returns-in_err-read_next
returns-in_err-read_next g c =
    let r : c.from_residual.result ≡ c.read_next.result = search rules in
    rw r
    (has_walked_out g.R.Offset.ReaderOffset.limit c.args.self.now c.walk.self c.read_next.result
    c.read_next.new.self c.walk.invariant c.read_next.ensures.read
    (λ k. let was = c.in_err-read_next.was in cc))

pub returns : goal.returns
returns g c =
    let ends : c.read_next.result ≡ Ok false = c.in_ok-read_next.was ∙ ap Ok c.if-branch.false in
    let k = has_walked_out g.R.Offset.ReaderOffset.limit c.args.self.now c.walk.self
    c.read_next.result c.read_next.new.self c.walk.invariant c.read_next.ensures.read
    (λ h. cc) in
    rw ends at k
