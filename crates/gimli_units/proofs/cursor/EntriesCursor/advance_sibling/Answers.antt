use Rattle.std.proofs.Common.{rules, sym, ap, ◌∙◌, w64, FitsSigned}
use Rattle.std.proofs.lemmas.Bool.{not-true, not-false}
use Rattle.std.proofs.lemmas.Int.{to_z-of_z}
use Rattle.gimli_units.specs.CursorModel.{CursorView}
use Rattle.gimli_units.proofs.Walking.{has_walked_over, has_stayed}
use Rattle.gimli_units.proofs.cursor.EntriesCursor.advance_sibling.Goals as goal

pub returns-then-not-is_on_entry : goal.returns-then-not-is_on_entry
returns-then-not-is_on_entry g c =
    has_stayed g.R.Offset.ReaderOffset.limit c.args.self.now
    (not-false _ (sym c.is_on_entry.ensures ∙ c.if-not-is_on_entry.true))

pub returns : goal.returns
returns g c =
    let entry = not-true _ (sym c.is_on_entry.ensures ∙ c.if-not-is_on_entry.false) in
    let e = c.self.inside.entry in
    let fits : FitsSigned w64 e.depth = search rules in
    let deep = to_z-of_z w64 e.depth fits ∙ ap (λ (x : CursorView). x.depth) c.self.view_is in
    let at = ap (λ (x : CursorView). x.offset) c.self.view_is in
    has_walked_over g.R.Offset.ReaderOffset.limit c.args.self.now c.seek.result c.seek.new.self
    entry (rw (deep, at) at c.seek.ensures)
