use Rattle.std.proofs.Common.{◌∙◌, ◌+◌, ◌++◌, [], ◌∷◌, sym, ap, arith, drop, map, append_assoc}
use Rattle.std.proofs.lemmas.List.{drop_more, map-append}
use Rattle.gimli_units.specs.Value.{map_attribute}
use Rattle.gimli_units.proofs.entry.copies.Goals as goal

pub loop-attr-preserved : goal.loop-attr-preserved
loop-attr-preserved g c =
    let f = map_attribute g.R.Reader.view g.R.Offset.ReaderOffset.number in
    let rest = drop (c.loop-attr.attr-index + 1) c.args.attrs.now in
    let next = drop_more _ _ _ c.loop-attr-test.true ∙ ap (λ x. x ∷ rest) (sym c.attr-item.is) in
    let items = ap (map f) c.push_reserved.ensures.items
    ∙ map-append f c.loop-attr.copies.items (c.copy.result ∷ []) in
    record {
      same = c.loop-attr.invariant.same ∙ ap (λ ys. map f c.loop-attr.copies.items ++ map f ys) next
          ∙ ap (λ y. map f c.loop-attr.copies.items ++ (y ∷ map f rest)) (sym c.copy.ensures)
          ∙ sym (append_assoc (map f c.loop-attr.copies.items) (f c.copy.result ∷ []) (map f rest))
          ∙ ap (λ ys. ys ++ map f rest) (sym items);
      room = omega arith;
    }
