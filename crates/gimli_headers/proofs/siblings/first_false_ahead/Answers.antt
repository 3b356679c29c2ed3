use Rattle.std.proofs.Common.{◌≡◌, ◌∷◌, ℤ, refl, sym, ap, ◌∙◌, rules, length, w64, to_z, of_z}
use Rattle.std.proofs.Common.{None}
use Rattle.std.specs.Option.{option_map, option_copied}
use Rattle.gimli_units.specs.Honest.{usable_target}
use Rattle.std.proofs.lemmas.Int.{to_z-of_z}
use Rattle.gimli_units.proofs.EntryReads.{entry_at-shorter}
use Rattle.gimli_units.proofs.HeadReads.{entry_of_head, refusal_of_head}
use Rattle.gimli_units.specs.RawPlace.{RawPlace}
use Rattle.gimli_units.specs.Rows.{Row}
use Rattle.gimli_units.specs.CursorModel.{rows_of}
use Rattle.gimli_headers.specs.OpenRows.{check_held, judgement, IsPassedRow}
use Rattle.gimli_headers.proofs.RowTurns.{ended_rows, refused_rows, more_rows, turn_judged}
use Rattle.gimli_headers.proofs.RowTurns.{none_first, none_after}
use Rattle.gimli_headers.proofs.RowTurns.{head_null, not_twice}
use Rattle.std.specs.Prelude.{not}
use Rattle.gimli_headers.proofs.siblings.first_false_ahead.Goals as goal

pub returns-in-Err-clause-value : goal.returns-in-Err-clause-value
returns-in-Err-clause-value g c =
    let limit = g.R.Offset.ReaderOffset.limit in
    let number = g.R.Offset.ReaderOffset.number in
    let p = c.rows.entries in
    let some : length p.rest.bytes ≡ 0 → ⊥ = λ none. let t = c.rows-test.ensures.1 none in cc in
    let none = refused_rows limit p c.in-Err.field-0 some
    (refusal_of_head limit p c.in-Err.field-0 c.in-Err.ensures.value) in
    c.finish.ensures p.end ∙ ap (judgement p.end (check_held number c.rows.check)) (sym none)
    ∙ c.rows.invariant.same

pub rows-smaller : goal.rows-smaller
rows-smaller g c =
    let limit = g.R.Offset.ReaderOffset.limit in
    let number = g.R.Offset.ReaderOffset.number in
    let p = c.rows.entries in
    let q = c.read_head_and_sibling.new.self in
    let o = option_copied c.in-Ok.declared in
    let to_sibling = option_map (λ x. number x.0) c.in-Ok.sibling in
    let h = entry_of_head limit p o to_sibling q.rest q.depth c.in-Ok.ensures.value c.in-Ok.ensures.some
    c.in-Ok.ensures.advances.depth in
    entry_at-shorter _ _ _ _ _ _ h.of.reads

pub rows-preserved : goal.rows-preserved
rows-preserved g c =
    let limit = g.R.Offset.ReaderOffset.limit in
    let number = g.R.Offset.ReaderOffset.number in
    let p = c.rows.entries in
    let q = c.read_head_and_sibling.new.self in
    let o = option_copied c.in-Ok.declared in
    let to_sibling = option_map (λ x. number x.0) c.in-Ok.sibling in
    let h = entry_of_head limit p o to_sibling q.rest q.depth c.in-Ok.ensures.value c.in-Ok.ensures.some
    c.in-Ok.ensures.advances.depth in
    let r : Row = record {
      offset = number c.next_offset-offset.result.0;
      next = number c.next_offset.result.0;
      depth = p.depth;
      entry = h.of.entry;
    } in
    let some : length p.rest.bytes ≡ 0 → ⊥ = search rules in
    let deep : to_z w64 (of_z w64 c.next_depth-depth.result) ≡ p.depth =
    to_z-of_z w64 _ (record { sfits = c.next_depth-depth.type_inv }) ∙ c.next_depth-depth.ensures in
    let next = c.in-Ok.ensures.advances.same
    ∙ ap (λ (d : ℤ). record p { rest = q.rest; depth = d }) h.of.after in
    let more : (rows_of limit p).rows ≡ r ∷ (rows_of limit q).rows =
    more_rows limit p q r some h.of.reads next c.next_offset-offset.ensures c.next_offset.ensures refl in
    let same_end : q.end ≡ p.end = ap (λ (x : RawPlace). x.end) c.in-Ok.ensures.advances.same in
    let end : number c.args.end.0 ≡ p.end = c.requires ∙ sym c.rows.invariant.end in
    let is : IsPassedRow number
    (record {
      is_null = c.is_none.result;
      offset = c.next_offset-offset.result;
      depth = to_z w64 (of_z w64 c.next_depth-depth.result);
      sibling =
          c.in-Ok.sibling;
    }) (number c.next_offset.result.0) r =
    record {
      null = head_null c.in-Ok.declared h.of.entry c.in-Ok.ensures.some h.of.same
          ∙ ap not c.is_none.ensures ∙ not_twice c.is_none.result;
      offset = refl;
      next = refl;
      depth = sym deep;
      to_sibling = sym h.to_sibling;
    } in
    record {
      same = turn_judged (number c.args.end.0) p.end q.end (check_held number c.rows.check)
          (check_held number c.go_past.new.check) r _ _ _ end same_end more
          (λ others. c.in_ok-go_past-in-Ok.ensures.judged r others is) c.rows.invariant.same;
      rise = rw h.of.after (c.in_ok-go_past-in-Ok.ensures.rise r is);
      end = same_end ∙ c.rows.invariant.end;
      idle = λ none. none_after c.args.entries.now.end _ r _ more (c.rows.invariant.idle none);
    }

pub returns-in_err-go_past-in-Ok-clause-without_memory : goal.returns-in_err-go_past-in-Ok-clause-without_memory
returns-in_err-go_past-in-Ok-clause-without_memory g c = λ none.
    let limit = g.R.Offset.ReaderOffset.limit in
    let number = g.R.Offset.ReaderOffset.number in
    let p = c.rows.entries in
    let q = c.read_head_and_sibling.new.self in
    let o = option_copied c.in-Ok.declared in
    let to_sibling = option_map (λ x. number x.0) c.in-Ok.sibling in
    let h = entry_of_head limit p o to_sibling q.rest q.depth c.in-Ok.ensures.value c.in-Ok.ensures.some
    c.in-Ok.ensures.advances.depth in
    let r : Row = record {
      offset = number c.next_offset-offset.result.0;
      next = number c.next_offset.result.0;
      depth = p.depth;
      entry = h.of.entry;
    } in
    let some : length p.rest.bytes ≡ 0 → ⊥ = search rules in
    let deep : to_z w64 (of_z w64 c.next_depth-depth.result) ≡ p.depth =
    to_z-of_z w64 _ (record { sfits = c.next_depth-depth.type_inv }) ∙ c.next_depth-depth.ensures in
    let next = c.in-Ok.ensures.advances.same
    ∙ ap (λ (d : ℤ). record p { rest = q.rest; depth = d }) h.of.after in
    let more : (rows_of limit p).rows ≡ r ∷ (rows_of limit q).rows =
    more_rows limit p q r some h.of.reads next c.next_offset-offset.ensures c.next_offset.ensures refl in
    let same_end : q.end ≡ p.end = ap (λ (x : RawPlace). x.end) c.in-Ok.ensures.advances.same in
    let end : number c.args.end.0 ≡ p.end = c.requires ∙ sym c.rows.invariant.end in
    let is : IsPassedRow number
    (record {
      is_null = c.is_none.result;
      offset = c.next_offset-offset.result;
      depth = to_z w64 (of_z w64 c.next_depth-depth.result);
      sibling =
          c.in-Ok.sibling;
    }) (number c.next_offset.result.0) r =
    record {
      null = head_null c.in-Ok.declared h.of.entry c.in-Ok.ensures.some h.of.same
          ∙ ap not c.is_none.ensures ∙ not_twice c.is_none.result;
      offset = refl;
      next = refl;
      depth = sym deep;
      to_sibling = sym h.to_sibling;
    } in
    let no : usable_target (number c.args.end.0) r ≡ None =
    rw c.requires (none_first c.args.entries.now.end _ r _ more (c.rows.invariant.idle none)) in
    absurd (let ok = c.in_err-go_past-in-Ok.ensures.without_memory r is no in cc)

pub returns-clause-value : goal.returns-clause-value
returns-clause-value g c =
    let limit = g.R.Offset.ReaderOffset.limit in
    let number = g.R.Offset.ReaderOffset.number in
    let p = c.rows.entries in
    let none : length p.rest.bytes ≡ 0 = c.rows-test.ensures.0 refl in
    c.finish-2.ensures p.end
    ∙ ap (judgement p.end (check_held number c.rows.check)) (sym (ended_rows limit p none))
    ∙ c.rows.invariant.same
