use Rattle.std.proofs.Common.{◌≡◌, refl, rules, length, ap, ◌∙◌, ℤ, w64, to_z, of_z, Ok}
use Rattle.std.specs.Option.{option_copied}
use Rattle.std.proofs.lemmas.Int.{to_z-of_z}
use Rattle.gimli_units.specs.Head.{Head}
use Rattle.gimli_units.specs.RawPlace.{next_offset_of}
use Rattle.gimli_units.proofs.HeadReads.{entry_of, refusal_of, entry_shorter}
use Rattle.gimli_walk.proofs.StoppedLines.{until_same}
use Rattle.gimli_walk.proofs.RowLines.{place_text, rows_ended, rows_refused, rows_more}
use Rattle.gimli_walk.proofs.rows.write_rows_left.Goals as goal

pub returns-in-Err-clause-text : goal.returns-in-Err-clause-text
returns-in-Err-clause-text g c =
    let limit = g.R.Offset.ReaderOffset.limit in
    let out = g.W.Write.contents c.rows.out in
    let new = g.W.Write.contents c.write_error_at.new.out in
    let p = c.rows.entries in
    let some : length p.rest.bytes ≡ 0 → ⊥ = search rules in
    let offset : c.into_u64-offset.result ≡ next_offset_of p = search rules in
    c.rows.invariant new (Ok 1)
    (rows_refused limit out new p c.in-Err.error some
    (refusal_of limit p c.in-Err.error c.in-Err.ensures.value)
    (rw offset at c.in_ok-write_error_at-in-Err.ensures))

pub rows-smaller : goal.rows-smaller
rows-smaller g c =
    let limit = g.R.Offset.ReaderOffset.limit in
    let p = c.rows.entries in
    let q = c.read_head.new.self in
    let o = option_copied c.in-Ok.declared in
    entry_shorter limit p o q.rest q.depth
    (entry_of limit p o q.rest q.depth c.in-Ok.ensures.value c.in-Ok.ensures.some
    c.in-Ok.ensures.advances.depth)

pub rows-preserved : goal.rows-preserved
rows-preserved g c = λ final written rest.
    let limit = g.R.Offset.ReaderOffset.limit in
    let p = c.rows.entries in
    let q = c.read_head.new.self in
    let o = option_copied c.in-Ok.declared in
    let h = entry_of limit p o q.rest q.depth c.in-Ok.ensures.value c.in-Ok.ensures.some
    c.in-Ok.ensures.advances.depth in
    let some : length p.rest.bytes ≡ 0 → ⊥ = search rules in
    let offset : c.into_u64-offset.result ≡ next_offset_of p = search rules in
    let depth : c.next_depth-depth.result ≡ p.depth = search rules in
    let next = c.in-Ok.ensures.advances.same
    ∙ ap (λ (d : ℤ). record p { rest = q.rest; depth = d }) h.after in
    let back : to_z w64 (of_z w64 c.next_depth-depth.result)
    ≡ c.next_depth-depth.result = to_z-of_z w64 _ (record { sfits = c.next_depth-depth.type_inv }) in
    let tag = c.head_parts-tag.ensures.tag ∙ ap (λ (x : Head). x.tag.0) h.same in
    let flag = c.head_parts-tag.ensures.flag ∙ ap (λ (x : Head). x.has_children) h.same in
    let line = rw (offset, back, depth, tag, flag) at c.in_ok-write_row-in-Ok.ensures in
    c.rows.invariant final written
    (rows_more limit _ (g.W.Write.contents c.write_row.new.out) final p h.entry q.rest written some
    h.reads line
    (until_same _ final _ _ written (ap (place_text limit) next) rest))

pub returns-clause-text : goal.returns-clause-text
returns-clause-text g c =
    let limit = g.R.Offset.ReaderOffset.limit in
    let out = g.W.Write.contents c.rows.out in
    let new = g.W.Write.contents c.write_end.new.out in
    let none : length c.rows.entries.rest.bytes ≡ 0 = c.rows-test.ensures.0 refl in
    c.rows.invariant new (Ok 0)
    (rows_ended limit out new c.rows.entries none c.in_ok-write_end.ensures)
