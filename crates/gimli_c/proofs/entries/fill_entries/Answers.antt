use Rattle.std.proofs.Common.{◌≡◌, ◌<◌, ◌≤◌, ◌+◌, ◌-◌, ◌+ℤ◌, ◌++◌, map, take, drop, refl, ap}
use Rattle.std.proofs.Common.{◌∙◌, arith, length, true, w64, to_z, of_z}
use Rattle.std.proofs.Common.{cond, []}
use Rattle.std.proofs.lemmas.Int.{to_z-of_z, fits_signed_from_abs, ints}
use Rattle.std.proofs.lemmas.List.{length-map}
use Rattle.gimli_c.specs.declared.reading.Head.{Head}
use Rattle.gimli_c.specs.Attrs.{attr_of}
use Rattle.gimli_c.specs.Status.{row_refused}
use Rattle.gimli_c.proofs.EntryFront.{entry_more, entries_ended, entries_full, entries_refused}
use Rattle.gimli_c.proofs.EntryFront.{entries_large}
use Rattle.gimli_c.proofs.Memory.{row_memory, onward_none, onward_next}
use Rattle.gimli_c.proofs.entries.fill_entries.Goals.{then-rows-test+else-not-is_empty}
use Rattle.gimli_c.proofs.entries.fill_entries.Goals.{else-rows-test, then-is_empty, else-is_empty}
use Rattle.gimli_c.proofs.entries.fill_entries.Goals as goal

pub rows-init : goal.rows-init
rows-init g c =
    let back : to_z w64 (of_z w64 c.args.base) ≡ c.args.base = to_z-of_z w64 _ c.ranges.base in
    rw back (record {
      taken = [];
      count = refl;
      room = omega arith;
      ahead = refl;
      rows = refl;
      attributes = refl;
      used_is = refl;
      space = omega arith;
      onward = onward_none (g.T.ReadEntries.place c.args.entries.now);
      fits = c.requires;
    })

pub returns-in-Err-clause-outcome : goal.returns-in-Err-clause-outcome
returns-in-Err-clause-outcome g c =
    let p = g.T.ReadEntries.place c.rows.entries in
    let start = g.T.ReadEntries.place c.args.entries.now in
    let back : to_z w64 (of_z w64 c.args.base) ≡ c.args.base = to_z-of_z w64 _ c.ranges.base in
    let f = rw back at c.rows.invariant in
    let some : length p.rest.bytes ≡ 0 → ⊥ = λ none. let t : c.is_empty.result ≡ true =
    c.is_empty.ensures.1 none in let no = c.if-not-is_empty.true in cc in
    let room : c.rows.count < length c.args.rows.now =
    omega (arith, c.rows-test.true, c.rows.auto.rows) in
    let depth = rw back at c.place_of-place.ensures.depth in
    rw (c.outcome_entries.ensures, c.wrote.ensures, c.row_refused.ensures)
    (entries_refused g.R.Offset.ReaderOffset.limit c.args.base start p
    c.args.rows.now c.rows.rows c.args.attrs.now c.rows.attrs c.place_of-place.result c.rows.count
    c.rows.used
    f c.place_of-place.ensures.offset depth c.in-Err.error some room
    (λ other. c.in-Err.ensures.refused (λ is. other (ap row_refused is))) c.in-Err.ensures.memory)

pub returns-then-attributes-attrs-clause-outcome : goal.returns-then-attributes-attrs-clause-outcome
returns-then-attributes-attrs-clause-outcome g c =
    let p = g.T.ReadEntries.place c.rows.entries in
    let start = g.T.ReadEntries.place c.args.entries.now in
    let back : to_z w64 (of_z w64 c.args.base) ≡ c.args.base = to_z-of_z w64 _ c.ranges.base in
    let f = rw back at c.rows.invariant in
    let some : length p.rest.bytes ≡ 0 → ⊥ = λ none. let t : c.is_empty.result ≡ true =
    c.is_empty.ensures.1 none in let no = c.if-not-is_empty.true in cc in
    let room : c.rows.count < length c.args.rows.now =
    omega (arith, c.rows-test.true, c.rows.auto.rows) in
    let depth = rw back at c.place_of-place.ensures.depth in
    let r = c.in-Ok.ensures.past in
    let e = r.past.entry in
    let many : length c.as_slice-numbers_read.result.now ≡ length e.attributes =
    ap length c.as_slice-numbers_read.ensures.value ∙ ap length r.numbers_are
    ∙ length-map e.attributes attr_of in
    let large : length c.args.attrs.now - c.rows.used < length e.attributes =
    omega (arith, many, c.if-attributes-attrs.true, c.rows.auto.attrs) in
    rw (c.outcome_entries-then-attributes-attrs.ensures, c.wrote-then-attributes-attrs.ensures, many)
    (entries_large g.R.Offset.ReaderOffset.limit c.args.base start p
    c.args.rows.now c.rows.rows c.args.attrs.now c.rows.attrs c.place_of-place.result c.rows.count
    c.rows.used
    f c.place_of-place.ensures.offset depth e (g.T.ReadEntries.place c.read.new.self).rest some
    room r.past.is
    large)

pub rows-preserved : goal.rows-preserved
rows-preserved g c =
    let p = g.T.ReadEntries.place c.rows.entries in
    let start = g.T.ReadEntries.place c.args.entries.now in
    let back : to_z w64 (of_z w64 c.args.base) ≡ c.args.base = to_z-of_z w64 _ c.ranges.base in
    let f = rw back at c.rows.invariant in
    let some : length p.rest.bytes ≡ 0 → ⊥ = λ none. let t : c.is_empty.result ≡ true =
    c.is_empty.ensures.1 none in let no = c.if-not-is_empty.true in cc in
    let room : c.rows.count < length c.args.rows.now =
    omega (arith, c.rows-test.true, c.rows.auto.rows) in
    let r = c.in-Ok.ensures.past in
    let e = r.past.entry in
    let depth = rw back at c.place_of-place.ensures.depth in
    let back_sum : to_z w64 (of_z w64 (c.args.base +ℤ p.depth)) ≡ c.args.base +ℤ p.depth =
    to_z-of_z w64 _ (fits_signed_from_abs w64 _ (omega (arith, ints, f.fits))) in
    let tag : c.in-Ok.head.tag ≡ e.tag.0 = ap (λ (h : Head). h.tag) r.past.head_is in
    let flag : c.in-Ok.head.has_children ≡ cond e.has_children 1 0 =
    ap (λ (h : Head). h.has_children) r.past.head_is in
    let each = length-map e.attributes attr_of in
    let many : length c.as_slice-numbers_read.result.now ≡ length e.attributes =
    ap length c.as_slice-numbers_read.ensures.value ∙ ap length r.numbers_are
    ∙ each in
    let space : c.rows.used + length e.attributes ≤ length c.args.attrs.now =
    omega (arith, many, c.if-attributes-attrs.false, c.rows.auto.attrs, f.space) in
    let wrote : c.write_attrs.new.into ≡ (take c.rows.used c.rows.attrs ++ map attr_of e.attributes)
    ++ drop (c.rows.used + length e.attributes) c.rows.attrs =
    rw (c.as_slice-numbers_read.ensures.value, r.numbers_are, each) at c.write_attrs.ensures in
    rw (back, depth, back_sum, c.place_of-place.ensures.offset, many, tag, flag, r.past.moved)
    (entry_more g.R.Offset.ReaderOffset.limit c.args.base start p c.args.rows.now
    c.rows.rows c.args.attrs.now c.rows.attrs c.write_attrs.new.into c.rows.count c.rows.used e
    (g.T.ReadEntries.place c.read.new.self).rest _ f room space some r.past.is refl wrote)

pub returns-clause-outcome : goal.returns-clause-outcome
returns-clause-outcome g c =
    let p = g.T.ReadEntries.place c.rows.entries in
    let start = g.T.ReadEntries.place c.args.entries.now in
    let back : to_z w64 (of_z w64 c.args.base) ≡ c.args.base = to_z-of_z w64 _ c.ranges.base in
    let f = rw back at c.rows.invariant in
    let offset = c.place_of.ensures.offset in
    let depth = rw back at c.place_of.ensures.depth in
    let limit = g.R.Offset.ReaderOffset.limit in
    elim c.if-is_empty.branch [
      | then-is_empty w ↦
          let none : length p.rest.bytes ≡ 0 = c.is_empty-2.ensures.0 w.if-is_empty.true in
          rw (c.outcome_entries-2.ensures, c.wrote-2.ensures, w.status-is)
          (entries_ended limit c.args.base start p c.args.rows.now
          c.rows.rows c.args.attrs.now c.rows.attrs c.place_of.result c.rows.count c.rows.used
          f offset depth none)
      | else-is_empty w ↦
          let some : length p.rest.bytes ≡ 0 → ⊥ = λ none. let t : c.is_empty-2.result ≡ true =
          c.is_empty-2.ensures.1 none in let no = w.if-is_empty.false in cc in
          let full : length c.args.rows.now ≤ c.rows.count = elim c.rows-test.branch [
            | then-rows-test+else-not-is_empty v ↦ let sure = v.if-not-is_empty.false in
                absurd (some (v.is_empty.ensures.0 (cc)))
            | else-rows-test v ↦ omega (arith, v.rows-test.false, c.rows.auto.rows)
          ] in
          rw (c.outcome_entries-2.ensures, c.wrote-2.ensures, w.status-is)
          (entries_full limit c.args.base start p c.args.rows.now
          c.rows.rows c.args.attrs.now c.rows.attrs c.place_of.result c.rows.count c.rows.used
          f offset depth some full)
    ]

pub returns-in-Err-clause-row_memory : goal.returns-in-Err-clause-row_memory
returns-in-Err-clause-row_memory g c =
    let p = g.T.ReadEntries.place c.rows.entries in
    let start = g.T.ReadEntries.place c.args.entries.now in
    let some : length p.rest.bytes ≡ 0 → ⊥ = λ none. let t : c.is_empty.result ≡ true =
    c.is_empty.ensures.1 none in let no = c.if-not-is_empty.true in cc in
    rw (c.outcome_entries.ensures, c.row_refused.ensures, c.place_of-place.ensures.offset)
    (λ fits outcome. onward_next start p c.rows.invariant.onward fits some
    (c.in-Err.ensures.takes (row_memory c.in-Err.error outcome)))

pub returns-then-attributes-attrs-clause-row_memory : goal.returns-then-attributes-attrs-clause-row_memory
returns-then-attributes-attrs-clause-row_memory g c =
    rw c.outcome_entries-then-attributes-attrs.ensures (λ _ outcome. absurd (omega (arith, outcome)))

pub returns-clause-row_memory : goal.returns-clause-row_memory
returns-clause-row_memory g c =
    rw c.outcome_entries-2.ensures
    (λ _ outcome. absurd (elim c.if-is_empty.branch [
      | then-is_empty w ↦ omega (arith, outcome, w.status-is)
      | else-is_empty w ↦ omega (arith, outcome, w.status-is)
    ]))
