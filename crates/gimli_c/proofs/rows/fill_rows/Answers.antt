use Rattle.std.proofs.Common.{◌≡◌, ◌<◌, ◌≤◌, ◌+ℤ◌, ◌∙◌, sym, refl, ap, arith, length}
use Rattle.std.proofs.Common.{true, w64, to_z, of_z, cond, []}
use Rattle.std.proofs.lemmas.Int.{to_z-of_z, fits_signed_from_abs, ints}
use Rattle.gimli_c.specs.declared.reading.Head.{Head}
use Rattle.gimli_c.proofs.Front.{front_more, filled_ended, filled_full, filled_refused}
use Rattle.gimli_c.proofs.Front.{first_none, first_more}
use Rattle.gimli_c.proofs.Shorter.{same_end, later_place}
use Rattle.gimli_c.proofs.Memory.{row_memory}
use Rattle.gimli_c.proofs.rows.fill_rows.Goals.{then-rows-test+else-not-is_empty, else-rows-test}
use Rattle.gimli_c.proofs.rows.fill_rows.Goals.{then-is_empty, else-is_empty}
use Rattle.gimli_c.proofs.rows.fill_rows.Goals as goal

pub rows-init : goal.rows-init
rows-init g c =
    let back : to_z w64 (of_z w64 c.args.base) ≡ c.args.base = to_z-of_z w64 _ c.ranges.base in
    rw back (record {
      front = λ _. record {
        taken = [];
        count = refl;
        room = omega arith;
        ahead = refl;
        rows = refl;
        fits = c.requires.fits;
      };
      steps = λ given. given;
      first = first_none c.args.rows.now;
      end = refl;
      left = omega arith;
      further = λ some. absurd (omega (arith, some));
      fits = c.requires.fits;
    })

pub returns-in-Err-clause-outcome : goal.returns-in-Err-clause-outcome
returns-in-Err-clause-outcome g c = λ given.
    let p = g.T.ReadEntries.place c.rows.entries in
    let start = g.T.ReadEntries.place c.args.entries.now in
    let back : to_z w64 (of_z w64 c.args.base) ≡ c.args.base = to_z-of_z w64 _ c.ranges.base in
    let f = rw back at (c.rows.invariant.front given) in
    let some : length p.rest.bytes ≡ 0 → ⊥ = λ none. let t : c.is_empty.result ≡ true =
    c.is_empty.ensures.1 none in let no = c.if-not-is_empty.true in cc in
    let room : c.rows.count < length c.args.rows.now =
    omega (arith, c.rows-test.true, c.rows.auto.rows) in
    let depth = rw back at c.place_of-place.ensures.depth in
    rw c.row_refused.ensures (filled_refused g.R.Offset.ReaderOffset.limit c.args.base
    start p c.args.rows.now c.rows.rows c.place_of-place.result
    c.rows.count c.in-Err.error
    f some room (c.in-Err.ensures.refused (c.rows.invariant.steps given))
    c.place_of-place.ensures.offset depth)

pub rows-preserved : goal.rows-preserved
rows-preserved g c =
    let p = g.T.ReadEntries.place c.rows.entries in
    let start = g.T.ReadEntries.place c.args.entries.now in
    let back : to_z w64 (of_z w64 c.args.base) ≡ c.args.base = to_z-of_z w64 _ c.ranges.base in
    let some : length p.rest.bytes ≡ 0 → ⊥ = λ none. let t : c.is_empty.result ≡ true =
    c.is_empty.ensures.1 none in let no = c.if-not-is_empty.true in cc in
    let room : c.rows.count < length c.args.rows.now =
    omega (arith, c.rows-test.true, c.rows.auto.rows) in
    let depth = rw back at c.place_of-place.ensures.depth in
    let fits = rw back at c.rows.invariant.fits in
    let back_sum : to_z w64 (of_z w64 (c.args.base +ℤ p.depth)) ≡ c.args.base +ℤ p.depth =
    to_z-of_z w64 _ (fits_signed_from_abs w64 _ (omega (arith, ints, fits))) in
    let further = c.in-Ok.ensures.further in
    record {
      front = λ given.
          let f = rw back at (c.rows.invariant.front given) in
          let past = c.in-Ok.ensures.past (c.rows.invariant.steps given) in
          let tag : c.in-Ok.head.tag ≡ past.entry.tag.0 =
          ap (λ (h : Head). h.tag) past.head_is in
          let flag : c.in-Ok.head.has_children ≡ cond past.entry.has_children 1 0 =
          ap (λ (h : Head). h.has_children) past.head_is in
          rw (back, depth, back_sum, c.place_of-place.ensures.offset, tag, flag, past.moved)
          (front_more g.R.Offset.ReaderOffset.limit c.args.base start p c.args.rows.now
          c.rows.rows c.rows.count past.entry (g.T.ReadEntries.place c.pass.new.self).rest _ f room
          some past.is refl);
      steps = λ given. c.pass.ensures.steps (c.rows.invariant.steps given);
      first = first_more _ _ _ _ c.rows.invariant.first room;
      end = same_end further ∙ c.rows.invariant.end;
      left = omega (arith, further.shorter, c.rows.invariant.left);
      further = λ _. omega (arith, further.shorter, c.rows.invariant.left);
      fits = rw back (omega (arith, fits, further.near, further.shorter));
    }

pub returns-clause-outcome : goal.returns-clause-outcome
returns-clause-outcome g c = λ given.
    let p = g.T.ReadEntries.place c.rows.entries in
    let start = g.T.ReadEntries.place c.args.entries.now in
    let back : to_z w64 (of_z w64 c.args.base) ≡ c.args.base = to_z-of_z w64 _ c.ranges.base in
    let f = rw back at (c.rows.invariant.front given) in
    let offset = c.place_of.ensures.offset in
    let depth = rw back at c.place_of.ensures.depth in
    let limit = g.R.Offset.ReaderOffset.limit in
    elim c.if-is_empty.branch [
      | then-is_empty w ↦
          let none : length p.rest.bytes ≡ 0 = c.is_empty-2.ensures.0 w.if-is_empty.true in
          rw w.status-is (filled_ended limit c.args.base start p c.args.rows.now
          c.rows.rows c.place_of.result c.rows.count f none offset depth)
      | else-is_empty w ↦
          let some : length p.rest.bytes ≡ 0 → ⊥ = λ none. let t : c.is_empty-2.result ≡ true =
          c.is_empty-2.ensures.1 none in let no = w.if-is_empty.false in cc in
          let full : length c.args.rows.now ≤ c.rows.count = elim c.rows-test.branch [
            | then-rows-test+else-not-is_empty v ↦ let yes = v.if-not-is_empty.false in
                absurd (some (v.is_empty.ensures.0 (cc)))
            | else-rows-test v ↦ omega (arith, v.rows-test.false, c.rows.auto.rows)
          ] in
          rw w.status-is (filled_full limit c.args.base start p c.args.rows.now
          c.rows.rows c.place_of.result c.rows.count f some full offset depth)
    ]

pub returns-in-Err-clause-further : goal.returns-in-Err-clause-further
returns-in-Err-clause-further g c = λ is some.
    absurd (omega (arith, c.row_refused.ensures, is))

pub returns-clause-further : goal.returns-clause-further
returns-clause-further g c = λ is some.
    let inv = c.rows.invariant in
    let start = g.T.ReadEntries.place c.args.entries.now in
    let p = g.T.ReadEntries.place c.rows.entries in
    elim c.if-is_empty.branch [
      | then-is_empty w ↦ absurd (omega (arith, w.status-is, is))
      | else-is_empty w ↦
          let left : length p.rest.bytes ≡ 0 → ⊥ = λ none. let t : c.is_empty-2.result ≡ true =
          c.is_empty-2.ensures.1 none in let no = w.if-is_empty.false in cc in
          let count : 0 < c.rows.count = elim c.rows-test.branch [
            | then-rows-test+else-not-is_empty v ↦ let yes = v.if-not-is_empty.false in
                absurd (left (v.is_empty.ensures.0 (cc)))
            | else-rows-test v ↦ omega (arith, v.rows-test.false, c.rows.auto.rows, some)
          ] in
          rw c.place_of.ensures.offset
          (later_place start p inv.end c.requires.within (inv.further count))
    ]

pub returns-in-Err-clause-row_memory : goal.returns-in-Err-clause-row_memory
returns-in-Err-clause-row_memory g c = λ is.
    c.in-Err.ensures.memory (row_memory c.in-Err.error (sym c.row_refused.ensures ∙ is))
