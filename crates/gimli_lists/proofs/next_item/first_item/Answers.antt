use Rattle.std.proofs.Common.{◌≡◌, rules, refl, sym, ◌∙◌, arith, ◌<◌, length, Ok, Err, None, Some}
use Rattle.gimli_lists.specs.Places.{next_raw, entry_conversion}
use Rattle.gimli_lists.proofs.PlaceSteps.{Next, Converted, InList-trans, InList-read, ahead_none}
use Rattle.gimli_lists.proofs.PlaceSteps.{ahead_stop, next_raw-ended, next_raw-refused, after_end}
use Rattle.gimli_lists.proofs.PlaceSteps.{after_refused, after_one, after_more, spent_one}
use Rattle.gimli_lists.proofs.PlaceSteps.{spent_more, stepped-inside, stepped-ahead}
use Rattle.gimli_lists.proofs.PlaceSteps.{stepped-shorter, stepped-sound}
use Rattle.gimli_lists.proofs.next_item.first_item.Goals as goal

pub entries-init : goal.entries-init
entries-init g c = (refl, refl, omega arith, λ q h. h, λ q h. h)

pub returns-in_err-raw-clause-ahead : goal.returns-in_err-raw-clause-ahead
returns-in_err-raw-clause-ahead g c =
    let w = g.W.EntryWalk in
    let takes = g.met.W.EntryWalk.takes_bytes in
    let p = w.place c.entries.walk in
    let q = w.place c.take_raw.new.self in
    let e = c.in_err-raw.field-0.0 in
    let read : ◌≡◌ {A = Next w.Payload} (Err e, q.raw) (next_raw w.grammar p.raw) = search rules in
    let is : c.from_residual.result ≡ Err e = search rules in
    rw is (sym c.entries.invariant.0 ∙ ahead_stop w.grammar takes w.limit p q e read)

pub returns-in_err-raw-clause-same : goal.returns-in_err-raw-clause-same
returns-in_err-raw-clause-same g c =
    let w = g.W.EntryWalk in
    let takes = g.met.W.EntryWalk.takes_bytes in
    let p = w.place c.entries.walk in
    let q = w.place c.take_raw.new.self in
    InList-trans (w.place c.args.walk.now) p q c.entries.invariant.1
    (InList-read w.grammar takes w.limit p q _ c.take_raw.ensures.same c.take_raw.ensures.value)

pub returns-in_err-item-clause-ahead : goal.returns-in_err-item-clause-ahead
returns-in_err-item-clause-ahead g c =
    let w = g.W.EntryWalk in
    let takes = g.met.W.EntryWalk.takes_bytes in
    let p = w.place c.entries.walk in
    let q = w.place c.take_raw.new.self in
    let s = w.place c.convert.new.self in
    let entry = w.written c.in-Some.raw in
    let e = c.in_err-item.field-0.0 in
    let read : ◌≡◌ {A = Next w.Payload} (Ok (Some entry), q.raw) (next_raw w.grammar p.raw) =
    search rules in
    let made : ◌≡◌ {A = Converted w.Payload} (Err e, s) (entry_conversion w.limit entry q) =
    search rules in
    let is : c.from_residual-in_err-item.result ≡ Err e = search rules in
    rw is
    (stepped-ahead w.grammar takes w.limit (w.place c.args.walk.now) p q _ _ _
    c.take_raw.ensures.same read made c.entries.invariant.0)

pub returns-in_err-item-clause-same : goal.returns-in_err-item-clause-same
returns-in_err-item-clause-same g c =
    let w = g.W.EntryWalk in
    let takes = g.met.W.EntryWalk.takes_bytes in
    let p = w.place c.entries.walk in
    let q = w.place c.take_raw.new.self in
    let s = w.place c.convert.new.self in
    let entry = w.written c.in-Some.raw in
    let read : ◌≡◌ {A = Next w.Payload} (Ok (Some entry), q.raw) (next_raw w.grammar p.raw) =
    search rules in
    let made : ◌≡◌ {A = Converted w.Payload} (Err c.in_err-item.field-0.0, s)
    (entry_conversion w.limit entry q) = search rules in
    stepped-inside w.grammar takes w.limit (w.place c.args.walk.now) p q s entry
    (Err c.in_err-item.field-0.0) c.take_raw.ensures.same read made c.entries.invariant.1

pub returns-in_err-item-clause-takes : goal.returns-in_err-item-clause-takes
returns-in_err-item-clause-takes g c =
    let w = g.W.EntryWalk in
    let takes = g.met.W.EntryWalk.takes_bytes in
    let p = w.place c.entries.walk in
    let q = w.place c.take_raw.new.self in
    let s = w.place c.convert.new.self in
    let entry = w.written c.in-Some.raw in
    let read : ◌≡◌ {A = Next w.Payload} (Ok (Some entry), q.raw) (next_raw w.grammar p.raw) =
    search rules in
    let made : ◌≡◌ {A = Converted w.Payload} (Err c.in_err-item.field-0.0, s)
    (entry_conversion w.limit entry q) = search rules in
    let shorter : length q.raw.rest.bytes < length p.raw.rest.bytes = search rules in
    let is : c.from_residual-in_err-item.result ≡ Err c.in_err-item.field-0.0 = search rules in
    rw is
    (omega (
      arith,
      stepped-shorter w.grammar takes w.limit (w.place c.args.walk.now) p q s entry
          (Err c.in_err-item.field-0.0) c.take_raw.ensures.same read made shorter,
      c.entries.invariant.2,
    ))

pub returns-in-Some-2-clause-ahead : goal.returns-in-Some-2-clause-ahead
returns-in-Some-2-clause-ahead g c =
    let w = g.W.EntryWalk in
    let takes = g.met.W.EntryWalk.takes_bytes in
    let p = w.place c.entries.walk in
    let q = w.place c.take_raw.new.self in
    let s = w.place c.convert.new.self in
    let entry = w.written c.in-Some.raw in
    let read : ◌≡◌ {A = Next w.Payload} (Ok (Some entry), q.raw) (next_raw w.grammar p.raw) =
    search rules in
    let made : ◌≡◌ {A = Converted w.Payload} (Ok (Some (w.resolved c.in-Some-2.item)), s)
    (entry_conversion w.limit entry q) = search rules in
    stepped-ahead w.grammar takes w.limit (w.place c.args.walk.now) p q s entry
    (Ok (Some (w.resolved c.in-Some-2.item))) c.take_raw.ensures.same read made
    c.entries.invariant.0

pub returns-in-Some-2-clause-same : goal.returns-in-Some-2-clause-same
returns-in-Some-2-clause-same g c =
    let w = g.W.EntryWalk in
    let takes = g.met.W.EntryWalk.takes_bytes in
    let p = w.place c.entries.walk in
    let q = w.place c.take_raw.new.self in
    let s = w.place c.convert.new.self in
    let entry = w.written c.in-Some.raw in
    let read : ◌≡◌ {A = Next w.Payload} (Ok (Some entry), q.raw) (next_raw w.grammar p.raw) =
    search rules in
    let made : ◌≡◌ {A = Converted w.Payload} (Ok (Some (w.resolved c.in-Some-2.item)), s)
    (entry_conversion w.limit entry q) = search rules in
    stepped-inside w.grammar takes w.limit (w.place c.args.walk.now) p q s entry
    (Ok (Some (w.resolved c.in-Some-2.item))) c.take_raw.ensures.same read made
    c.entries.invariant.1

pub returns-in-Some-2-clause-takes : goal.returns-in-Some-2-clause-takes
returns-in-Some-2-clause-takes g c =
    let w = g.W.EntryWalk in
    let takes = g.met.W.EntryWalk.takes_bytes in
    let p = w.place c.entries.walk in
    let q = w.place c.take_raw.new.self in
    let s = w.place c.convert.new.self in
    let entry = w.written c.in-Some.raw in
    let read : ◌≡◌ {A = Next w.Payload} (Ok (Some entry), q.raw) (next_raw w.grammar p.raw) =
    search rules in
    let made : ◌≡◌ {A = Converted w.Payload} (Ok (Some (w.resolved c.in-Some-2.item)), s)
    (entry_conversion w.limit entry q) = search rules in
    let shorter : length q.raw.rest.bytes < length p.raw.rest.bytes = search rules in
    omega (
      arith,
      stepped-shorter w.grammar takes w.limit (w.place c.args.walk.now) p q s entry
          (Ok (Some (w.resolved c.in-Some-2.item))) c.take_raw.ensures.same read made shorter,
      c.entries.invariant.2,
    )

pub returns-in-Some-2-clause-sound : goal.returns-in-Some-2-clause-sound
returns-in-Some-2-clause-sound g c =
    let w = g.W.EntryWalk in
    let takes = g.met.W.EntryWalk.takes_bytes in
    let p = w.place c.entries.walk in
    let q = w.place c.take_raw.new.self in
    let s = w.place c.convert.new.self in
    let entry = w.written c.in-Some.raw in
    let read : ◌≡◌ {A = Next w.Payload} (Ok (Some entry), q.raw) (next_raw w.grammar p.raw) =
    search rules in
    let made : ◌≡◌ {A = Converted w.Payload} (Ok (Some (w.resolved c.in-Some-2.item)), s)
    (entry_conversion w.limit entry q) = search rules in
    stepped-sound w.grammar takes w.limit (w.place c.args.walk.now) p q s entry
    (Ok (Some (w.resolved c.in-Some-2.item))) c.take_raw.ensures.same read made
    c.entries.invariant.1

pub entries-smaller : goal.entries-smaller
entries-smaller g c =
    let w = g.W.EntryWalk in
    let takes = g.met.W.EntryWalk.takes_bytes in
    let p = w.place c.entries.walk in
    let q = w.place c.take_raw.new.self in
    let s = w.place c.convert.new.self in
    let entry = w.written c.in-Some.raw in
    let read : ◌≡◌ {A = Next w.Payload} (Ok (Some entry), q.raw) (next_raw w.grammar p.raw) =
    search rules in
    let made : ◌≡◌ {A = Converted w.Payload} (Ok None, s) (entry_conversion w.limit entry q) =
    search rules in
    let shorter : length q.raw.rest.bytes < length p.raw.rest.bytes = search rules in
    stepped-shorter w.grammar takes w.limit (w.place c.args.walk.now) p q s entry (Ok None)
    c.take_raw.ensures.same read made shorter

pub entries-preserved : goal.entries-preserved
entries-preserved g c =
    let w = g.W.EntryWalk in
    let takes = g.met.W.EntryWalk.takes_bytes in
    let p = w.place c.entries.walk in
    let q = w.place c.take_raw.new.self in
    let s = w.place c.convert.new.self in
    let entry = w.written c.in-Some.raw in
    let read : ◌≡◌ {A = Next w.Payload} (Ok (Some entry), q.raw) (next_raw w.grammar p.raw) =
    search rules in
    let made : ◌≡◌ {A = Converted w.Payload} (Ok None, s) (entry_conversion w.limit entry q) =
    search rules in
    let shorter : length q.raw.rest.bytes < length p.raw.rest.bytes = search rules in
    let left = stepped-shorter w.grammar takes w.limit (w.place c.args.walk.now) p q s entry
    (Ok None) c.take_raw.ensures.same read made shorter in (
      sym
          (stepped-ahead w.grammar takes w.limit (w.place c.args.walk.now) p q s entry (Ok None)
          c.take_raw.ensures.same read made c.entries.invariant.0),
      stepped-inside w.grammar takes w.limit (w.place c.args.walk.now) p q s entry (Ok None)
          c.take_raw.ensures.same read made c.entries.invariant.1,
      omega (arith, left, c.entries.invariant.2),
      λ t h. c.entries.invariant.3 t
          (after_more w.grammar takes w.limit p q s entry (Ok None) c.take_raw.ensures.same read
          made t refl h),
      λ t h. c.entries.invariant.4 t
          (spent_more w.grammar takes w.limit p q s entry (Ok None) c.take_raw.ensures.same read
          made t refl h),
    )

pub returns-clause-ahead : goal.returns-clause-ahead
returns-clause-ahead g c =
    let w = g.W.EntryWalk in
    let takes = g.met.W.EntryWalk.takes_bytes in
    let p = w.place c.entries.walk in
    let q = w.place c.take_raw.new.self in
    let read : ◌≡◌ {A = Next w.Payload} (Ok None, q.raw) (next_raw w.grammar p.raw) =
    search rules in
    sym c.entries.invariant.0 ∙ ahead_none w.grammar takes w.limit p q.raw read

pub returns-clause-same : goal.returns-clause-same
returns-clause-same g c =
    let w = g.W.EntryWalk in
    let takes = g.met.W.EntryWalk.takes_bytes in
    let p = w.place c.entries.walk in
    let q = w.place c.take_raw.new.self in
    let read : ◌≡◌ {A = Next w.Payload} (Ok None, q.raw) (next_raw w.grammar p.raw) =
    search rules in
    InList-trans (w.place c.args.walk.now) p q c.entries.invariant.1
    (InList-read w.grammar takes w.limit p q (Ok None) c.take_raw.ensures.same read)

pub returns-clause-ended : goal.returns-clause-ended
returns-clause-ended g c =
    let w = g.W.EntryWalk in
    let takes = g.met.W.EntryWalk.takes_bytes in
    let p = w.place c.entries.walk in
    let q = w.place c.take_raw.new.self in
    let read : ◌≡◌ {A = Next w.Payload} (Ok None, q.raw) (next_raw w.grammar p.raw) =
    search rules in
    next_raw-ended w.grammar takes w.limit p.raw q.raw read

pub returns-in_err-item-clause-place : goal.returns-in_err-item-clause-place
returns-in_err-item-clause-place g c =
    let w = g.W.EntryWalk in
    let takes = g.met.W.EntryWalk.takes_bytes in
    let p = w.place c.entries.walk in
    let q = w.place c.take_raw.new.self in
    let s = w.place c.convert.new.self in
    let entry = w.written c.in-Some.raw in
    let read : ◌≡◌ {A = Next w.Payload} (Ok (Some entry), q.raw) (next_raw w.grammar p.raw) =
    search rules in
    let made : ◌≡◌ {A = Converted w.Payload} (Err c.in_err-item.field-0.0, s)
    (entry_conversion w.limit entry q) = search rules in
    c.entries.invariant.3 s
    (after_one w.grammar takes w.limit p q s entry (Err c.in_err-item.field-0.0)
    c.take_raw.ensures.same read made refl)

pub returns-in-Some-2-clause-place : goal.returns-in-Some-2-clause-place
returns-in-Some-2-clause-place g c =
    let w = g.W.EntryWalk in
    let takes = g.met.W.EntryWalk.takes_bytes in
    let p = w.place c.entries.walk in
    let q = w.place c.take_raw.new.self in
    let s = w.place c.convert.new.self in
    let entry = w.written c.in-Some.raw in
    let read : ◌≡◌ {A = Next w.Payload} (Ok (Some entry), q.raw) (next_raw w.grammar p.raw) =
    search rules in
    let made : ◌≡◌ {A = Converted w.Payload} (Ok (Some (w.resolved c.in-Some-2.item)), s)
    (entry_conversion w.limit entry q) = search rules in
    c.entries.invariant.3 s
    (after_one w.grammar takes w.limit p q s entry (Ok (Some (w.resolved c.in-Some-2.item)))
    c.take_raw.ensures.same read made refl)

pub returns-clause-place : goal.returns-clause-place
returns-clause-place g c =
    let w = g.W.EntryWalk in
    let takes = g.met.W.EntryWalk.takes_bytes in
    let p = w.place c.entries.walk in
    let q = w.place c.take_raw.new.self in
    let read : ◌≡◌ {A = Next w.Payload} (Ok None, q.raw) (next_raw w.grammar p.raw) =
    search rules in
    c.entries.invariant.3 q (after_end w.grammar takes w.limit p q c.take_raw.ensures.same read)

pub returns-in_err-raw-clause-place : goal.returns-in_err-raw-clause-place
returns-in_err-raw-clause-place g c =
    let w = g.W.EntryWalk in
    let takes = g.met.W.EntryWalk.takes_bytes in
    let p = w.place c.entries.walk in
    let q = w.place c.take_raw.new.self in
    let e = c.in_err-raw.field-0.0 in
    let read : ◌≡◌ {A = Next w.Payload} (Err e, q.raw) (next_raw w.grammar p.raw) = search rules in
    c.entries.invariant.3 q
    (after_refused w.grammar takes w.limit p q e c.take_raw.ensures.same read)

pub returns-in_err-item-clause-spent : goal.returns-in_err-item-clause-spent
returns-in_err-item-clause-spent g c =
    let w = g.W.EntryWalk in
    let takes = g.met.W.EntryWalk.takes_bytes in
    let p = w.place c.entries.walk in
    let q = w.place c.take_raw.new.self in
    let s = w.place c.convert.new.self in
    let entry = w.written c.in-Some.raw in
    let read : ◌≡◌ {A = Next w.Payload} (Ok (Some entry), q.raw) (next_raw w.grammar p.raw) =
    search rules in
    let made : ◌≡◌ {A = Converted w.Payload} (Err c.in_err-item.field-0.0, s)
    (entry_conversion w.limit entry q) = search rules in
    c.entries.invariant.4 s
    (spent_one w.grammar takes w.limit p q s entry (Err c.in_err-item.field-0.0)
    c.take_raw.ensures.same read made s refl)

pub returns-in-Some-2-clause-spent : goal.returns-in-Some-2-clause-spent
returns-in-Some-2-clause-spent g c =
    let w = g.W.EntryWalk in
    let takes = g.met.W.EntryWalk.takes_bytes in
    let p = w.place c.entries.walk in
    let q = w.place c.take_raw.new.self in
    let s = w.place c.convert.new.self in
    let entry = w.written c.in-Some.raw in
    let read : ◌≡◌ {A = Next w.Payload} (Ok (Some entry), q.raw) (next_raw w.grammar p.raw) =
    search rules in
    let made : ◌≡◌ {A = Converted w.Payload} (Ok (Some (w.resolved c.in-Some-2.item)), s)
    (entry_conversion w.limit entry q) = search rules in
    c.entries.invariant.4 s
    (spent_one w.grammar takes w.limit p q s entry (Ok (Some (w.resolved c.in-Some-2.item)))
    c.take_raw.ensures.same read made s refl)

pub returns-clause-spent : goal.returns-clause-spent
returns-clause-spent g c =
    let w = g.W.EntryWalk in
    let takes = g.met.W.EntryWalk.takes_bytes in
    let p = w.place c.entries.walk in
    let q = w.place c.take_raw.new.self in
    let read : ◌≡◌ {A = Next w.Payload} (Ok None, q.raw) (next_raw w.grammar p.raw) =
    search rules in
    λ none. next_raw-ended w.grammar takes w.limit p.raw q.raw read

pub returns-in_err-raw-clause-spent : goal.returns-in_err-raw-clause-spent
returns-in_err-raw-clause-spent g c =
    let w = g.W.EntryWalk in
    let takes = g.met.W.EntryWalk.takes_bytes in
    let p = w.place c.entries.walk in
    let q = w.place c.take_raw.new.self in
    let e = c.in_err-raw.field-0.0 in
    let read : ◌≡◌ {A = Next w.Payload} (Err e, q.raw) (next_raw w.grammar p.raw) = search rules in
    λ none. next_raw-refused w.grammar takes w.limit p.raw q.raw e read
