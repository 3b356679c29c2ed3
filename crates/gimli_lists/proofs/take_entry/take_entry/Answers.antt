use Rattle.std.proofs.Common.{◌≡◌, arith, ap, length, rules, Ok, Err, None, Some}
use Rattle.gimli_base.specs.View.{View}
use Rattle.gimli_lists.specs.Places.{RawListPlace, next_raw}
use Rattle.gimli_lists.proofs.PlaceSteps.{Next, first_from}
use Rattle.gimli_lists.specs.RawList.{next_entry}
use Rattle.gimli_lists.proofs.take_entry.take_entry.Goals as goal

pub returns-in-Ok-Some-clause-takes : goal.returns-in-Ok-Some-clause-takes
returns-in-Ok-Some-clause-takes g c =
    let shorter = g.met.E.RawEntry.takes_bytes _ _ _ _ _ c.in-Ok-Some.ensures in
    let same = ap (λ (v : View). length v.bytes) c.copy-rest.ensures in
    omega (arith, shorter, same)

pub returns-then-is_empty-clause-ahead : goal.returns-then-is_empty-clause-ahead
unfolding next_entry next_raw
returns-then-is_empty-clause-ahead g c =
    let e = g.E.RawEntry in
    let place : RawListPlace =
    record {
      rest = g.R.Reader.view c.args.input.now;
      encoding = c.args.encoding;
      format = c.args.format;
    } in
    let is : ◌≡◌ {A = Next e.Payload} (Ok None, place) (next_raw e.grammar place) = search rules in
    first_from e.grammar g.met.E.RawEntry.takes_bytes g.R.Offset.ReaderOffset.limit place place
    (Ok None) is

pub returns-in-Ok-Some-clause-ahead : goal.returns-in-Ok-Some-clause-ahead
unfolding next_entry next_raw
returns-in-Ok-Some-clause-ahead g c =
    let e = g.E.RawEntry in
    let place : RawListPlace =
    record {
      rest = g.R.Reader.view c.args.input.now;
      encoding = c.args.encoding;
      format = c.args.format;
    } in
    first_from e.grammar g.met.E.RawEntry.takes_bytes g.R.Offset.ReaderOffset.limit place _
    (Ok (Some (e.written c.in-Ok-Some.entry))) (search rules)

pub returns-in-Ok-None-clause-ahead : goal.returns-in-Ok-None-clause-ahead
unfolding next_entry next_raw
returns-in-Ok-None-clause-ahead g c =
    let e = g.E.RawEntry in
    let place : RawListPlace =
    record {
      rest = g.R.Reader.view c.args.input.now;
      encoding = c.args.encoding;
      format = c.args.format;
    } in
    first_from e.grammar g.met.E.RawEntry.takes_bytes g.R.Offset.ReaderOffset.limit place _
    (Ok None) (search rules)

pub returns-in-Err-clause-ahead : goal.returns-in-Err-clause-ahead
unfolding next_entry next_raw
returns-in-Err-clause-ahead g c =
    let e = g.E.RawEntry in
    let place : RawListPlace =
    record {
      rest = g.R.Reader.view c.args.input.now;
      encoding = c.args.encoding;
      format = c.args.format;
    } in
    first_from e.grammar g.met.E.RawEntry.takes_bytes g.R.Offset.ReaderOffset.limit place _
    (Err c.in-Err.error) (search rules)
