use Rattle.std.proofs.Common.{rules, arith, ◌≡◌, Ok}
use Rattle.gimli_base.proofs.Later.{split_at-front}
use Rattle.gimli_base.proofs.Taken.{taken_length, initial_length_at-takes, split_at-takes}
use Rattle.gimli_units.specs.Unit.{UnitView}
use Rattle.gimli_units.specs.UnitKind.{map_type}
use Rattle.gimli_headers.specs.Header.{unit_at, fields_at}
use Rattle.gimli_headers.proofs.UnitReads.{common_at-takes, type_at-takes, unit_at-read}
use Rattle.gimli_headers.proofs.parse.parse_unit_header.Goals as goal

pub new-requires-clause-length_fits : goal.new-requires-clause-length_fits
new-requires-clause-length_fits g c =
    let field = taken_length 0 _ _ _
    (initial_length_at-takes _ _ _ _ c.in_ok-unit_length.ensures.value) in
    let own = taken_length 0 _ _ _ (split_at-takes _ _ _ _ c.in_ok-rest.ensures.value) in
    let fits = g.met.R.Reader.length_fits_offset c.args.input.now in
    omega (arith, field, own, fits)

pub new-requires-clause-entries_fit : goal.new-requires-clause-entries_fit
new-requires-clause-entries_fit g c =
    let front = split_at-front _ _ _ _ c.in_ok-rest.ensures.value in
    let common = taken_length 0 _ _ _ (common_at-takes _ _ _ _ _ _ c.in_ok-common.ensures) in
    let kind = taken_length 0 _ _ _ (type_at-takes _ _ 0 _ _ _ _ c.in_ok-unit_type.ensures) in
    omega (arith, front, common, kind)

pub returns-clause-size : goal.returns-clause-size
unfolding unit_at fields_at
returns-clause-size g c =
    let number = g.R.Offset.ReaderOffset.number in
    let unit : UnitView = record {
      encoding = c.new.result.encoding;
      unit_length = number c.new.result.unit_length;
      kind = map_type number c.new.result.unit_type;
      abbreviations = number c.new.result.debug_abbrev_offset.0;
      section = c.new.result.section;
      offset = number c.new.result.unit_offset.0;
      entries = g.R.Reader.view c.new.result.entries_buf;
    } in
    let is : Ok (unit, g.R.Reader.view c.split.new.self)
    ≡ unit_at g.R.Offset.ReaderOffset.limit c.args.section (number c.args.unit_offset.0)
    (g.R.Reader.view c.args.input.now) =
    search rules in
    (unit_at-read _ _ _ _ unit _ is).size
