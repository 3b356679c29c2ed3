use Rattle.gimli_units.specs.UnitKind.{map_type}
use Rattle.gimli_units.specs.Unit.{UnitView}
use Rattle.gimli_walk.specs.Text.{mode_text}
use Rattle.gimli_walk.proofs.Declared.{undeclared, undeclared_true, walked_declared}
use Rattle.gimli_walk.proofs.Declared.{undeclared_all, walked_all}
use Rattle.gimli_walk.proofs.text.walk_unit.Goals as goal

pub returns-in-Ok-clause-text : goal.returns-in-Ok-clause-text
returns-in-Ok-clause-text g c h =
    let number = g.R.Offset.ReaderOffset.number in
    let unit : UnitView = record {
      encoding = c.args.unit.now.encoding;
      unit_length = number c.args.unit.now.unit_length;
      kind = map_type number c.args.unit.now.unit_type;
      abbreviations = number c.args.unit.now.debug_abbrev_offset.0;
      section = c.args.unit.now.section;
      offset = number c.args.unit.now.unit_offset.0;
      entries = g.R.Reader.view c.args.unit.now.entries_buf;
    } in
    walked_declared g.R.Offset.ReaderOffset.limit c.args.mode unit _ _ _ _ c.walk_declared.result
    c.in-Ok.ensures.value h c.walk_declared.ensures.text

pub returns-in_ok-write_error-in-Err-clause-text : goal.returns-in_ok-write_error-in-Err-clause-text
returns-in_ok-write_error-in-Err-clause-text g c h =
    let number = g.R.Offset.ReaderOffset.number in
    let unit : UnitView = record {
      encoding = c.args.unit.now.encoding;
      unit_length = number c.args.unit.now.unit_length;
      kind = map_type number c.args.unit.now.unit_type;
      abbreviations = number c.args.unit.now.debug_abbrev_offset.0;
      section = c.args.unit.now.section;
      offset = number c.args.unit.now.unit_offset.0;
      entries = g.R.Reader.view c.args.unit.now.entries_buf;
    } in
    undeclared _ _ (mode_text g.R.Offset.ReaderOffset.limit c.args.mode) unit _ c.in-Err.error
    c.in-Err.ensures.value c.in_ok-write_error-in-Err.ensures

pub returns-in-Ok-clause-true_lines : goal.returns-in-Ok-clause-true_lines
returns-in-Ok-clause-true_lines g c = rw (← c.in-Ok.ensures.value) c.walk_declared.ensures.true_lines

pub returns-in_ok-write_error-in-Err-clause-true_lines : goal.returns-in_ok-write_error-in-Err-clause-true_lines
returns-in_ok-write_error-in-Err-clause-true_lines g c =
    let number = g.R.Offset.ReaderOffset.number in
    let unit : UnitView = record {
      encoding = c.args.unit.now.encoding;
      unit_length = number c.args.unit.now.unit_length;
      kind = map_type number c.args.unit.now.unit_type;
      abbreviations = number c.args.unit.now.debug_abbrev_offset.0;
      section = c.args.unit.now.section;
      offset = number c.args.unit.now.unit_offset.0;
      entries = g.R.Reader.view c.args.unit.now.entries_buf;
    } in
    undeclared_true g.R.Offset.ReaderOffset.limit c.args.mode unit _ c.in-Err.error _ _
    c.in-Err.ensures.value c.in_ok-write_error-in-Err.ensures

pub returns-in-Ok-clause-without_memory : goal.returns-in-Ok-clause-without_memory
returns-in-Ok-clause-without_memory g c = λ none idle.
    let number = g.R.Offset.ReaderOffset.number in
    let unit : UnitView = record {
      encoding = c.args.unit.now.encoding;
      unit_length = number c.args.unit.now.unit_length;
      kind = map_type number c.args.unit.now.unit_type;
      abbreviations = number c.args.unit.now.debug_abbrev_offset.0;
      section = c.args.unit.now.section;
      offset = number c.args.unit.now.unit_offset.0;
      entries = g.R.Reader.view c.args.unit.now.entries_buf;
    } in
    walked_all g.R.Offset.ReaderOffset.limit c.args.mode unit _ _ _ _ c.walk_declared.result
    c.in-Ok.ensures.value idle c.walk_declared.ensures.without_memory

pub returns-in_ok-write_error-in-Err-clause-without_memory : goal.returns-in_ok-write_error-in-Err-clause-without_memory
returns-in_ok-write_error-in-Err-clause-without_memory g c = λ none idle.
    let number = g.R.Offset.ReaderOffset.number in
    let unit : UnitView = record {
      encoding = c.args.unit.now.encoding;
      unit_length = number c.args.unit.now.unit_length;
      kind = map_type number c.args.unit.now.unit_type;
      abbreviations = number c.args.unit.now.debug_abbrev_offset.0;
      section = c.args.unit.now.section;
      offset = number c.args.unit.now.unit_offset.0;
      entries = g.R.Reader.view c.args.unit.now.entries_buf;
    } in
    undeclared_all _ _ (mode_text g.R.Offset.ReaderOffset.limit c.args.mode) unit _ c.in-Err.error
    (c.in-Err.ensures.without_memory none) c.in_ok-write_error-in-Err.ensures
