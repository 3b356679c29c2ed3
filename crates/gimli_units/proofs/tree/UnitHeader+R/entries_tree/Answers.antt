use Rattle.std.specs.Option.{option_map}
use Rattle.gimli_units.specs.UnitKind.{map_type}
use Rattle.gimli_units.specs.Unit.{UnitView}
use Rattle.gimli_units.proofs.TreeSteps.{start_some}
use Rattle.gimli_units.proofs.tree.UnitHeader+R.entries_tree.Goals as goal

pub new-requires-clause-some : goal.new-requires-clause-some
new-requires-clause-some g c =
    let n = g.R.Offset.ReaderOffset.number in
    let unit : UnitView = record {
      encoding = c.args.self.now.encoding;
      unit_length = n c.args.self.now.unit_length;
      kind = map_type n c.args.self.now.unit_type;
      abbreviations = n c.args.self.now.debug_abbrev_offset.0;
      section = c.args.self.now.section;
      offset = n c.args.self.now.unit_offset.0;
      entries = g.R.Reader.view c.args.self.now.entries_buf;
    } in
    (start_some unit c.args.abbreviations.now (option_map (λ o. n o.0) c.args.offset)
    c.in_ok-start.start c.args.self.now.entries_fit c.in_ok-start.ensures).0

pub new-requires-clause-depth : goal.new-requires-clause-depth
new-requires-clause-depth g c =
    let n = g.R.Offset.ReaderOffset.number in
    let unit : UnitView = record {
      encoding = c.args.self.now.encoding;
      unit_length = n c.args.self.now.unit_length;
      kind = map_type n c.args.self.now.unit_type;
      abbreviations = n c.args.self.now.debug_abbrev_offset.0;
      section = c.args.self.now.section;
      offset = n c.args.self.now.unit_offset.0;
      entries = g.R.Reader.view c.args.self.now.entries_buf;
    } in
    (start_some unit c.args.abbreviations.now (option_map (λ o. n o.0) c.args.offset)
    c.in_ok-start.start c.args.self.now.entries_fit c.in_ok-start.ensures).1
