use Rattle.gimli_units.proofs.Walking.{has_read_on}
use Rattle.gimli_units.proofs.cursor.EntriesCursor.next_entry.Goals as goal

pub returns : goal.returns
returns g c = has_read_on g.R.Offset.ReaderOffset.limit c.args.self.now _ c.read_next.new.self
    c.read_next.ensures.sound c.read_next.ensures.read
