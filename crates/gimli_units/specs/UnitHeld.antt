-- What a unit that code holds stands for.
use Rattle.gimli_base.specs.declared.reader.Reader.{Ghosts as ReaderOf}
use Rattle.gimli_base.specs.declared.offset.ReaderOffset.{Ghosts as OffsetOf}
use Rattle.gimli_units.specs.declared.header.UnitHeader.{UnitHeader}
use Rattle.gimli_units.specs.UnitKind.{map_type}
use Rattle.gimli_units.specs.Unit.{UnitView}

-- a unit that code holds, by what its reader and offsets stand for
abbrev pub unit_view : {R O E P K : Type 0} {r : ReaderOf R E P K} {a : _} {b : _} {c : _} {d : _}
    {e : _} {f : _} {g : _} {h : _} {i : _} {o : OffsetOf O} {k : _} {l : _} {m : _} {n : _}
    → UnitHeader R O E P K r a b c d e f g h i o k l m n → UnitView
unit_view {r = r} {o = o} u = record {
  encoding = u.encoding;
  unit_length = o.number u.unit_length;
  kind = map_type o.number u.unit_type;
  abbreviations = o.number u.debug_abbrev_offset.0;
  section = u.section;
  offset = o.number u.unit_offset.0;
  entries = r.view u.entries_buf;
}
