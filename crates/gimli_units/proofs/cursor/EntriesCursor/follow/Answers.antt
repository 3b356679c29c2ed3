use Rattle.std.proofs.Common.{rules, ap, w64, FitsSigned}
use Rattle.std.proofs.lemmas.Int.{to_z-of_z}
use Rattle.gimli_units.specs.Entry.{entry_of}
use Rattle.gimli_units.specs.CursorModel.{CursorView}
use Rattle.gimli_units.proofs.Jumps.{left_at}
use Rattle.gimli_units.proofs.Onward.{onward_start, onward_follow}
use Rattle.gimli_units.proofs.cursor.EntriesCursor.follow.Goals as goal

pub invariant_of-self : goal.invariant_of-self
invariant_of-self g c =
    let n = g.R.Offset.ReaderOffset.number in
    let e = c.self.inside.entry in
    let s : CursorView =
    record {
      raw = c.self.inside.raw;
      entry = entry_of g.R.Reader.view n e;
      offset = n e.offset.0;
      depth = e.depth;
      follows = c.self.inside.follows;
      reads =
          c.self.inside.reads;
    } in
    let looks = rw (to_z-of_z w64 c.args.sought c.ranges.sought, ← c.self.view_is) at
    c.in-Some.ensures in
    let fits : FitsSigned w64 e.depth = search rules in
    let goes = rw (to_z-of_z w64 e.depth fits) at c.go_to.ensures in
    let left = left_at s c.args.sought (n c.in-Some.target.0) c.go_to.new.self _ _
    c.set_null.new.self.depth looks goes c.set_null.ensures.null
    (ap (λ o. n o.0) c.set_null.ensures.offset) c.set_null.ensures.depth in
    rw left (onward_follow s s c.args.sought (onward_start s c.self.invariant)).sound
