use Rattle.std.proofs.Common.{refl}
use Rattle.gimli_lists.proofs.rnglists.RangeLists.borrow.Goals as goal

pub returns : goal.returns
returns g c = (
  c.f-old.new.self,
  c.f-new.new.self,
  record { shown = _; shows = refl; called = c.f-old.ensures },
  record { shown = _; shows = refl; called = c.f-new.ensures },
)
