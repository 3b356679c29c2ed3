use Rattle.std.proofs.Common.{refl, subst}
use Rattle.std.specs.Fn.{CalledAt}
use Rattle.gimli_walk.specs.Words.{SaysDump, no_first, no_second}
use Rattle.gimli_walk.proofs.WordLines.{of_both, says_dump, SaysDump-kept, Keeps-same}
use Rattle.gimli_walk.proofs.words.dump_files.Goals as goal

pub returns-in_default : goal.returns-in_default
returns-in_default g c =
    no_first c.read.new.self
    (subst (λ o. CalledAt g.F.FnMut c.args.read c.args.info.now o c.read.new.self)
    c.in_default.is (record { shown = _; shows = refl; called = c.read.ensures }))
    (Keeps-same _) c.cannot_read.ensures

pub returns-in_default-read : goal.returns-in_default-read
returns-in_default-read g c =
    no_second c.in-Some.info_bytes c.read.new.self c.read-2.new.self
    (subst (λ o. CalledAt g.F.FnMut c.args.read c.args.info.now o c.read.new.self) c.in-Some.is
    (record { shown = _; shows = refl; called = c.read.ensures }))
    (subst (λ o. CalledAt g.F.FnMut c.read.new.self c.args.abbrev.now o c.read-2.new.self)
    c.in_default-read.is (record { shown = _; shows = refl; called = c.read-2.ensures }))
    (Keeps-same _) c.cannot_read-in_default-read.ensures

pub returns : goal.returns
returns g c =
    of_both g.F.FnMut (λ v. v.items) c.args.read (g.W.Write.contents c.args.out.now)
    (g.W.Write.contents c.dump_text.new.out) (g.W.Write.contents c.flush_status.new.out)
    c.read.new.self c.read-2.new.self c.args.info.now c.args.abbrev.now c.in-Some.info_bytes
    c.in-Some-read.abbrev_bytes
    (λ o i t s. SaysDump (g.W.Write.contents c.args.out.now) o i t s)
    (λ b d i t s. SaysDump-kept _ b d i t s)
    c.dump_text.result c.unwrap_or-status.result c.flush_status.result
    (subst (λ o. CalledAt g.F.FnMut c.args.read c.args.info.now o c.read.new.self) c.in-Some.is
    (record { shown = _; shows = refl; called = c.read.ensures }))
    (subst (λ o. CalledAt g.F.FnMut c.read.new.self c.args.abbrev.now o c.read-2.new.self)
    c.in-Some-read.is (record { shown = _; shows = refl; called = c.read-2.ensures }))
    (says_dump _ _ _ _ c.dump_text.result
    (rw (← c.deref.ensures.value, ← c.deref-2.ensures.value) c.dump_text.ensures.text)
    (rw (← c.deref.ensures.value, ← c.deref-2.ensures.value) c.dump_text.ensures.without_memory))
    c.unwrap_or-status.ensures c.flush_status.ensures
