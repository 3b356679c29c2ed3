use Rattle.std.proofs.Common.{refl, subst}
use Rattle.std.specs.Fn.{CalledAt}
use Rattle.gimli_walk.specs.Words.{at_address, no_file}
use Rattle.gimli_walk.specs.Text.{WroteAll}
use Rattle.gimli_walk.specs.UnitOfAddress.{find_of}
use Rattle.gimli_walk.proofs.WordLines.{of_one, WroteAll-kept, Keeps-same}
use Rattle.gimli_walk.proofs.words.find_file.Goals as goal

pub returns-in_default-read : goal.returns-in_default-read
returns-in_default-read g c =
    let value = rw c.in-Some.is at c.address_in.ensures.value in
    at_address value.0
    (no_file c.read.new.self
    (subst (λ o. CalledAt g.F.FnMut c.args.read c.args.aranges.now o c.read.new.self)
    c.in_default-read.is (record { shown = _; shows = refl; called = c.read.ensures }))
    (Keeps-same _) c.cannot_read.ensures)

pub returns : goal.returns
returns g c =
    let value = rw c.in-Some.is at c.address_in.ensures.value in
    at_address value.0 (rw (← value.1)
    (of_one g.F.FnMut (λ v. v.items) c.args.read (g.W.Write.contents c.args.out.now)
    (g.W.Write.contents c.find_text.new.out) (g.W.Write.contents c.flush_status.new.out)
    c.read.new.self c.args.aranges.now c.in-Some-read.bytes
    (λ o bytes s. WroteAll (g.W.Write.contents c.args.out.now) o (find_of c.in-Some.address bytes)
    s)
    (λ b d bytes s. WroteAll-kept _ b d _ s)
    c.find_text.result c.unwrap_or-status.result c.flush_status.result
    (subst (λ o. CalledAt g.F.FnMut c.args.read c.args.aranges.now o c.read.new.self)
    c.in-Some-read.is (record { shown = _; shows = refl; called = c.read.ensures }))
    (rw (← c.deref.ensures.value) c.find_text.ensures)
    c.unwrap_or-status.ensures c.flush_status.ensures))
