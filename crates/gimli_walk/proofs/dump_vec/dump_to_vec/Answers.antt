use Rattle.std.proofs.Common.{rules, ◌≡◌, ◌++◌, length}
use Rattle.gimli_walk.proofs.WrittenLines.{Wrote-after}
use Rattle.gimli_walk.proofs.Dumps.{nothing_dumped}
use Rattle.gimli_walk.specs.Text.{all_lines}
use Rattle.gimli_walk.proofs.dump_vec.dump_to_vec.Goals as goal

pub returns-then-is_empty-clause-text : goal.returns-then-is_empty-clause-text
returns-then-is_empty-clause-text g c =
    let info = c.args.info.now in
    let none : length info ≡ 0 = search rules in
    let all = nothing_dumped info c.args.abbreviations.now c.args.text.now.items none in
    all_lines all.lines all.same_status

pub returns-then-is_empty-clause-without_memory : goal.returns-then-is_empty-clause-without_memory
returns-then-is_empty-clause-without_memory g c = λ idle.
    let info = c.args.info.now in
    let none : length info ≡ 0 = search rules in
    nothing_dumped info c.args.abbreviations.now c.args.text.now.items none

pub returns-clause-text : goal.returns-clause-text
returns-clause-text g c =
    let old = c.args.text.now.items in
    let lines = c.fill-2.new.text.items in
    let grown : c.extend_from_slice.new.self.items ≡ old ++ lines = search rules in
    rw grown (Wrote-after old lines _ _ c.in_ok-status.ensures.text)
