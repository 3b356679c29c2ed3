use Rattle.std.proofs.Common.{◌≡◌, ◌≤◌, length}
use Rattle.gimli_lists.specs.Places.{ListPlace, answers_ahead, IsAfterEntries, IsSpent, InList}
use Rattle.gimli_lists.specs.Places.{read_from}
use Rattle.gimli_lists.proofs.next_item.first_item.Given as goal

-- what was passed stands for nothing: the answers ahead are those that were ahead, and so is the
-- place after the next, where nothing is left if no entry answers
abbrev pub invariant-entries : goal.invariant-entries
invariant-entries g l =
    let w = g.W.EntryWalk in
    let start = w.place l.fn.walk in
    let here = w.place l.walk in
    (answers_ahead w.grammar w.limit here ≡ answers_ahead w.grammar w.limit start)
    × InList start here
    × (length here.raw.rest.bytes ≤ length start.raw.rest.bytes)
    × ((q : ListPlace) → IsAfterEntries w.grammar w.limit (read_from w.grammar w.limit here) here q
    → IsAfterEntries w.grammar w.limit (read_from w.grammar w.limit start) start q)
    × ((q : ListPlace) → IsSpent w.grammar w.limit here q → IsSpent w.grammar w.limit start q)

abbrev pub decreases-entries : goal.decreases-entries
decreases-entries g l = length (g.W.EntryWalk.place l.walk).raw.rest.bytes
