use Rattle.std.proofs.Common.{◌≡◌, length, None}
use Rattle.std.specs.List.{All}
use Rattle.gimli_units.specs.CursorModel.{rows_of}
use Rattle.gimli_units.specs.FirstFalse.{first_false}
use Rattle.gimli_units.specs.Honest.{usable_target}
use Rattle.gimli_headers.specs.OpenRows.{check_held, Rise, judgement}
use Rattle.gimli_headers.proofs.siblings.first_false_ahead.Given as goal

-- what the check answers where the rows that are left are, is the first of all rows whose reference
-- is false
abbrev pub invariant-rows : goal.invariant-rows
invariant-rows g l =
    let limit = g.R.Offset.ReaderOffset.limit in
    let number = g.R.Offset.ReaderOffset.number in
    record {
      same : judgement l.entries.end (check_held number l.check) (rows_of limit l.entries).rows
          ≡ first_false l.fn.entries.end (rows_of limit l.fn.entries).rows;
      rise : Rise l.entries.depth (check_held number l.check).opens;
      end : l.entries.end ≡ l.fn.entries.end;
      idle : All (λ r. usable_target l.fn.entries.end r ≡ None) (rows_of limit l.fn.entries).rows
          → All (λ r. usable_target l.fn.entries.end r ≡ None) (rows_of limit l.entries).rows;
    }

abbrev pub decreases-rows : goal.decreases-rows
decreases-rows g l = length l.entries.rest.bytes
