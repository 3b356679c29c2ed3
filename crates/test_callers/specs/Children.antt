-- The children of a unit's root, counted over its rows (DWARF 5, 2.3).
use Rattle.std.specs.Prelude.{ℕ, ℤ, ◌+◌, if◌then◌else◌, List, [], ◌∷◌, Option, Some, None, Result}
use Rattle.std.specs.Prelude.{Ok, Err}
use Rattle.gimli_base.specs.declared.error.Error.{Error}
use Rattle.gimli_units.specs.Entry.{is_null}
use Rattle.gimli_units.specs.Rows.{Row, Ahead}
use Rattle.gimli_units.specs.CursorPlace.{has_depth}
use Rattle.gimli_units.specs.TreePlace.{StepAnswer, a_node, list_end, has_entered, has_left, no_node}
use Rattle.gimli_units.specs.TreePlace.{a_fault, to_root, children_of}

-- the rows of a depth before the null that closes their list, counted on from n; a refusal before
-- it is the answer
abbrev pub count_rows : ℤ → Option Error → ℕ → List Row → Result ℕ Error
count_rows depth refusal n [] = elim refusal [ None ↦ Ok n | Some e ↦ Err e ]
count_rows depth refusal n (r ∷ rest) =
    if has_depth depth r
    then (if is_null r.entry then Ok n else count_rows depth refusal (n + 1) rest)
    else count_rows depth refusal n rest

-- a list's, which has none where it is closed
abbrev pub count_in : Option ℤ → ℕ → Ahead → Result ℕ Error
count_in None n a = Ok n
count_in (Some depth) n a = count_rows depth a.refusal n a.rows

-- those of the root, which may be refused
abbrev pub count_below : StepAnswer → Ahead → Result ℕ Error
count_below (a_node n) a = count_in (children_of n) 0 a
count_below (a_fault e) a = Err e
count_below list_end a = Ok 0
count_below has_entered a = Ok 0
count_below has_left a = Ok 0
count_below no_node a = Ok 0

abbrev pub children_counted : ℕ → Ahead → Result ℕ Error
children_counted end a = count_below (to_root end a).answer (to_root end a).place.ahead
