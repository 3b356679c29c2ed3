-- The entries of a unit's root and below, counted over its rows (DWARF 5, 2.3).
use Rattle.std.specs.Prelude.{◌≡◌, ◌⊎◌, ℕ, zero, suc, ℤ, pos, ◌+◌, ◌-ℤ◌, if◌then◌else◌, List, []}
use Rattle.std.specs.Prelude.{◌∷◌, Option, Some, None, Result, Ok, Err}
use Rattle.gimli_base.specs.declared.error.Error.{Error}
use Rattle.gimli_units.specs.Entry.{is_null}
use Rattle.gimli_units.specs.Rows.{Row, Ahead}
use Rattle.gimli_units.specs.CursorModel.{rows_of, IsOver}
use Rattle.gimli_units.specs.TreePlace.{Lists, StepAnswer, a_node, list_end, has_entered, has_left}
use Rattle.gimli_units.specs.TreePlace.{no_node, a_fault, to_root}
use Rattle.gimli_units.specs.TreeWalker.{Standing}
use Rattle.test_callers.specs.Children.{count_in}

-- what the innermost of these lists still has
abbrev pub count_innermost : Lists → ℕ → Ahead → Result ℕ Error
count_innermost [] n a = Ok n
count_innermost (list ∷ outer) n a = count_in list n a

-- The entries in lists that are open one inside the other, as many as the first number, counted on
-- from n: a null closes the innermost, and an entry with children opens one. A refusal before the
-- last is closed is the answer.
abbrev pub counted_below : ℕ → Option Error → ℕ → List Row → Result ℕ Error
counted_below zero refusal n rows = Ok n
counted_below (suc levels) refusal n [] = elim refusal [ None ↦ Ok n | Some e ↦ Err e ]
counted_below (suc levels) refusal n (r ∷ rest) =
    if is_null r.entry then counted_below levels refusal n rest
    else counted_below (if r.entry.has_children then suc (suc levels) else suc levels) refusal
    (n + 1) rest

-- the root, which may be refused, and those below it
abbrev pub count_all : StepAnswer → Ahead → Result ℕ Error
count_all (a_node n) a =
    counted_below (if n.entry.has_children then suc zero else zero) a.refusal 1 a.rows
count_all (a_fault e) a = Err e
count_all list_end a = Ok 0
count_all has_entered a = Ok 0
count_all has_left a = Ok 0
count_all no_node a = Ok 0

abbrev pub entries_counted : ℕ → Ahead → Result ℕ Error
entries_counted end a = count_all (to_root end a).answer (to_root end a).place.ahead

-- how many lists are open
abbrev pub levels_of : Lists → ℕ
levels_of [] = zero
levels_of (None ∷ outer) = levels_of outer
levels_of (Some depth ∷ outer) = suc (levels_of outer)

-- what is still to be counted in the lists of a walker
abbrev pub rest_of : ℕ → ℕ → Standing → Result ℕ Error
rest_of limit n s =
    counted_below (levels_of s.lists) (rows_of limit s.tree.cursor.raw).refusal n
    (rows_of limit s.tree.cursor.raw).rows

-- what is read next stands in the innermost open list, and each other is one level further out
abbrev pub AreNested : ℤ → Lists → Type 0
AreNested depth [] = Unit {0}
AreNested depth (None ∷ outer) = AreNested depth outer
AreNested depth (Some d ∷ outer) = (d ≡ depth) × AreNested (depth -ℤ pos 1) outer

-- a walker stands so, or nothing is left to read
abbrev pub IsReady : Standing → Type 0
IsReady s = IsOver s.tree.cursor ⊎ AreNested s.tree.cursor.raw.depth s.lists
