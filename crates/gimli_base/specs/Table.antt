-- How a table keeps its declarations, and what is found in it (DWARF 5, 7.5.3).
use Rattle.std.specs.Prelude.{ℕ, ◌-◌, ◌&&◌, nat_lt, if◌then◌else◌, length, slice_get, List}
use Rattle.std.specs.Ordering.{nat_cmp}
use Rattle.std.specs.Map.{lookup}
use Rattle.std.specs.BTreeMap.{is_at}
use Rattle.gimli_base.specs.Abbreviations.{Declaration, Map}

-- the declarations of the codes 1, 2, .. in order, and the others by code
pub record Table : Type 0 where
  pub dense : List Declaration
  pub others : List (ℕ × Declaration)

-- what is declared under a code
unfoldable pub codes_of : Table → Map
codes_of t code =
    if (nat_lt 0 code && nat_lt (code - 1) (length t.dense)) then slice_get t.dense (code - 1)
    else lookup (is_at (nat_cmp code)) t.others
