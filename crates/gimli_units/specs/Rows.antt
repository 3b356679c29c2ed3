-- The rows of a unit: its entries one after the other, with how they end, and the depth of each
-- (DWARF 5, 2.3 and 7.5.2).
use Rattle.std.specs.Prelude.{ℕ, ◌-◌, ◌==◌, ℤ, pos, ◌+ℤ◌, ◌-ℤ◌, if◌then◌else◌, List, [], ◌∷◌}
use Rattle.std.specs.Prelude.{◌++◌, length, count_by, Option, Some, None, Result, Ok, Err}
use Rattle.gimli_base.specs.declared.error.Error.{Error}
use Rattle.gimli_base.specs.View.{View}
use Rattle.gimli_base.specs.Reading.{Reads}
use Rattle.gimli_base.specs.Chain.{Chain, chain}
use Rattle.gimli_units.specs.Entry.{Entry, is_null}

-- an entry where it stands, with the offset of what is after it
pub record Sited : Type 0 where
  pub offset : ℕ
  pub next : ℕ
  pub entry : Entry

-- how entries end: the refusal that ends them, if it isn't the end of the bytes, and the offset of
-- the place after the last
pub record EntriesEnd : Type 0 where
  pub refusal : Option Error
  pub stop : ℕ

-- the offset at which a view begins, where its end has the offset `end`
abbrev pub offset_of_view : ℕ → View → ℕ
offset_of_view end v = end - length v.bytes

-- what stands at a view: an entry, and the view after it, or the end
unfoldable pub sited_or_end : (View → Reads Entry) → ℕ → View → Result (Sited × View) EntriesEnd
sited_or_end next end v =
    let here : ℕ = offset_of_view end v in
    if length v.bytes == 0 then Err (record { refusal = None; stop = here })
    else elim (next v) [
      | Ok p ↦
          Ok (record { offset = here; next = offset_of_view end p.1; entry = p.0 }, p.1)
      | Err e ↦ Err (record { refusal = Some e; stop = here })
    ]

-- the entries from a view on, up to the end of the bytes, or to a refusal; each takes a byte at
-- least, so that the end handed to `chain` never shows
unfoldable pub entries_at : (View → Reads Entry) → ℕ → View → Chain Sited EntriesEnd
entries_at next end v =
    chain (λ w. length w.bytes) (sited_or_end next end) (record { refusal = None; stop = end }) v

-- the depth of the place after these entries: the children flags among them, less the nulls
unfoldable pub depth_after_all : ℤ → List Sited → ℤ
depth_after_all start before =
    start
    +ℤ (pos (count_by (λ s. s.entry.has_children) before)
    -ℤ pos (count_by (λ s. is_null s.entry) before))

-- an entry with its offset and its depth, and the offset of what is after it
pub record Row : Type 0 where
  pub offset : ℕ
  pub next : ℕ
  pub depth : ℤ
  pub entry : Entry

-- each entry with the depth of its place, counted over the entries before it
unfoldable pub rows_after : ℤ → List Sited → List Sited → List Row
rows_after start before [] = []
rows_after start before (s ∷ rest) =
    record {
      offset = s.offset;
      next = s.next;
      depth = depth_after_all start before;
      entry = s.entry;
    }
    ∷ rows_after start (before ++ s ∷ []) rest

-- The rows that are ahead of a place, and how they end. `stop` and `stop_depth` are the offset and
-- the depth of the place after the last row.
pub record Ahead : Type 0 where
  pub rows : List Row
  pub refusal : Option Error
  pub stop : ℕ
  pub stop_depth : ℤ

-- the rows from a view on, whose place has this depth
unfoldable pub ahead_at : (View → Reads Entry) → ℕ → ℤ → View → Ahead
ahead_at next end depth v =
    let es : Chain Sited EntriesEnd = entries_at next end v in
    record {
      rows = rows_after depth [] es.items;
      refusal = es.ending.refusal;
      stop = es.ending.stop;
      stop_depth = depth_after_all depth es.items;
    }

-- no row
abbrev pub no_row : Option Error → ℕ → ℤ → Ahead
no_row refusal stop stop_depth =
    record { rows = []; refusal = refusal; stop = stop; stop_depth = stop_depth }
