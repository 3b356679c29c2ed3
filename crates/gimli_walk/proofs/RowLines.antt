-- The lines of rows, as the reading of an entry moves along them.
use Rattle.std.proofs.Common.{◌≡◌, ℕ, ◌<◌, List, Option, Result, Ok, Err, ap, arith, length}
use Rattle.std.proofs.Common.{length-append}
use Rattle.std.specs.Io.KnownBytes.{Appends}
use Rattle.gimli_base.specs.declared.error.Error.{Error}
use Rattle.gimli_base.specs.Refusal.{number_of}
use Rattle.gimli_base.specs.View.{View}
use Rattle.gimli_base.specs.Table.{codes_of}
use Rattle.gimli_units.specs.Entry.{Entry, entry_at}
use Rattle.gimli_units.proofs.EntryReads.{entry_at-shorter}
use Rattle.gimli_units.specs.RawPlace.{RawPlace, next_offset_of, depth_after}
use Rattle.gimli_units.specs.Rows.{Ahead, ahead_at}
use Rattle.gimli_units.proofs.RowSteps.{ahead_ended, ahead_refused, ahead_more}
use Rattle.gimli_walk.specs.declared.lines.Stop.{Stop}
use Rattle.gimli_walk.specs.declared.lines.Stop.TheVariants.{Memory}
use Rattle.gimli_walk.specs.Lines.{Text, row_line, end_line, error_line_at}
use Rattle.gimli_walk.specs.Text.{rows_text}
use Rattle.gimli_walk.specs.Stops.{WroteUntil}
use Rattle.gimli_walk.proofs.StoppedLines.{until_more, until_only, front_none}

-- the text of the rows that are ahead of a reader of entries
abbrev pub place_text : ℕ → RawPlace → Text
place_text limit p = rows_text
    (ahead_at (entry_at limit p.encoding (codes_of p.abbreviations)) p.end p.depth p.rest)

pub some_lines_of : (a : Ahead) → 0 < length (rows_text a).lines
some_lines_of a = simp length-append (omega arith)

module _ (limit : ℕ) (old new : Option (List ℕ)) (p : RawPlace) where
  -- memory was refused before any other line
  pub rows_memory : WroteUntil old old (place_text limit p) (Err Memory)
  rows_memory = front_none old (place_text limit p)
      (some_lines_of
      (ahead_at (entry_at limit p.encoding (codes_of p.abbreviations)) p.end p.depth p.rest))

  -- no row is left
  pub rows_ended : length p.rest.bytes ≡ 0 → Appends old new end_line
      → WroteUntil old new (place_text limit p) (Ok 0)
  rows_ended none h =
      let e =
      ap rows_text
      (ahead_ended (entry_at limit p.encoding (codes_of p.abbreviations)) p.end p.depth p.rest
      none) in
      rw e (until_only old new end_line 0 h)

  -- a refusal ends the rows
  pub rows_refused : (e : Error) → (length p.rest.bytes ≡ 0 → ⊥)
      → Err e ≡ entry_at limit p.encoding (codes_of p.abbreviations) p.rest
      → Appends old new (error_line_at (number_of e) (next_offset_of p))
      → WroteUntil old new (place_text limit p) (Ok 1)
  rows_refused e some refused h =
      let is = ap rows_text
      (ahead_refused (entry_at limit p.encoding (codes_of p.abbreviations)) p.end p.depth p.rest
      e some refused) in
      rw is (until_only old new (error_line_at (number_of e) (next_offset_of p)) 1 h)

-- a row's line, and then those of the rows after it
pub rows_more : (limit : ℕ) (old mid new : Option (List ℕ)) (p : RawPlace) (e : Entry) (w : View)
    (r : Result ℕ Stop)
    → (length p.rest.bytes ≡ 0 → ⊥)
    → Ok (e, w) ≡ entry_at limit p.encoding (codes_of p.abbreviations) p.rest
    → Appends old mid (row_line (next_offset_of p) p.depth e.tag.0 e.has_children)
    → WroteUntil mid new (place_text limit (record p { rest = w; depth = depth_after e p.depth })) r
    → WroteUntil old new (place_text limit p) r
rows_more limit old mid new p e w r some read h rest =
    let next = entry_at limit p.encoding (codes_of p.abbreviations) in
    let is = ap rows_text
    (ahead_more next p.end
    (λ v u x. entry_at-shorter limit p.encoding (codes_of p.abbreviations) v u x) p.depth p.rest e
    w some read) in
    rw is (until_more old mid new _ _ _ r h rest)
