-- What is written where lines may end before their last one.
use Rattle.std.specs.Prelude.{ℕ, ◌<◌, take, length, List, Option, Result, Ok, Err}
use Rattle.std.specs.List.{concat}
use Rattle.std.specs.Io.KnownBytes.{Appends}
use Rattle.gimli_walk.specs.declared.lines.Stop.{Stop}
use Rattle.gimli_walk.specs.declared.lines.Stop.TheVariants.{Memory, Write}
use Rattle.gimli_walk.specs.Lines.{Text}
use Rattle.gimli_walk.specs.Text.{WroteAll}

-- lines from the front, and not all
pub record WroteFront (old new : Option (List ℕ)) (text : Text) : Type 0 where
  pub count : ℕ
  pub fewer : count < length text.lines
  pub lines : Appends old new (concat (take count text.lines))

-- all lines, or, where memory was refused, some from the front; nothing is said where a write
-- failed
abbrev pub WroteUntil : Option (List ℕ) → Option (List ℕ) → Text → Result ℕ Stop → Type 0
WroteUntil old new text (Ok status) = WroteAll old new text status
WroteUntil old new text (Err Memory) = WroteFront old new text
WroteUntil old new text (Err Write) = Unit {0}
