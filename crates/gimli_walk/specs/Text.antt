-- The text of a walk over the first unit of `.debug_info`, as a function of the bytes of two
-- sections (DWARF 5, 7.5).
use Rattle.std.specs.Prelude.{◌≡◌, ℕ, ◌<◌, ◌^◌, ◌==◌, if◌then◌else◌, Bool, true, false, pos, List}
use Rattle.std.specs.Prelude.{[], ◌∷◌, ◌++◌, map, take, length, Option, Some, None, Result, Ok, Err}
use Rattle.std.specs.Prelude.{not, ◌||◌}
use Rattle.std.specs.List.{concat}
use Rattle.std.specs.Io.KnownBytes.{Appends}
use Rattle.gimli_base.specs.declared.common.SectionId.TheVariants.{DebugInfo}
use Rattle.gimli_base.specs.declared.error.Error.{Error}
use Rattle.gimli_base.specs.Refusal.{number_of}
use Rattle.gimli_base.specs.View.{View}
use Rattle.gimli_base.specs.Reading.{Reads}
use Rattle.gimli_base.specs.Abbreviations.{Map, map_at, table_takes_memory_at}
use Rattle.gimli_units.specs.Entry.{entry_at}
use Rattle.gimli_units.specs.Rows.{Row, Ahead, ahead_at}
use Rattle.gimli_units.specs.Unit.{UnitView, whole_length}
use Rattle.gimli_headers.specs.Header.{unit_at}
use Rattle.gimli_walk.specs.Lines.{Text, row_line, end_line, no_unit_line, error_line}
use Rattle.gimli_walk.specs.Lines.{error_line_at, memory_line, one_line, WroteRun}
use Rattle.gimli_walk.specs.declared.mode.Mode.{Mode}
use Rattle.gimli_walk.specs.declared.mode.Mode.TheVariants.{Rows, Check, Cursor, Plain, Tree}
use Rattle.gimli_walk.specs.declared.cursor.CursorStep.{CursorStep}
use Rattle.gimli_walk.specs.Trees.{tree_view, run_tree_answers, run_text_of}
use Rattle.gimli_walk.specs.TreeText.{WroteTrueTree}
use Rattle.gimli_units.specs.UnitRows.{IsHonestAt, IsHonestFrom, unit_rows_at}
use Rattle.gimli_walk.specs.Cursors.{Answer, answers_at, answers_text, any_sibling, IsCut, start_of}
use Rattle.gimli_walk.specs.TrueAnswers.{AreTrueAnswers, AreStepped, AreTaken, HasRunOver}
use Rattle.gimli_walk.specs.Runs.{RunAnswers}
use Rattle.gimli_walk.specs.Check.{check_text}

abbrev pub line_of : Row → List ℕ
line_of r = row_line r.offset r.depth r.entry.tag.0 r.entry.has_children

-- how the rows end
abbrev pub last_line : Option Error → ℕ → List ℕ
last_line None stop = end_line
last_line (Some e) stop = error_line_at (number_of e) stop

abbrev pub last_status : Option Error → ℕ
last_status None = 0
last_status (Some e) = 1

-- a line a row, and then how they end
abbrev pub rows_text : Ahead → Text
rows_text a =
    record {
      lines = map line_of a.rows ++ last_line a.refusal a.stop ∷ [];
      status = last_status a.refusal;
    }

-- the text of a unit's rows
abbrev pub unit_text : ℕ → UnitView → Map → Text
unit_text limit u declared =
    rows_text (ahead_at (entry_at limit u.encoding declared) (whole_length u) (pos 0) u.entries)

-- the text of a unit whose declarations may be refused
abbrev pub declared_text : (UnitView → Map → Text) → UnitView → Result Map Error → Text
declared_text text u (Ok declared) = text u declared
declared_text text u (Err e) = one_line (error_line (number_of e)) 1

-- the text of a unit that may be refused, with the section of its declarations
abbrev pub first_text : (UnitView → Map → Text) → Reads UnitView → View → Text
first_text text (Ok p) abbreviations =
    declared_text text p.0 (map_at p.0.abbreviations abbreviations)
first_text text (Err e) abbreviations = one_line (error_line (number_of e)) 1

-- the text of the first unit of `.debug_info`; offsets are below the limit
unfoldable pub sections_text : ℕ → (UnitView → Map → Text) → View → View → Text
sections_text limit text info abbreviations =
    if length info.bytes == 0 then one_line no_unit_line 1
    else first_text text (unit_at limit DebugInfo 0 info) abbreviations

-- the text of a cursor's answers to these steps, from the first entry of a unit on
abbrev pub cursor_text : ℕ → List CursorStep → UnitView → Map → Text
cursor_text limit steps u declared = answers_text (answers_at limit u declared steps u.entries)

-- the text of a unit, as a mode says
abbrev pub mode_text : ℕ → Mode → UnitView → Map → Text
mode_text limit Rows u declared = unit_text limit u declared
mode_text limit Check u declared = check_text limit u declared
mode_text limit (Cursor steps) u declared = cursor_text limit steps.now u declared
mode_text limit (Plain steps) u declared = cursor_text limit steps.now u declared
mode_text limit (Tree steps) u declared =
    run_text_of (run_tree_answers limit u declared None steps.now)

-- what a mode asks of the sibling references of a unit: that they are honest, where a step that
-- follows them looks for a sibling, and for a tree
abbrev pub IsHonestMode : ℕ → Mode → UnitView → Map → Type 0
IsHonestMode limit Rows u declared = Unit {0}
IsHonestMode limit Check u declared = Unit {0}
IsHonestMode limit (Cursor steps) u declared =
    any_sibling steps.now ≡ true → IsHonestAt limit u declared u.entries
IsHonestMode limit (Plain steps) u declared = Unit {0}
IsHonestMode limit (Tree steps) u declared = IsHonestFrom limit u declared (tree_view u None)

abbrev pub IsHonestDeclared : ℕ → Mode → UnitView → Result Map Error → Type 0
IsHonestDeclared limit mode u (Ok declared) = IsHonestMode limit mode u declared
IsHonestDeclared limit mode u (Err e) = Unit {0}

abbrev pub IsHonestFirst : ℕ → Mode → Reads UnitView → View → Type 0
IsHonestFirst limit mode (Ok p) abbreviations =
    IsHonestDeclared limit mode p.0 (map_at p.0.abbreviations abbreviations)
IsHonestFirst limit mode (Err e) abbreviations = Unit {0}

-- the same of the first unit of `.debug_info`
abbrev pub IsHonestWalk : ℕ → Mode → View → View → Type 0
IsHonestWalk limit mode info abbreviations =
    IsHonestFirst limit mode (unit_at limit DebugInfo 0 info) abbreviations

-- the view of a section's bytes in little endian
abbrev pub little_view : List ℕ → View
little_view bytes = record { big = false; place = 0; bytes = bytes }

-- the text of a walk over the bytes of `.debug_info` and `.debug_abbrev`, in little endian and with
-- offsets of 64 bits
abbrev pub text_of : Mode → List ℕ → List ℕ → Text
text_of mode info abbreviations =
    sections_text (2 ^ 64) (mode_text (2 ^ 64) mode) (little_view info) (little_view abbreviations)

-- whether reading the table of a unit takes memory
abbrev pub unit_takes_memory : View → UnitView → Bool
unit_takes_memory abbreviations u = table_takes_memory_at u.abbreviations abbreviations

-- whether a mode is that of rows, which are written without memory
abbrev pub is_rows : Mode → Bool
is_rows Rows = true
is_rows Check = false
is_rows (Cursor steps) = false
is_rows (Plain steps) = false
is_rows (Tree steps) = false

-- whether a walk by the declarations of a unit may take memory: another than that of rows
abbrev pub declared_may_take : Mode → Result Map Error → Bool
declared_may_take mode (Ok declared) = not (is_rows mode)
declared_may_take mode (Err e) = false

-- whether a walk over the first unit may take memory: its header is not refused, and its table
-- takes some, or is read for another mode than that of rows
abbrev pub first_may_take : Mode → Reads UnitView → View → Bool
first_may_take mode (Ok p) abbreviations =
    unit_takes_memory abbreviations p.0
    || declared_may_take mode (map_at p.0.abbreviations abbreviations)
first_may_take mode (Err e) abbreviations = false

-- the same of the first unit of `.debug_info`
abbrev pub walk_may_take : ℕ → Mode → View → View → Bool
walk_may_take limit mode info abbreviations =
    first_may_take mode (unit_at limit DebugInfo 0 info) abbreviations

-- what is written is all lines
pub record WroteAll (old new : Option (List ℕ)) (text : Text) (status : ℕ) : Type 0 where
  pub lines : Appends old new (concat text.lines)
  pub same_status : status ≡ text.status

-- what is written is all lines; or, where memory was refused, whole lines from the front and then
-- the line that says so
pub data Wrote (old new : Option (List ℕ)) (text : Text) (status : ℕ) : Type 0 where
  all_lines : Appends old new (concat text.lines) → status ≡ text.status → Wrote old new text status
  some_lines : (k : ℕ) → k < length text.lines
      → Appends old new (concat (take k text.lines) ++ memory_line) → status ≡ 1
      → Wrote old new text status

-- what is written is all lines; or, where memory was refused, whole lines from the front, but not
-- all, where there are any, and then the line that says so
pub data WroteText (old new : Option (List ℕ)) (text : Text) (status : ℕ) : Type 0 where
  wrote : Wrote old new text status → WroteText old new text status
  no_line : text.lines ≡ [] → Appends old new memory_line → status ≡ 1
      → WroteText old new text status

-- The lines of true answers to these steps, whatever the references: all of them, or, where memory
-- was refused, the first, and then the line that says so.
pub record WroteTrue (limit : ℕ) (u : UnitView) (declared : Map) (follows : Bool)
    (steps : List CursorStep) (old new : Option (List ℕ)) (status : ℕ) : Type 0 where
  pub all : List Answer
  pub stopped : Bool
  pub count : IsCut stopped (length all) (length steps)
  pub are_true : AreTrueAnswers limit u declared all
  pub are_stepped : AreStepped limit u declared follows
      (start_of (unit_rows_at limit u declared (pos 0) u.entries)) steps all
  pub are_taken : follows ≡ true → AreTaken limit u declared steps all
  pub written : WroteRun old new (answers_text all) stopped status

-- The lines of what a run of a cursor over these steps, from the first entry on, tells.
pub record WroteSteps (limit : ℕ) (u : UnitView) (declared : Map) (follows : Bool)
    (steps : List CursorStep) (old new : Option (List ℕ)) (status : ℕ) : Type 0 where
  pub run : RunAnswers Answer
  pub answer : HasRunOver limit u declared follows steps u.entries run
  pub written : WroteRun old new (answers_text run.answers) run.stopped status

-- a mode that steps a cursor, or a tree, writes such lines
abbrev pub WroteTrueMode : ℕ → Mode → UnitView → Map → Option (List ℕ) → Option (List ℕ) → ℕ
    → Type 0
WroteTrueMode limit Rows u declared old new status = Unit {0}
WroteTrueMode limit Check u declared old new status = Unit {0}
WroteTrueMode limit (Cursor steps) u declared old new status =
    WroteTrue limit u declared true steps.now old new status
WroteTrueMode limit (Plain steps) u declared old new status =
    WroteTrue limit u declared false steps.now old new status
WroteTrueMode limit (Tree steps) u declared old new status =
    WroteTrueTree limit u declared steps.now old new status

abbrev pub WroteTrueDeclared : ℕ → Mode → UnitView → Result Map Error → Option (List ℕ)
    → Option (List ℕ) → ℕ → Type 0
WroteTrueDeclared limit mode u (Ok declared) old new status =
    WroteTrueMode limit mode u declared old new status
WroteTrueDeclared limit mode u (Err e) old new status = Unit {0}

abbrev pub WroteTrueFirst : ℕ → Mode → Reads UnitView → View → Option (List ℕ) → Option (List ℕ) → ℕ
    → Type 0
WroteTrueFirst limit mode (Ok p) abbreviations old new status =
    WroteTrueDeclared limit mode p.0 (map_at p.0.abbreviations abbreviations) old new status
WroteTrueFirst limit mode (Err e) abbreviations old new status = Unit {0}

-- the same of the first unit of `.debug_info`
abbrev pub WroteTrueWalk : ℕ → Mode → View → View → Option (List ℕ) → Option (List ℕ) → ℕ → Type 0
WroteTrueWalk limit mode info abbreviations old new status = elim (length info.bytes == 0) [
  | true ↦ Unit {0}
  | false ↦ WroteTrueFirst limit mode (unit_at limit DebugInfo 0 info) abbreviations old new status
]
