-- What the words of the command line ask for, and what comes of it.
use Rattle.std.specs.Prelude.{◌≡◌, ◌^◌, ◌≤◌, ◌==◌, ◌&&◌, not, if◌then◌else◌, ℕ, Bool, true, false}
use Rattle.std.specs.Prelude.{List, [], length, slice_index_or, codes, Option, Some, None}
use Rattle.std.specs.List.{All, AllPass, filter_map}
use Rattle.std.specs.Option.{is_some}
use Rattle.std.specs.Str.Parse.{digits_value}
use Rattle.std.specs.Char.{is_digit, is_ascii_uppercase}
use Rattle.std.specs.Borrow.{Bor}
use Rattle.std.specs.Fn.{Mut, CalledAt}
use Rattle.std.specs.Io.KnownBytes.{Keeps}
use Rattle.gimli_walk.specs.declared.mode.Mode.{Mode}
use Rattle.gimli_walk.specs.declared.mode.Mode.TheVariants.{Cursor, Plain, Tree}
use Rattle.gimli_walk.specs.declared.cursor.CursorStep.{CursorStep}
use Rattle.gimli_walk.specs.declared.cursor.CursorStep.TheVariants.{NextEntry, NextDfs, NextSibling}
use Rattle.gimli_walk.specs.declared.tree.TreeStep.{TreeStep}
use Rattle.gimli_walk.specs.declared.tree.TreeStep.TheVariants.{Root, Next, Enter, Leave}
use Rattle.gimli_base.specs.declared.common.SectionId.TheVariants.{DebugInfo}
use Rattle.gimli_headers.specs.Units.{units_of}
use Rattle.gimli_walk.specs.Text.{Wrote, WroteAll, WroteText, text_of, little_view, IsHonestWalk}
use Rattle.gimli_walk.specs.Text.{unit_takes_memory, walk_may_take}
use Rattle.gimli_walk.specs.Dump.{dump_of}

-- a `&[&str]`
abbrev pub Words : Type 0
Words = List (Bor (List ℕ))

-- the text of word i, which is empty past the end
abbrev pub word : Words → ℕ → List ℕ
word words i = (slice_index_or words i (record { ref_ptr = (0, 0); now = [] })).now

-- `rows INFO ABBREV`
abbrev pub AsksRows : Words → Type 0
AsksRows words = (length words ≡ 3) × (word words 0 ≡ codes "rows")

-- `check INFO ABBREV`
abbrev pub AsksCheck : Words → Type 0
AsksCheck words = (length words ≡ 3) × (word words 0 ≡ codes "check")

-- `dump INFO ABBREV`
abbrev pub AsksDump : Words → Type 0
AsksDump words = (length words ≡ 3) × (word words 0 ≡ codes "dump")

-- `find ARANGES ADDRESS`
abbrev pub AsksFind : Words → Type 0
AsksFind words = (length words ≡ 3) × (word words 0 ≡ codes "find")

-- `cursor INFO ABBREV STEPS`
abbrev pub AsksCursor : Words → Type 0
AsksCursor words = (length words ≡ 4) × (word words 0 ≡ codes "cursor")

-- `plain INFO ABBREV STEPS`
abbrev pub AsksPlain : Words → Type 0
AsksPlain words = (length words ≡ 4) × (word words 0 ≡ codes "plain")

-- `tree INFO ABBREV STEPS`
abbrev pub AsksTree : Words → Type 0
AsksTree words = (length words ≡ 4) × (word words 0 ≡ codes "tree")

-- words that ask for none of these
pub record SaysNothing (words : Words) : Type 0 where
  pub no_rows : AsksRows words → ⊥
  pub no_check : AsksCheck words → ⊥
  pub no_dump : AsksDump words → ⊥
  pub no_find : AsksFind words → ⊥
  pub no_cursor : AsksCursor words → ⊥
  pub no_plain : AsksPlain words → ⊥
  pub no_tree : AsksTree words → ⊥

-- the step of a cursor that a letter names: `e`, `d` or `s`
abbrev pub cursor_step_of : ℕ → Option CursorStep
cursor_step_of letter =
    if letter == 101 then Some NextEntry else
    if letter == 100 then Some NextDfs else
    if letter == 115 then Some NextSibling else None

-- the step of a tree that a letter names: `r`, `n`, `i` or `o`
abbrev pub tree_step_of : ℕ → Option TreeStep
tree_step_of letter =
    if letter == 114 then Some Root else
    if letter == 110 then Some Next else
    if letter == 105 then Some Enter else
    if letter == 111 then Some Leave else None

-- each of these letters names a step
abbrev pub AreSteps : {S : Type 0} → (ℕ → Option S) → List ℕ → Type 0
AreSteps names letters = AllPass (λ c. is_some (names c)) letters

-- a digit in hexadecimal that is no capital
abbrev pub is_lower_digit : ℕ → Bool
is_lower_digit c = is_digit c 16 && not (is_ascii_uppercase c)

-- 1 to 16 such digits
abbrev pub IsAddress : List ℕ → Type 0
IsAddress letters = AllPass is_lower_digit letters × (1 ≤ length letters) × (length letters ≤ 16)

-- the mode of a cursor with these steps, which follows references or not
abbrev pub cursor_mode : Bool → List CursorStep → Mode
cursor_mode true steps = Cursor (record { ref_ptr = (0, 0); now = steps })
cursor_mode false steps = Plain (record { ref_ptr = (0, 0); now = steps })

-- the mode of a tree with these steps
abbrev pub tree_mode : List TreeStep → Mode
tree_mode steps = Tree (record { ref_ptr = (0, 0); now = steps })

-- What comes of a command over two files that `read` gives: what it says of their bytes, or status
-- 3 where one of them can't be read, and then nothing is written, or where a write failed.
pub data OfTwoFiles {F V : Type 0} (g : Mut F (Bor (List ℕ) × Unit {0}) (Option V))
    (bytes : V → List ℕ) (read : F) (first second : List ℕ) (old new : Option (List ℕ))
    (Says : List ℕ → List ℕ → ℕ → Type 0) (status : ℕ) : Type 0 where
  no_first : (last : F) → CalledAt g read first None last → Keeps old new → status ≡ 3
      → OfTwoFiles g bytes read first second old new Says status
  no_second : (x : V) (mid last : F) → CalledAt g read first (Some x) mid
      → CalledAt g mid second None last → Keeps old new → status ≡ 3
      → OfTwoFiles g bytes read first second old new Says status
  said : (x y : V) (mid last : F) → CalledAt g read first (Some x) mid
      → CalledAt g mid second (Some y) last → Says (bytes x) (bytes y) status
      → OfTwoFiles g bytes read first second old new Says status
  failed : (x y : V) (mid last : F) → CalledAt g read first (Some x) mid
      → CalledAt g mid second (Some y) last → status ≡ 3
      → OfTwoFiles g bytes read first second old new Says status

-- What comes of a command over one file.
pub data OfFile {F V : Type 0} (g : Mut F (Bor (List ℕ) × Unit {0}) (Option V)) (bytes : V → List ℕ)
    (read : F) (name : List ℕ) (old new : Option (List ℕ)) (Says : List ℕ → ℕ → Type 0)
    (status : ℕ) : Type 0 where
  no_file : (last : F) → CalledAt g read name None last → Keeps old new → status ≡ 3
      → OfFile g bytes read name old new Says status
  said_of_one : (x : V) (last : F) → CalledAt g read name (Some x) last → Says (bytes x) status
      → OfFile g bytes read name old new Says status
  failed_of_one : (x : V) (last : F) → CalledAt g read name (Some x) last → status ≡ 3
      → OfFile g bytes read name old new Says status

-- what a walk over two sections writes, where its mode follows only references that are honest;
-- where it takes no memory that is all lines
abbrev pub SaysWalk : Mode → Option (List ℕ) → Option (List ℕ) → List ℕ → List ℕ → ℕ → Type 0
SaysWalk mode old new info table status =
    (IsHonestWalk (2 ^ 64) mode (little_view info) (little_view table)
    → WroteText old new (text_of mode info table) status)
    × (walk_may_take (2 ^ 64) mode (little_view info) (little_view table) ≡ false
    → WroteAll old new (text_of mode info table) status)

-- the same of a mode that follows no reference
pub record SaysPlainWalk (mode : Mode) (old new : Option (List ℕ)) (info table : List ℕ)
    (status : ℕ) : Type 0 where
  pub text : WroteText old new (text_of mode info table) status
  pub without_memory : walk_may_take (2 ^ 64) mode (little_view info) (little_view table) ≡ false
      → WroteAll old new (text_of mode info table) status

-- what a dump of two sections writes; where no unit's table takes memory that is all lines
pub record SaysDump (old new : Option (List ℕ)) (info table : List ℕ) (status : ℕ) : Type 0 where
  pub text : Wrote old new (dump_of info table) status
  pub without_memory :
      All (λ u. unit_takes_memory (little_view table) u ≡ false)
      (units_of (2 ^ 64) DebugInfo (little_view info)).items
      → WroteAll old new (dump_of info table) status

-- What comes of a walk by the steps that letters name: status 2 where a letter names none, and
-- status 3 where memory for them is refused; nothing is written then.
pub data BySteps {S : Type 0} (names : ℕ → Option S) (letters : List ℕ) (old new : Option (List ℕ))
    (Walks : List S → ℕ → Type 0) (status : ℕ) : Type 0 where
  no_steps : (AreSteps names letters → ⊥) → Keeps old new → status ≡ 2
      → BySteps names letters old new Walks status
  no_memory : AreSteps names letters → Keeps old new → status ≡ 3
      → BySteps names letters old new Walks status
  by_steps : AreSteps names letters → Walks (filter_map names letters) status
      → BySteps names letters old new Walks status

-- What comes of a search for the address that letters write: status 2 where they write none, and
-- nothing is written then.
pub data AtAddress (letters : List ℕ) (old new : Option (List ℕ)) (Says : ℕ → ℕ → Type 0)
    (status : ℕ) : Type 0 where
  no_address : (IsAddress letters → ⊥) → Keeps old new → status ≡ 2
      → AtAddress letters old new Says status
  at_address : IsAddress letters → Says (digits_value 16 letters) status
      → AtAddress letters old new Says status
