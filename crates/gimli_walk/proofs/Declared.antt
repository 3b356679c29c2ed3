-- The text of a unit whose declarations are refused.
use Rattle.std.proofs.Common.{◌≡◌, ℕ, pos, Bool, true, false, List, [], ◌∷◌, sym, ap, Option}
use Rattle.std.proofs.Common.{Result, Ok, Err, refl, arith, length, ◌⊎◌, inl, inr}
use Rattle.std.specs.Io.KnownBytes.{Appends}
use Rattle.gimli_base.specs.declared.error.Error.{Error}
use Rattle.gimli_base.specs.declared.error.Error.TheVariants.{UnexpectedEof, BadUnsignedLeb128}
use Rattle.gimli_base.specs.declared.error.Error.TheVariants.{BadSignedLeb128}
use Rattle.gimli_base.specs.declared.error.Error.TheVariants.{UnknownReservedLength, UnknownVersion}
use Rattle.gimli_base.specs.declared.error.Error.TheVariants.{UnknownUnitType}
use Rattle.gimli_base.specs.declared.error.Error.TheVariants.{UnsupportedAddressSize}
use Rattle.gimli_base.specs.declared.error.Error.TheVariants.{UnsupportedSegmentSize}
use Rattle.gimli_base.specs.declared.error.Error.TheVariants.{UnsupportedOffset}
use Rattle.gimli_base.specs.declared.error.Error.TheVariants.{UnsupportedOffsetSize}
use Rattle.gimli_base.specs.declared.error.Error.TheVariants.{OffsetOutOfBounds}
use Rattle.gimli_base.specs.declared.error.Error.TheVariants.{NoEntryAtGivenOffset}
use Rattle.gimli_base.specs.declared.error.Error.TheVariants.{InvalidAbbreviationCode, UnknownForm}
use Rattle.gimli_base.specs.declared.error.Error.TheVariants.{InvalidImplicitConst}
use Rattle.gimli_base.specs.declared.error.Error.TheVariants.{UnknownRangeListsEntry}
use Rattle.gimli_base.specs.declared.error.Error.TheVariants.{UnknownLocListsEntry, AddressOverflow}
use Rattle.gimli_base.specs.declared.error.Error.TheVariants.{AbbreviationTagZero}
use Rattle.gimli_base.specs.declared.error.Error.TheVariants.{InvalidAbbreviationChildren}
use Rattle.gimli_base.specs.declared.error.Error.TheVariants.{AttributeNameZero, AttributeFormZero}
use Rattle.gimli_base.specs.declared.error.Error.TheVariants.{DuplicateAbbreviationCode}
use Rattle.gimli_base.specs.declared.error.Error.TheVariants.{OutOfMemory}
use Rattle.gimli_base.specs.Refusal.{number_of}
use Rattle.gimli_base.specs.Abbreviations.{Map}
use Rattle.gimli_units.specs.CursorPlace.{Place}
use Rattle.gimli_units.specs.Unit.{UnitView}
use Rattle.gimli_walk.specs.declared.mode.Mode.{Mode}
use Rattle.gimli_walk.specs.declared.mode.Mode.TheVariants.{Rows, Check, Cursor, Plain, Tree}
use Rattle.gimli_walk.proofs.AnswerLines.{if_ok}
use Rattle.std.specs.Prelude.{IfOk}
use Rattle.gimli_walk.specs.Lines.{Text, error_line, memory_line}
use Rattle.gimli_walk.specs.Text.{Wrote, WroteAll, WroteText, wrote, no_line, declared_text}
use Rattle.gimli_walk.specs.Text.{mode_text, is_rows, declared_may_take}
use Rattle.std.specs.Prelude.{not}
use Rattle.std.proofs.lemmas.List.{append-nil}
use Rattle.gimli_walk.specs.Text.{IsHonestMode, IsHonestDeclared, WroteTrueMode, WroteTrueDeclared}
use Rattle.gimli_walk.specs.declared.cursor.CursorStep.{CursorStep}
use Rattle.gimli_units.specs.UnitRows.{unit_rows_at}
use Rattle.gimli_walk.specs.Cursors.{start_of}
use Rattle.gimli_walk.specs.TrueAnswers.{AreStepped, AreTaken}
use Rattle.gimli_walk.specs.TreeText.{no_line as no_tree_line}
use Rattle.gimli_walk.proofs.WrittenLines.{Wrote-only, Wrote-memory}

-- a refusal is that of memory, or another
pub memory_or_not : (e : Error) → (e ≡ OutOfMemory) ⊎ (e ≡ OutOfMemory → ⊥)
memory_or_not (UnexpectedEof x) = inr (λ h. cc)
memory_or_not BadUnsignedLeb128 = inr (λ h. cc)
memory_or_not BadSignedLeb128 = inr (λ h. cc)
memory_or_not UnknownReservedLength = inr (λ h. cc)
memory_or_not (UnknownVersion x) = inr (λ h. cc)
memory_or_not (UnknownUnitType x) = inr (λ h. cc)
memory_or_not (UnsupportedAddressSize x) = inr (λ h. cc)
memory_or_not (UnsupportedSegmentSize x) = inr (λ h. cc)
memory_or_not UnsupportedOffset = inr (λ h. cc)
memory_or_not (UnsupportedOffsetSize x) = inr (λ h. cc)
memory_or_not (OffsetOutOfBounds x) = inr (λ h. cc)
memory_or_not (NoEntryAtGivenOffset x) = inr (λ h. cc)
memory_or_not (InvalidAbbreviationCode x) = inr (λ h. cc)
memory_or_not (UnknownForm x) = inr (λ h. cc)
memory_or_not InvalidImplicitConst = inr (λ h. cc)
memory_or_not (UnknownRangeListsEntry x) = inr (λ h. cc)
memory_or_not (UnknownLocListsEntry x) = inr (λ h. cc)
memory_or_not AddressOverflow = inr (λ h. cc)
memory_or_not AbbreviationTagZero = inr (λ h. cc)
memory_or_not InvalidAbbreviationChildren = inr (λ h. cc)
memory_or_not AttributeNameZero = inr (λ h. cc)
memory_or_not AttributeFormZero = inr (λ h. cc)
memory_or_not DuplicateAbbreviationCode = inr (λ h. cc)
memory_or_not OutOfMemory = inl refl

-- the line of a refusal, be it that of memory
pub undeclared : (old new : Option (List ℕ)) (text : UnitView → Map → Text) (u : UnitView)
    (m : Result Map Error) (e : Error)
    → ((e ≡ OutOfMemory → ⊥) → Err e ≡ m) → Appends old new (error_line (number_of e))
    → WroteText old new (declared_text text u m) 1
undeclared old new text u m e refused h = elim (memory_or_not e) [
  | inl memory ↦ memory_only (declared_text text u m).lines refl (rw memory at h)
  | inr other ↦ wrote (rw (← refused other) (Wrote-only old new (error_line (number_of e)) 1 h))
]
  where
    memory_only : (lines : List (List ℕ)) → lines ≡ (declared_text text u m).lines
        → Appends old new memory_line → WroteText old new (declared_text text u m) 1
    memory_only [] is k = no_line (sym is) k refl
    memory_only (line ∷ rest) is k =
        wrote
        (Wrote-memory old new (declared_text text u m)
        (let some = ap length is in omega (arith, some)) k)

-- the text of a unit whose declarations were read
pub walked_declared : {E : Type 0}
    → (limit : ℕ) (mode : Mode) (u : UnitView) (declared : Map) (m : Result Map Error)
    (old new : Option (List ℕ)) (r : Result ℕ E) → Ok declared ≡ m
    → IsHonestDeclared limit mode u m
    → (IsHonestMode limit mode u declared
    → IfOk r (λ status. Wrote old new (mode_text limit mode u declared) status))
    → IfOk r (λ status. WroteText old new (declared_text (mode_text limit mode) u m) status)
walked_declared limit mode u declared m old new r is h walked =
    let honest = rw (← is) at h in
    rw (← is) (if_ok r (λ status w. wrote w) (walked honest))

-- all lines are written, where declarations are refused for their bytes
pub undeclared_all : (old new : Option (List ℕ)) (text : UnitView → Map → Text) (u : UnitView)
    (m : Result Map Error) (e : Error)
    → Err e ≡ m → Appends old new (error_line (number_of e))
    → WroteAll old new (declared_text text u m) 1
undeclared_all old new text u m e is h =
    rw (← is) (record { lines = rw append-nil h; same_status = refl })

-- and where rows are written by declarations that were read
pub walked_all : {E : Type 0}
    → (limit : ℕ) (mode : Mode) (u : UnitView) (declared : Map) (m : Result Map Error)
    (old new : Option (List ℕ)) (r : Result ℕ E) → Ok declared ≡ m
    → declared_may_take mode m ≡ false
    → (is_rows mode ≡ true
    → IfOk r (λ status. WroteAll old new (mode_text limit mode u declared) status))
    → IfOk r (λ status. WroteAll old new (declared_text (mode_text limit mode) u m) status)
walked_all limit mode u declared m old new r is idle walked =
    let rows = rw (← is) at idle in
    rw (← is) (walked (rows_alone mode rows))
  where
    rows_alone : (x : Mode) → not (is_rows x) ≡ false → is_rows x ≡ true
    rows_alone Rows h = refl
    rows_alone Check h = absurd (cc)
    rows_alone (Cursor steps) h = absurd (cc)
    rows_alone (Plain steps) h = absurd (cc)
    rows_alone (Tree steps) h = absurd (cc)

-- what is said of all answers holds where there are none
no_steps : (limit : ℕ) (u : UnitView) (declared : Map) (follows : Bool) (p : Place)
    (steps : List CursorStep)
    → AreStepped limit u declared follows p steps [] × AreTaken limit u declared steps []
no_steps limit u declared follows p [] = (tt, tt)
no_steps limit u declared follows p (s ∷ steps) = (tt, tt)

-- no answer is told where the declarations are refused, be it for want of memory
pub undeclared_true : (limit : ℕ) (mode : Mode) (u : UnitView) (m : Result Map Error) (e : Error)
    (old new : Option (List ℕ)) → ((e ≡ OutOfMemory → ⊥) → Err e ≡ m)
    → Appends old new (error_line (number_of e)) → WroteTrueDeclared limit mode u m old new 1
undeclared_true limit mode u (Err x) e old new refused h = tt
undeclared_true limit mode u (Ok declared) e old new refused h = elim (memory_or_not e) [
  | inl memory ↦ answer mode (rw memory at h)
  | inr other ↦
      absurd (let k : ◌≡◌ {A = Result Map Error} (Err e) (Ok declared) = refused other in cc)
]
  where
    answer : (x : Mode) → Appends old new memory_line → WroteTrueMode limit x u declared old new 1
    answer Rows k = tt
    answer Check k = tt
    answer (Cursor steps) k =
        let none = no_steps limit u declared true
        (start_of (unit_rows_at limit u declared (pos 0) u.entries)) steps.now in
        record {
          all = [];
          stopped = true;
          count = inr refl;
          are_true = tt;
          are_stepped = none.0;
          are_taken = λ f. none.1;
          written = (k, refl);
        }
    answer (Plain steps) k =
        let none = no_steps limit u declared false
        (start_of (unit_rows_at limit u declared (pos 0) u.entries)) steps.now in
        record {
          all = [];
          stopped = true;
          count = inr refl;
          are_true = tt;
          are_stepped = none.0;
          are_taken = λ f. none.1;
          written = (k, refl);
        }
    answer (Tree steps) k = no_tree_line k refl
