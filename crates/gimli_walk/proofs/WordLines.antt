-- What a flush keeps of a walk's text, and the status of a walk whose write may fail.
use Rattle.std.proofs.Common.{◌≡◌, ◌⊎◌, inl, inr, refl, Bool, true, false, ℕ, List, Option, None}
use Rattle.std.proofs.Common.{Some, ◌∙◌, Result, Ok, Err, subst, sym}
use Rattle.std.specs.Prelude.{IfOk, ◌^◌}
use Rattle.std.specs.List.{All}
use Rattle.gimli_headers.specs.Units.{units_of}
use Rattle.std.specs.Result.{result_unwrap_or}
use Rattle.std.specs.Fn.{Mut, CalledAt}
use Rattle.std.specs.Borrow.{Bor}
use Rattle.std.specs.Io.KnownBytes.{Appends, Keeps}
use Rattle.gimli_walk.specs.declared.mode.Mode.{Mode}
use Rattle.gimli_walk.specs.declared.mode.Mode.TheVariants.{Rows, Check, Cursor, Plain, Tree}
use Rattle.gimli_walk.specs.declared.cursor.CursorStep.{CursorStep}
use Rattle.gimli_walk.specs.declared.tree.TreeStep.{TreeStep}
use Rattle.gimli_base.specs.declared.common.SectionId.TheVariants.{DebugInfo}
use Rattle.gimli_base.specs.declared.error.Error.{Error}
use Rattle.gimli_base.specs.View.{View}
use Rattle.gimli_base.specs.Reading.{Reads}
use Rattle.gimli_base.specs.Abbreviations.{Map, map_at}
use Rattle.gimli_units.specs.Unit.{UnitView}
use Rattle.gimli_headers.specs.Header.{unit_at}
use Rattle.gimli_walk.specs.Lines.{Text}
use Rattle.gimli_walk.specs.Text.{Wrote, WroteAll, all_lines, some_lines, WroteText, wrote, no_line}
use Rattle.gimli_walk.specs.Text.{IsHonestDeclared, IsHonestFirst, IsHonestWalk, text_of}
use Rattle.gimli_walk.specs.Text.{little_view, unit_takes_memory, walk_may_take}
use Rattle.gimli_walk.specs.Dump.{dump_of}
use Rattle.gimli_walk.specs.Words.{OfTwoFiles, OfFile, SaysWalk, SaysPlainWalk, SaysDump}
use Rattle.gimli_walk.specs.Words.{cursor_mode, tree_mode, no_first}
use Rattle.gimli_walk.specs.Words.{no_second, said, failed, said_of_one, failed_of_one}

Appends-kept : (a b c : Option (List ℕ)) (xs : List ℕ) → Appends a b xs → Keeps b c → Appends a c xs
Appends-kept None b c xs h k = tt
Appends-kept (Some p) None c xs h k = absurd h
Appends-kept (Some p) (Some q) None xs h k = absurd k
Appends-kept (Some p) (Some q) (Some r) xs h k = k ∙ h

pub Wrote-kept : (a b c : Option (List ℕ)) (text : Text) (status : ℕ) → Wrote a b text status
    → Keeps b c → Wrote a c text status
Wrote-kept a b c text status (all_lines w is) k = all_lines (Appends-kept a b c _ w k) is
Wrote-kept a b c text status (some_lines n below w is) k =
    some_lines n below (Appends-kept a b c _ w k) is

WroteText-kept : (a b c : Option (List ℕ)) (text : Text) (status : ℕ) → WroteText a b text status
    → Keeps b c → WroteText a c text status
WroteText-kept a b c text status (wrote w) k = wrote (Wrote-kept a b c text status w k)
WroteText-kept a b c text status (no_line none w is) k = no_line none (Appends-kept a b c _ w k) is

-- the rows ask nothing of references
pub rows_honest : (limit : ℕ) (info abbreviations : View)
    → IsHonestWalk limit Rows info abbreviations
rows_honest limit info abbreviations = first (unit_at limit DebugInfo 0 info)
  where
    declared : (u : UnitView) (m : Result Map Error) → IsHonestDeclared limit Rows u m
    declared u (Ok d) = tt
    declared u (Err e) = tt

    first : (r : Reads UnitView) → IsHonestFirst limit Rows r abbreviations
    first (Ok p) = declared p.0 (map_at p.0.abbreviations abbreviations)
    first (Err e) = tt

-- neither does a check
pub check_honest : (limit : ℕ) (info abbreviations : View)
    → IsHonestWalk limit Check info abbreviations
check_honest limit info abbreviations = first (unit_at limit DebugInfo 0 info)
  where
    declared : (u : UnitView) (m : Result Map Error) → IsHonestDeclared limit Check u m
    declared u (Ok d) = tt
    declared u (Err e) = tt

    first : (r : Reads UnitView) → IsHonestFirst limit Check r abbreviations
    first (Ok p) = declared p.0 (map_at p.0.abbreviations abbreviations)
    first (Err e) = tt

-- what is proved of a walk's text is what it says
pub says_walk : {E : Type 0} → (mode : Mode) (old new : Option (List ℕ)) (info table : List ℕ)
    (r : Result ℕ E)
    → (IsHonestWalk (2 ^ 64) mode (little_view info) (little_view table)
    → IfOk r (WroteText old new (text_of mode info table)))
    → (walk_may_take (2 ^ 64) mode (little_view info) (little_view table) ≡ false
    → IfOk r (WroteAll old new (text_of mode info table)))
    → IfOk r (SaysWalk mode old new info table)
says_walk mode old new info table (Ok s) text all = (text, all)
says_walk mode old new info table (Err e) text all = tt

-- and of a dump's
pub says_dump : {E : Type 0} → (old new : Option (List ℕ)) (info table : List ℕ) (r : Result ℕ E)
    → IfOk r (Wrote old new (dump_of info table))
    → (All (λ u. unit_takes_memory (little_view table) u ≡ false)
    (units_of (2 ^ 64) DebugInfo (little_view info)).items
    → IfOk r (WroteAll old new (dump_of info table)))
    → IfOk r (SaysDump old new info table)
says_dump old new info table (Ok s) text all = record { text = text; without_memory = all }
says_dump old new info table (Err e) text all = tt

pub WroteAll-kept : (a b c : Option (List ℕ)) (text : Text) (status : ℕ) → WroteAll a b text status
    → Keeps b c → WroteAll a c text status
WroteAll-kept a b c text status w k =
    record { lines = Appends-kept a b c _ w.lines k; same_status = w.same_status }

-- what a walk says is said after a flush
pub SaysWalk-kept : (mode : Mode) (old b c : Option (List ℕ)) (info table : List ℕ) (status : ℕ)
    → SaysWalk mode old b info table status → Keeps b c → SaysWalk mode old c info table status
SaysWalk-kept mode old b c info table status says k = (
  (λ honest. WroteText-kept old b c _ status (says.0 honest) k),
  (λ none. WroteAll-kept old b c _ status (says.1 none) k),
)

-- and what a dump says
pub SaysDump-kept : (old b c : Option (List ℕ)) (info table : List ℕ) (status : ℕ)
    → SaysDump old b info table status → Keeps b c → SaysDump old c info table status
SaysDump-kept old b c info table status says k = record {
  text = Wrote-kept old b c _ status says.text k;
  without_memory = λ none. WroteAll-kept old b c _ status (says.without_memory none) k;
}

-- a walk that asks nothing of references
pub says_plain_walk : (mode : Mode) (old new : Option (List ℕ)) (info table : List ℕ) (status : ℕ)
    → IsHonestWalk (2 ^ 64) mode (little_view info) (little_view table)
    → SaysWalk mode old new info table status → SaysPlainWalk mode old new info table status
says_plain_walk mode old new info table status honest says =
    record { text = says.0 honest; without_memory = says.1 }

module _ {F V E : Type 0} (g : Mut F (Bor (List ℕ) × Unit {0}) (Option V)) (bytes : V → List ℕ)
    (read : F) (old between new : Option (List ℕ)) where
  -- both files were read, what is said of them was written, and then flushed
  pub of_both : (mid last : F) (info table : List ℕ) (x y : V)
      (S : Option (List ℕ) → List ℕ → List ℕ → ℕ → Type 0)
      → ((b c : Option (List ℕ)) (i t : List ℕ) (s : ℕ) → S b i t s → Keeps b c → S c i t s)
      → (r : Result ℕ E) (first status : ℕ)
      → CalledAt g read info (Some x) mid → CalledAt g mid table (Some y) last
      → IfOk r (λ s. S between (bytes x) (bytes y) s)
      → first ≡ result_unwrap_or r 3 → (status ≡ 3) ⊎ ((status ≡ first) × Keeps between new)
      → OfTwoFiles g bytes read info table old new (S new) status
  of_both mid last info table x y S keep (Ok s) first status one two says is (inl three) =
      failed x y mid last one two three
  of_both mid last info table x y S keep (Ok s) first status one two says is (inr same) =
      said x y mid last one two
      (subst (λ n. S new (bytes x) (bytes y) n) (sym (same.0 ∙ is))
      (keep between new (bytes x) (bytes y) s says same.1))
  of_both mid last info table x y S keep (Err e) first status one two says is (inl three) =
      failed x y mid last one two three
  of_both mid last info table x y S keep (Err e) first status one two says is (inr same) =
      failed x y mid last one two (same.0 ∙ is)

  -- one file was
  pub of_one : (last : F) (name : List ℕ) (x : V) (S : Option (List ℕ) → List ℕ → ℕ → Type 0)
      → ((b c : Option (List ℕ)) (i : List ℕ) (s : ℕ) → S b i s → Keeps b c → S c i s)
      → (r : Result ℕ E) (first status : ℕ)
      → CalledAt g read name (Some x) last → IfOk r (λ s. S between (bytes x) s)
      → first ≡ result_unwrap_or r 3 → (status ≡ 3) ⊎ ((status ≡ first) × Keeps between new)
      → OfFile g bytes read name old new (S new) status
  of_one last name x S keep (Ok s) first status one says is (inl three) =
      failed_of_one x last one three
  of_one last name x S keep (Ok s) first status one says is (inr same) =
      said_of_one x last one
      (subst (λ n. S new (bytes x) n) (sym (same.0 ∙ is))
      (keep between new (bytes x) s says same.1))
  of_one last name x S keep (Err e) first status one says is (inl three) =
      failed_of_one x last one three
  of_one last name x S keep (Err e) first status one says is (inr same) =
      failed_of_one x last one (same.0 ∙ is)

-- what is said may say less
pub OfTwoFiles-less : {F V : Type 0} (g : Mut F (Bor (List ℕ) × Unit {0}) (Option V))
    (bytes : V → List ℕ) (read : F) (info table : List ℕ) (old new : Option (List ℕ))
    (S T : List ℕ → List ℕ → ℕ → Type 0) (status : ℕ)
    → ((i t : List ℕ) (s : ℕ) → S i t s → T i t s)
    → OfTwoFiles g bytes read info table old new S status
    → OfTwoFiles g bytes read info table old new T status
OfTwoFiles-less g bytes read info table old new S T status less (no_first last one k is) =
    no_first last one k is
OfTwoFiles-less g bytes read info table old new S T status less
    (no_second x mid last one two k is) = no_second x mid last one two k is
OfTwoFiles-less g bytes read info table old new S T status less (said x y mid last one two says) =
    said x y mid last one two (less (bytes x) (bytes y) status says)
OfTwoFiles-less g bytes read info table old new S T status less (failed x y mid last one two is) =
    failed x y mid last one two is

pub Keeps-same : (x : Option (List ℕ)) → Keeps x x
Keeps-same None = tt
Keeps-same (Some xs) = refl

module _ (old new : Option (List ℕ)) (info table : List ℕ) (status : ℕ) where
  -- what a walk says depends on its steps, and not on where they lie
  pub says_cursor : (mode : Mode) (b : Bor (List CursorStep)) (follows : Bool)
      (steps : List CursorStep) → mode ≡ Cursor b → b.now ≡ steps → follows ≡ true
      → SaysWalk mode old new info table status
      → SaysWalk (cursor_mode follows steps) old new info table status
  says_cursor mode b follows steps m n f says =
      subst (λ x. SaysWalk (cursor_mode x steps) old new info table status) (sym f)
      (subst (λ x. SaysWalk (cursor_mode true x) old new info table status) n
      (subst (λ x. SaysWalk x old new info table status) m says))

  pub says_plain : (mode : Mode) (b : Bor (List CursorStep)) (follows : Bool)
      (steps : List CursorStep) → mode ≡ Plain b → b.now ≡ steps → follows ≡ false
      → SaysWalk mode old new info table status
      → SaysWalk (cursor_mode follows steps) old new info table status
  says_plain mode b follows steps m n f says =
      subst (λ x. SaysWalk (cursor_mode x steps) old new info table status) (sym f)
      (subst (λ x. SaysWalk (cursor_mode false x) old new info table status) n
      (subst (λ x. SaysWalk x old new info table status) m says))

  pub says_tree : (b : Bor (List TreeStep)) (steps : List TreeStep) → b.now ≡ steps
      → SaysWalk (Tree b) old new info table status
      → SaysWalk (tree_mode steps) old new info table status
  says_tree b steps n says = subst (λ x. SaysWalk (tree_mode x) old new info table status) n says
