-- What holds of the answers of a cursor's run, whatever the references (DWARF 5, 2.3).
use Rattle.std.specs.Prelude.{◌≡◌, ℕ, ◌≤◌, ℤ, Bool, true, false, int_le, List, [], ◌∷◌, length, pos}
use Rattle.std.specs.Prelude.{Option, Some, None, Result, Ok, Err}
use Rattle.gimli_base.specs.declared.error.Error.{Error}
use Rattle.gimli_base.specs.declared.error.Error.TheVariants.{NoEntryAtGivenOffset}
use Rattle.gimli_base.specs.View.{View}
use Rattle.gimli_base.specs.Abbreviations.{Map}
use Rattle.gimli_units.specs.Entry.{Entry, is_null}
use Rattle.gimli_units.specs.RawPlace.{depth_after}
use Rattle.gimli_units.specs.Rows.{Ahead, offset_of_view}
use Rattle.gimli_units.specs.Unit.{UnitView, whole_length, unit_read_at, unit_entry_at, IsUnreadAt}
use Rattle.gimli_units.specs.Honest.{IsHonest, AreHonestUntil, usable_target}
use Rattle.gimli_units.specs.TreePlace.{Node}
use Rattle.gimli_units.specs.CursorPlace.{Place, first_of_rows, next_offset}
use Rattle.gimli_walk.specs.declared.cursor.CursorStep.{CursorStep}
use Rattle.gimli_walk.specs.Runs.{RunAnswers, IsRunOf}
use Rattle.gimli_units.specs.UnitRows.{unit_rows_at, unit_rows_from, IsHonestAt}
use Rattle.gimli_walk.specs.Cursors.{Answer, answer_of_move, step_of, is_sibling, any_sibling}
use Rattle.gimli_walk.specs.Cursors.{answers_at}
use Rattle.gimli_walk.specs.Cursors.{start_of, IsStopped}

-- What is read next is what stands after the bytes of this entry, at the depth that the entry
-- makes.
pub record IsAfterEntry (limit : ℕ) (u : UnitView) (declared : Map) (a : Answer) (e : Entry) : Type
    0 where
  pub rest : View
  pub read : Ok (e, rest) ≡ unit_read_at limit u declared a.offset
  pub next_offset : a.next_offset ≡ offset_of_view (whole_length u) rest
  pub next_depth : a.next_depth ≡ depth_after e a.depth

-- Nothing is left to be read after an answer, and the next depth is its own.
abbrev pub IsLast : UnitView → Answer → Type 0
IsLast u a = (a.next_offset ≡ whole_length u) × (a.next_depth ≡ a.depth)

-- An answer is true, whatever the references: its entry is what the unit has at its offset, and
-- what is read next stands after it; a null and a refusal stand at its offset too, and after a
-- refusal nothing is left.
pub record IsTrueAnswer (limit : ℕ) (u : UnitView) (declared : Map) (a : Answer) : Type 0 where
  pub entry : (e : Entry) → a.current ≡ Some e → unit_entry_at limit u declared a.offset ≡ Ok e
  pub after : (e : Entry) → a.current ≡ Some e → IsAfterEntry limit u declared a e
  pub null : a.outcome ≡ Ok true → a.current ≡ None
      → unit_entry_at limit u declared a.offset ≡ Err (NoEntryAtGivenOffset a.offset)
  pub none : (a.outcome ≡ Ok true → ⊥) → a.current ≡ None
  pub refusal : (x : Error) → a.outcome ≡ Err x
      → IsUnreadAt limit u declared a.offset x × IsLast u a

-- each answer is
abbrev pub AreTrueAnswers : ℕ → UnitView → Map → List Answer → Type 0
AreTrueAnswers limit u declared [] = Unit {0}
AreTrueAnswers limit u declared (a ∷ rest) =
    IsTrueAnswer limit u declared a × AreTrueAnswers limit u declared rest

-- the place after an answer: ahead are the unit's rows from its next offset on, the first of which
-- has its next depth
abbrev pub place_after : ℕ → UnitView → Map → Answer → Place
place_after limit u declared a = record {
  ahead = unit_rows_from limit u declared a.next_offset a.next_depth;
  current = a.current;
  offset = a.offset;
  depth = a.depth;
}

-- What is asked where a row of this depth is sought by references: that the entry that was read
-- last, if there is one that is no less deep, is honest, and so are the rows ahead that are, before
-- the first of that depth.
abbrev pub IsHonestAhead : ℕ → ℤ → Option Node → Ahead → Type 0
IsHonestAhead end sought last a =
    ((n : Node) → last ≡ Some n → int_le sought n.depth ≡ true
    → IsHonest end
    (record { offset = n.offset; next = next_offset a; depth = n.depth; entry = n.entry })
    a.rows)
    × AreHonestUntil end sought a.rows

-- what is asked where the sibling of a current entry is sought by references
abbrev pub IsHonestBeside : ℕ → Place → Type 0
IsHonestBeside end p =
    (e : Entry) → p.current ≡ Some e
    → IsHonestAhead end p.depth (Some (record { entry = e; offset = p.offset; depth = p.depth }))
    p.ahead

-- No sibling was found: a null stands ahead at the answer's offset, and what is read next stands
-- after it; or nothing is left, and the offset is the current entry's.
pub data IsNoSibling (limit : ℕ) (u : UnitView) (declared : Map) (p : Place) (b : Answer) : Type
    0 where
  a_null : next_offset p.ahead ≤ b.offset → (e : Entry) → is_null e ≡ true
      → IsAfterEntry limit u declared b e → IsNoSibling limit u declared p b
  at_end : b.next_offset ≡ whole_length u → b.offset ≡ p.offset → IsNoSibling limit u declared p b

-- An answer is that of a step from a place: the definition's, but for a step to a sibling from an
-- entry with references followed that are not honest. Whatever the references, what was read stands
-- ahead; and a sibling has the entry's depth, or there is none of it.
pub record IsStepped (limit : ℕ) (u : UnitView) (declared : Map) (follows : Bool) (s : CursorStep)
    (p : Place) (b : Answer) : Type 0 where
  pub is : (follows ≡ true → is_sibling s ≡ true → IsHonestBeside (whole_length u) p)
      → b ≡ answer_of_move (step_of (whole_length u) s p)
  pub ahead : b.outcome ≡ Ok true → next_offset p.ahead ≤ b.offset
  pub refused_ahead : (x : Error) → b.outcome ≡ Err x → next_offset p.ahead ≤ b.offset
  pub beside : is_sibling s ≡ true → b.outcome ≡ Ok true
      → (b.depth ≡ p.depth) × (e : Entry) × (b.current ≡ Some e)
  pub no_sibling : is_sibling s ≡ true → b.outcome ≡ Ok false → (e : Entry) → p.current ≡ Some e
      → (b.depth ≡ p.depth) × IsNoSibling limit u declared p b

-- The answers of these steps from a place: each is that of its step from the place after the
-- answer before it.
abbrev pub AreStepped : ℕ → UnitView → Map → Bool → Place → List CursorStep → List Answer → Type 0
AreStepped limit u declared follows p [] all = Unit {0}
AreStepped limit u declared follows p (s ∷ steps) [] = Unit {0}
AreStepped limit u declared follows p (s ∷ steps) (b ∷ rest) =
    IsStepped limit u declared follows s p b
    × AreStepped limit u declared follows (place_after limit u declared b) steps rest

-- where the reference of an answer's entry leads, if it can be followed
abbrev pub usable_of : ℕ → Answer → Option ℕ
usable_of end a = elim a.current [
  | None ↦ None
  | Some e ↦ usable_target end
      (record { offset = a.offset; next = a.next_offset; depth = a.depth; entry = e })
]

-- An answer, and that of a step to a sibling after it: where the first one's reference can be
-- followed, it is followed, and the second answers what stands there, with the entry's depth.
abbrev pub IsTaken : ℕ → UnitView → Map → CursorStep → Answer → Answer → Type 0
IsTaken limit u declared s a b =
    is_sibling s ≡ true → (t : ℕ) → usable_of (whole_length u) a ≡ Some t
    → b
    ≡ answer_of_move
    (first_of_rows (whole_length u) a.depth a.offset
    (unit_rows_from limit u declared t a.depth))

-- references are followed, from each answer to the next
abbrev pub AreTakenFrom : ℕ → UnitView → Map → Answer → List CursorStep → List Answer → Type 0
AreTakenFrom limit u declared a [] rest = Unit {0}
AreTakenFrom limit u declared a (s ∷ steps) [] = Unit {0}
AreTakenFrom limit u declared a (s ∷ steps) (b ∷ rest) =
    IsTaken limit u declared s a b × AreTakenFrom limit u declared b steps rest

-- references are followed in a run
abbrev pub AreTaken : ℕ → UnitView → Map → List CursorStep → List Answer → Type 0
AreTaken limit u declared [] all = Unit {0}
AreTaken limit u declared (s ∷ steps) [] = Unit {0}
AreTaken limit u declared (s ∷ steps) (a ∷ rest) = AreTakenFrom limit u declared a steps rest

-- What a run of these steps over the bytes from a view on tells. They are the definition's answers
-- where the rows are honest, where no reference is followed, and where no step looks for a sibling;
-- and whatever the references each is true, and that of its step.
pub record HasRunOver (limit : ℕ) (u : UnitView) (declared : Map) (follows : Bool)
    (steps : List CursorStep) (v : View) (run : RunAnswers Answer) : Type 0 where
  pub answers : (follows ≡ true → any_sibling steps ≡ true → IsHonestAt limit u declared v)
      → IsRunOf run (answers_at limit u declared steps v)
  pub are_true : AreTrueAnswers limit u declared run.answers
  pub are_stepped : AreStepped limit u declared follows
      (start_of (unit_rows_at limit u declared (pos 0) v)) steps run.answers
  pub are_taken : follows ≡ true → AreTaken limit u declared steps run.answers
  pub stopped : IsStopped run.stopped (length run.answers) (length steps)

-- the same from a start, which may be refused
abbrev pub IsRunFrom : ℕ → UnitView → Map → Bool → List CursorStep → Result View Error
    → Result (RunAnswers Answer) Error → Type 0
IsRunFrom limit u declared follows steps (Ok v) (Ok run) =
    HasRunOver limit u declared follows steps v run
IsRunFrom limit u declared follows steps (Ok v) (Err x) = ⊥
IsRunFrom limit u declared follows steps (Err e) (Ok run) = ⊥
IsRunFrom limit u declared follows steps (Err e) (Err x) = x ≡ e
