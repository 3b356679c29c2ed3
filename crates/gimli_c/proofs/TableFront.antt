-- Declarations that were read into a caller's buffers, one after the other.
use Rattle.std.proofs.Common.{◌≡◌, ℕ, suc, ◌+◌, ◌<◌, ◌≤◌, ◌==◌, Bool, true, false}
use Rattle.std.proofs.Common.{if◌then◌else◌, ◌&&◌, nat_le, List, [], ◌∷◌, ◌++◌, map, take, drop}
use Rattle.std.proofs.Common.{length, slice_set, Option, None, Ok, Err, refl, sym, ap}
use Rattle.std.proofs.Common.{◌∙◌, arith, append_assoc, length-append, length-drop, add-zero}
use Rattle.std.proofs.lemmas.List.{append-nil, map-append, take_more_set, take-set-le, drop-set-lt}
use Rattle.std.proofs.lemmas.List.{drop-drop}
use Rattle.std.proofs.lemmas.List.{length-set, length-map, length-take-le}
use Rattle.std.proofs.lemmas.Slice.{take-put_mid, take-put_mid_below, drop-put_mid}
use Rattle.std.proofs.Math.Seq.{take-add}
use borrow.Rule.Slice.PartMut.{put_mid}
use Rattle.std.proofs.lemmas.Bool.{ne_eqb, eq-eqb}
use Rattle.gimli_base.specs.declared.error.Error.{Error}
use Rattle.gimli_base.specs.View.{View}
use Rattle.gimli_base.specs.Reading.{Reads}
use Rattle.gimli_base.specs.Items.{Items, ItemsSoFar}
use Rattle.gimli_base.specs.Abbreviations.{Specification, Declaration, declaration_at}
use Rattle.gimli_base.specs.Abbreviations.{declarations_at}
use Rattle.gimli_base.proofs.ItemTurns.{items_begin, items_within, items_more, items_refused}
use Rattle.gimli_base.proofs.ItemTurns.{items_end}
use Rattle.gimli_c.specs.declared.table.GimliCounted.{GimliCounted}
use Rattle.gimli_c.specs.declared.table.GimliDeclaration.{GimliDeclaration}
use Rattle.gimli_c.specs.declared.table.GimliSpecification.{GimliSpecification}
use Rattle.gimli_c.specs.Status.{more, end, unordered, refusal_status}
use Rattle.gimli_c.specs.Tables.{specification_in, in_order, all_specifications, numbered}
use Rattle.gimli_c.specs.Tables.{number_declarations, count_of, have_room, table_outcome}
use Rattle.gimli_c.specs.Tables.{AreWritten}
use Rattle.gimli_c.specs.TableReads.{AreWrittenAfter, OwnSteps, HaveSteps, WroteNext, IsScanned}
use Rattle.gimli_c.proofs.TableSteps.{steps-append, own_steps}
use Rattle.gimli_c.proofs.Slots.{slot}

-- none is written yet
pub after_none : (from : ℕ) (old : List GimliSpecification) → AreWrittenAfter from [] old old
after_none from old = record {
  long = refl;
  front = refl;
  written = λ _. rw (add-zero, append-nil) refl;
  rest = λ _. refl;
}

-- one more attribute is written, where there is room for it
pub after_more : (from : ℕ) (ss : List Specification) (old new : List GimliSpecification)
    (g : GimliSpecification) (s : Specification) → AreWrittenAfter from ss old new
    → from + length ss < length new → specification_in g ≡ s
    → AreWrittenAfter from (ss ++ s ∷ []) old (slice_set new (from + length ss) g)
after_more from ss old new g s b room is =
    let at = from + length ss in
    let longer : length (ss ++ s ∷ []) ≡ length ss + 1 = rw (length-append) refl in
    let next : from + length (ss ++ s ∷ []) ≡ at + 1 = omega (arith, longer) in
    let fits : at ≤ length old = omega (arith, room, b.long) in
    record {
      long = length-set new at g ∙ b.long;
      front = take-set-le from new at g (omega arith) ∙ b.front;
      written = λ _. rw next
          (ap (map specification_in) (take_more_set new at g room)
          ∙ map-append specification_in (take at new) (g ∷ [])
          ∙ rw (b.written fits, is) (append_assoc (map specification_in (take from old)) ss (s ∷ [])));
      rest = λ _. rw next
          (drop-set-lt (at + 1) new at g (omega arith)
          ∙ sym (drop-drop 1 at new)
          ∙ ap (drop 1) (b.rest fits)
          ∙ drop-drop 1 at old);
    }

-- and where there is none
pub after_counted : (from : ℕ) (ss : List Specification) (old new : List GimliSpecification)
    (s : Specification) → AreWrittenAfter from ss old new → length new ≤ from + length ss
    → AreWrittenAfter from (ss ++ s ∷ []) old new
after_counted from ss old new s b full =
    let longer : length (ss ++ s ∷ []) ≡ length ss + 1 = rw (length-append) refl in
    record {
      long = b.long;
      front = b.front;
      written = λ le. absurd (omega (arith, le, longer, full, b.long));
      rest = λ le. absurd (omega (arith, le, longer, full, b.long));
    }

-- the steps of attributes that are written are put
module _ (from : ℕ) (ss : List Specification) (old new part : List GimliSpecification)
    (b : AreWrittenAfter from ss old new) (fits : from + length ss ≤ length new)
    (same : map specification_in part ≡ map specification_in (take (length ss) (drop from new)))
  where
    abbrev put : List GimliSpecification
    put = put_mid from (length ss) new part

    as_many : length part ≡ length ss
    as_many =
        sym (length-map part specification_in)
        ∙ ap length same
        ∙ length-map (take (length ss) (drop from new)) specification_in
        ∙ length-take-le (length ss) (drop from new) (omega (arith, fits, length-drop from new))

    inside : from ≤ length new
    inside = omega (arith, fits)

    front_is : take (from + length ss) put ≡ take from new ++ part
    front_is = take-put_mid from (length ss) new part (from + length ss) (omega (arith, as_many)) inside

    long : length put ≡ length new
    long =
        let parts = length-append (take from new) (part ++ drop (length ss) (drop from new)) in
        let front = length-take-le from new inside in
        let others = length-append part (drop (length ss) (drop from new)) in
        let last = length-drop (length ss) (drop from new) in
        omega (arith, parts, front, others, as_many, last, length-drop from new, fits)

    pub after_put : AreWrittenAfter from ss old put
    after_put = record {
      long = long ∙ b.long;
      front =
          take-put_mid_below from (length ss) new part from (omega arith) inside ∙ b.front;
      written = λ le.
          ap (map specification_in) front_is
          ∙ map-append specification_in (take from new) part
          ∙ ap (λ ts. map specification_in (take from new) ++ ts) same
          ∙ sym (map-append specification_in (take from new) (take (length ss) (drop from new)))
          ∙ ap (map specification_in) (sym (take-add from (length ss) new))
          ∙ b.written le;
      rest = λ le.
          drop-put_mid from (length ss) new part (from + length ss) (omega arith) inside as_many
          ∙ b.rest le;
    }

    pub steps_put : OwnSteps part → HaveSteps from (length ss) old put
    steps_put steps le before =
        rw front_is (steps-append (take from new) part (rw b.front before) steps)

-- or there is no room for them
pub steps_left : (from n : ℕ) (old new : List GimliSpecification) → length new ≡ length old
    → length new < from + n → HaveSteps from n old new
steps_left from n old new long full le before = absurd (omega (arith, le, full, long))

-- the codes of more declarations
in_order-append : (k : ℕ) (xs ys : List Declaration) → in_order k xs ≡ true
    → in_order k (xs ++ ys) ≡ in_order (k + length xs) ys
in_order-append k [] ys h = rw add-zero refl
in_order-append k (d ∷ ds) ys h =
    cases (d.code == k) (λ g. in_order-append (k + 1) ds ys g) h
  where
    place : k + 1 + length ds ≡ k + suc (length ds)
    place = omega arith

    cases : (b : Bool)
        → (in_order (k + 1) ds ≡ true
        → in_order (k + 1) (ds ++ ys) ≡ in_order (k + 1 + length ds) ys)
        → (if b then in_order (k + 1) ds else false) ≡ true
        → (if b then in_order (k + 1) (ds ++ ys) else false) ≡ in_order (k + suc (length ds)) ys
    cases true more g = more g ∙ ap (λ n. in_order n ys) place
    cases false more g = absurd (cc)

number-append : (first : ℕ) (xs ys : List Declaration)
    → number_declarations first (xs ++ ys)
    ≡ number_declarations first xs
    ++ number_declarations (first + length (all_specifications xs)) ys
number-append first [] ys = rw add-zero refl
number-append first (d ∷ ds) ys =
    let more : first + length d.attributes + length (all_specifications ds)
    ≡ first + length (all_specifications (d ∷ ds)) = rw (length-append) (omega arith) in
    ap (λ t. numbered first d ∷ t)
    (number-append (first + length d.attributes) ds ys
    ∙ ap (λ n. number_declarations (first + length d.attributes) ds ++ number_declarations n ys)
    more)

all-append : (xs ys : List Declaration)
    → all_specifications (xs ++ ys) ≡ all_specifications xs ++ all_specifications ys
all-append [] ys = refl
all-append (d ∷ ds) ys =
    ap (λ t. d.attributes ++ t) (all-append ds ys)
    ∙ sym (append_assoc d.attributes (all_specifications ds) (all_specifications ys))

pub length-number : (first : ℕ) (xs : List Declaration)
    → length (number_declarations first xs) ≡ length xs
length-number first [] = refl
length-number first (d ∷ ds) = ap suc (length-number (first + length d.attributes) ds)

-- these declarations are read, and written as far as there is room for all of them
pub record Scanning (all : Items Declaration) (old : List GimliDeclaration)
    (old_s : List GimliSpecification) (new : List GimliDeclaration)
    (new_s : List GimliSpecification) (v : View) (count used : ℕ) : Type 0 where
  pub taken : List Declaration
  pub read : ItemsSoFar declaration_at all taken v
  pub ordered : in_order 1 taken ≡ true
  pub count_is : length taken ≡ count
  pub used_is : length (all_specifications taken) ≡ used
  pub long : length new ≡ length old
  pub long_s : length new_s ≡ length old_s
  pub declarations : count ≤ length old → new ≡ number_declarations 0 taken ++ drop count old
  pub specifications : used ≤ length old_s
      → map specification_in (take used new_s) ≡ all_specifications taken
  pub steps : used ≤ length old_s → OwnSteps (take used new_s)
  pub rest : used ≤ length old_s → drop used new_s ≡ drop used old_s

-- none is read yet
pub scan_begin : (v : View) (old : List GimliDeclaration) (old_s : List GimliSpecification)
    → Scanning (declarations_at v) old old_s old old_s v 0 0
unfolding declarations_at
scan_begin v old old_s = record {
  taken = [];
  read = items_begin declaration_at v;
  ordered = refl;
  count_is = refl;
  used_is = refl;
  long = refl;
  long_s = refl;
  declarations = λ _. refl;
  specifications = λ _. refl;
  steps = λ _. tt;
  rest = λ _. refl;
}

module _ (all : Items Declaration) (old : List GimliDeclaration)
    (old_s : List GimliSpecification) where
  module _ (new : List GimliDeclaration) (new_s : List GimliSpecification) (v : View)
      (count used : ℕ) (s : Scanning all old old_s new new_s v count used) where
    -- another declaration
    module _ (w : View) (new_s' : List GimliSpecification) (g : GimliDeclaration)
        (n : WroteNext used v w new_s new_s' g) (lt : length w.bytes < length v.bytes) where
      abbrev d : Declaration
      d = n.declaration

      -- one of another code than the next
      pub scan_unordered : (g.code ≡ count + 1 → ⊥)
          → (unordered, count_of []) ≡ table_outcome (length old) (length old_s) all
      scan_unordered other =
          let code : g.code ≡ d.code = ap (λ (x : GimliDeclaration). x.code) n.is in
          let apart : (d.code == 1 + length s.taken) ≡ false =
          ne_eqb _ _ (λ same. other (omega (arith, code, same, s.count_is))) in
          let more = items_more declaration_at all s.taken v d w s.read n.read lt in
          let others = items_within declaration_at more.cut_short more.fuel w in
          let split : all.items ≡ s.taken ++ d ∷ others.items =
          ap (λ (i : Items Declaration). i.items) more.same
          ∙ append_assoc s.taken (d ∷ []) others.items in
          let no : in_order 1 all.items ≡ false =
          ap (in_order 1) split ∙ in_order-append 1 s.taken (d ∷ others.items) s.ordered
          ∙ rw apart refl in
          rw no refl

      -- the next one
      module _ (next : g.code ≡ count + 1) where
        code_is : (d.code == 1 + length s.taken) ≡ true
        code_is =
            let code : g.code ≡ d.code = ap (λ (x : GimliDeclaration). x.code) n.is in
            eq-eqb _ _ (omega (arith, code, next, s.count_is))

        longer : length (s.taken ++ d ∷ []) ≡ count + 1
        longer = rw (length-append) (ap (λ k. k + 1) s.count_is)

        specifications : all_specifications (s.taken ++ d ∷ [])
            ≡ all_specifications s.taken ++ d.attributes
        specifications =
            all-append s.taken (d ∷ [])
            ∙ ap (λ t. all_specifications s.taken ++ t) (append-nil d.attributes)

        both : length (all_specifications (s.taken ++ d ∷ [])) ≡ used + length d.attributes
        both = ap length specifications ∙ rw (length-append) (omega (arith, s.used_is))

        many : length (all_specifications (s.taken ++ d ∷ [])) ≡ used + g.attributes
        many =
            let own : g.attributes ≡ length d.attributes
            = ap (λ (x : GimliDeclaration). x.attributes) n.is in
            omega (arith, both, own)

        own : g.attributes ≡ length d.attributes
        own = ap (λ (x : GimliDeclaration). x.attributes) n.is

        fits : used + g.attributes ≤ length old_s → used + length d.attributes ≤ length new_s
        fits le = omega (arith, le, own, s.long_s)

        fitted : used + g.attributes ≤ length old_s → used ≤ length old_s
        fitted le = omega (arith, le)

        written : used + g.attributes ≤ length old_s
            → map specification_in (take (used + g.attributes) new_s')
            ≡ all_specifications (s.taken ++ d ∷ [])
        written le =
            ap (λ k. map specification_in (take (used + k) new_s')) own
            ∙ (n.after.written (fits le)
            ∙ ap (λ t. t ++ d.attributes) (s.specifications (fitted le))
            ∙ sym specifications)

        with_steps : used + g.attributes ≤ length old_s → OwnSteps (take (used + g.attributes) new_s')
        with_steps le = rw own (n.steps (fits le) (s.steps (fitted le)))

        left : used + g.attributes ≤ length old_s
            → drop (used + g.attributes) new_s' ≡ drop (used + g.attributes) old_s
        left le =
            ap (λ k. drop (used + k) new_s') own
            ∙ (n.after.rest (fits le)
            ∙ sym (drop-drop (length d.attributes) used new_s)
            ∙ ap (drop (length d.attributes)) (s.rest (fitted le))
            ∙ drop-drop (length d.attributes) used old_s
            ∙ ap (λ k. drop (used + k) old_s) (sym own))

        start : 0 + length (all_specifications s.taken) ≡ used
        start = omega (arith, s.used_is)

        numbers : number_declarations 0 (s.taken ++ d ∷ []) ≡ number_declarations 0 s.taken ++ g ∷ []
        numbers =
            number-append 0 s.taken (d ∷ [])
            ∙ ap (λ k. number_declarations 0 s.taken ++ numbered k d ∷ []) start
            ∙ ap (λ (x : GimliDeclaration). number_declarations 0 s.taken ++ x ∷ []) (sym n.is)

        more_of : (new' : List GimliDeclaration) → length new' ≡ length old
            → (count + 1 ≤ length old
            → new' ≡ number_declarations 0 (s.taken ++ d ∷ []) ++ drop (count + 1) old)
            → Scanning all old old_s new' new_s' w (count + 1) (used + g.attributes)
        more_of new' long is = record {
          taken = s.taken ++ d ∷ [];
          read = items_more declaration_at all s.taken v d w s.read n.read lt;
          ordered = in_order-append 1 s.taken (d ∷ []) s.ordered ∙ rw code_is refl;
          count_is = longer;
          used_is = many;
          long = long;
          long_s = n.after.long ∙ s.long_s;
          declarations = is;
          specifications = written;
          steps = with_steps;
          rest = left;
        }

        pub scan_written : count < length new
            → Scanning all old old_s (slice_set new count g) new_s' w (count + 1)
            (used + g.attributes)
        scan_written room =
            more_of (slice_set new count g) (length-set new count g ∙ s.long)
            (λ le. ap (λ (t : List GimliDeclaration). slice_set t count g)
            (s.declarations (omega (arith, le)))
            ∙ slot (number_declarations 0 s.taken) old count g
            (length-number 0 s.taken ∙ s.count_is) (omega (arith, le))
            ∙ ap (λ t. t ++ drop (count + 1) old) (sym numbers))

        pub scan_counted : length new ≤ count
            → Scanning all old old_s new new_s' w (count + 1) (used + g.attributes)
        scan_counted full = more_of new s.long (λ le. absurd (omega (arith, le, full, s.long)))

    -- a refusal
    pub scan_refused : (e : Error) → Err e ≡ declaration_at v
        → (refusal_status e, count_of []) ≡ table_outcome (length old) (length old_s) all
    scan_refused e h =
        let is = items_refused declaration_at all s.taken v e s.read h in
        rw (is, s.ordered) refl

    -- the code 0
    module _ (w : View) (h : ◌≡◌ {A = Reads (Option Declaration)} (Ok (None, w)) (declaration_at v))
        (b : Bool)
        (known : b ≡ have_room (length new) (length new_s)
        (record { declarations = count; specifications = used })) where
      abbrev n : GimliCounted
      n = record { declarations = count; specifications = used }

      room_is : b ≡ have_room (length old) (length old_s) n
      room_is = known ∙ rw (s.long, s.long_s) refl

      counted : count_of s.taken ≡ n
      counted = rw (s.count_is, s.used_is) refl

      abbrev outcome_of : GimliCounted → ℕ × GimliCounted
      outcome_of m = (if have_room (length old) (length old_s) m then end else more, m)

      outcome : ◌≡◌ {A = ℕ × GimliCounted} (table_outcome (length old) (length old_s) all)
          (outcome_of (count_of s.taken))
      outcome =
          let is = items_end declaration_at all s.taken v w s.read h in
          ap (table_outcome (length old) (length old_s)) is ∙ rw s.ordered refl

      room_for : (x y z t : ℕ) → true ≡ (nat_le x y && nat_le z t) → (x ≤ y) × (z ≤ t)
      room_for x y z t h = grind (arith, h)

      all_written : (c : Bool) → c ≡ have_room (length old) (length old_s) n
          → (if c then end else more) ≡ end → AreWritten s.taken old old_s new new_s
      all_written true sure ended =
          let room = room_for count (length old) used (length old_s) sure in
          record {
            declarations = rw (s.count_is) (s.declarations room.0);
            specifications = rw (s.used_is) (s.specifications room.1);
            steps = rw (s.used_is) (own_steps (take used new_s) (s.steps room.1));
            rest = rw (s.used_is) (s.rest room.1);
          }
      all_written false sure ended = absurd (cc)

      pub scan_ended : IsScanned all old old_s new new_s n (if b then end else more)
      scan_ended =
          let is = items_end declaration_at all s.taken v w s.read h in
          record {
            outcome = ap (λ (t : Bool). (if t then end else more, n)) room_is ∙ ap outcome_of (sym counted)
                ∙ sym outcome;
            written = λ ended. rw is (all_written b room_is ended);
          }
