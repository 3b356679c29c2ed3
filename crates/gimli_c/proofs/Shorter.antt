-- Readers that go on leave fewer bytes, whatever the steps of a table are.
use Rattle.std.proofs.Common.{sym, ◌≡◌, ℕ, ◌+◌, ◌<◌, ◌≤◌, ◌==◌, ℤ, ◌-ℤ◌, pos, Bool, true}
use Rattle.std.proofs.Common.{false, not, if◌then◌else◌, unsigned_abs, List, length}
use Rattle.std.proofs.Common.{Option}
use Rattle.std.proofs.Common.{map, Result, Ok, Err, refl, ap, ◌∙◌, arith, length-drop}
use Rattle.std.specs.Prelude.{IfOk, IfErr, OnOk}
use Rattle.std.proofs.lemmas.Int.{ints}
use Rattle.gimli_base.specs.declared.common.Encoding.{Encoding}
use Rattle.gimli_base.specs.declared.error.Error.{Error}
use Rattle.gimli_base.specs.declared.error.Error.TheVariants.{OutOfMemory}
use Rattle.gimli_base.specs.View.{View, cut}
use Rattle.gimli_base.specs.Reading.{Reads, read_of, map_read}
use Rattle.gimli_base.specs.Abbreviations.{Specification, Declaration, Map}
use Rattle.gimli_base.specs.Table.{codes_of}
use Rattle.gimli_base.proofs.Later.{IsLater-length, made_leaves_later}
use Rattle.gimli_base.proofs.Memory.{Never}
use Rattle.gimli_units.specs.Entry.{attribute_at, attributes_at, abbreviation_at}
use Rattle.gimli_units.specs.RawPlace.{RawPlace, below_flag, next_offset_of}
use Rattle.gimli_units.specs.Sized.{left_by}
use Rattle.gimli_units.proofs.EntryReads.{attribute_at-later, attributes_at-later}
use Rattle.gimli_units.proofs.EntryReads.{abbreviation_at-later}
use Rattle.gimli_units.proofs.EntryReads.{entry_at-shorter}
use Rattle.gimli_units.proofs.Memory.{attribute_at-never, attributes_at-never}
use Rattle.gimli_c.specs.declared.reading.Head.{Head}
use Rattle.gimli_c.specs.Heads.{IsReadPast, GoesOn, depth_after_head, place_after}
use Rattle.gimli_c.specs.Attrs.{attr_of}
use Rattle.gimli_c.specs.declared.attrs.GimliAttr.{GimliAttr}
use Rattle.gimli_c.proofs.Front.{depth_near}
use Rattle.gimli_c.proofs.Heads.{numbers_of}

-- what passed attributes leave,
pub all_leave : (limit : ℕ) (e : Encoding) (ss : List Specification) (v w : View)
    → Ok (tt {0}, w) ≡ left_by (attributes_at limit e ss v) → length w.bytes ≤ length v.bytes
all_leave limit e ss v w h =
    let later = IsLater-length 0 v w
    (made_leaves_later 0 v _ (attributes_at limit e ss v) (attributes_at-later limit e ss v) tt w
    h) in
    omega (arith, later)

pub passed_leave : (limit : ℕ) (e : Encoding) (ss : List Specification) (n : ℕ) (v w : View)
    (r : Result (Unit {0}) Error) → length v.bytes ≤ n
    → read_of r w ≡ left_by (attributes_at limit e ss v) → OnOk r (length w.bytes ≤ n)
passed_leave limit e ss n v w (Ok x) less h =
    let more = all_leave limit e ss v w h in
    omega (arith, less, more)
passed_leave limit e ss n v w (Err x) less h = tt

pub numbers_leave : (limit : ℕ) (e : Encoding) (ss : List Specification) (v w : View)
    (ns : List GimliAttr)
    → ◌≡◌ {A = Reads (List GimliAttr)} (Ok (ns, w))
    (map_read (map attr_of) (attributes_at limit e ss v)) → length w.bytes ≤ length v.bytes
numbers_leave limit e ss v w ns h =
    let n = numbers_of limit e ss v w ns h in
    let later = IsLater-length 0 v w
    (attributes_at-later limit e ss v n.0.attributes w n.0.are) in
    omega (arith, later)

-- a passed value,
pub one_leaves : (limit : ℕ) (e : Encoding) (s : Specification) (v w : View)
    → Ok (tt {0}, w) ≡ left_by (attribute_at limit e s v) → length w.bytes ≤ length v.bytes
one_leaves limit e s v w h =
    let later = IsLater-length 0 v w
    (made_leaves_later 0 v _ (attribute_at limit e s v) (attribute_at-later limit e s v) tt w h) in
    omega (arith, later)

-- and a code
pub code_leaves : (m : Map) (v : View) (o : Option Declaration) (w : View)
    → ◌≡◌ {A = Reads (Option Declaration)} (Ok (o, w)) (abbreviation_at m v)
    → length w.bytes < length v.bytes
code_leaves m v o w h =
    let later = IsLater-length 1 v w (abbreviation_at-later m v o w h) in
    omega (arith, later)

-- what passed bytes leave
pub bytes_leave : (n : ℕ) (v w : View) → w ≡ cut n v → length w.bytes ≤ length v.bytes
bytes_leave n v w is = rw is (omega (arith, length-drop n v.bytes))

-- an entry that was read
pub past_goes_on : (limit : ℕ) (p q : RawPlace) (head : Head) → IsReadPast limit p head q
    → GoesOn p q
past_goes_on limit p q head past = record {
  shorter = entry_at-shorter limit p.encoding (codes_of p.abbreviations) p.rest q.rest past.entry
      past.is;
  near = rw past.moved (depth_near past.entry p.depth);
  same = rw past.moved refl;
}

pub same_end : {p q : RawPlace} → GoesOn p q → q.end ≡ p.end
same_end h = ap (λ (r : RawPlace). r.end) h.same

-- what is read next stands later, where fewer bytes are left
pub later_place : (p q : RawPlace) → q.end ≡ p.end → length p.rest.bytes ≤ p.end
    → length q.rest.bytes < length p.rest.bytes → next_offset_of p < next_offset_of q
later_place p q end within less = omega (arith, end, within, less)

-- a depth after a head is another by one at most
head_near : (h : Head) (depth : ℤ)
    → unsigned_abs (depth_after_head h depth) ≤ unsigned_abs depth + 1
head_near h depth = cases (h.tag == 0) (not (h.has_children == 0))
  where
    cases : (null flag : Bool)
        → unsigned_abs (if null then depth -ℤ pos 1 else below_flag flag depth)
        ≤ unsigned_abs depth + 1
    cases true flag = omega (arith, ints)
    cases false true = omega (arith, ints)
    cases false false = omega (arith, ints)

-- a reader goes on past an entry with a head
pub head_goes_on : (p : RawPlace) (w : View) (h : Head) → length w.bytes < length p.rest.bytes
    → GoesOn p (place_after p w h)
head_goes_on p w h less = record { shorter = less; near = head_near h p.depth; same = refl }

-- what is read is never refused for memory
pub refused_never : {A : Type 0} → (r : Result A Error) (e : Error) → Never r → Err e ≡ r
    → e ≡ OutOfMemory → ⊥
refused_never r e never h is = never (sym h ∙ ap Err is)

-- nor is what is passed
left_never : {A : Type 0} → (r : Reads A) (e : Error) → Never r
    → ◌≡◌ {A = Reads (Unit {0})} (Err e) (left_by r) → e ≡ OutOfMemory → ⊥
left_never (Ok p) e never h is = absurd (cc)
left_never (Err x) e never h is =
    let same : e ≡ x = cc in
    never (ap Err (sym same ∙ is))

pub one_never : (limit : ℕ) (e : Encoding) (s : Specification) (v : View) (x : Error)
    → ◌≡◌ {A = Reads (Unit {0})} (Err x) (left_by (attribute_at limit e s v))
    → x ≡ OutOfMemory → ⊥
one_never limit e s v x h =
    left_never (attribute_at limit e s v) x (attribute_at-never limit e s v) h

pub all_never : (limit : ℕ) (e : Encoding) (ss : List Specification) (v w : View)
    (r : Result (Unit {0}) Error) → read_of r w ≡ left_by (attributes_at limit e ss v)
    → IfErr r (λ x. x ≡ OutOfMemory → ⊥)
all_never limit e ss v w (Ok x) h = tt
all_never limit e ss v w (Err x) h =
    left_never (attributes_at limit e ss v) x (attributes_at-never limit e ss v) h

-- of a reader by the library's table nothing is asked
pub no_steps : {T : Type 0} → (r : Result T Error) → IfOk r (λ _. Unit {0})
no_steps (Ok t) = tt
no_steps (Err e) = tt
