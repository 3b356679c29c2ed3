-- The answers ahead of a place, as the reading of an entry moves it (DWARF 5, 2.6.2 and 2.17.3).
use Rattle.std.specs.Prelude.{◌≡◌, ◌⊎◌, false, drop, ℕ, ◌<◌, List, [], ◌∷◌, length, Option, Some}
use Rattle.std.specs.Prelude.{None, Result, Ok, Err, IfOk, MatchOption}
use Rattle.std.specs.Option.{option_map}
use Rattle.std.proofs.Common.{refl, sym, ap, ◌∙◌, arith, inl, inr, subst}
use Rattle.std.proofs.lemmas.Bool.Decides.{eqb_tells}
use Rattle.gimli_base.specs.declared.common.Encoding.{Encoding}
use Rattle.gimli_base.specs.declared.error.Error.{Error}
use Rattle.gimli_base.specs.Offset.{answer_of}
use Rattle.gimli_base.specs.View.{View, end_of_view}
use Rattle.gimli_base.specs.Reading.{Reads, skip_at}
use Rattle.gimli_lists.specs.declared.lists.ListsFormat.{ListsFormat}
use Rattle.gimli_lists.specs.RawList.{ListEntry, EntryReads, used_up}
use Rattle.gimli_lists.specs.RawList.{end_of_list, refused, RawList, list_at, left_by, next_entry}
use Rattle.gimli_lists.specs.RawList.{IsFirstOf}
use Rattle.gimli_base.specs.Chain.{no_item, then_item}
use Rattle.gimli_lists.proofs.ListSteps.{list_ended, list_end, list_refused, list_more}
use Rattle.gimli_lists.proofs.ListSteps.{entry_answers-first, resolved_list-first}
use Rattle.gimli_lists.proofs.ListSteps.{resolved_list-none, then_answers, base_after}
use Rattle.gimli_lists.proofs.ListSteps.{base_before-later, entries_read-more, entries_read-one}
use Rattle.gimli_lists.proofs.ListSteps.{GivesSound, AllSound, resolve-sound, resolved_list-sound}
use Rattle.gimli_lists.specs.Places.{ListSections, section_of, Grammar, TakesBytes, RawListPlace}
use Rattle.gimli_lists.specs.Places.{raw_list_at, list_place_at, answers_from, list_answers}
use Rattle.gimli_lists.specs.Places.{next_raw, raw_list_ahead, ListPlace, look_up_of}
use Rattle.gimli_lists.specs.Places.{entry_conversion}
use Rattle.gimli_lists.specs.Places.{answers_ahead, entries_ahead, entry_answers_ahead, IsSpent}
use Rattle.gimli_lists.specs.Places.{IsAfterEntries, InList, read_from, IsNext}
use Rattle.gimli_lists.specs.Resolved.{Resolved, base_before, is_nothing, entries_read}
use Rattle.gimli_lists.specs.Resolved.{entry_answers, resolve, resolved_list}
use Rattle.gimli_base.specs.Reading.{transpose}

-- the beginning of a list keeps the encoding
pub raw_list_at-encoding : (format : ListsFormat) (offset : ℕ) (encoding : Encoding)
    (s : ListSections) (p : RawListPlace) → Ok p ≡ raw_list_at format offset encoding s
    → p.encoding ≡ encoding
unfolding raw_list_at
raw_list_at-encoding format offset encoding s p h =
    either (skip_at offset (section_of encoding.version s)) h
  where
    either : (r : Reads (Unit {0}))
        → ◌≡◌ {A = Result RawListPlace Error} (Ok p)
        (elim r [
          | Ok q ↦ Ok (record { rest = q.1; encoding = encoding; format = format })
          | Err e ↦ Err e
        ])
        → p.encoding ≡ encoding
    either (Ok q) h =
        let same : p ≡ record { rest = q.1; encoding = encoding; format = format } = cc in
        ap (λ (p : RawListPlace). p.encoding) same
    either (Err e) h = absurd (cc)

-- the answers of the list at an offset are those ahead of its beginning
pub list_answers-listed : {P : Type 0}
    → (grammar : Grammar P) (limit : ℕ) (format : ListsFormat) (offset : ℕ) (encoding : Encoding)
    (base : ℕ) (addresses : View) (table : ℕ) (s : ListSections) (p : ListPlace)
    → Ok p ≡ list_place_at format offset encoding base addresses table s
    → list_answers grammar limit format offset encoding base addresses table s
    ≡ Ok (answers_ahead grammar limit p)
unfolding list_answers
list_answers-listed grammar limit format offset encoding base addresses table s p h =
    ap (answers_from grammar limit) (sym h)

-- each range among the answers ahead of a place begins below its end, and below the addresses that
-- stand for none
pub answers_ahead-sound : {P : Type 0} → (grammar : Grammar P) (limit : ℕ) (p : ListPlace)
    → AllSound p.raw.encoding.address_size (answers_ahead grammar limit p)
unfolding answers_ahead
answers_ahead-sound grammar limit p =
    resolved_list-sound p.raw.encoding.address_size (look_up_of limit p) p.base
    (list_at (grammar p.raw.format p.raw.encoding) p.raw.rest)

-- and so does each among the answers of the list at an offset
pub list_answers-sound : {P : Type 0}
    → (grammar : Grammar P) (limit : ℕ) (format : ListsFormat) (offset : ℕ) (encoding : Encoding)
    (base : ℕ) (addresses : View) (table : ℕ) (s : ListSections)
    → IfOk (list_answers grammar limit format offset encoding base addresses table s)
    (AllSound encoding.address_size)
unfolding list_answers list_place_at
list_answers-sound grammar limit format offset encoding base addresses table s =
    either (raw_list_at format offset encoding s) refl
  where
    either : (r : Result RawListPlace Error) → r ≡ raw_list_at format offset encoding s
        → IfOk
        (answers_from grammar limit
        (elim r [
          | Ok p ↦ Ok (record { raw = p; base = base; addresses = addresses; table = table })
          | Err e ↦ Err e
        ])) (AllSound encoding.address_size)
    either (Ok p) h =
        let same = ap (λ (e : Encoding). e.address_size)
        (raw_list_at-encoding format offset encoding s p h) in
        let place : ListPlace =
        record { raw = p; base = base; addresses = addresses; table = table } in
        subst (λ size. AllSound size (answers_ahead grammar limit place)) same
        (answers_ahead-sound grammar limit place)
    either (Err e) h = tt

pub InList-trans : (p q s : ListPlace) → InList p q → InList q s → InList p s
InList-trans p q s h k =
    k ∙ ap (λ (x : ListPlace). record x { raw = record x.raw { rest = s.raw.rest }; base = s.base })
    h

-- an answer to the next entry, and the place that it leaves
abbrev pub Next : Type 0 → Type 0
Next P = Result (Option (ListEntry P)) Error × RawListPlace

-- what is made of an entry, and the place after it
abbrev pub Converted : Type 0 → Type 0
Converted P = Result (Option (Resolved P)) Error × ListPlace

module _ {P : Type 0} (grammar : Grammar P) (takes : TakesBytes grammar) (limit : ℕ) where
  abbrev next_at : RawListPlace → Result (Option (ListEntry P)) Error × View → Next P
  next_at p n = (n.0, record p { rest = n.1 })

  -- the reading of an entry moves the list alone
  pub next_raw-same : (p q : RawListPlace) (a : Result (Option (ListEntry P)) Error)
      → ◌≡◌ {A = Next P} (a, q) (next_raw grammar p) → q ≡ record p { rest = q.rest }
  unfolding next_raw
  next_raw-same p q a h =
      let place : q ≡ record p { rest = (next_entry (grammar p.format p.encoding) p.rest).1 } =
      ap (λ (n : Next P). n.1) h in
      place ∙ ap (λ v. record p { rest = v }) (sym (ap (λ (x : RawListPlace). x.rest) place))

  -- what the answer to the next entry makes of the answers, with what is ahead after it
  abbrev pub after_entry : ListPlace → Result (Option (ListEntry P)) Error → View
      → List (Result (Resolved P) Error)
  after_entry p (Ok None) w = []
  after_entry p (Ok (Some e)) w =
      then_answers (resolve p.raw.encoding.address_size (look_up_of limit p) p.base e)
      (resolved_list p.raw.encoding.address_size (look_up_of limit p)
      (base_after (look_up_of limit p) p.base e)
      (list_at (grammar p.raw.format p.raw.encoding) w))
  after_entry p (Err e) w = Err e ∷ []

  module _ (p : ListPlace) where
    abbrev entries : EntryReads P
    entries = grammar p.raw.format p.raw.encoding

    shorter : (v : View) (e : Option (ListEntry P)) (w : View) → Ok (e, w) ≡ entries v
        → length w.bytes < length v.bytes
    shorter v e w h = takes p.raw.format p.raw.encoding v e w h

    abbrev Answers : Type 0
    Answers = List (Result (Resolved P) Error)

    abbrev of_list : ℕ → RawList P → Answers
    of_list base l = resolved_list p.raw.encoding.address_size (look_up_of limit p) base l

    ahead_by : answers_ahead grammar limit p
        ≡ after_entry p (next_entry entries p.raw.rest).0 (next_entry entries p.raw.rest).1
    unfolding answers_ahead next_entry
    ahead_by = elim (eqb_tells (length p.raw.rest.bytes) 0) [
      | inl none ↦ rw none.0
          (ap (of_list p.base) (list_ended entries shorter p.raw.rest none.1)
          ∙ resolved_list-none _ _ p.base used_up)
      | inr some ↦ rw some.0 (read (entries p.raw.rest) refl some.1)
    ]
      where
        read : (r : Reads (Option (ListEntry P))) → r ≡ entries p.raw.rest
            → (length p.raw.rest.bytes ≡ 0 → ⊥)
            → of_list p.base (list_at entries p.raw.rest)
            ≡ after_entry p (left_by p.raw.rest r).0 (left_by p.raw.rest r).1
        read (Err e) is some =
            ap (of_list p.base) (list_refused entries shorter p.raw.rest e some is)
            ∙ resolved_list-none _ _ p.base (refused e)
        read (Ok (None, w)) is some =
            ap (of_list p.base) (list_end entries shorter p.raw.rest w some is)
            ∙ resolved_list-none _ _ p.base end_of_list
        read (Ok (Some e, w)) is some =
            ap (of_list p.base) (list_more entries shorter p.raw.rest e w some is)
            ∙ resolved_list-first p.raw.encoding.address_size (look_up_of limit p) p.base e
            (list_at entries w)

    -- the first entry answers first, and the others are ahead of the place after it
    ahead_from : (r : RawListPlace) (a : Result (Option (ListEntry P)) Error)
        → ◌≡◌ {A = Next P} (a, r) (next_raw grammar p.raw)
        → answers_ahead grammar limit p ≡ after_entry p a r.rest
    unfolding next_raw
    ahead_from r a h =
        ahead_by
        ∙ sym
        (ap (λ x. after_entry p x (next_entry entries p.raw.rest).1)
        (ap (λ (n : Next P). n.0) h))
        ∙ sym (ap (λ (x : RawListPlace). after_entry p a x.rest) (ap (λ (n : Next P). n.1) h))

    -- where there is no entry there is no answer
    pub ahead_none : (r : RawListPlace) → ◌≡◌ {A = Next P} (Ok None, r) (next_raw grammar p.raw)
        → answers_ahead grammar limit p ≡ []
    ahead_none r h = ahead_from r (Ok None) h

    -- a refusal of an entry is the last answer
    pub ahead_refused : (r : RawListPlace) (e : Error)
        → ◌≡◌ {A = Next P} (Err e, r) (next_raw grammar p.raw)
        → answers_ahead grammar limit p ≡ Err e ∷ []
    ahead_refused r e h = ahead_from r (Err e) h

    -- what an entry stands for is the first answer, unless it is nothing
    pub ahead_entry : (r : RawListPlace) (e : ListEntry P)
        (a : Result (Option (Resolved P)) Error)
        (s : ListPlace) → ◌≡◌ {A = Next P} (Ok (Some e), r) (next_raw grammar p.raw)
        → ◌≡◌ {A = Converted P} (a, s) (entry_conversion limit e (record p { raw = r }))
        → answers_ahead grammar limit p ≡ then_answers a (answers_ahead grammar limit s)
    unfolding entry_conversion answers_ahead
    ahead_entry r e a s h k =
        let place = next_raw-same p.raw r (Ok (Some e)) h in
        let here : ◌≡◌ {A = Converted P} (a, s)
        (entry_conversion limit e (record p { raw = record p.raw { rest = r.rest } })) =
        k ∙ ap (λ x. entry_conversion limit e (record p { raw = x })) place in
        ahead_from r (Ok (Some e)) h
        ∙ sym
        (ap (λ (n : Converted P). then_answers n.0 (answers_ahead grammar limit n.1)) here)

  -- where no byte is left there is no answer
  pub ahead_ended : (p : ListPlace) → length p.raw.rest.bytes ≡ 0
      → answers_ahead grammar limit p ≡ []
  unfolding answers_ahead
  ahead_ended p none =
      ap (of_list p p.base) (list_ended (entries p) (shorter p) p.raw.rest none)
      ∙ resolved_list-none p.raw.encoding.address_size (look_up_of limit p) p.base used_up

  -- after the last entry, and after a refusal, nothing is left
  pub next_raw-ended : (p r : RawListPlace) → ◌≡◌ {A = Next P} (Ok None, r) (next_raw grammar p)
      → length r.rest.bytes ≡ 0
  unfolding next_raw next_entry
  next_raw-ended p r h = elim (eqb_tells (length p.rest.bytes) 0) [
    | inl none ↦ let is : ◌≡◌ {A = Next P} (Ok None, r) (Ok None, p) = rw none.0 at h in
        ap (λ (n : Next P). length n.1.rest.bytes) is ∙ none.1
    | inr some ↦
        let is : ◌≡◌ {A = Next P} (Ok None, r)
        (next_at p (left_by p.rest (grammar p.format p.encoding p.rest))) = rw some.0 at h in
        read (grammar p.format p.encoding p.rest) is
  ]
    where
      read : (x : Reads (Option (ListEntry P)))
          → ◌≡◌ {A = Next P} (Ok None, r) (next_at p (left_by p.rest x)) → length r.rest.bytes ≡ 0
      read (Err e) is = absurd
          (let not : ◌≡◌ {A = Result (Option (ListEntry P)) Error} (Ok None) (Err e) =
          ap (λ (n : Next P). n.0) is in cc)
      read (Ok (None, w)) is = ap (λ (n : Next P). length n.1.rest.bytes) is
      read (Ok (Some e, w)) is =
          absurd
          (let not : ◌≡◌ {A = Result (Option (ListEntry P)) Error} (Ok None) (Ok (Some e)) =
          ap (λ (n : Next P). n.0) is in cc)

  pub next_raw-refused : (p r : RawListPlace) (e : Error)
      → ◌≡◌ {A = Next P} (Err e, r) (next_raw grammar p) → length r.rest.bytes ≡ 0
  unfolding next_raw next_entry
  next_raw-refused p r e h = elim (eqb_tells (length p.rest.bytes) 0) [
    | inl none ↦
        absurd
        (let is : ◌≡◌ {A = Next P} (Err e, r) (Ok None, p) = rw none.0 at h in
        let not : ◌≡◌ {A = Result (Option (ListEntry P)) Error} (Err e) (Ok None) =
        ap (λ (n : Next P). n.0) is in cc)
    | inr some ↦
        let is : ◌≡◌ {A = Next P} (Err e, r)
        (next_at p (left_by p.rest (grammar p.format p.encoding p.rest))) = rw some.0 at h in
        read (grammar p.format p.encoding p.rest) is
  ]
    where
      read : (x : Reads (Option (ListEntry P)))
          → ◌≡◌ {A = Next P} (Err e, r) (next_at p (left_by p.rest x)) → length r.rest.bytes ≡ 0
      read (Err f) is = ap (λ (n : Next P). length n.1.rest.bytes) is
      read (Ok (None, w)) is =
          absurd
          (let not : ◌≡◌ {A = Result (Option (ListEntry P)) Error} (Err e) (Ok None) =
          ap (λ (n : Next P). n.0) is in cc)
      read (Ok (Some x, w)) is =
          absurd
          (let not : ◌≡◌ {A = Result (Option (ListEntry P)) Error} (Err e) (Ok (Some x)) =
          ap (λ (n : Next P). n.0) is in cc)

  -- the reading of an entry, and what is made of it, stay in the list
  pub InList-read : (p q : ListPlace) (a : Result (Option (ListEntry P)) Error)
      → q ≡ record p { raw = q.raw } → ◌≡◌ {A = Next P} (a, q.raw) (next_raw grammar p.raw)
      → InList p q
  InList-read p q a same h =
      let base : p.base ≡ q.base = sym (ap (λ (x : ListPlace). x.base) same) in
      same ∙ ap (λ r. record p { raw = r }) (next_raw-same p.raw q.raw a h)
      ∙ ap (λ b. record p { raw = record p.raw { rest = q.raw.rest }; base = b }) base

  pub InList-converted : (q s : ListPlace) (e : ListEntry P)
      (a : Result (Option (Resolved P)) Error)
      → ◌≡◌ {A = Converted P} (a, s) (entry_conversion limit e q) → InList q s
  unfolding entry_conversion
  InList-converted q s e a h =
      let place : s ≡ record q { base = (entry_conversion limit e q).1.base } =
      ap (λ (n : Converted P). n.1) h in
      let raw : q.raw ≡ s.raw = sym (ap (λ (x : ListPlace). x.raw) place) in
      let base : (entry_conversion limit e q).1.base
      ≡ s.base = sym (ap (λ (x : ListPlace). x.base) place) in
      place ∙ ap (λ b. record q { base = b }) base
      ∙ ap (λ (r : RawListPlace). record q { raw = record q.raw { rest = r.rest }; base = s.base })
      raw

  pub converted-raw : (q s : ListPlace) (e : (ListEntry P)) (a : Result (Option (Resolved P)) Error)
      → ◌≡◌ {A = Converted P} (a, s) (entry_conversion limit e q) → s.raw ≡ q.raw
  unfolding entry_conversion
  converted-raw q s e a h = ap (λ (n : Converted P). n.1.raw) h

  -- what stands for a range is sound
  pub converted-sound : (q s : ListPlace) (e : ListEntry P)
      (a : Result (Option (Resolved P)) Error)
      → ◌≡◌ {A = Converted P} (a, s) (entry_conversion limit e q)
      → GivesSound q.raw.encoding.address_size a
  unfolding entry_conversion
  converted-sound q s e a h =
      let first : a ≡ resolve q.raw.encoding.address_size (look_up_of limit q) q.base e =
      ap (λ (n : Converted P). n.0) h in
      subst (GivesSound q.raw.encoding.address_size) (sym first)
      (resolve-sound q.raw.encoding.address_size (look_up_of limit q) q.base e)

  -- an entry, and what is made of it
  pub ahead_step : (p q s : ListPlace) (e : (ListEntry P)) (a : Result (Option (Resolved P)) Error)
      → q ≡ record p { raw = q.raw }
      → ◌≡◌ {A = Next P} (Ok (Some e), q.raw) (next_raw grammar p.raw)
      → ◌≡◌ {A = Converted P} (a, s) (entry_conversion limit e q)
      → answers_ahead grammar limit p ≡ then_answers a (answers_ahead grammar limit s)
  ahead_step p q s e a same h k = ahead_entry p q.raw e a s h
      (k ∙ ap (entry_conversion limit e) same)

  -- a refusal of an entry, after which nothing is ahead
  pub ahead_stop : (p q : ListPlace) (e : Error)
      → ◌≡◌ {A = Next P} (Err e, q.raw) (next_raw grammar p.raw)
      → answers_ahead grammar limit p ≡ Err e ∷ answers_ahead grammar limit q
  ahead_stop p q e h = ahead_refused p q.raw e h
      ∙ ap (λ xs. Err e ∷ xs) (sym (ahead_ended q (next_raw-refused p.raw q.raw e h)))

  -- an item of the iterator is the first of the answers ahead
  pub first_answer : {I : Type 0}
      → (view : I → Resolved P) (p : ListPlace) (r : Option (Result I Error)) (q : ListPlace)
      → IsNext grammar limit p (answer_of (option_map view) (transpose r)) q
      → MatchOption r (answers_ahead grammar limit p ≡ [])
      (λ x. answers_ahead grammar limit p ≡ answer_of view x ∷ answers_ahead grammar limit q)
  first_answer view p None q h = h.0
  first_answer view p (Some (Ok x)) q h = h.0
  first_answer view p (Some (Err e)) q h = h.0

  module _ (start p q s : ListPlace) (e : (ListEntry P)) (a : Result (Option (Resolved P)) Error)
      (same : q ≡ record p { raw = q.raw })
      (read : ◌≡◌ {A = Next P} (Ok (Some e), q.raw) (next_raw grammar p.raw))
      (made : ◌≡◌ {A = Converted P} (a, s) (entry_conversion limit e q)) where
    pub stepped-inside : InList start p → InList start s
    stepped-inside h = InList-trans start p s h
        (InList-trans p q s (InList-read p q (Ok (Some e)) same read)
        (InList-converted q s e a made))

    pub stepped-ahead : answers_ahead grammar limit p ≡ answers_ahead grammar limit start
        → answers_ahead grammar limit start ≡ then_answers a (answers_ahead grammar limit s)
    stepped-ahead h = sym h ∙ ahead_step p q s e a same read made

    pub stepped-shorter : length q.raw.rest.bytes < length p.raw.rest.bytes
        → length s.raw.rest.bytes < length p.raw.rest.bytes
    stepped-shorter h =
        let left = ap (λ (r : RawListPlace). length r.rest.bytes) (converted-raw q s e a made) in
        omega (arith, h, left)

    pub stepped-sound : InList start p → GivesSound start.raw.encoding.address_size a
    stepped-sound h =
        let one = ap (λ (x : ListPlace). x.raw.encoding.address_size) h in
        let two = ap (λ (x : ListPlace). x.raw.encoding.address_size)
        (InList-read p q (Ok (Some e)) same read) in
        subst (λ z. GivesSound z a) (two ∙ one) (converted-sound q s e a made)

  module _ (p : RawListPlace) where
    abbrev reads : EntryReads P
    reads = grammar p.format p.encoding

    takes_one : (v : View) (e : Option (ListEntry P)) (w : View) → Ok (e, w) ≡ reads v
        → length w.bytes < length v.bytes
    takes_one v e w h = takes p.format p.encoding v e w h

    first_by : IsFirstOf (next_entry reads p.rest).0 (list_at reads p.rest)
        (list_at reads (next_entry reads p.rest).1)
    unfolding next_entry
    first_by = elim (eqb_tells (length p.rest.bytes) 0) [
      | inl none ↦ let no_entry = list_ended reads takes_one p.rest none.1 in
          rw none.0 (inr no_entry, no_entry)
      | inr some ↦ rw some.0 (read (reads p.rest) refl some.1)
    ]
      where
        read : (r : Reads (Option (ListEntry P))) → r ≡ reads p.rest → (length p.rest.bytes ≡ 0 → ⊥)
            → IsFirstOf (left_by p.rest r).0 (list_at reads p.rest)
            (list_at reads (left_by p.rest r).1)
        read (Err e) is some = (
          list_refused reads takes_one p.rest e some is,
          list_ended reads takes_one (end_of_view p.rest) refl,
        )
        read (Ok (None, w)) is some = (
          inl (list_end reads takes_one p.rest w some is),
          list_ended reads takes_one (end_of_view p.rest) refl,
        )
        read (Ok (Some e, w)) is some = list_more reads takes_one p.rest e w some is

    -- the answer to the next entry is that of the list, and leaves the rest of it
    pub first_from : (r : RawListPlace) (a : Result (Option (ListEntry P)) Error)
        → ◌≡◌ {A = Next P} (a, r) (next_raw grammar p)
        → IsFirstOf a (raw_list_ahead grammar p) (raw_list_ahead grammar r)
    unfolding next_raw
    first_from r a h =
        let Q : Next P → Type 0 = λ n.
        IsFirstOf n.0 (raw_list_ahead grammar p) (raw_list_ahead grammar n.1) in
        subst Q (sym h) first_by

    list_from : (r : RawListPlace) (a : Result (Option (ListEntry P)) Error)
        → ◌≡◌ {A = Next P} (a, r) (next_raw grammar p)
        → IsFirstOf a (list_at reads p.rest) (list_at reads r.rest)
    unfolding next_raw
    list_from r a h =
        let Q : Next P → Type 0 = λ n.
        IsFirstOf n.0 (list_at reads p.rest) (list_at reads n.1.rest) in
        subst Q (sym h) first_by

  -- a list that ends at once has no entries
  no_items_of : (l : RawList P) → (l ≡ no_item end_of_list) ⊎ (l ≡ no_item used_up)
      → l.items ≡ []
  no_items_of l (inl h) = ap (λ (x : RawList P). x.items) h
  no_items_of l (inr h) = ap (λ (x : RawList P). x.items) h

  -- where nothing is left the place stays after no entry
  after_none : (p q : ListPlace) → q ≡ record p { raw = q.raw } → entries_ahead grammar p ≡ []
      → length q.raw.rest.bytes ≡ 0 → IsAfterEntries grammar limit (read_from grammar limit p) p q
  after_none p q same none left =
      let after : entries_ahead grammar q
      ≡ [] = ap (λ l. l.items) (list_ended (entries q) (shorter q) q.raw.rest left) in
      let Q : List (ListEntry P) → Type 0 =
      λ es. let n = entries_read p.raw.encoding.address_size (look_up_of limit p) p.base es in
      (entries_ahead grammar q ≡ drop n es)
      × (q.base ≡ base_before (look_up_of limit p) p.base es n) in
      subst Q (sym none) (after, ap (λ (x : ListPlace). x.base) same)

  pub after_end : (p q : ListPlace) → q ≡ record p { raw = q.raw }
      → ◌≡◌ {A = Next P} (Ok None, q.raw) (next_raw grammar p.raw)
      → IsAfterEntries grammar limit (read_from grammar limit p) p q
  after_end p q same h =
      after_none p q same
      (no_items_of (list_at (reads p.raw) p.raw.rest) (list_from p.raw q.raw (Ok None) h).0)
      (next_raw-ended p.raw q.raw h)

  pub after_refused : (p q : ListPlace) (e : Error) → q ≡ record p { raw = q.raw }
      → ◌≡◌ {A = Next P} (Err e, q.raw) (next_raw grammar p.raw)
      → IsAfterEntries grammar limit (read_from grammar limit p) p q
  after_refused p q e same h =
      after_none p q same (ap (λ (l : RawList P). l.items) (list_from p.raw q.raw (Err e) h).0)
      (next_raw-refused p.raw q.raw e h)

  -- the place after an entry, when w is left
  abbrev past : ListPlace → (ListEntry P) → View → ListPlace
  past p e w =
      record p { raw = record p.raw { rest = w }; base = base_after (look_up_of limit p) p.base e }

  module _ (p : ListPlace) (e : (ListEntry P)) (w : View)
      (left : list_at (grammar p.raw.format p.raw.encoding) p.raw.rest
      ≡ then_item e (list_at (grammar p.raw.format p.raw.encoding) w)) where
    abbrev Stands : ListPlace → List (ListEntry P) → ℕ → Type 0
    Stands q es n = (entries_ahead grammar q ≡ drop n es)
        × (q.base ≡ base_before (look_up_of limit p) p.base es n)

    abbrev count : List (ListEntry P) → ℕ
    count es = entries_read p.raw.encoding.address_size (look_up_of limit p) p.base es

    abbrev others : List (ListEntry P)
    others = entries_ahead grammar (past p e w)

    as_cons : (q : ListPlace) → Stands q (e ∷ others) (count (e ∷ others))
        → IsAfterEntries grammar limit (read_from grammar limit p) p q
    as_cons q h = let Q : List (ListEntry P) → Type 0 = λ es. Stands q es (count es) in
        subst Q (sym (ap (λ l. l.items) left)) h

    past_one : is_nothing (resolve p.raw.encoding.address_size (look_up_of limit p) p.base e)
        ≡ false → IsAfterEntries grammar limit (read_from grammar limit p) p (past p e w)
    past_one h =
        as_cons (past p e w)
        (subst (Stands (past p e w) (e ∷ others))
        (sym
        (entries_read-one p.raw.encoding.address_size (look_up_of limit p) p.base e others h))
        (refl, sym (base_before-later (look_up_of limit p) p.base e others 0)))

    past_more : (q : ListPlace)
        → Ok None ≡ resolve p.raw.encoding.address_size (look_up_of limit p) p.base e
        → IsAfterEntries grammar limit (read_from grammar limit (past p e w)) (past p e w) q
        → IsAfterEntries grammar limit (read_from grammar limit p) p q
    past_more q h k =
        as_cons q
        (subst (Stands q (e ∷ others))
        (sym
        (entries_read-more p.raw.encoding.address_size (look_up_of limit p) p.base e others h)) (
          k.0,
          k.1
              ∙ sym
              (base_before-later (look_up_of limit p) p.base e others
              (read_from grammar limit (past p e w))),
        ))

  module _ (p q s : ListPlace) (e : (ListEntry P)) (a : Result (Option (Resolved P)) Error)
      (same : q ≡ record p { raw = q.raw })
      (read : ◌≡◌ {A = Next P} (Ok (Some e), q.raw) (next_raw grammar p.raw))
      (made : ◌≡◌ {A = Converted P} (a, s) (entry_conversion limit e q)) where
    made_here : ◌≡◌ {A = Converted P} (a, s)
        (entry_conversion limit e (record p { raw = record p.raw { rest = q.raw.rest } }))
    made_here = made ∙ ap (entry_conversion limit e)
        (same ∙ ap (λ r. record p { raw = r }) (next_raw-same p.raw q.raw (Ok (Some e)) read))

    is_past : s ≡ past p e q.raw.rest
    unfolding entry_conversion
    is_past = ap (λ (n : Converted P). n.1) made_here

    is_resolved : a ≡ resolve p.raw.encoding.address_size (look_up_of limit p) p.base e
    unfolding entry_conversion
    is_resolved = ap (λ (n : Converted P). n.0) made_here

    -- after an entry that stands for something
    pub after_one : is_nothing a ≡ false
        → IsAfterEntries grammar limit (read_from grammar limit p) p s
    after_one h =
        subst (IsAfterEntries grammar limit (read_from grammar limit p) p) (sym is_past)
        (past_one p e q.raw.rest (list_from p.raw q.raw (Ok (Some e)) read)
        (ap is_nothing (sym is_resolved) ∙ h))

    -- after an entry that stands for nothing, and then further
    pub after_more : (t : ListPlace) → a ≡ Ok None
        → IsAfterEntries grammar limit (read_from grammar limit s) s t
        → IsAfterEntries grammar limit (read_from grammar limit p) p t
    after_more t h k =
        past_more p e q.raw.rest (list_from p.raw q.raw (Ok (Some e)) read) t (sym h ∙ is_resolved)
        (subst (λ x. IsAfterEntries grammar limit (read_from grammar limit x) x t) is_past k)

    -- what an entry answers comes before the answers of those after it
    entry_answers_step : entry_answers_ahead grammar limit p
        ≡ then_answers a (entry_answers_ahead grammar limit s)
    entry_answers_step =
        ap
        (λ (l : RawList P). entry_answers p.raw.encoding.address_size (look_up_of limit p)
        p.base l.items) (list_from p.raw q.raw (Ok (Some e)) read)
        ∙ entry_answers-first p.raw.encoding.address_size (look_up_of limit p) p.base e
        (entries_ahead grammar (past p e q.raw.rest))
        ∙ ap (λ r. then_answers r (entry_answers_ahead grammar limit (past p e q.raw.rest)))
        (sym is_resolved)
        ∙ ap (λ x. then_answers a (entry_answers_ahead grammar limit x)) (sym is_past)

    -- where an entry answers there is an answer
    pub spent_one : (t : ListPlace) → is_nothing a ≡ false → IsSpent grammar limit p t
    spent_one t h none = absurd
        (never a (entry_answers_ahead grammar limit s) h (sym entry_answers_step ∙ none))
      where
        never : (r : Result (Option (Resolved P)) Error) (others : List (Result (Resolved P) Error))
            → is_nothing r ≡ false → then_answers r others ≡ [] → ⊥
        never (Ok None) others h k = cc
        never (Ok (Some x)) others h k = cc
        never (Err x) others h k = cc

    -- where it answers nothing, none is left if none is left after it
    pub spent_more : (t : ListPlace) → a ≡ Ok None → IsSpent grammar limit s t
        → IsSpent grammar limit p t
    spent_more t h k none =
        k
        (ap (λ r. then_answers r (entry_answers_ahead grammar limit s)) (sym h)
        ∙ sym entry_answers_step ∙ none)
