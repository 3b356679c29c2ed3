-- The lines of a dump, unit by unit.
use Rattle.std.proofs.Common.{◌≡◌, ℕ, ◌+◌, ◌<◌, ◌≤◌, max, false, pos, List, [], ◌∷◌}
use Rattle.std.proofs.Common.{sym, ◌++◌, Option, None, Some, refl, ap, ◌∙◌, arith, length}
use Rattle.std.proofs.Common.{length-append, Result, Ok, Err, subst}
use Rattle.std.proofs.lemmas.List.{append-nil, take-append-le}
use Rattle.std.proofs.lemmas.List.Folds.{concat-append}
use Rattle.std.proofs.Math.Seq.{take-append-add}
use Rattle.std.specs.Prelude.{take, ◌^◌}
use Rattle.std.specs.List.{All, concat}
use Rattle.std.specs.Io.KnownBytes.{Appends}
use Rattle.gimli_base.specs.declared.common.SectionId.TheVariants.{DebugInfo}
use Rattle.gimli_base.specs.declared.error.Error.{Error}
use Rattle.gimli_base.specs.Refusal.{number_of}
use Rattle.gimli_base.specs.View.{View}
use Rattle.gimli_base.specs.Abbreviations.{Map}
use Rattle.gimli_units.specs.Entry.{entry_at}
use Rattle.gimli_units.specs.Rows.{ahead_at}
use Rattle.gimli_units.specs.Unit.{UnitView, whole_length}
use Rattle.gimli_headers.specs.Units.{Units, UnitsPlace, units_ahead, units_of, before_units}
use Rattle.gimli_walk.specs.declared.lines.Stop.{Stop}
use Rattle.gimli_walk.specs.declared.lines.Stop.TheVariants.{Memory, Write}
use Rattle.gimli_walk.specs.Lines.{Text, error_line}
use Rattle.gimli_walk.specs.Text.{WroteAll, declared_text, unit_text, unit_takes_memory}
use Rattle.gimli_walk.specs.Text.{little_view}
use Rattle.gimli_walk.specs.Dump.{dump_of}
use Rattle.gimli_base.specs.Chain.{chain, chain_within, no_item}
use Rattle.gimli_headers.specs.Units.{unit_or_end}
use Rattle.std.proofs.lemmas.List.Elements.{All-head, All-tail}
use Rattle.gimli_walk.specs.Stops.{WroteFront, WroteUntil}
use Rattle.gimli_walk.specs.Dump.{led_by, join_texts, unit_dump, units_dump}
use Rattle.gimli_walk.proofs.WrittenLines.{Appends-trans, Appends-none}
use Rattle.gimli_walk.proofs.StoppedLines.{until_only, until_more, until_same}
use Rattle.gimli_walk.proofs.RowLines.{some_lines_of}

-- the outcome of lines after others of this status
abbrev pub after_status : ℕ → Result ℕ Stop → Result ℕ Stop
after_status status (Ok next) = Ok (max status next)
after_status status (Err s) = Err s

-- all of a text, and then another
pub until_joined : (a b c : Option (List ℕ)) (t u : Text) (status : ℕ) (r : Result ℕ Stop)
    → WroteAll a b t status → WroteUntil b c u r
    → WroteUntil a c (join_texts t u) (after_status status r)
until_joined a b c t u status (Ok next) first second = record {
  lines = rw concat-append
      (Appends-trans a b c (concat t.lines) (concat u.lines) first.lines second.lines);
  same_status = ap (λ n. max n next) first.same_status
      ∙ ap (λ n. max t.status n) second.same_status;
}
until_joined a b c t u status (Err Memory) first second =
    let front : concat (take (length t.lines + second.count) (t.lines ++ u.lines))
    ≡ concat t.lines ++ concat (take second.count u.lines) =
    ap concat (take-append-add t.lines u.lines second.count)
    ∙ concat-append t.lines (take second.count u.lines) in
    record {
      count = length t.lines + second.count;
      fewer = let k = second.fewer in rw length-append (omega (arith, k));
      lines =
          rw front
          (Appends-trans a b c (concat t.lines) (concat (take second.count u.lines)) first.lines
          second.lines);
    }
until_joined a b c t u status (Err Write) first second = tt

-- a text that is stopped, and nothing of another
pub until_cut : (a b : Option (List ℕ)) (t u : Text) (s : Stop) → WroteUntil a b t (Err s)
    → WroteUntil a b (join_texts t u) (Err s)
until_cut a b t u Memory front =
    let within : front.count ≤ length t.lines = let k = front.fewer in omega (arith, k) in
    record {
      count = front.count;
      fewer = let k = front.fewer in rw length-append (omega (arith, k));
      lines = rw (take-append-le front.count t.lines u.lines within) front.lines;
    }
until_cut a b t u Write front = tt

module _ (limit : ℕ) (abbreviations : View) where
  -- the text of the units that are ahead
  abbrev pub place_dump : UnitsPlace → Text
  place_dump p = units_dump limit abbreviations (units_ahead limit DebugInfo p)

  -- no unit is left
  pub dump_ended : (a : Option (List ℕ)) (p next : UnitsPlace)
      → units_ahead limit DebugInfo p ≡ before_units (Ok None) (units_ahead limit DebugInfo next)
      → WroteUntil a a (place_dump p) (Ok 0)
  dump_ended a p next is = rw is (record { lines = Appends-none a; same_status = refl })

  -- a refusal ends the units
  pub dump_refused : (a b : Option (List ℕ)) (p next : UnitsPlace) (e : Error)
      → units_ahead limit DebugInfo p ≡ before_units (Err e) (units_ahead limit DebugInfo next)
      → Appends a b (error_line (number_of e)) → WroteUntil a b (place_dump p) (Ok 1)
  dump_refused a b p next e is h = rw is (until_only a b (error_line (number_of e)) 1 h)

  -- a unit, and then those after it
  pub dump_more : (a b c : Option (List ℕ)) (p next : UnitsPlace) (u : UnitView) (status : ℕ)
      (r : Result ℕ Stop) → units_ahead limit DebugInfo p
      ≡ before_units (Ok (Some u)) (units_ahead limit DebugInfo next)
      → WroteUntil a b (unit_dump limit abbreviations u) (Ok status)
      → WroteUntil b c (place_dump next) r → WroteUntil a c (place_dump p) (after_status status r)
  dump_more a b c p next u status r is first second =
      rw is
      (until_joined a b c (unit_dump limit abbreviations u) (place_dump next) status r first
      second)

  -- a unit that is stopped
  pub dump_cut : (a b : Option (List ℕ)) (p next : UnitsPlace) (u : UnitView) (s : Stop)
      → units_ahead limit DebugInfo p
      ≡ before_units (Ok (Some u)) (units_ahead limit DebugInfo next)
      → WroteUntil a b (unit_dump limit abbreviations u) (Err s)
      → WroteUntil a b (place_dump p) (Err s)
  dump_cut a b p next u s is first =
      until_same a b _ (place_dump p) (Err s) (sym (ap (units_dump limit abbreviations) is))
      (until_cut a b (unit_dump limit abbreviations u) (place_dump next) s first)

  -- the units from the section's beginning on are all
  pub dump_whole : (a b : Option (List ℕ)) (p : UnitsPlace) (v : View) (r : Result ℕ Stop)
      → p ≡ record { rest = v; offset = 0 } → WroteUntil a b (place_dump p) r
      → WroteUntil a b (units_dump limit abbreviations (units_of limit DebugInfo v)) r
  dump_whole a b p v r is wrote =
      until_same a b (place_dump p) _ r (ap (λ q. place_dump q) is) wrote

-- the statuses of lines after others are joined in any order
pub after_after : (n m : ℕ) (r : Result ℕ Stop)
    → after_status n (after_status m r) ≡ after_status (max n m) r
after_after n m (Ok x) = let e : max n (max m x) ≡ max (max n m) x = omega arith in ap Ok e
after_after n m (Err s) = refl

-- the same outcome
pub until_outcome : (a b : Option (List ℕ)) (t : Text) (r q : Result ℕ Stop) → r ≡ q
    → WroteUntil a b t r → WroteUntil a b t q
until_outcome a b t r q is wrote = let P : Result ℕ Stop → Type 0 = λ x. WroteUntil a b t x in
    subst P is wrote

-- an empty section has no units
no_units : (limit : ℕ) (v : View) → length v.bytes ≡ 0
    → units_of limit DebugInfo v ≡ no_item None
unfolding units_ahead chain chain_within unit_or_end
no_units limit v none = rw none refl

-- and its dump no lines
pub nothing_dumped : (info abbreviations old : List ℕ) → length info ≡ 0
    → WroteAll (Some old) (Some old) (dump_of info abbreviations) 0
nothing_dumped info abbreviations old none =
    rw (no_units (2 ^ 64) (little_view info) none)
    (record { lines = Appends-none (Some old); same_status = refl })

-- the tables of these units take no memory
abbrev pub NoneTakes : View → List UnitView → Type 0
NoneTakes abbreviations us = All (λ u. unit_takes_memory abbreviations u ≡ false) us

-- where those of the units that are ahead take none, neither does that of the first
pub first_takes_none : (limit : ℕ) (abbreviations : View) (p next : UnitsPlace) (u : UnitView)
    → units_ahead limit DebugInfo p ≡ before_units (Ok (Some u)) (units_ahead limit DebugInfo next)
    → NoneTakes abbreviations (units_ahead limit DebugInfo p).items
    → unit_takes_memory abbreviations u ≡ false
first_takes_none limit abbreviations p next u is none =
    let P : UnitView → Type 0 = λ x. unit_takes_memory abbreviations x ≡ false in
    All-head P u (units_ahead limit DebugInfo next).items
    (subst (λ (a : Units). All P a.items) is none)

-- nor one of those after it
pub others_take_none : (limit : ℕ) (abbreviations : View) (p next : UnitsPlace) (u : UnitView)
    → units_ahead limit DebugInfo p ≡ before_units (Ok (Some u)) (units_ahead limit DebugInfo next)
    → NoneTakes abbreviations (units_ahead limit DebugInfo p).items
    → NoneTakes abbreviations (units_ahead limit DebugInfo next).items
others_take_none limit abbreviations p next u is none =
    let P : UnitView → Type 0 = λ x. unit_takes_memory abbreviations x ≡ false in
    All-tail P u (units_ahead limit DebugInfo next).items
    (subst (λ (a : Units). All P a.items) is none)

module _ (limit : ℕ) (u : UnitView) where
  -- a unit whose declarations were read
  pub unit_rows : (a b c : Option (List ℕ)) (line : List ℕ) (declared : Map) (m : Result Map Error)
      (r : Result ℕ Stop) → Appends a b line → Ok declared ≡ m
      → WroteUntil b c (unit_text limit u declared) r
      → WroteUntil a c (led_by line (declared_text (unit_text limit) u m)) r
  unit_rows a b c line declared m r h is rows =
      let text : Text = unit_text limit u declared in
      let all = until_more a b c line text.lines text.status r h rows in
      rw (← is) all

  -- a unit whose declarations want memory
  pub unit_memory : (a b : Option (List ℕ)) (line : List ℕ) (m : Result Map Error)
      → Appends a b line → WroteFront a b (led_by line (declared_text (unit_text limit) u m))
  unit_memory a b line m h = record { count = 1; fewer = some m; lines = rw append-nil h }
    where
      some : (x : Result Map Error)
          → 1 < length (line ∷ (declared_text (unit_text limit) u x).lines)
      some (Ok declared) =
          let k = some_lines_of
          (ahead_at (entry_at limit u.encoding declared) (whole_length u) (pos 0)
          u.entries) in omega (arith, k)
      some (Err e) = omega arith

  -- a unit whose declarations are refused
  pub unit_refused : (a b c : Option (List ℕ)) (line : List ℕ) (m : Result Map Error) (e : Error)
      → Appends a b line → Err e ≡ m → Appends b c (error_line (number_of e))
      → WroteUntil a c (led_by line (declared_text (unit_text limit) u m)) (Ok 1)
  unit_refused a b c line m e h is k =
      let all = until_more a b c line (error_line (number_of e) ∷ []) 1 (Ok 1) h
      (until_only b c (error_line (number_of e)) 1 k) in
      rw (← is) all
