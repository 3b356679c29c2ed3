-- An entry of a location list is one of a range list with an expression, a base address without
-- one, or a default location (DWARF 5, 2.6.2).
use Rattle.std.specs.Prelude.{◌≡◌, ℕ, ◌-◌, ◌^◌, Option, None, Some, Result, Ok, Err, nat_lt, ◌&&◌}
use Rattle.std.specs.Prelude.{Bool, true, false, if◌then◌else◌}
use Rattle.std.specs.Option.{option_map}
use Rattle.std.proofs.Common.{refl, ap}
use Rattle.gimli_base.specs.declared.error.Error.{Error}
use Rattle.gimli_base.specs.Address.{min_tombstone, wrapped_sum}
use Rattle.gimli_base.specs.Offset.{answer_of}
use Rattle.gimli_lists.specs.RawList.{ListEntry, address_or_offset_pair, base_address}
use Rattle.gimli_lists.specs.RawList.{base_addressx, startx_endx, startx_length, offset_pair}
use Rattle.gimli_lists.specs.RawList.{default_location, start_end, start_length}
use Rattle.gimli_lists.specs.Resolved.{LookUp, Resolved, resolved_if_kept, located_from, if_found}
use Rattle.gimli_lists.specs.Resolved.{base_given, resolve}
use Rattle.gimli_lists.specs.WithPayload.{with_payload}

-- the same addresses, with another payload
abbrev pub located_with : {P Q : Type 0} → Q → Resolved P → Resolved Q
located_with q r = record { begin = r.begin; end = r.end; payload = q }

-- the same answer, with another payload
abbrev pub answer_with : {P Q : Type 0} → Q → Result (Option (Resolved P)) Error
    → Result (Option (Resolved Q)) Error
answer_with q r = answer_of (option_map (located_with q)) r

-- an entry gives the same base address with another payload
pub base_given-with : {P Q : Type 0} → (look_up : LookUp) (q : Q) (e : ListEntry P)
    → base_given look_up (with_payload q e) ≡ base_given look_up e
base_given-with look_up q (address_or_offset_pair begin end p) = refl
base_given-with look_up q (base_address address) = refl
base_given-with look_up q (base_addressx index) = refl
base_given-with look_up q (startx_endx begin end p) = refl
base_given-with look_up q (startx_length begin length p) = refl
base_given-with look_up q (offset_pair begin end p) = refl
base_given-with look_up q (default_location p) = refl
base_given-with look_up q (start_end begin end p) = refl
base_given-with look_up q (start_length begin length p) = refl

module _ {P Q : Type 0} (size : ℕ) (p : P) (q : Q) where
  located-with : (begin end : ℕ)
      → resolved_if_kept size begin end q
      ≡ option_map (located_with q) (resolved_if_kept size begin end p)
  located-with begin end = cases (nat_lt begin (min_tombstone size) && nat_lt begin end)
    where
      cases : (t : Bool) → ◌≡◌ {A = Option (Resolved Q)}
          (if t then Some (record { begin = begin; end = end; payload = q }) else None)
          (option_map (located_with q)
          (if t then Some (record { begin = begin; end = end; payload = p }) else None))
      cases true = refl
      cases false = refl

  located_from-with : (base begin end : ℕ)
      → located_from size base begin end q
      ≡ option_map (located_with q) (located_from size base begin end p)
  located_from-with base begin end = cases (nat_lt base (min_tombstone size))
    where
      cases : (t : Bool) → ◌≡◌ {A = Option (Resolved Q)}
          (if t then resolved_if_kept size (wrapped_sum size base begin) (wrapped_sum size base end)
          q
          else None)
          (option_map (located_with q)
          (if t then resolved_if_kept size (wrapped_sum size base begin) (wrapped_sum size base end)
          p
          else None))
      cases true = located-with (wrapped_sum size base begin) (wrapped_sum size base end)
      cases false = refl

-- what is made of an address that is found, with another payload
found-with : {P Q : Type 0}
    → (q : Q) (r : Result ℕ Error) (f : ℕ → Result (Option (Resolved Q)) Error)
    (g : ℕ → Result (Option (Resolved P)) Error)
    → ((a : ℕ) → f a ≡ answer_with q (g a)) → if_found r f ≡ answer_with q (if_found r g)
found-with q (Ok a) f g h = h a
found-with q (Err e) f g h = refl

-- an entry stands for the same addresses with another payload
pub resolve-with : {P Q : Type 0} → (size : ℕ) (look_up : LookUp) (base : ℕ) (q : Q)
    (e : ListEntry P)
    → resolve size look_up base (with_payload q e) ≡ answer_with q (resolve size look_up base e)
resolve-with size look_up base q (address_or_offset_pair begin end p) =
    ap Ok (located_from-with size p q base begin end)
resolve-with size look_up base q (base_address address) = refl
resolve-with size look_up base q (base_addressx index) =
    found-with q (look_up index) (λ a. Ok None) (λ a. Ok None) (λ a. refl)
resolve-with size look_up base q (startx_endx begin end p) =
    found-with q (look_up begin)
    (λ b. if_found (look_up end) (λ e. Ok (resolved_if_kept size b e q)))
    (λ b. if_found (look_up end) (λ e. Ok (resolved_if_kept size b e p)))
    (λ b. found-with q (look_up end) (λ e. Ok (resolved_if_kept size b e q))
    (λ e. Ok (resolved_if_kept size b e p))
    (λ e. ap Ok (located-with size p q b e)))
resolve-with size look_up base q (startx_length begin length p) =
    found-with q (look_up begin) (λ b. Ok (resolved_if_kept size b (wrapped_sum size b length) q))
    (λ b. Ok (resolved_if_kept size b (wrapped_sum size b length) p))
    (λ b. ap Ok (located-with size p q b (wrapped_sum size b length)))
resolve-with size look_up base q (offset_pair begin end p) =
    ap Ok (located_from-with size p q base begin end)
resolve-with size look_up base q (default_location p) = ap Ok (located-with size p q 0 (2 ^ 64 - 1))
resolve-with size look_up base q (start_end begin end p) = ap Ok (located-with size p q begin end)
resolve-with size look_up base q (start_length begin length p) =
    ap Ok (located-with size p q begin (wrapped_sum size begin length))
