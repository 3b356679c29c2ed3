-- What a byte that was read shows of a LEB128 number that is passed.
use Rattle.std.proofs.Common.{◌≡◌, ℕ, ◌<◌, ◌≤◌, Ok, Err, refl, ◌∙◌}
use Rattle.std.proofs.lemmas.Bool.{lt-ltb, le-ltb}
use Rattle.gimli_base.specs.declared.error.Error.{Error}
use Rattle.gimli_base.specs.View.{View}
use Rattle.gimli_base.specs.Reading.{byte_at, skip_leb_at}
use Rattle.gimli_base.proofs.Passed.{skip_leb_at-step}

-- no byte is left
pub pass_ended : (v : View) (e : Error) → Err e ≡ byte_at v → skip_leb_at v ≡ Err e
pass_ended v e h = skip_leb_at-step v ∙ rw (← h) refl

-- a byte below 128 is the last
pub pass_last : (v w : View) (b : ℕ) → Ok (b, w) ≡ byte_at v → b < 128 → skip_leb_at v ≡ Ok (tt, w)
pass_last v w b h low = skip_leb_at-step v ∙ rw (← h, lt-ltb b 128 low) refl

-- the others come after another byte
pub pass_more : (v w : View) (b : ℕ) → Ok (b, w) ≡ byte_at v → 128 ≤ b
    → skip_leb_at v ≡ skip_leb_at w
pass_more v w b h high = skip_leb_at-step v ∙ rw (← h, le-ltb b 128 high) refl
