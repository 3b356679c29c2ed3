-- What the reads of a table of abbreviations leave.
use Rattle.std.specs.Prelude.{◌≡◌, ◌≢◌, ℕ, ◌<◌, ◌==◌, length, Bool, false, Option, Some, None, Ok}
use Rattle.std.specs.Prelude.{Err}
use Rattle.std.proofs.Common.{arith, refl}
use Rattle.gimli_base.specs.declared.error.Error.{Error}
use Rattle.gimli_base.specs.declared.constants.DwTag.{DwTag}
use Rattle.gimli_base.specs.View.{View}
use Rattle.gimli_base.specs.Reading.{Reads, byte_at, uleb_at, uleb16_at, sleb_at}
use Rattle.gimli_base.proofs.Later.{LeavesLater, IsLater-none, IsLater-length, then_leaves_later}
use Rattle.gimli_base.proofs.Later.{made_leaves_later, if_leaves_later, ok_leaves_later}
use Rattle.gimli_base.proofs.Later.{err_leaves_later, weaker_leaves_later, byte_at-later}
use Rattle.gimli_base.proofs.Later.{uleb_at-later, uleb16_at-later, sleb_at-later}
use Rattle.gimli_base.proofs.ItemTurns.{whole-later}
use Rattle.gimli_base.specs.Abbreviations.{Specification, Declaration, specification_at}
use Rattle.gimli_base.specs.Abbreviations.{specifications_at, children_at, tag_at, declared_at}
use Rattle.gimli_base.specs.Abbreviations.{declaration_at, is_headed, table_takes_memory}

specification_at-later : (v : View) → LeavesLater 2 v (specification_at v)
unfolding specification_at
specification_at-later v = then_leaves_later 1 1 v (uleb16_at v) _ (uleb16_at-later v)
    (λ name. then_leaves_later 1 0 name.1 (uleb16_at name.1) _ (uleb16_at-later name.1)
    (λ form. if_leaves_later 0 form.1 (name.0 == 0) _ _
    (if_leaves_later 0 form.1 (form.0 == 0) _ _ (ok_leaves_later 0 form.1 _ (IsLater-none form.1))
    (err_leaves_later {A = Option Specification} 0 form.1 _))
    (if_leaves_later 0 form.1 (form.0 == 0) _ _
    (err_leaves_later {A = Option Specification} 0 form.1 _)
    (if_leaves_later 0 form.1 (form.0 == 0x21) _ _
    (weaker_leaves_later 1 0 form.1 _ (omega arith)
    (made_leaves_later 1 form.1 _ (sleb_at form.1) (sleb_at-later form.1)))
    (ok_leaves_later 0 form.1 _ (IsLater-none form.1))))))

-- a declared attribute that was read is no longer there
pub specification_at-shorter : (v w : View) (a : Option Specification)
    → Ok (a, w) ≡ specification_at v → length w.bytes < length v.bytes
specification_at-shorter v w a h =
    omega (arith, IsLater-length 2 v w (specification_at-later v a w h))

declared_at-later : (code : ℕ) (v : View) → LeavesLater 0 v (declared_at code v)
unfolding declared_at tag_at children_at specifications_at
declared_at-later code v = weaker_leaves_later 1 0 v _ (omega arith)
    (then_leaves_later 1 0 v _ _ (then_leaves_later 1 0 v (uleb16_at v) _ (uleb16_at-later v)
    (λ p. if_leaves_later 0 p.1 (p.0 == 0) _ _ (err_leaves_later {A = DwTag} 0 p.1 _)
    (ok_leaves_later 0 p.1 _ (IsLater-none p.1))))
    (λ tag. weaker_leaves_later 1 0 tag.1 _ (omega arith)
    (then_leaves_later 1 0 tag.1 _ _
    (then_leaves_later 1 0 tag.1 (byte_at tag.1) _ (byte_at-later tag.1)
    (λ p. if_leaves_later 0 p.1 (p.0 == 0) _ _ (ok_leaves_later 0 p.1 _ (IsLater-none p.1))
    (if_leaves_later 0 p.1 (p.0 == 1) _ _ (ok_leaves_later 0 p.1 _ (IsLater-none p.1))
    (err_leaves_later {A = Bool} 0 p.1 _))))
    (λ children. made_leaves_later 0 children.1 _ _ (whole-later specification_at
    (λ u. weaker_leaves_later 2 0 u _ (omega arith) (specification_at-later u)) children.1)))))

-- a declaration that was read is no longer there
pub declaration_at-shorter : (v w : View) (a : Option Declaration) → Ok (a, w) ≡ declaration_at v
    → length w.bytes < length v.bytes
unfolding declaration_at
declaration_at-shorter v w a h = omega (
  arith,
  IsLater-length 1 v w (then_leaves_later 1 0 v (uleb_at v) _ (uleb_at-later v)
      (λ p. if_leaves_later 0 p.1 (p.0 == 0) _ _ (ok_leaves_later 0 p.1 _ (IsLater-none p.1))
      (made_leaves_later 0 p.1 _ (declared_at p.0 p.1) (declared_at-later p.0 p.1))) a w h),
)

-- the code 0 ends the table
pub declaration_at-none : (v w : View) (code : ℕ) → Ok (code, w) ≡ uleb_at v → code ≡ 0
    → ◌≡◌ {A = Reads (Option Declaration)} (Ok (None, w)) (declaration_at v)
unfolding declaration_at
declaration_at-none v w code read zero = rw (← read, zero) refl

-- after any other code a declaration follows
pub declaration_at-some : (v w u : View) (code : ℕ) (d : Declaration)
    → Ok (code, w) ≡ uleb_at v → code ≢ 0 → Ok (d, u) ≡ declared_at code w
    → Ok (Some d, u) ≡ declaration_at v
unfolding declaration_at
declaration_at-some v w u code d read some declared =
    let other : (code == 0) ≡ false = grind (arith, some) in rw (← read, other, ← declared) refl

-- a refusal of the code is one of the declaration
pub declaration_at-no_code : (v : View) (e : Error) → Err e ≡ uleb_at v
    → ◌≡◌ {A = Reads (Option Declaration)} (Err e) (declaration_at v)
unfolding declaration_at
declaration_at-no_code v e read = rw (← read) refl

-- a refusal after the code is one of the declaration
pub declaration_at-refused : (v w : View) (code : ℕ) (e : Error)
    → Ok (code, w) ≡ uleb_at v → code ≢ 0 → Err e ≡ declared_at code w
    → ◌≡◌ {A = Reads (Option Declaration)} (Err e) (declaration_at v)
unfolding declaration_at
declaration_at-refused v w code e read some declared =
    let other : (code == 0) ≡ false = grind (arith, some) in rw (← read, other, ← declared) refl

-- after a code that is not 0 a table takes memory exactly where the declaration is headed
pub table_takes_memory-code : (v w : View) (code : ℕ) → Ok (code, w) ≡ uleb_at v → code ≢ 0
    → table_takes_memory v ≡ is_headed w
unfolding table_takes_memory
table_takes_memory-code v w code read some =
    let other : (code == 0) ≡ false = grind (arith, some) in rw (← read, other) refl
