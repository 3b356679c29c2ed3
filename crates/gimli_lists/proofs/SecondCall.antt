-- A closure that is called twice.
use Rattle.std.proofs.Common.{◌≡◌, refl, Bor}
use Rattle.std.specs.Fn.{Mut, Called, CalledAt, Takes, TakesAt}

-- the second call may be made in the state that the first one leaves
pub second_call : {F A R : Type 0} (g : Mut F (Bor A × Unit {0}) R) {f mid : F} {x y : Bor A}
    {z : A} {r : R} → Called g f (x, tt) r mid
    → ((old : R) (q : F) → CalledAt g f x.now old q → TakesAt g q z) → y.now ≡ z
    → Takes g mid (y, tt)
second_call g {mid = mid} {x = x} {y = y} {r = r} called second h =
    second r mid (record { shown = x; shows = refl; called = called }) y h
