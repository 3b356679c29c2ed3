-- The byte order that is chosen when the program runs, and the form in which a reader keeps it.
use Rattle.std.specs.Prelude.{ℕ, zero, suc, Bool, true, false, ◌≡◌, refl}
use Rattle.gimli_base.specs.declared.endianity.RunTimeEndian.{RunTimeEndian}
use Rattle.gimli_base.specs.declared.endianity.RunTimeEndian.TheVariants.{Little, Big}

-- whether the highest byte comes first
abbrev pub is_big : RunTimeEndian → Bool
is_big Little = false
is_big Big = true

-- the number that a reader keeps of an order
abbrev pub flag_of : RunTimeEndian → ℕ
flag_of Little = 0
flag_of Big = 1

-- the order that a kept number stands for
abbrev pub order_of : ℕ → RunTimeEndian
order_of zero = Little
order_of (suc n) = Big

-- nothing of an order is lost where it is kept
pub order_back : (e : RunTimeEndian) → order_of (flag_of e) ≡ e
order_back Little = refl
order_back Big = refl
