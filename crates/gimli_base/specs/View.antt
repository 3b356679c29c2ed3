-- What a reader holds: a byte order, the place of its first byte, and the bytes that are left.
use Rattle.std.specs.Prelude.{ℕ, ◌+◌, Bool, List, [], length, take, drop, ◌≡◌, ◌≤◌}

-- a byte order, the place of the first byte, and the bytes
pub record View : Type 0 where
  pub big : Bool
  pub place : ℕ
  pub bytes : List ℕ

-- the view that begins n bytes later
abbrev pub cut : ℕ → View → View
cut n v = record { big = v.big; place = v.place + n; bytes = drop n v.bytes }

-- the first n bytes
abbrev pub front : ℕ → View → View
front n v = record { big = v.big; place = v.place; bytes = take n v.bytes }

-- no bytes, at the end of the view
abbrev pub end_of_view : View → View
end_of_view v = record { big = v.big; place = v.place + length v.bytes; bytes = [] }

-- w is v some bytes later, at least so many
pub record IsLater (least : ℕ) (v w : View) : Type 0 where
  pub count : ℕ
  pub enough : least ≤ count
  pub within : count ≤ length v.bytes
  pub is : w ≡ cut count v
