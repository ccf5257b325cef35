-- The first octets and the last octet of contents, or of a part of them.
use Rattle.std.specs.Prelude.{◌==◌, ℕ, Bool, false, ◌&&◌, ◌||◌, nat_le, nat_lt, List, [], ◌∷◌, slice_index}

-- the first octet, or 0 if there is none. If a BIT STRING has one, it is the number of unused bits
abbrev pub first_octet : List ℕ → ℕ
first_octet contents = slice_index contents 0

-- the last octet, or 0 if there is none
abbrev pub last_octet : List ℕ → ℕ
last_octet [] = 0
last_octet (x ∷ []) = x
last_octet (x ∷ y ∷ ys) = last_octet (y ∷ ys)

-- the first nine bits are all equal, which 8.3.2 forbids
abbrev pub is_padded_integer : List ℕ → Bool
is_padded_integer (x ∷ y ∷ ys) = (x == 0 && nat_lt y 128) || (x == 255 && nat_le 128 y)
is_padded_integer octets = false
