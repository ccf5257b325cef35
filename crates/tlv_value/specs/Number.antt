-- The numbers that INTEGER and ENUMERATED stand for: X.690 8.3 and 8.4.
use Rattle.std.specs.Prelude.{ℕ, ◌*◌, ◌^◌, ◌&&◌, nat_le, if◌then◌else◌, List, [], ◌∷◌, length, ℤ, pos, ◌-ℤ◌}
use Rattle.std.specs.Prelude.{Option, Some, None}
use Rattle.tlv_head.specs.Header.{value_of}
use Rattle.tlv_value.specs.Bits.{bits_of}

-- 8.3.3: the sum of the powers of two that the bits stand for; the power of the first bit counts as negative
abbrev pub signed_sum : List ℕ → ℤ
signed_sum [] = pos 0
signed_sum (bit ∷ bits) = pos (value_of 2 bits) -ℤ pos (bit * 2 ^ length bits)

-- 8.3.3: the number that octets represent in two's complement, from their bits in order
abbrev pub twos_complement : List ℕ → ℤ
twos_complement octets = signed_sum (bits_of octets)

-- the number that 1 to 16 octets represent
abbrev pub decimal_of : List ℕ → Option ℤ
decimal_of octets =
    if nat_le 1 (length octets) && nat_le (length octets) 16 then Some (twos_complement octets) else None
