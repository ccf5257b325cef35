-- Length octets of an input, changed in place.
use Rattle.std.specs.Prelude.{ℕ, List, ◌++◌, nat_lt, take, drop, slice_range}
use Rattle.std.specs.List.{filter}
use Rattle.tlv_walk.specs.declared.framing.Framing.{Framing}
use Rattle.tlv_reasons.specs.declared.bounds.Bounds.{Bounds}
use Rattle.tlv_reasons.specs.Mended.{IsMended}
use Rattle.tlv_reasons.specs.WrongLength.{length_bound, length_octets_saying}

-- the input with length octets from `start` up to `end` that state n
abbrev pub with_octets_saying : ℕ → ℕ → ℕ → List ℕ → List ℕ
with_octets_saying start end n octets =
    take start octets ++ (length_octets_saying n (slice_range octets start end) ++ drop end octets)

-- that input would be mended
abbrev pub MendedWithOctets : Framing → Bounds → ℕ → ℕ → List ℕ → ℕ → Type 0
MendedWithOctets framing bounds start end octets n = IsMended framing bounds (with_octets_saying start end n octets)

-- the lengths that this number of length octets can state
abbrev pub sayable : ℕ → List ℕ → List ℕ
sayable count lengths = filter (λ n. nat_lt n (length_bound count)) lengths
