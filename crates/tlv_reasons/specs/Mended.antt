-- When a change mends the octets that are searched.
use Rattle.std.specs.Prelude.{◌≡◌, ◌<◌, ◌^◌, ℕ, false, nat_le, true, List, length}
use Rattle.tlv_head.specs.declared.fault.FaultCode.TheVariants.{Short}
use Rattle.tlv_walk.specs.declared.framing.Framing.{Framing}
use Rattle.tlv_walk.specs.Ending.{IsEnding, fault_ending}
use Rattle.tlv_walk.specs.Forest.{Forest}
use Rattle.tlv_walk.specs.Reading.{IsReading, IsSoundList}
use Rattle.tlv_reasons.specs.declared.bounds.Bounds.{Bounds}
use Rattle.tlv_reasons.specs.Facts.{whole_end}

-- the octets begin with one or more whole elements: their top end is above 0
pub record BeginsWhole (framing : Framing) (octets : List ℕ) : Type 0 where
  pub reading : Forest
  pub is_reading : IsReading framing octets reading
  pub some : 0 < whole_end 0 reading

-- the octets, as a change leaves them, are whole encodings. If more octets of the input follow that are not searched,
-- it is enough that they begin with whole elements, and that nothing is wrong with them but that they end inside
-- another encoding (F02)
pub data IsMended (framing : Framing) (bounds : Bounds) (octets : List ℕ) : Type 0 where
  whole : IsSoundList framing octets → IsMended framing bounds octets
  cut_off : (count : ℕ) → bounds.cut ≡ true → BeginsWhole framing octets
      → IsEnding framing octets (fault_ending Short count) → IsMended framing bounds octets

-- of more octets only the lengths nearby are tried, and one header is named: a limit of our own
abbrev pub wide_limit : ℕ
wide_limit = 2 ^ 18

-- the bounds of the search of an input as a whole
abbrev pub whole_bounds : List ℕ → Bounds
whole_bounds octets = record { cut = false; wide = nat_le (length octets) wide_limit }
