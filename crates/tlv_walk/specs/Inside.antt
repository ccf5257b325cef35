-- The offsets that a user may name, and those in an `Inside`.
use Rattle.std.specs.Prelude.{ℕ, ◌+◌, Bool, true, ◌&&◌, nat_le, List, [], ◌∷◌, length}
use Rattle.tlv_head.specs.Limits.{input_limit}
use Rattle.tlv_walk.specs.declared.framing.Offsets.{Offsets}
use Rattle.tlv_walk.specs.declared.framing.Offsets.TheVariants.{Kept, Lent}

-- each offset is larger than the one before, none is below `least`, and none is above 2^40
abbrev pub are_rising : ℕ → List ℕ → Bool
are_rising least [] = true
are_rising least (n ∷ ns) = nat_le least n && (nat_le n input_limit && are_rising (n + 1) ns)

-- at most 16 rising offsets
abbrev pub can_name : List ℕ → Bool
can_name offsets = nat_le (length offsets) 16 && are_rising 0 offsets

-- the offsets in an `Inside`, kept in it or lent
abbrev pub offsets_in : Offsets → List ℕ
offsets_in (Kept kept) = kept.items
offsets_in (Lent lent) = lent.now
