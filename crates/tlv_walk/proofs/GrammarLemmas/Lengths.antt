-- The contents of an element that holds others, by a definite length.
use Rattle.std.specs.Prelude.{◌≡◌, ℕ, ◌<◌, IfSome}
use Rattle.tlv_head.specs.declared.header.Size.{Size}
use Rattle.tlv_head.specs.Header.{definite_length}

-- a definite length is that of the contents
abbrev pub HasLength : Size → ℕ → Type 0
HasLength size m = IfSome (definite_length size) (λ n. m ≡ n)

-- contents so far of that length lack octets of a definite length
abbrev pub LacksOctets : Size → ℕ → Type 0
LacksOctets size m = IfSome (definite_length size) (λ n. m < n)
