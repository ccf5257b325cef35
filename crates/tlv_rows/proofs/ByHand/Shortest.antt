-- Short headers that are as short as they can be, and others that are not.
use Rattle.std.proofs.Common.{ℕ, false, List, [], ◌∷◌, refl, arith}
use Rattle.tlv_head.specs.declared.header.Class.{Class}
use Rattle.tlv_head.specs.declared.header.Class.TheVariants.{Universal, Context}
use Rattle.tlv_head.specs.declared.header.Size.TheVariants.{Definite}
use Rattle.tlv_head.specs.Header.{HeaderValue}
use Rattle.tlv_head.specs.ShortestHeaders.{IsShortest}

-- a primitive
abbrev header : Class → ℕ → ℕ → List ℕ → List ℕ → HeaderValue
header class number length identifier lengths = record {
  offset = 0;
  named = false;
  class = class;
  constructed = false;
  number = number;
  size = Definite length;
  identifier_octets = identifier;
  length_octets = lengths;
}

-- 02 01
short : IsShortest (header Universal 2 1 (2 ∷ []) (1 ∷ []))
short = record {
  identifier = record { single = λ s. refl; leading = λ more. absurd (omega (arith, more)) };
  lengths = record { single = λ s. refl; leading = λ more. absurd (omega (arith, more)) };
}

-- 02 81 01
long-form : IsShortest (header Universal 2 1 (2 ∷ []) (129 ∷ 1 ∷ [])) → ⊥
long-form s = omega (arith, s.lengths.single (omega arith))

-- 02 82 00 80
padded-length : IsShortest (header Universal 2 128 (2 ∷ []) (130 ∷ 0 ∷ 128 ∷ [])) → ⊥
padded-length s = s.lengths.leading (omega arith) refl

-- 04 81 80
needed-length : IsShortest (header Universal 4 128 (4 ∷ []) (129 ∷ 128 ∷ []))
needed-length = record {
  identifier = record { single = λ s. refl; leading = λ more. absurd (omega (arith, more)) };
  lengths = record { single = λ s. absurd (omega (arith, s)); leading = λ more z. omega (arith, z) };
}

-- 9f 1e 00
high-form : IsShortest (header Context 30 0 (159 ∷ 30 ∷ []) (0 ∷ [])) → ⊥
high-form s = omega (arith, s.identifier.single (omega arith))

-- 9f 80 1f 00
padded-number : IsShortest (header Context 31 0 (159 ∷ 128 ∷ 31 ∷ []) (0 ∷ [])) → ⊥
padded-number s = s.identifier.leading (omega arith) refl

-- 9f 1f 00
needed-form : IsShortest (header Context 31 0 (159 ∷ 31 ∷ []) (0 ∷ []))
needed-form = record {
  identifier = record { single = λ s. absurd (omega (arith, s)); leading = λ more z. omega (arith, z) };
  lengths = record { single = λ s. refl; leading = λ more. absurd (omega (arith, more)) };
}
