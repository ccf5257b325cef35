-- Words that all rows may use: octets, lines and framings.
use Rattle.std.proofs.Common.{ℕ, ◌+◌, ◌-◌, ◌*◌, Bool, List, [], ◌∷◌, ◌++◌, codes}
use Rattle.std.specs.Prelude.{flat_map, if◌then◌else◌, nat_le}
use Prim.Native.String.{String}
use Rattle.tlv_walk.specs.declared.framing.Framing.{Framing}

abbrev digit_value : ℕ → ℕ
digit_value code = if nat_le code 57 then code - 48 else (code - 87)

-- the octets of a text of pairs of hexadecimal digits, with a space between two of them
abbrev octets_in : List ℕ → List ℕ
octets_in (high ∷ low ∷ []) = (16 * digit_value high + digit_value low) ∷ []
octets_in (high ∷ low ∷ space ∷ rest) = (16 * digit_value high + digit_value low) ∷ octets_in rest
octets_in codes = []

abbrev pub octets : String → List ℕ
octets text = octets_in (codes text)

abbrev pub lines : List String → List ℕ
lines texts = flat_map (λ text. codes text ++ 10 ∷ []) texts

-- what the strings at these offsets hold is read as encodings; whether octets 00 may be between encodings
abbrev pub framing_of : List ℕ → Bool → Framing
framing_of inside padding = record { inside = inside; padding = padding }
