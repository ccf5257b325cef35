-- What comes before and after the elements that an element holds, and the offset of a wrapper, by the parts of a header.
use Rattle.std.proofs.Common.{◌≡◌, ℕ, Bool, true, false, not, ◌&&◌, if◌then◌else◌, List, [], ◌∷◌, Option, Some, None}
use Rattle.std.proofs.Common.{refl}
use Rattle.std.specs.Option.{is_some}
use Rattle.tlv_head.specs.declared.header.Size.{Size}
use Rattle.tlv_head.specs.Header.{HeaderValue, definite_length}
use Rattle.tlv_walk.specs.Forest.{is_wrapping_bit_string, lead}

-- the contents octets before the held elements, by whether the element is constructed, and is a BIT STRING
abbrev pub lead_by : Bool → Bool → List ℕ
lead_by constructed bit_string = if not constructed && bit_string then 0 ∷ [] else []

-- in a wrapping BIT STRING there is one
pub lead-one : (h : HeaderValue) → is_wrapping_bit_string h ≡ true → lead h ≡ 0 ∷ []
lead-one h e = rw e refl

-- `wraps-bits`, by the test
wraps-by : (bits : Bool) (x : ℕ) (xs : List ℕ) → (if bits then 0 ∷ [] else []) ≡ x ∷ xs → bits ≡ true
wraps-by true x xs e = refl
wraps-by false x xs e = absurd (cc (e))

-- and only there
pub wraps-bits : (h : HeaderValue) (x : ℕ) (xs : List ℕ) → lead h ≡ x ∷ xs → is_wrapping_bit_string h ≡ true
wraps-bits h x xs e = wraps-by (is_wrapping_bit_string h) x xs e

-- 8.1.5: the offset of the end-of-contents octets, if any, by the size and the offset after the held elements
abbrev pub end_offset : Size → ℕ → Option ℕ
end_offset size offset = if is_some (definite_length size) then None else Some offset

-- the offset of an element that holds others, if it is a wrapper, by whether it is constructed
abbrev pub wrapper_offset_by : Bool → ℕ → List ℕ
wrapper_offset_by constructed offset = if constructed then [] else offset ∷ []
