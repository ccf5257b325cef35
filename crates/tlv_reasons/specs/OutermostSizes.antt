-- Whether the outermost elements of an input end with it, by what their headers say: X.690 8.1.3.
use Rattle.std.specs.Prelude.{◌≡◌, ℕ, ◌+◌, ◌<◌, ◌==◌, ◌&&◌, Bool, true, false, List, length, drop, Some, None, slice_index}
use Rattle.tlv_head.specs.Header.{HeaderValue, definite_length}
use Rattle.tlv_head.specs.Refusal.{BeginsWith}
use Rattle.tlv_reasons.specs.WrongLength.{contents_start}

-- an octet of padding, between outermost elements, is at this offset
abbrev pub is_padded_at : Bool → List ℕ → ℕ → Bool
is_padded_at padding octets offset = padding && (slice_index octets offset == 0)

-- from this offset on the outermost elements end with the input. Of an element of indefinite length its header does not
-- say where it ends, so nothing speaks against it
pub data SizesAgree (padding : Bool) (octets : List ℕ) : ℕ → Type 0 where
  agree_at_end : {offset : ℕ} → offset ≡ length octets → SizesAgree padding octets offset
  agree_behind_padding : {offset : ℕ} → offset < length octets → is_padded_at padding octets offset ≡ true
      → SizesAgree padding octets (offset + 1) → SizesAgree padding octets offset
  agree_behind_element : {offset : ℕ} (h : HeaderValue) (n : ℕ) → is_padded_at padding octets offset ≡ false
      → BeginsWith (drop offset octets) offset false h → definite_length h.size ≡ Some n
      → SizesAgree padding octets (contents_start h + n) → SizesAgree padding octets offset
  agree_without_end : {offset : ℕ} (h : HeaderValue) → is_padded_at padding octets offset ≡ false
      → BeginsWith (drop offset octets) offset false h → definite_length h.size ≡ None
      → SizesAgree padding octets offset
