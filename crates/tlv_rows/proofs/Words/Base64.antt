-- Words of the rows of base64: there is one answer for each text.
use Rattle.std.proofs.Common.{◌≡◌, ℕ, zero, suc, ◌-◌, true, false, ltb, ltb-true, List, [], ◌∷◌, length, refl, ap}
use Rattle.std.proofs.Common.{sym, ◌∙◌, Option, Some, None, Ok, Err}
use Rattle.std.proofs.lemmas.Bool.{and_parts}
use Rattle.std.specs.List.{list_all}
use Rattle.base64.specs.Engines.{standard_no_pad, url_safe_no_pad}
use Rattle.base64.specs.GeneralPurpose.{IsBytes, decode_of}
use Rattle.base64.specs.declared.decode.DecodeError.{DecodeError}
use Rattle.base64.proofs.EngineFacts.{decode_of-encode_of}
use Rattle.tlv_text.specs.Base64.{ReadsBase64, base64_of, fits_after, padding_of, symbols_read, whole_groups}
use Rattle.tlv_text.specs.declared.base64_text.Alphabet.{Alphabet}
use Rattle.tlv_text.specs.declared.base64_text.Alphabet.TheVariants.{Standard, UrlSafe}
use Rattle.tlv_text.proofs.GroupLemmas.{bytes-nil, engine_of}

base64-decodes : (alphabet : Alphabet) (octets : List ℕ) → IsBytes octets
    → decode_of (engine_of alphabet) (base64_of alphabet octets) ≡ Ok octets
base64-decodes Standard octets bytes = decode_of-encode_of standard_no_pad octets refl bytes
base64-decodes UrlSafe octets bytes = decode_of-encode_of url_safe_no_pad octets refl bytes

-- octets are different in base64
base64-same : (alphabet : Alphabet) (a b : List ℕ) → IsBytes a → IsBytes b
    → base64_of alphabet a ≡ base64_of alphabet b → a ≡ b
base64-same alphabet a b ha hb e =
    let same = sym (base64-decodes alphabet a ha) ∙ ap (decode_of (engine_of alphabet)) e
    ∙ base64-decodes alphabet b hb in
    cc same

-- the same octets and the same place are read from a text
pub reads-once : (alphabet : Alphabet) (text a b : List ℕ) (p q : Option ℕ)
    → ReadsBase64 alphabet text a p → ReadsBase64 alphabet text b q → (a ≡ b) × (p ≡ q)
reads-once alphabet text a b _ _ (ReadsBase64.whole x) (ReadsBase64.whole y) =
    (base64-same alphabet a b x.are_octets y.are_octets (x.symbols ∙ sym y.symbols), refl)
reads-once alphabet text a b _ _ (ReadsBase64.whole x) (ReadsBase64.refused none hb y) = absurd (none a x)
reads-once alphabet text a b _ _ (ReadsBase64.refused none ha x) (ReadsBase64.whole y) = absurd (none b y)
reads-once alphabet text a b _ _ (ReadsBase64.refused none ha x) (ReadsBase64.refused none' hb y) =
    (base64-same alphabet a b ha hb (x ∙ sym y), refl)

-- ---- rows

octets-are : (octets : List ℕ) → list_all (λ x. ltb x 256) octets ≡ true → IsBytes octets
octets-are [] e i = bytes-nil i
octets-are (x ∷ octets) e zero =
    let parts : (ltb x 256 ≡ true) × (list_all (λ x. ltb x 256) octets ≡ true) = and_parts _ _ e in
    ltb-true x 256 parts.0
octets-are (x ∷ octets) e (suc i) =
    let parts : (ltb x 256 ≡ true) × (list_all (λ x. ltb x 256) octets ≡ true) = and_parts _ _ e in
    octets-are octets parts.1 i

-- all of it is base64
pub all_base64 : (alphabet : Alphabet) (text octets : List ℕ) → list_all (λ x. ltb x 256) octets ≡ true
    → base64_of alphabet octets ≡ (symbols_read alphabet text).symbols
    → fits_after (length (symbols_read alphabet text).symbols) (padding_of (symbols_read alphabet text).rest) ≡ true
    → ReadsBase64 alphabet text octets None
all_base64 alphabet text octets each symbols padding =
    ReadsBase64.whole (record { are_octets = octets-are octets each; symbols = symbols; padding = padding })

-- what comes after the last symbol is not its padding
pub unpadded : (alphabet : Alphabet) (text octets : List ℕ) → list_all (λ x. ltb x 256) octets ≡ true
    → base64_of alphabet octets ≡ whole_groups (symbols_read alphabet text).symbols
    → fits_after (length (symbols_read alphabet text).symbols) (padding_of (symbols_read alphabet text).rest) ≡ false
    → ReadsBase64 alphabet text octets (Some (length text - length (symbols_read alphabet text).rest))
unpadded alphabet text octets each symbols padding =
    ReadsBase64.refused (λ others b. let e = sym b.padding ∙ padding in cc e) (octets-are octets each) symbols

-- no octets are these symbols
pub undecoded : (alphabet : Alphabet) (text octets : List ℕ) (error : DecodeError)
    → list_all (λ x. ltb x 256) octets ≡ true
    → base64_of alphabet octets ≡ whole_groups (symbols_read alphabet text).symbols
    → decode_of (engine_of alphabet) (symbols_read alphabet text).symbols ≡ Err error
    → ReadsBase64 alphabet text octets (Some (length text - length (symbols_read alphabet text).rest))
undecoded alphabet text octets error each symbols failed =
    ReadsBase64.refused
    (λ others b.
    let e = sym (base64-decodes alphabet others b.are_octets) ∙ ap (decode_of (engine_of alphabet)) b.symbols
    ∙ failed in
    cc e)
    (octets-are octets each) symbols
