-- Elements that differ in their spelling alone: short inputs.
use Rattle.std.proofs.Common.{◌≡◌, false, [], ◌∷◌, refl}
use Rattle.tlv_head.specs.Header.{HeaderValue}
use Rattle.tlv_head.specs.ShortestHeaders.{HaveOneTagAndForm}
use Rattle.tlv_walk.specs.AlikeElements.{AreAlike, holders, nothing, padding, primitives}
use Rattle.tlv_walk.proofs.GrammarLemmas.Readings.{padding_framing, reading}
use Rattle.tlv_walk.specs.Framing.{plain_framing}
use Rattle.tlv_rows.proofs.Words.Octets.{framing_of}

one_tag : (h k : HeaderValue) → h.class ≡ k.class → h.constructed ≡ k.constructed → h.number ≡ k.number
    → HaveOneTagAndForm h k
one_tag h k c f n = record { class = c; constructed = f; number = n }

-- 02 01 05 and 02 81 01 05
lengths-alike : AreAlike (reading plain_framing (2 ∷ 1 ∷ 5 ∷ [])) (reading plain_framing (2 ∷ 129 ∷ 1 ∷ 5 ∷ []))
lengths-alike = primitives _ _ (5 ∷ []) _ _ (one_tag _ _ refl refl refl) nothing

-- 82 01 05 and 9f 02 01 05
forms-alike : AreAlike (reading plain_framing (130 ∷ 1 ∷ 5 ∷ [])) (reading plain_framing (159 ∷ 2 ∷ 1 ∷ 5 ∷ []))
forms-alike = primitives _ _ (5 ∷ []) _ _ (one_tag _ _ refl refl refl) nothing

-- 9f 1f 00 and 9f 80 1f 00
digits-alike : AreAlike (reading plain_framing (159 ∷ 31 ∷ 0 ∷ [])) (reading plain_framing (159 ∷ 128 ∷ 31 ∷ 0 ∷ []))
digits-alike = primitives _ _ [] _ _ (one_tag _ _ refl refl refl) nothing

-- 30 03 02 01 05 and 30 80 02 01 05 00 00
lengths_of_both-alike : AreAlike (reading plain_framing (48 ∷ 3 ∷ 2 ∷ 1 ∷ 5 ∷ []))
    (reading plain_framing (48 ∷ 128 ∷ 2 ∷ 1 ∷ 5 ∷ 0 ∷ 0 ∷ []))
lengths_of_both-alike =
    holders _ _ _ _ _ _ (one_tag _ _ refl refl refl)
    (primitives _ _ (5 ∷ []) _ _ (one_tag _ _ refl refl refl) nothing) nothing

-- 04 02 05 00 and 04 81 02 05 00, read as encodings
wrapper_offsets-alike : AreAlike (reading (framing_of (0 ∷ []) false) (4 ∷ 2 ∷ 5 ∷ 0 ∷ []))
    (reading (framing_of (0 ∷ []) false) (4 ∷ 129 ∷ 2 ∷ 5 ∷ 0 ∷ []))
wrapper_offsets-alike =
    holders _ _ _ _ _ _ (one_tag _ _ refl refl refl) (primitives _ _ [] _ _ (one_tag _ _ refl refl refl) nothing)
    nothing

-- 05 00 00 00 and 05 81 00 00 00, each with two octets of padding
padded-alike : AreAlike (reading padding_framing (5 ∷ 0 ∷ 0 ∷ 0 ∷ []))
    (reading padding_framing (5 ∷ 129 ∷ 0 ∷ 0 ∷ 0 ∷ []))
padded-alike = primitives _ _ [] _ _ (one_tag _ _ refl refl refl) (padding _ _ (padding _ _ nothing))
