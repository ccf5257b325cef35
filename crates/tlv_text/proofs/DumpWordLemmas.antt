-- Words of a row whose octets are in reverse.
use Rattle.std.proofs.Common.{◌≡◌, ℕ, zero, suc, ◌<◌, ◌≤◌, ◌/◌, ◌==◌, false, List, length, take, refl, ◌∙◌, arith, Ok, inl, inr}
use Rattle.std.proofs.Common.{length-take}
use Rattle.std.specs.Prelude.{get_or}
use Rattle.std.proofs.lemmas.Bool.{and_right, cases_lt}
use Rattle.hex.specs.Hex.{decode_sized}
use Rattle.hex.proofs.HexLemmas.{decode_sized-twice}
use Rattle.tlv_text.specs.DumpWords.{place_in_word, show_words, shown_octet}
use Rattle.tlv_text.specs.Private.PairSteps.{AreWholePairs, pair_octets}
use Rattle.tlv_text.proofs.PairLemmas.{whole-decoded}

-- a character is another than that of its octet
pub words-differ : (size : ℕ) (octets text : List ℕ) (at n : ℕ) → at < n
    → (get_or text at 0 == shown_octet (get_or octets (place_in_word size at) 0)) ≡ false
    → show_words size octets text n ≡ false
words-differ size octets text at zero less e = absurd (omega arith)
words-differ size octets text at (suc n) less e =
    elim (cases_lt at n) [
      | inl before ↦ rw (words-differ size octets text at n before e) refl
      | inr after ↦
          let same : at ≡ n = omega arith in
          and_right (show_words size octets text n) _ (rw same at e)
    ]

-- pairs are decoded into the first places of a room
pub room-decoded : (digits room : List ℕ) → AreWholePairs digits → length digits ≤ 512 → length room ≡ 256
    → decode_sized digits (length (take (length digits / 2) room)) ≡ Ok (pair_octets digits)
room-decoded digits room p few size =
    decode_sized-twice digits _ (omega (arith, p.even, length-take (length digits / 2) room)) ∙ whole-decoded digits p
