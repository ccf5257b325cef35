-- Texts that are hexadecimal or base64 and have nothing else: no form before it counts.
use Rattle.std.proofs.Common.{◌≡◌, ⊎_elim, ℕ, ◌<◌, ◌≤◌, List, length, None, refl, sym, ap, ◌∙◌, arith, true}
use Rattle.base64.specs.Rfc4648.{unpadded_len}
use Rattle.tlv_text.specs.Base64.{ReadsBase64}
use Rattle.tlv_text.specs.Blocks.{HasNoLoneBase64, HasNoLoneHex, IsBase64Alone, IsHexAlone, only_block}
use Rattle.tlv_text.specs.Dump.{dump_read, text_limit}
use Rattle.tlv_text.proofs.BlockLemmas.{one-fits, one-too_long}
use Rattle.tlv_text.specs.TextRead.{refused_with}
use Rattle.tlv_text.specs.Pem.{HasNoBlock}
use Rattle.tlv_text.specs.Plain.{IsLonePairs, IsPlainBase64, are_lines_of_digits, are_lone_pairs}
use Rattle.tlv_text.specs.Separated.{are_separated}
use Rattle.tlv_text.specs.declared.base64_text.Alphabet.TheVariants.{Standard}
use Rattle.tlv_text.specs.declared.block.BlockState.TheVariants.{Whole}
use Rattle.tlv_text.proofs.BlockLemmas.{base64-found, hex-of_pairs}
use Rattle.tlv_text.proofs.PairReadLemmas.{either-of}
use Rattle.tlv_text.proofs.PlainLemmas.{digits-plain, is-standard, plain-no_block, plain-no_list, plain-no_row}
use Rattle.tlv_text.proofs.SeparatedLemmas.{no-block, no-row}
use Rattle.tlv_text.proofs.TextLemmas.{base64-length}

-- ---- hexadecimal

lone-no_block : (text : List ℕ) → are_lone_pairs text ≡ true → HasNoBlock text
lone-no_block text e =
    ⊎_elim (λ (separated : are_separated text ≡ true). no-block text separated)
    (λ (digits : are_lines_of_digits text ≡ true). plain-no_block text (digits-plain text digits))
    (either-of (are_separated text) (are_lines_of_digits text) e)

lone-no_row : (text : List ℕ) → are_lone_pairs text ≡ true → dump_read text ≡ refused_with 0
lone-no_row text e =
    ⊎_elim (λ (separated : are_separated text ≡ true). no-row text separated)
    (λ (digits : are_lines_of_digits text ≡ true). plain-no_row text (digits-plain text digits))
    (either-of (are_separated text) (are_lines_of_digits text) e)

pub hex-alone : (text octets : List ℕ) → IsLonePairs text octets → length octets ≤ text_limit text
    → IsHexAlone text (only_block octets Whole)
hex-alone text octets s short =
    let same = hex-of_pairs text None (rw s.read refl) refl in
    record {
      no_pem = lone-no_block text s.lone;
      no_row = lone-no_row text s.lone;
      hex = rw (same, s.read) refl;
      fits = one-fits text octets short;
    }

-- a block that is too long
pub hex-too_long : (text octets : List ℕ) → IsLonePairs text octets → text_limit text < length octets
    → HasNoLoneHex text
hex-too_long text octets s long = λ are whole.
    let same = hex-of_pairs text None (rw s.read refl) refl in
    rw (same, s.read) (one-too_long text octets long)

-- ---- base64

pub base64-alone : (text octets : List ℕ) → IsPlainBase64 text octets → length octets ≤ text_limit text
    → IsBase64Alone text (only_block octets Whole)
base64-alone text octets s short = record {
  no_pem = plain-no_block text s.plain;
  no_row = plain-no_row text s.plain;
  no_list = plain-no_list text s.plain;
  base64 = base64-found text Standard octets None _ (is-standard text s.plain) (ReadsBase64.whole s.base64) refl;
  whole = refl;
  fits = one-fits text octets short;
}

-- a text is the base64 of octets of one length
pub base64-too_long : (text octets : List ℕ) → IsPlainBase64 text octets → text_limit text < length octets
    → HasNoLoneBase64 text
base64-too_long text octets s long = λ plain others is.
    let size : unpadded_len (length others) ≡ unpadded_len (length octets) =
    sym (base64-length Standard others)
    ∙ ap (λ (t : List ℕ). length t) (is.symbols ∙ sym s.base64.symbols)
    ∙ base64-length Standard octets in
    one-too_long text others (omega (arith, size, long))
