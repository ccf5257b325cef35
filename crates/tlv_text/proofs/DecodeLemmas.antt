-- What the decoder of base64 gives, and what it refuses.
use Rattle.std.proofs.Common.{◌≡◌, ℕ, List, ◌++◌, take, drop, refl, ap, sym, ◌∙◌, Result, Ok, Err}
use Rattle.std.proofs.Common.{IfErr, OnOk}
use Rattle.std.proofs.lemmas.List.{take-append-drop}
use Rattle.base64.specs.GeneralPurpose.{IsBytes, IsDecodeFailure, IsStrict, decode_of, encode_of}
use Rattle.base64.specs.declared.decode.DecodeAllocError.{DecodeAllocError}
use Rattle.base64.specs.declared.decode.DecodeAllocError.TheVariants.{DecodeError, OutOfMemory}
use Rattle.base64.proofs.EngineFacts.{decode_of_iff, decode_of_strict}
use Rattle.tlv_text.specs.Base64.{base64_of}
use Rattle.tlv_text.specs.Private.SymbolSteps.{AreAdded, IsFailure}
use Rattle.tlv_text.specs.declared.base64_text.Alphabet.{Alphabet}
use Rattle.tlv_text.specs.declared.base64_text.Alphabet.TheVariants.{Standard, UrlSafe}
use Rattle.tlv_text.proofs.GroupLemmas.{engine_of}

is-strict : (alphabet : Alphabet) → IsStrict (engine_of alphabet)
is-strict Standard = (refl, refl)
is-strict UrlSafe = (refl, refl)

encodes-as : (alphabet : Alphabet) (octets : List ℕ) → base64_of alphabet octets ≡ encode_of (engine_of alphabet) octets
encodes-as Standard octets = refl
encodes-as UrlSafe octets = refl

-- octets come after others, which are so many: those of which the symbols are the base64
octets-added : (alphabet : Alphabet) (symbols old new : List ℕ) (n : ℕ) → IsBytes symbols
    → decode_of (engine_of alphabet) symbols ≡ Ok (drop n new) → take n new ≡ old → IsBytes (drop n new)
    → AreAdded alphabet symbols old new
octets-added alphabet symbols old new n fit ok front bytes = record {
  more = drop n new;
  are_octets = bytes;
  symbols_of = encodes-as alphabet (drop n new)
      ∙ sym (decode_of_strict (engine_of alphabet) symbols (drop n new) (is-strict alphabet) fit ok);
  added = sym (take-append-drop n new) ∙ ap (λ (first : List ℕ). first ++ drop n new) front;
}

failure-is : (alphabet : Alphabet) (symbols : List ℕ) (error : DecodeAllocError) → IsBytes symbols
    → IsDecodeFailure (engine_of alphabet) symbols error → IsFailure alphabet symbols error
failure-is alphabet symbols (DecodeError error) fit failed =
    λ octets bytes is.
    cc (
      failed,
      (decode_of_iff (engine_of alphabet) symbols octets (is-strict alphabet) fit bytes).1
          (sym is ∙ encodes-as alphabet octets),
    )
failure-is alphabet symbols OutOfMemory fit failed = failed

-- the same, if the decoder says so
pub on-added : {T : Type 0} (alphabet : Alphabet) (symbols old new : List ℕ) (n : ℕ) (r : Result T DecodeAllocError)
    → IsBytes symbols → OnOk r (decode_of (engine_of alphabet) symbols ≡ Ok (drop n new)) → OnOk r (take n new ≡ old)
    → OnOk r (IsBytes (drop n new)) → OnOk r (AreAdded alphabet symbols old new)
on-added alphabet symbols old new n (Ok x) fit ok front bytes =
    octets-added alphabet symbols old new n fit ok front bytes
on-added alphabet symbols old new n (Err e) fit ok front bytes = ok

pub on-failure : {T : Type 0} (alphabet : Alphabet) (symbols : List ℕ) (r : Result T DecodeAllocError) → IsBytes symbols
    → IfErr r (IsDecodeFailure (engine_of alphabet) symbols) → IfErr r (IsFailure alphabet symbols)
on-failure alphabet symbols (Ok x) fit failed = failed
on-failure alphabet symbols (Err e) fit failed = failure-is alphabet symbols e fit failed
