-- Whole groups of symbols are the base64 of octets.
use Rattle.std.proofs.Common.{◌≡◌, ℕ, zero, suc, ◌+◌, ◌*◌, ◌/◌, ◌%◌, ◌==◌, ◌<◌, Bool, true, false, not, ◌||◌, nat_lt}
use Rattle.std.proofs.Common.{List, [], ◌∷◌, ◌++◌, length, take, slice_index, refl, ap, sym, ◌∙◌, arith, subst, None}
use Rattle.std.proofs.Common.{Fits, w8}
use Rattle.std.proofs.Math.Seq.{take-length}
use Rattle.std.proofs.lemmas.Bool.{ltb-true, ne_eqb}
use Rattle.std.proofs.lemmas.List.{append-nil}
use Rattle.std.proofs.lemmas.List.Elements.{All-get_or}
use Rattle.base64.specs.Decode.{decode_group, groups_bytes, groups_error}
use Rattle.base64.specs.Engines.{standard_no_pad, url_safe_no_pad}
use Rattle.base64.specs.GeneralPurpose.{IsBytes}
use Rattle.base64.specs.Rfc4648.{encode_symbols}
use Rattle.base64.specs.Tables.{all_below, is_inverse}
use Rattle.base64.specs.declared.engine.general_purpose.GeneralPurpose.{GeneralPurpose}
use Rattle.base64.proofs.Canonical.{take_groups}
use Rattle.base64.proofs.Tables.{all_below_at}
use Rattle.tlv_text.specs.Base64.{base64_of, is_symbol}
use Rattle.tlv_text.specs.Private.SymbolSteps.{AreSymbols, IsOfNone}
use Rattle.tlv_text.specs.declared.base64_text.Alphabet.{Alphabet}
use Rattle.tlv_text.specs.declared.base64_text.Alphabet.TheVariants.{Standard, UrlSafe}

-- ---- octets

pub bytes-append : (a b : List ℕ) → IsBytes a → IsBytes b → IsBytes (a ++ b)
bytes-append [] b ha hb i = hb i
bytes-append (x ∷ a) b ha hb zero = ha 0
bytes-append (x ∷ a) b ha hb (suc i) = bytes-append a b (λ k. ha (suc k)) hb i

pub bytes-nil : IsBytes []
bytes-nil i = omega arith

pub octets-fit : (a : List ℕ) → ((i : ℕ) → Fits w8 (slice_index a i)) → IsBytes a
octets-fit a fits i = below (slice_index a i) (fits i)
  where
    below : (x : ℕ) → Fits w8 x → x < 256
    below x f = omega (arith, f)

-- the octets of a group
group-bytes : (p q r s : ℕ) → p < 64 → q < 64 → r < 64 → s < 64 → IsBytes (decode_group p q r s)
group-bytes p q r s lp lq lr ls zero = omega arith
group-bytes p q r s lp lq lr ls (suc zero) = omega arith
group-bytes p q r s lp lq lr ls (suc (suc zero)) = omega arith
group-bytes p q r s lp lq lr ls (suc (suc (suc i))) = omega arith

-- ---- the value of each symbol

abbrev pub engine_of : Alphabet → GeneralPurpose
engine_of Standard = standard_no_pad
engine_of UrlSafe = url_safe_no_pad

abbrev pub encodes : Alphabet → List ℕ
encodes alphabet = (engine_of alphabet).encode_table

abbrev pub decodes : Alphabet → List ℕ
decodes alphabet = (engine_of alphabet).decode_table

abbrev has_value : Alphabet → ℕ → Bool
has_value alphabet x = not (is_symbol alphabet x) || nat_lt (slice_index (decodes alphabet) x) 64

all-have_values : (alphabet : Alphabet) → all_below (has_value alphabet) 256 ≡ true
all-have_values Standard = refl
all-have_values UrlSafe = refl

are-inverse : (alphabet : Alphabet) → is_inverse (encodes alphabet) (decodes alphabet) ≡ true
are-inverse Standard = refl
are-inverse UrlSafe = refl

symbol-value : (alphabet : Alphabet) (x : ℕ) → x < 256 → is_symbol alphabet x ≡ true
    → slice_index (decodes alphabet) x < 64
symbol-value alphabet x lt e =
    ltb-true (slice_index (decodes alphabet) x) 64
    (rw e at (all_below_at (has_value alphabet) 256 x (all-have_values alphabet) lt))

-- each of the first places has a value
abbrev HaveValues : List ℕ → List ℕ → ℕ → Type 0
HaveValues dec symbols n = (i : ℕ) → i < n → slice_index dec (slice_index symbols i) < 64

symbols-have_values : (alphabet : Alphabet) (symbols : List ℕ) → IsBytes symbols → AreSymbols alphabet symbols
    → HaveValues (decodes alphabet) symbols (length symbols)
symbols-have_values alphabet symbols bytes all i lt =
    symbol-value alphabet (slice_index symbols i) (bytes i)
    (All-get_or (λ x. is_symbol alphabet x ≡ true) symbols i 0 lt all)

-- ---- groups of them

no-symbol_error : (dec symbols : List ℕ) (i : ℕ) → slice_index dec (slice_index symbols i) < 64
    → (slice_index dec (slice_index symbols i) == 255) ≡ false
no-symbol_error dec symbols i lt = ne_eqb (slice_index dec (slice_index symbols i)) 255 (λ e. omega arith)

no-groups_error : (dec symbols : List ℕ) (n : ℕ) → HaveValues dec symbols (4 * n) → groups_error dec symbols n ≡ None
unfolding groups_error
no-groups_error dec symbols zero h = refl
no-groups_error dec symbols (suc n) h =
    rw (
      no-groups_error dec symbols n (λ i lt. h i (omega arith)),
      no-symbol_error dec symbols (4 * n) (h (4 * n) (omega arith)),
      no-symbol_error dec symbols (4 * n + 1) (h (4 * n + 1) (omega arith)),
      no-symbol_error dec symbols (4 * n + 2) (h (4 * n + 2) (omega arith)),
      no-symbol_error dec symbols (4 * n + 3) (h (4 * n + 3) (omega arith)),
    ) refl

groups-bytes : (dec symbols : List ℕ) (n : ℕ) → HaveValues dec symbols (4 * n) → IsBytes (groups_bytes dec symbols n)
unfolding groups_bytes
groups-bytes dec symbols zero h = bytes-nil
groups-bytes dec symbols (suc n) h =
    bytes-append (groups_bytes dec symbols n) _ (groups-bytes dec symbols n (λ i lt. h i (omega arith)))
    (group-bytes _ _ _ _ (h (4 * n) (omega arith)) (h (4 * n + 1) (omega arith)) (h (4 * n + 2) (omega arith))
    (h (4 * n + 3) (omega arith)))

-- base64 without padding
pub plain : (alphabet : Alphabet) (octets : List ℕ)
    → base64_of alphabet octets ≡ encode_symbols (encodes alphabet) octets
plain Standard octets = append-nil (encode_symbols (encodes Standard) octets)
plain UrlSafe octets = append-nil (encode_symbols (encodes UrlSafe) octets)

-- whole groups of symbols are base64
pub groups-decode : (alphabet : Alphabet) (symbols : List ℕ) → IsBytes symbols → AreSymbols alphabet symbols
    → length symbols % 4 ≡ 0 → IsOfNone alphabet symbols → ⊥
groups-decode alphabet symbols bytes all whole none =
    let n : ℕ = length symbols / 4 in
    let size : 4 * n ≡ length symbols = omega (arith, whole) in
    let values : HaveValues (decodes alphabet) symbols (4 * n) =
    subst (HaveValues (decodes alphabet) symbols) (sym size) (symbols-have_values alphabet symbols bytes all) in
    let octets : List ℕ = groups_bytes (decodes alphabet) symbols n in
    none octets (groups-bytes (decodes alphabet) symbols n values) (
    plain alphabet octets
    ∙ sym (take_groups (encodes alphabet) (decodes alphabet) symbols n (are-inverse alphabet) bytes
    (omega (arith, size)) (no-groups_error (decodes alphabet) symbols n values))
    ∙ ap (λ (m : ℕ). take m symbols) size
    ∙ take-length symbols
    )
