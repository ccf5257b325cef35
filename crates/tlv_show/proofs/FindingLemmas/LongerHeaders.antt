-- Findings on the number of identifier and length octets come exactly if fewer octets say the same.
use Rattle.std.proofs.Common.{◌≡◌, ◌≢◌, ℕ, ◌%◌, ◌==◌, ◌<◌, ◌≤◌, ◌&&◌, ◌||◌, nat_lt, Bool, true, false, inl, inr, length}
use Rattle.std.proofs.Common.{refl, sym, ap, ◌∙◌, arith, slice_index}
use Rattle.std.proofs.lemmas.Bool.{cases_lt, or_from, or_parts, true≢false}
use Rattle.std.proofs.lemmas.Bool.Decides.{nat_tests}
use Rattle.std.proofs.Math.Bool.{and-false, or-false}
use Rattle.std.specs.List.{list_any}
use Rattle.tlv_head.specs.Header.{HeaderValue, IsHeader, announced_length}
use Rattle.tlv_head.specs.ShortestHeaders.{IsShortestIdentifier, IsShortestLength}
use Rattle.tlv_head.proofs.ShortestLemmas.OneShortest.{identifier-from, lengths-from}
use Rattle.tlv_head.proofs.ShortestLemmas.ShortestSpelling.{no-shorter_identifier, no-shorter_length}
use Rattle.tlv_head.proofs.ShortestLemmas.ShortestSpelling.{shorter-identifier, shorter-length}
use Rattle.tlv_show.specs.declared.rules.Rules.{Rules}
use Rattle.tlv_show.specs.declared.rules.Rules.TheVariants.{Ber, Der, Cer}
use Rattle.tlv_show.specs.KeptConditions.{begins_with_zero_bits, has_long_form, is_high_form_needless, is_length_padded}
use Rattle.tlv_show.specs.Conditions.{has_high_form, listed_header_conditions}
use Rattle.tlv_show.specs.ListedFindings.{listed_findings}
use Rattle.tlv_show.specs.Site.{Site}
use Rattle.tlv_show.specs.Spellings.{LongerIdentifiersAreFound, LongerLengthsAreFound, is_on_identifier, is_on_lengths}
use Rattle.tlv_show.proofs.FindingLemmas.FindingsOfHeaders.{any_of, found-with_header}
use Rattle.tlv_show.proofs.FindingLemmas.Spellings.{high-form, long-form}

at-least : (n least : ℕ) → (n < least → ⊥) → least ≤ n
at-least n least none = elim (cases_lt n least) [
  | inl less ↦ absurd (none less)
  | inr le ↦ le
]

from-absurd : (b : Bool) → (b ≡ false → ⊥) → b ≡ true
from-absurd true none = refl
from-absurd false none = absurd (none refl)

-- ---- identifier octets

abbrev pub longer_identifier : HeaderValue → Bool
longer_identifier h = is_high_form_needless h || begins_with_zero_bits h

on-identifier : (rules : Rules) (s : Site) (h : HeaderValue)
    → any_of is_on_identifier rules (listed_header_conditions s h) ≡ longer_identifier h
on-identifier Ber s h =
    ap (λ (b : Bool). is_high_form_needless h || b) (or-false (begins_with_zero_bits h))
on-identifier Der s h =
    ap (λ (b : Bool). is_high_form_needless h || b) (or-false (begins_with_zero_bits h))
on-identifier Cer s h =
    ap (λ (b : Bool). is_high_form_needless h || b) (or-false (begins_with_zero_bits h))

-- an identifier as short as it can be has none of them
pub longer_identifier-absent : (h : HeaderValue) → IsShortestIdentifier h.number h.identifier_octets
    → longer_identifier h ≡ false
longer_identifier-absent h s = elim (cases_lt 1 (length h.identifier_octets)) [
  | inl more ↦
      let large : 31 ≤ h.number = at-least h.number 31 (λ small. omega (arith, more, s.single small)) in
      let number : nat_lt h.number 31 ≡ false = grind (arith, nat_tests) in
      let nonzero : slice_index h.identifier_octets 1 % 128 ≢ 0 = s.leading more in
      let bits : (slice_index h.identifier_octets 1 % 128 == 0) ≡ false = grind (arith, nat_tests) in
      or_from _ _ (ap (λ (b : Bool). has_high_form h && b) number ∙ and-false (has_high_form h))
      (ap (λ (b : Bool). has_high_form h && b) bits ∙ and-false (has_high_form h))
  | inr le ↦
      let low : has_high_form h ≡ false = grind (arith, nat_tests) in
      or_from _ _ (ap (λ (b : Bool). b && nat_lt h.number 31) low)
      (ap (λ (b : Bool). b && slice_index h.identifier_octets 1 % 128 == 0) low)
]

-- and one that has none is as short as it can be
identifier-shortest : (h : HeaderValue) → IsHeader h → longer_identifier h ≡ false
    → IsShortestIdentifier h.number h.identifier_octets
identifier-shortest h valid e =
    let both : (is_high_form_needless h ≡ false) × (begins_with_zero_bits h ≡ false) =
    or_parts _ _ e in
    identifier-from h valid (high-form h both.0 both.1)

pub identifiers-found : LongerIdentifiersAreFound
identifiers-found rules s h valid nonzero =
    let same : list_any is_on_identifier ((listed_findings rules).of_header s h) ≡ longer_identifier h =
    found-with_header is_on_identifier rules s h ∙ on-identifier rules s h in (
      (λ e. shorter-identifier h valid nonzero (λ t. true≢false (sym e ∙ same ∙ longer_identifier-absent h t))),
      (λ r. same
          ∙ from-absurd (longer_identifier h) (λ e. no-shorter_identifier h valid (identifier-shortest h valid e) r)),
    )

-- ---- length octets

on-lengths : (rules : Rules) (s : Site) (h : HeaderValue) → rules ≢ Ber
    → any_of is_on_lengths rules (listed_header_conditions s h) ≡ is_length_padded h
on-lengths Ber s h strict = absurd (strict refl)
on-lengths Der s h strict = or-false (is_length_padded h)
on-lengths Cer s h strict = or-false (is_length_padded h)

pub length-not_padded : (h : HeaderValue) → IsShortestLength (announced_length h.size) h.length_octets
    → is_length_padded h ≡ false
length-not_padded h s = elim (cases_lt 1 (length h.length_octets)) [
  | inl more ↦
      let large : 128 ≤ announced_length h.size =
      at-least (announced_length h.size) 128 (λ small. omega (arith, more, s.single small)) in
      let number : nat_lt (announced_length h.size) 128 ≡ false = grind (arith, nat_tests) in
      let nonzero : slice_index h.length_octets 1 ≢ 0 = s.leading more in
      let first : (slice_index h.length_octets 1 == 0) ≡ false = grind (arith, nat_tests) in
      ap (λ (b : Bool). has_long_form h && b) (or_from _ _ number first) ∙ and-false (has_long_form h)
  | inr le ↦
      let short : has_long_form h ≡ false = grind (arith, nat_tests) in
      ap (λ (b : Bool). b && (nat_lt (announced_length h.size) 128 || slice_index h.length_octets 1 == 0)) short
]

pub lengths-found : LongerLengthsAreFound
lengths-found rules s h strict valid =
    let same : list_any is_on_lengths ((listed_findings rules).of_header s h) ≡ is_length_padded h =
    found-with_header is_on_lengths rules s h ∙ on-lengths rules s h strict in (
      (λ e. shorter-length h valid (λ t. true≢false (sym e ∙ same ∙ length-not_padded h t))),
      (λ r. same
          ∙ from-absurd (is_length_padded h) (λ e. no-shorter_length h valid (lengths-from h valid (long-form h e)) r)),
    )
