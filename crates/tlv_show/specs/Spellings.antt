-- Encodings by DER and by CER have one spelling: X.690 8.1.2, 9.1 and 10.1.
use Rattle.std.specs.Prelude.{◌≡◌, ◌≢◌, ◌↔◌, ℕ, ◌^◌, ◌≤◌, Bool, true, false, List, length}
use Rattle.std.specs.List.{list_any}
use Rattle.tlv_head.specs.Header.{HeaderValue, IsHeader, identifier_octet}
use Rattle.tlv_head.specs.ShortestHeaders.{HasShorter}
use Rattle.tlv_value.specs.declared.finding.Finding.{Finding}
use Rattle.tlv_value.specs.declared.finding.Finding.TheVariants.{B01, B02, S01, D01, C01}
use Rattle.tlv_walk.specs.declared.ending.Ending.TheVariants.{Done}
use Rattle.tlv_walk.specs.declared.framing.Framing.{Framing}
use Rattle.tlv_walk.specs.AlikeElements.{AreAlike, HaveNoUniversalZero}
use Rattle.tlv_walk.specs.Ending.{IsEnding}
use Rattle.tlv_walk.specs.Forest.{Forest}
use Rattle.tlv_walk.specs.Inside.{are_rising}
use Rattle.tlv_walk.specs.Reading.{IsReading}
use Rattle.tlv_walk.specs.Wrappers.{wrapper_offsets}
use Rattle.tlv_show.specs.declared.rules.Rules.{Rules}
use Rattle.tlv_show.specs.declared.rules.Rules.TheVariants.{Ber}
use Rattle.tlv_show.specs.ListedFindings.{listed_findings}
use Rattle.tlv_show.specs.Items.{Item, FindingAt, items}
use Rattle.tlv_show.specs.Site.{Site, top_site}

-- a finding on how a tag number or a length is spelled
abbrev pub is_on_spelling : Finding → Bool
is_on_spelling B01 = true
is_on_spelling B02 = true
is_on_spelling S01 = true
is_on_spelling D01 = true
is_on_spelling C01 = true
is_on_spelling finding = false

abbrev pub is_item_on_spelling : Item → Bool
is_item_on_spelling (FindingAt level offset finding) = is_on_spelling finding
is_item_on_spelling _ = false

-- such a finding is among the findings of the elements
abbrev pub is_misspelled : Rules → Forest → Bool
is_misspelled rules f = list_any is_item_on_spelling (items (listed_findings rules) top_site f)

-- an input that is sound, with its reading, in which there is no such finding
pub record IsWellSpelled (rules : Rules) (framing : Framing) (b : List ℕ) (f : Forest) : Type 0 where
  pub is_done : IsEnding framing b Done
  pub is_reading : IsReading framing b f
  pub none : is_misspelled rules f ≡ false

-- by DER and by CER, two such inputs with elements alike are equal; each is read with the strings that are named in it
abbrev pub OneSpelling : Type 0
OneSpelling =
    (rules : Rules) (framing other : Framing) (b c : List ℕ) (f g : Forest) → rules ≢ Ber
    → IsWellSpelled rules framing b f → IsWellSpelled rules other c g → AreAlike f g → b ≡ c

-- by DER and by CER, the elements of a sound input have such a spelling, if none is the universal primitive 0, and
-- the input has at most 2^38 octets, so that lengths stay below 2^40. In it the wrappers are
-- named, and no others. A user may name their offsets: they rise, and are no more than in the input
abbrev pub SomeSpelling : Type 0
SomeSpelling =
    (rules : Rules) (framing : Framing) (b : List ℕ) (f : Forest) → rules ≢ Ber → length b ≤ 2 ^ 38
    → IsEnding framing b Done → IsReading framing b f → HaveNoUniversalZero f
    → (c : List ℕ) × (g : Forest)
    × IsWellSpelled rules (record { inside = wrapper_offsets g; padding = framing.padding }) c g
    × AreAlike f g
    × (are_rising 0 (wrapper_offsets g) ≡ true)
    × (are_rising 0 framing.inside ≡ true → length (wrapper_offsets g) ≤ length framing.inside)

-- a finding on the number of identifier octets, and one on the number of length octets
abbrev pub is_on_identifier : Finding → Bool
is_on_identifier B01 = true
is_on_identifier B02 = true
is_on_identifier finding = false

abbrev pub is_on_lengths : Finding → Bool
is_on_lengths S01 = true
is_on_lengths finding = false

-- B01 or B02 is found if and only if fewer identifier octets say the same. The universal primitive 0 alone has no low
-- form
abbrev pub LongerIdentifiersAreFound : Type 0
LongerIdentifiersAreFound =
    (rules : Rules) (s : Site) (h : HeaderValue)
    → IsHeader h → identifier_octet h.class h.constructed h.number ≢ 0
    → (list_any is_on_identifier ((listed_findings rules).of_header s h) ≡ true)
    ↔ HasShorter (λ k. k.identifier_octets) h

-- by DER and by CER, S01 is found if and only if fewer length octets say the same
abbrev pub LongerLengthsAreFound : Type 0
LongerLengthsAreFound =
    (rules : Rules) (s : Site) (h : HeaderValue) → rules ≢ Ber → IsHeader h
    → (list_any is_on_lengths ((listed_findings rules).of_header s h) ≡ true) ↔ HasShorter (λ k. k.length_octets) h
