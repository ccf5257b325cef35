-- Strings on whose contents nothing is found, each octet of which their types allow.
use Rattle.std.proofs.Common.{◌≡◌, ℕ, ◌%◌, true, false, not, List, [], ◌∷◌, length, refl, ap, ◌∙◌}
use Rattle.std.specs.List.{list_all}
use Rattle.std.specs.Str.{is_utf8}
use Rattle.tlv_value.specs.Characters.{allows_octet, has_wrong_unit}
use Rattle.tlv_value.specs.AllChecks.{type_findings}
use Rattle.tlv_value.specs.UnitsSoFar.{are_characters_after}
use Rattle.tlv_value.proofs.CheckLemmas.UnitsNoted.{fours-same, not-not, twos-same}

-- a type that allows each octet allows all
pub all-allowed : (number : ℕ) → ((x : ℕ) → allows_octet number x ≡ true) → (octets : List ℕ)
    → list_all (allows_octet number) octets ≡ true
all-allowed number e [] = refl
all-allowed number e (x ∷ xs) = rw (e x) (all-allowed number e xs)

pub utf8-clear : (octets : List ℕ) → is_utf8 octets ≡ true → type_findings 12 octets ≡ []
utf8-clear octets e = rw e refl

-- what is kept of the units is what is said of all of them
pub fours-kept : (octets : List ℕ) → has_wrong_unit 28 octets ≡ not (are_characters_after 4 [] octets)
fours-kept octets = not-not (are_characters_after 4 [] octets) (has_wrong_unit 28 octets) (fours-same octets)

pub twos-kept : (octets : List ℕ) → has_wrong_unit 30 octets ≡ not (are_characters_after 2 [] octets)
twos-kept octets = not-not (are_characters_after 2 [] octets) (has_wrong_unit 30 octets) (twos-same octets)

pub fours-clear : (octets : List ℕ) → length octets % 4 ≡ 0 → are_characters_after 4 [] octets ≡ true
    → type_findings 28 octets ≡ []
fours-clear octets e f =
    let units : has_wrong_unit 28 octets ≡ false = fours-kept octets ∙ ap not f in rw (e, units) refl

pub twos-clear : (octets : List ℕ) → length octets % 2 ≡ 0 → are_characters_after 2 [] octets ≡ true
    → type_findings 30 octets ≡ []
twos-clear octets e f =
    let units : has_wrong_unit 30 octets ≡ false = twos-kept octets ∙ ap not f in rw (e, units) refl
