-- What is noted of each contents octet, type by type. Of most types it is nothing.
use Rattle.std.specs.Str.{is_utf8}
use Rattle.std.proofs.Math.Bool.{and-true}
use Rattle.std.proofs.Common.{◌≡◌, ℕ, true, false, List, refl, arith}
use Rattle.std.specs.List.{list_all}
use Rattle.std.specs.Prelude.{◌&&◌, ◌||◌, eqb}
use Rattle.std.proofs.lemmas.Bool.Decides.{nat_tests}
use Rattle.tlv_head.specs.declared.type_table.Rule.TheVariants as rules
use Rattle.tlv_value.specs.Types.{has_rule}
use Rattle.tlv_value.specs.ValueCheckState.{is_padded_after, last_octet_after, notes_each, ValueCheckState}
use Rattle.tlv_value.specs.ValueCheckState.{with_each_noted}
use Rattle.tlv_head.specs.declared.kind.Kind.TheVariants.{Utf8}
use Rattle.tlv_value.specs.RowsSoFar.{full_rows, open_row}
use Rattle.tlv_value.proofs.CheckLemmas.Noting.{all-other}
use Rattle.tlv_value.specs.Characters.{allows_octet}

pub nothing-noted : (s : ValueCheckState) (octets : List ℕ) → notes_each s.number ≡ false
    → record (with_each_noted s octets) { last = s.last } ≡ s
nothing-noted s octets none =
    let all : list_all (allows_octet s.number) octets ≡ true =
    all-other s.number octets (λ e. grind (arith, nat_tests, e, none)) (λ e. grind (arith, nat_tests, e, none))
    (λ e. grind (arith, nat_tests, e, none)) (λ e. grind (arith, nat_tests, e, none)) in
    let object : has_rule rules.Subidentifiers s.number ≡ false = grind (arith, nat_tests) in
    let text : eqb s.number 12 ≡ false = grind (arith, nat_tests) in
    rw (all, object, text, and-true s.are_octets_allowed) refl

-- an object identifier
pub object-noted : (s : ValueCheckState) (octets : List ℕ) → has_rule rules.Subidentifiers s.number ≡ true
    → record s { is_padded = s.is_padded || is_padded_after s.last octets; last = last_octet_after s.last octets }
    ≡ with_each_noted s octets
object-noted s octets object =
    let all : list_all (allows_octet s.number) octets ≡ true =
    all-other s.number octets (λ e. grind (arith, nat_tests, e, object)) (λ e. grind (arith, nat_tests, e, object))
    (λ e. grind (arith, nat_tests, e, object)) (λ e. grind (arith, nat_tests, e, object)) in
    let text : eqb s.number 12 ≡ false = grind (arith, nat_tests) in
    rw (all, object, text, and-true s.are_octets_allowed) refl

-- a UTF8String
pub text-noted : (s : ValueCheckState) (octets : List ℕ) → s.number ≡ 12
    → record s {
      are_full_rows_utf8 =
          s.are_full_rows_utf8 && list_all is_utf8 (full_rows Utf8 s.row octets);
      row =
          open_row Utf8 s.row octets;
      last = last_octet_after s.last octets;
    }
    ≡ with_each_noted s octets
text-noted s octets is_text =
    let all : list_all (allows_octet s.number) octets ≡ true =
    all-other s.number octets (λ e. grind (arith, nat_tests, e, is_text)) (λ e. grind (arith, nat_tests, e, is_text))
    (λ e. grind (arith, nat_tests, e, is_text)) (λ e. grind (arith, nat_tests, e, is_text)) in
    let object : has_rule rules.Subidentifiers s.number ≡ false = grind (arith, nat_tests) in
    let text : eqb s.number 12 ≡ true = grind (arith, nat_tests) in
    rw (all, object, text, and-true s.are_octets_allowed) refl

-- a string with a test of each octet
pub characters-noted : (s : ValueCheckState) (octets : List ℕ) → has_rule rules.Subidentifiers s.number ≡ false
    → eqb s.number 12 ≡ false
    → record s {
      are_octets_allowed = s.are_octets_allowed && list_all (allows_octet s.number) octets;
      last = last_octet_after s.last octets;
    }
    ≡ with_each_noted s octets
characters-noted s octets object text = rw (object, text) refl
