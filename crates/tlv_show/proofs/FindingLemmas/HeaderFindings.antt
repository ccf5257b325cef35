-- What is found with a header and with an end, by a frame, is what their conditions say.
use Rattle.std.proofs.Common.{◌≡◌, ℕ, ◌+◌, ◌≤◌, ◌&&◌, Bool, true, false, nat_le, min, if◌then◌else◌, List, [], ◌∷◌}
use Rattle.std.proofs.Common.{◌++◌, refl, ap, ◌∙◌, arith}
use Rattle.std.proofs.lemmas.Bool.Decides.{nat_tests}
use Rattle.std.proofs.lemmas.Grind.{flat_map-append}
use Rattle.tlv_head.specs.Header.{HeaderValue}
use Rattle.tlv_value.specs.declared.finding.Finding.{Finding}
use Rattle.tlv_value.specs.declared.finding.Finding.TheVariants.{B27, C05, C06}
use Rattle.tlv_value.specs.Checks.{findings_by}
use Rattle.tlv_show.specs.declared.holder_frame.HolderFrame.{HolderFrame}
use Rattle.tlv_show.specs.declared.wanted.Wanted.{Wanted}
use Rattle.tlv_show.specs.declared.rules.Rules.TheVariants.{Ber, Der, Cer}
use Rattle.tlv_show.specs.Conditions.{is_not_full, leaves_unused_bits}
use Rattle.tlv_show.specs.KeptConditions.{Surroundings, cer_conditions_in, der_conditions, first_basic_conditions_in}
use Rattle.tlv_show.specs.KeptConditions.{header_conditions_in, header_findings_in, length_conditions}
use Rattle.tlv_show.specs.NestingState.{bits_octet_count, surroundings_in}
use Rattle.tlv_show.specs.ShownFindings.{all_by, header_findings, is_shown, listed_by, shown_findings}
use Rattle.tlv_show.specs.declared.scope.Scope.{Scope}
use Rattle.tlv_show.specs.declared.scope.Scope.TheVariants.{Listed, All}
use Rattle.tlv_show.specs.Private.UsualTypes.{later_basic_conditions_in}
use Rattle.tlv_show.specs.AllConditions.{in_components, in_external}
use Rattle.tlv_show.specs.Site.{Site, in_bit_string, in_string}
use Rattle.tlv_value.proofs.CheckLemmas.ListedRows.{kept-found, kept_rows}

-- what would be kept of what is around an element, by its site
abbrev surroundings_of : Site → Surroundings
surroundings_of s = record {
  in_string = in_string s;
  in_bit_string = in_bit_string s;
  after_unused_bits = in_bit_string s && leaves_unused_bits s.previous;
  after_not_full = in_string s && is_not_full s.previous;
  in_components = in_components s;
  in_external = in_external s;
}

-- a frame says to the conditions what the site says
abbrev pub Knows : HolderFrame → Site → Type 0
Knows w s = surroundings_in w ≡ surroundings_of s

-- ---- what the rules show

-- what is found by conditions, of which the rules show some
by-shown : (wanted : Wanted) (rows : List (Finding × Bool))
    → shown_findings wanted rows ≡ findings_by (kept_rows (is_shown wanted) rows)
by-shown wanted rows = kept-found (is_shown wanted) rows

-- ---- with a header: list by list

found-more : (xs ys : List (Finding × Bool)) → findings_by (xs ++ ys) ≡ findings_by xs ++ findings_by ys
found-more xs ys = flat_map-append (λ row. if row.1 then row.0 ∷ [] else []) xs ys

found-both : (scope : Scope) (s : Surroundings) (h : HeaderValue) (rows : List (Finding × Bool))
    → findings_by ((first_basic_conditions_in s h ++ later_basic_conditions_in scope s h) ++ rows)
    ≡ (findings_by (first_basic_conditions_in s h) ++ findings_by (later_basic_conditions_in scope s h))
    ++ findings_by rows
found-both scope s h rows =
    found-more (first_basic_conditions_in s h ++ later_basic_conditions_in scope s h) rows
    ∙ ap (λ (l : List Finding). l ++ findings_by rows)
    (found-more (first_basic_conditions_in s h) (later_basic_conditions_in scope s h))

found-three : (scope : Scope) (s : Surroundings) (h : HeaderValue) (rows more : List (Finding × Bool))
    → findings_by (((first_basic_conditions_in s h ++ later_basic_conditions_in scope s h) ++ rows) ++ more)
    ≡ ((findings_by (first_basic_conditions_in s h) ++ findings_by (later_basic_conditions_in scope s h))
    ++ findings_by rows) ++ findings_by more
found-three scope s h rows more =
    found-more ((first_basic_conditions_in s h ++ later_basic_conditions_in scope s h) ++ rows) more
    ∙ ap (λ (l : List Finding). l ++ findings_by more) (found-both scope s h rows)

pub basic-found : (scope : Scope) (s : Surroundings) (h : HeaderValue)
    → header_findings_in (record { rules = Ber; scope = scope }) s h
    ≡ findings_by (first_basic_conditions_in s h) ++ findings_by (later_basic_conditions_in scope s h)
basic-found Listed s h =
    by-shown (listed_by Ber) (header_conditions_in s h)
    ∙ found-more (first_basic_conditions_in s h) (later_basic_conditions_in Listed s h)
basic-found All s h =
    by-shown (all_by Ber) (header_conditions_in s h)
    ∙ found-more (first_basic_conditions_in s h) (later_basic_conditions_in All s h)

pub der-found : (scope : Scope) (s : Surroundings) (h : HeaderValue)
    → header_findings_in (record { rules = Der; scope = scope }) s h
    ≡ ((findings_by (first_basic_conditions_in s h) ++ findings_by (later_basic_conditions_in scope s h))
    ++ findings_by (length_conditions h)) ++ findings_by (der_conditions h)
der-found Listed s h =
    by-shown (listed_by Der) (header_conditions_in s h)
    ∙ found-three Listed s h (length_conditions h) (der_conditions h)
der-found All s h =
    by-shown (all_by Der) (header_conditions_in s h)
    ∙ found-three All s h (length_conditions h) (der_conditions h)

pub cer-found : (scope : Scope) (s : Surroundings) (h : HeaderValue)
    → header_findings_in (record { rules = Cer; scope = scope }) s h
    ≡ ((findings_by (first_basic_conditions_in s h) ++ findings_by (later_basic_conditions_in scope s h))
    ++ findings_by (length_conditions h)) ++ findings_by (cer_conditions_in s h)
cer-found Listed s h =
    by-shown (listed_by Cer) (header_conditions_in s h)
    ∙ found-three Listed s h (length_conditions h) (cer_conditions_in s h)
cer-found All s h =
    by-shown (all_by Cer) (header_conditions_in s h)
    ∙ found-three All s h (length_conditions h) (cer_conditions_in s h)

pub header-same : (wanted : Wanted) (w : HolderFrame) (s : Site) (h : HeaderValue) → Knows w s
    → header_findings_in wanted (surroundings_in w) h ≡ header_findings wanted s h
header-same wanted w s h k = ap (λ (t : Surroundings). header_findings_in wanted t h) k

-- ---- with an end

sum-capped : (b x : ℕ) → b ≤ 1 → nat_le (b + min x 1001) 1000 ≡ nat_le (b + x) 1000
sum-capped b x h = grind (arith, nat_tests)

bits_octet_count-within : (b : Bool) → bits_octet_count b ≤ 1
bits_octet_count-within true = omega arith
bits_octet_count-within false = omega arith

-- by what is asked: whether components are lacking, whether segments are held, whether all are primitive and so few,
-- and whether the last is empty
abbrev pub ends_by : Wanted → Bool → Bool → Bool → Bool → Bool → List Finding
ends_by wanted lacks k all few empty =
    shown_findings wanted ((B27, lacks) ∷ (C05, k && all && few) ∷ (C06, k && empty) ∷ [])

-- b: of a BIT STRING
pub end-by : (wanted : Wanted) (lacks k b all empty : Bool) (sum : ℕ → ℕ)
    → ends_by wanted lacks k all
    (nat_le (bits_octet_count (k && b) + min (sum (bits_octet_count (k && b))) 1001) 1000) empty
    ≡ ends_by wanted lacks k all (nat_le (bits_octet_count b + sum (bits_octet_count b)) 1000) empty
end-by wanted lacks false b all empty sum = refl
end-by wanted lacks true b all empty sum =
    let n = bits_octet_count b in
    ap (λ (t : Bool). ends_by wanted lacks true all t empty) (sum-capped n (sum n) (bits_octet_count-within b))
