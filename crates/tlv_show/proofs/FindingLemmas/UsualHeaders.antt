-- Nothing is found with the header of a usual element, outside of strings, whose tag has a form as it has to be, and
-- whose length has one too.
use Rattle.std.proofs.Common.{◌≡◌, ◌&&◌, not, Bool, false, List, [], ◌∷◌, ◌++◌, refl, ap, ap₂, ◌∙◌}
use Rattle.tlv_head.specs.Header.{HeaderValue}
use Rattle.tlv_value.specs.declared.finding.Finding.{Finding}
use Rattle.tlv_value.specs.declared.finding.Finding.TheVariants.{B01, B02, B03, B04, B05, B16, B17, B22, B30}
use Rattle.tlv_value.specs.Checks.{findings_by}
use Rattle.tlv_value.specs.Types.{is_a}
use Rattle.tlv_show.specs.declared.holder_frame.HolderFrame.{HolderFrame}
use Rattle.tlv_show.specs.declared.rules.Rules.TheVariants.{Ber, Der, Cer}
use Rattle.tlv_show.specs.declared.scope.Scope.{Scope}
use Rattle.tlv_show.specs.declared.scope.Scope.TheVariants.{Listed, All}
use Rattle.tlv_show.specs.AllConditions.{is_component}
use Rattle.tlv_show.specs.NestingState.{surroundings_in}
use Rattle.tlv_show.specs.KeptConditions.{begins_with_zero_bits, cer_conditions_in, der_conditions}
use Rattle.tlv_show.specs.KeptConditions.{first_basic_conditions_in, header_findings_in, is_high_form_needless}
use Rattle.tlv_show.specs.KeptConditions.{length_conditions, segment_type}
use Rattle.tlv_show.specs.Private.UsualTypes.{IsUsual, later_basic_conditions_in}
use Rattle.tlv_show.proofs.FindingLemmas.HeaderFindings.{basic-found, cer-found, der-found}

none-of_seven : (a b c d e f g : Bool) → a ≡ false → b ≡ false → c ≡ false → d ≡ false → e ≡ false → f ≡ false
    → g ≡ false
    → findings_by ((B01, a) ∷ (B02, b) ∷ (B03, c) ∷ (B04, d) ∷ (B05, e) ∷ (B16, f) ∷ (B17, g) ∷ []) ≡ []
none-of_seven a b c d e f g p q r s t u v = rw (p, q, r, s, t, u, v) refl

none-of_two : (a b : Bool) → a ≡ false → b ≡ false → findings_by ((B22, a) ∷ (B30, b) ∷ []) ≡ []
none-of_two a b p q = rw (p, q) refl

none-later : (scope : Scope) (w : HolderFrame) (h : HeaderValue) → w.has_components ≡ false → IsUsual h
    → findings_by (later_basic_conditions_in scope (surroundings_in w) h) ≡ []
none-later Listed w h free usual = refl
none-later All w h free usual =
    none-of_two _ _ usual.primitive_if_late
    (ap (λ (k : Bool). k && not (is_component (surroundings_in w).in_external h)) free)

module _ (w : HolderFrame) (h : HeaderValue) (outside : w.has_segments ≡ false)
    (free : w.has_components ≡ false) (number : is_high_form_needless h ≡ false)
    (bits : begins_with_zero_bits h ≡ false) (usual : IsUsual h) where
  none-first : findings_by (first_basic_conditions_in (surroundings_in w) h) ≡ []
  none-first =
      none-of_seven _ _ _ _ _ _ _ number bits usual.assigned usual.primitive_if_always usual.constructed_if_always
      (ap (λ (k : Bool). (k && w.is_bit_string) && w.last_has_unused_bits) outside)
      (ap (λ (k : Bool). k && not (is_a (segment_type (surroundings_in w).in_bit_string) h)) outside)

  pub none-by_ber : (scope : Scope)
      → header_findings_in (record { rules = Ber; scope = scope }) (surroundings_in w) h ≡ []
  none-by_ber scope =
      basic-found scope (surroundings_in w) h
      ∙ ap₂ (λ (a b : List Finding). a ++ b) none-first (none-later scope w h free usual)

  both-none : (scope : Scope) (lengths others : List Finding) → lengths ≡ [] → others ≡ []
      → ((findings_by (first_basic_conditions_in (surroundings_in w) h)
      ++ findings_by (later_basic_conditions_in scope (surroundings_in w) h)) ++ lengths) ++ others ≡ []
  both-none scope lengths others e f =
      ap₂ (λ (a b : List Finding). ((a ++ b) ++ lengths) ++ others) none-first (none-later scope w h free usual)
      ∙ ap₂ (λ (a b : List Finding). a ++ b) e f

  pub none-by_der : (scope : Scope) → findings_by (length_conditions h) ≡ [] → findings_by (der_conditions h) ≡ []
      → header_findings_in (record { rules = Der; scope = scope }) (surroundings_in w) h ≡ []
  none-by_der scope e f = der-found scope (surroundings_in w) h ∙ both-none scope _ _ e f

  pub none-by_cer : (scope : Scope) → findings_by (length_conditions h) ≡ []
      → findings_by (cer_conditions_in (surroundings_in w) h) ≡ []
      → header_findings_in (record { rules = Cer; scope = scope }) (surroundings_in w) h ≡ []
  none-by_cer scope e f = cer-found scope (surroundings_in w) h ∙ both-none scope _ _ e f
