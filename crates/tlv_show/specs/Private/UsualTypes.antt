-- What is checked of the type of an element before anything else, and what is looked for in one scope alone.
use Rattle.std.specs.Prelude.{◌≡◌, Bool, false, List, []}
use Rattle.tlv_head.specs.Header.{HeaderValue}
use Rattle.tlv_value.specs.Types.{has_segments, is_unassigned}
use Rattle.tlv_show.specs.AllConditions.{has_components, is_constructed_time_or_iri}
use Rattle.tlv_show.specs.KeptConditions.{Surroundings, is_wrongly_constructed, is_wrongly_primitive}
use Rattle.tlv_show.specs.KeptConditions.{second_basic_conditions_in}
use Rattle.tlv_value.specs.declared.finding.Finding.{Finding}
use Rattle.tlv_show.specs.declared.scope.Scope.{Scope}
use Rattle.tlv_show.specs.declared.scope.Scope.TheVariants.{Listed, All}

-- the element has a universal type that can have its form, is no constructed string, and is not of a type with
-- components; or its class is not universal
pub record IsUsual (h : HeaderValue) : Type 0 where
  pub assigned : is_unassigned h ≡ false
  pub primitive_if_always : is_wrongly_constructed h ≡ false
  pub constructed_if_always : is_wrongly_primitive h ≡ false
  pub primitive_if_late : is_constructed_time_or_iri h ≡ false
  pub no_segments : has_segments h ≡ false
  pub no_components : has_components h ≡ false

-- the later conditions of all encodings, if the scope has their findings
abbrev pub later_basic_conditions_in : Scope → Surroundings → HeaderValue → List (Finding × Bool)
later_basic_conditions_in Listed s h = []
later_basic_conditions_in All s h = second_basic_conditions_in s h
