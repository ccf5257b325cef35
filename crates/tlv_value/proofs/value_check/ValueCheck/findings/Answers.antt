use Rattle.std.proofs.Common.{◌++◌, ◌∷◌, ◌∙◌, ℕ, Bool, List, ap, ap₂, arith, not, sym}
use Rattle.std.proofs.lemmas.Bool.Decides.{nat_tests}
use Rattle.tlv_value.specs.declared.finding.Finding.{Finding}
use Rattle.tlv_value.specs.declared.finding.Finding.TheVariants.{B21, B23}
use Rattle.tlv_value.specs.Types.{tested_string_types}
use Rattle.tlv_head.specs.Lists.{is_among}
use Rattle.tlv_value.specs.ValueCheckState.{finding_if, ValueCheckState}
use Rattle.tlv_value.proofs.CheckLemmas.KeptFindings.{date-found, iri-found, none-found}
use Rattle.tlv_value.proofs.CheckLemmas.NotedContents.{IsOther}
use Rattle.tlv_value.proofs.value_check.ValueCheck.findings.Goals as goal

pub returns-in-31 : goal.returns-in-31
returns-in-31 c =
    c.add_if-in-31.ensures
    ∙ ap₂ (λ (old : List Finding) (b : Bool). old ++ finding_if (not b) B21) c.new-found.ensures
    c.is_date_or_time.ensures
    ∙ sym (date-found c.args.self.now.number c.args.self.now (grind (arith, nat_tests)))

pub returns-in-35 : goal.returns-in-35
returns-in-35 c =
    c.add_if-in-35.ensures
    ∙ ap₂ (λ (old : List Finding) (b : Bool). old ++ finding_if (not b) B23) c.new-found.ensures c.is_iri.ensures
    ∙ sym (iri-found c.args.self.now.number c.args.self.now (grind (arith, nat_tests)))

pub returns-else-is_tested_string_type : goal.returns-else-is_tested_string_type
returns-else-is_tested_string_type c =
    let n : ℕ = c.args.self.now.number in
    let other : IsOther n = record {
      e1 = grind (arith, nat_tests);
      e2 = grind (arith, nat_tests);
      e3 = grind (arith, nat_tests);
      e5 = grind (arith, nat_tests);
      e6 = grind (arith, nat_tests);
      e9 = grind (arith, nat_tests);
      e10 = grind (arith, nat_tests);
      e13 = grind (arith, nat_tests);
      e23 = grind (arith, nat_tests);
      e24 = grind (arith, nat_tests);
      e28 = grind (arith, nat_tests);
      e30 = grind (arith, nat_tests);
      e31 = grind (arith, nat_tests);
      e32 = grind (arith, nat_tests);
      e33 = grind (arith, nat_tests);
      e35 = grind (arith, nat_tests);
      e36 = grind (arith, nat_tests);
    } in
    c.new-found.ensures
    ∙ sym (none-found n c.args.self.now other
    (ap (λ (s : ValueCheckState). is_among s.number (12 ∷ tested_string_types)) (sym c.self.view_is)
    ∙ sym c.is_tested_string_type.ensures ∙ c.if-is_tested_string_type.false))
