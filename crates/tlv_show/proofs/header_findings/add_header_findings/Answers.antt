use Rattle.std.proofs.Common.{◌∙◌, ◌++◌, List, ap, sym}
use Rattle.tlv_value.specs.declared.finding.Finding.{Finding}
use Rattle.tlv_value.specs.Checks.{findings_by}
use Rattle.tlv_show.specs.declared.rules.Rules.{Rules}
use Rattle.tlv_show.specs.KeptConditions.{cer_conditions_in, der_conditions, header_findings_in, length_conditions}
use Rattle.tlv_show.specs.NestingState.{surroundings_in}
use Rattle.tlv_show.specs.Private.UsualTypes.{later_basic_conditions_in}
use Rattle.tlv_show.proofs.FindingLemmas.HeaderFindings.{basic-found, cer-found, der-found}
use Rattle.tlv_show.proofs.header_findings.add_header_findings.Goals as goal

pub returns-in-Ber : goal.returns-in-Ber
returns-in-Ber c =
    let s = surroundings_in c.args.frame.now in
    let h = c.args.header.now in
    let scope = c.args.wanted.scope in
    c.add_later_basic_findings.ensures.items
    ∙ ap (λ (l : List Finding). l ++ findings_by (later_basic_conditions_in scope s h)) c.add_basic_findings.ensures.items
    ∙ sym (basic-found scope s h)
    ∙ ap (λ (r : Rules). header_findings_in (record { rules = r; scope = scope }) s h) (sym c.in-Ber.is)

pub returns-in-Der : goal.returns-in-Der
returns-in-Der c =
    let s = surroundings_in c.args.frame.now in
    let h = c.args.header.now in
    let scope = c.args.wanted.scope in
    c.add_der_findings.ensures
    ∙ ap (λ (l : List Finding). l ++ findings_by (der_conditions h))
    (c.add_length_findings.ensures.items
    ∙ ap (λ (l : List Finding). l ++ findings_by (length_conditions h))
    (c.add_later_basic_findings.ensures.items
    ∙ ap (λ (l : List Finding). l ++ findings_by (later_basic_conditions_in scope s h))
    c.add_basic_findings.ensures.items))
    ∙ sym (der-found scope s h)
    ∙ ap (λ (r : Rules). header_findings_in (record { rules = r; scope = scope }) s h) (sym c.in-Der.is)

pub returns-in-Cer : goal.returns-in-Cer
returns-in-Cer c =
    let s = surroundings_in c.args.frame.now in
    let h = c.args.header.now in
    let scope = c.args.wanted.scope in
    c.add_cer_findings.ensures
    ∙ ap (λ (l : List Finding). l ++ findings_by (cer_conditions_in s h))
    (c.add_length_findings-in-Cer.ensures.items
    ∙ ap (λ (l : List Finding). l ++ findings_by (length_conditions h))
    (c.add_later_basic_findings.ensures.items
    ∙ ap (λ (l : List Finding). l ++ findings_by (later_basic_conditions_in scope s h))
    c.add_basic_findings.ensures.items))
    ∙ sym (cer-found scope s h)
    ∙ ap (λ (r : Rules). header_findings_in (record { rules = r; scope = scope }) s h) (sym c.in-Cer.is)
