use Rattle.std.proofs.Common.{◌≡◌, take, sym, ◌∙◌, ap}
use Rattle.tlv_value.specs.Names.{without_outer_blanks}
use Rattle.tlv_value.specs.Private.NamesSteps.{entry_or_refusal}
use Rattle.tlv_value.proofs.NamesLemmas.DottedTexts.{IsUtf8-from_dotted}
use Rattle.tlv_value.proofs.NamesLemmas.Texts.{full_pair, no_name_pair, named_pair}
use Rattle.tlv_value.proofs.names.names_line.entry_or_refusal.Goals as goal

pub returns-then-not-is_name : goal.returns-then-not-is_name
returns-then-not-is_name c =
    let pair =
    full_pair c.args.line.now c.without_outer_blanks-text.result.now c.without_first_blanks-name.result.now
    c.end_before_blank-end.result
    c.if-line-gt-LINE_LIMIT.false
    (c.without_outer_blanks-text.ensures ∙ ap without_outer_blanks c.strip_carriage_return.ensures)
    (sym c.is_empty.ensures ∙ c.if-is_empty.false)
    c.if-text-eq35.false c.end_before_blank-end.ensures.value c.without_first_blanks-name.ensures in
    sym (ap (entry_or_refusal c.args.number)
    (pair
    ∙ no_name_pair (take c.end_before_blank-end.result c.without_outer_blanks-text.result.now)
    c.without_first_blanks-name.result.now (sym c.is_dotted.ensures ∙ c.if-not-is_dotted.false)
    (sym c.is_name.ensures ∙ c.if-not-is_name.true)))

pub returns : goal.returns
returns c =
    let pair =
    full_pair c.args.line.now c.without_outer_blanks-text.result.now c.without_first_blanks-name.result.now
    c.end_before_blank-end.result
    c.if-line-gt-LINE_LIMIT.false
    (c.without_outer_blanks-text.ensures ∙ ap without_outer_blanks c.strip_carriage_return.ensures)
    (sym c.is_empty.ensures ∙ c.if-is_empty.false)
    c.if-text-eq35.false c.end_before_blank-end.ensures.value c.without_first_blanks-name.ensures in
    let same : c.in-Ok.dotted.now ≡ take c.end_before_blank-end.result c.without_outer_blanks-text.result.now =
    c.in-Ok.ensures.cases.0 in
    rw same
    (sym (ap (entry_or_refusal c.args.number)
    (pair
    ∙ named_pair (take c.end_before_blank-end.result c.without_outer_blanks-text.result.now)
    c.without_first_blanks-name.result.now (sym c.is_dotted.ensures ∙ c.if-not-is_dotted.false)
    (sym c.is_name.ensures ∙ c.if-not-is_name.false))))

pub unreachable-requires : goal.unreachable-requires
unreachable-requires c =
    c.in_default.ensures.cases.0
    (IsUtf8-from_dotted (take c.end_before_blank-end.result c.without_outer_blanks-text.result.now)
    (sym c.is_dotted.ensures ∙ c.if-not-is_dotted.false))
