use Rattle.std.proofs.Common.{ap, false, not, refl, sym, true, ◌∙◌}
use Rattle.tlv_value.specs.ValueCheckState.{last_octet_after}
use Rattle.tlv_value.proofs.CheckLemmas.Labels.{labels-found}
use Rattle.tlv_value.proofs.short_look.are_labels.Goals as goal

pub returns-then-not-has_empty_label_after : goal.returns-then-not-has_empty_label_after
returns-then-not-has_empty_label_after c =
    labels-found c.args.text.now false c.last_octet.result
    (sym c.if-not-has_empty_label_after.true ∙ c.has_empty_label_after.ensures) c.last_octet.ensures

pub returns-else-not-has_empty_label_after : goal.returns-else-not-has_empty_label_after
returns-else-not-has_empty_label_after c =
    ap not c.if-not-has_empty_label_after.false
    ∙ labels-found c.args.text.now true (last_octet_after 0x2f c.args.text.now)
    (sym c.if-not-has_empty_label_after.false ∙ c.has_empty_label_after.ensures) refl
