use Rattle.std.proofs.Common.{◌∙◌, rules, refl, sym, ap}
use Rattle.tlv_show.proofs.DumpLemmas.ClearPrimitives.{passes_primitive-clear, usual_primitive}
use Rattle.tlv_show.specs.KeptConditions.{Surroundings, header_findings_in}
use Rattle.tlv_show.proofs.finder.Finder.passes.Goals as goal

pub returns : goal.returns
returns g c =
    let h = c.args.header.now in
    let usual = usual_primitive h (search rules) (c.is_clear.ensures.form (search rules)) in
    let nothing = c.has_no_header_findings_if_usual.ensures in
    rw (← c.self.view_is, c.note_element.ensures)
    (passes_primitive-clear _ _ h c.args.contents.now c.requires
    (sym c.frame-frame.ensures.segments ∙ nothing.no_segments (search rules))
    (ap (λ (t : Surroundings). header_findings_in c.self.inside.wanted t h) (sym c.frame-frame.ensures.around)
    ∙ nothing.no_findings (search rules) usual c.self.inside.wanted.scope)
    (c.is_clear.ensures.contents (search rules)) (c.passes_in_order.ensures (search rules)) (c.passes_in_strings.ensures (search rules)) refl)
