use Rattle.std.proofs.Common.{◌∙◌, ap}
use Rattle.std.proofs.lemmas.Result.{IfOk-weaker}
use Rattle.tlv_open.proofs.FinderLemmas.Inputs.{octets-fit}
use Rattle.tlv_walk.specs.Inside.{are_rising}
use Rattle.tlv_view_program.specs.WritesReasons.{offsets_up_to}
use Rattle.tlv_view_program.proofs.NamedOffsets.{named-rise, opened-rise}
use Rattle.tlv_view_program.proofs.reasons.named_offsets.Goals as goal

pub returns-clause-named : goal.returns-clause-named
returns-clause-named c =
    IfOk-weaker c.offsets_up_to.result _ _
    (λ named same. (
      c.in_ok-opened.opened.items,
      c.in_ok-opened.ensures,
      same ∙ ap (offsets_up_to c.args.offset) c.as_slice.ensures.value,
    ))
    c.offsets_up_to.ensures

pub returns-clause-rising : goal.returns-clause-rising
returns-clause-rising c =
    IfOk-weaker c.offsets_up_to.result _ _
    (λ named same.
    ap (are_rising 0) (same ∙ ap (offsets_up_to c.args.offset) c.as_slice.ensures.value)
    ∙ named-rise c.args.offset c.in_ok-opened.opened.items c.requires.there
    (opened-rise c.opening_is_safe.ensures c.args.padding c.args.octets.now c.in_ok-opened.opened.items
    (octets-fit c.args.octets.now c.type_inv.octets) c.requires.short c.in_ok-opened.ensures))
    c.offsets_up_to.ensures
