use Rattle.std.proofs.Common.{◌≡◌, ◌/◌, ◌∙◌, ℕ, ap, length, sym}
use Rattle.tlv_text.proofs.DumpLemmas.{pair_octets-length}
use Rattle.tlv_text.proofs.DumpStepLemmas.{row-at_next, row-not_next}
use Rattle.tlv_text.specs.Private.DumpSteps.{dump_place_of}
use Rattle.tlv_text.specs.Private.PairSteps.{pair_octets}
use Rattle.tlv_text.proofs.dump.rows.times_before.Goals as goal

pub returns-in-Row : goal.returns-in-Row
returns-in-Row c =
    let size : c.len.result / 2 ≡ length (pair_octets c.args.last.now.digits.items) =
    ap (λ (n : ℕ). n / 2) c.len.ensures.value ∙ sym (pair_octets-length c.args.last.now.digits.items) in
    row-at_next c.args.size c.args.offset c.in_ok-more.more (dump_place_of c.args.last.now) c.in-Row.is
    c.in_ok-more.ensures.0 c.in_ok-more.ensures.1 (c.if-more-len.true ∙ size)

pub returns-in_default : goal.returns-in_default
returns-in_default c =
    let size : c.len.result / 2 ≡ length (pair_octets c.args.last.now.digits.items) =
    ap (λ (n : ℕ). n / 2) c.len.ensures.value ∙ sym (pair_octets-length c.args.last.now.digits.items) in
    row-not_next c.args.size c.args.offset c.in_ok-more.more (dump_place_of c.args.last.now) c.in-Row.is
    c.in_ok-more.ensures.0 c.in_ok-more.ensures.1 (λ e. c.if-more-len.false (e ∙ sym size))
