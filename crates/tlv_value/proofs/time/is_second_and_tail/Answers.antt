use Rattle.std.proofs.Common.{false, refl, sym, ◌∙◌}
use Rattle.tlv_value.specs.Times.{second}
use Rattle.tlv_value.proofs.CheckLemmas.Forms.{maybe-left, maybe-there}
use Rattle.tlv_value.proofs.time.is_second_and_tail.Goals as goal
use Rattle.tlv_value.specs.Private.TimeParts.{generalized_tail}

pub returns-then-is_generalized_tail : goal.returns-then-is_generalized_tail
returns-then-is_generalized_tail c =
    maybe-there second generalized_tail c.args.octets.now c.is_generalized_tail.result
    (c.is_generalized_tail.ensures ∙ sym (c.in-Some.ensures generalized_tail)) c.if-is_generalized_tail.true

pub returns-else-is_generalized_tail : goal.returns-else-is_generalized_tail
returns-else-is_generalized_tail c =
    maybe-left second generalized_tail c.args.octets.now c.is_generalized_tail.result
    c.is_generalized_tail-else-is_generalized_tail.result
    (c.is_generalized_tail.ensures ∙ sym (c.in-Some.ensures generalized_tail)) c.if-is_generalized_tail.false
    c.is_generalized_tail-else-is_generalized_tail.ensures

pub returns-in-None : goal.returns-in-None
returns-in-None c =
    maybe-left second generalized_tail c.args.octets.now false c.is_generalized_tail-in-None.result
    (sym (c.in-None.ensures generalized_tail)) refl c.is_generalized_tail-in-None.ensures
