use Rattle.std.proofs.Common.{ap, arith, length}
use Rattle.tlv_text.proofs.BlockLemmas.{base64-part-le, pem-decoded, pem-encrypted, refused-within, within-more}
use Rattle.tlv_text.proofs.blocks.pem.pem_block.Goals as goal

pub overflow_sub-before : goal.overflow_sub-before
overflow_sub-before c =
    omega (arith, c.requires.within, ap length c.in-Base64.ensures.1, base64-part-le c.args.found.body.now)

pub state_at_place-state-requires-clause-order : goal.state_at_place-state-requires-clause-order
state_at_place-state-requires-clause-order c =
    omega (arith, c.requires.within, ap length c.in-Base64.ensures.1, base64-part-le c.args.found.body.now)

pub state_at_place-state-requires-clause-within : goal.state_at_place-state-requires-clause-within
state_at_place-state-requires-clause-within c =
    within-more (length c.in-Base64.base64.now) _ c.in_ok-decoded-in-Base64.decoded.refused
    (omega (arith, c.requires.within, ap length c.in-Base64.ensures.1, base64-part-le c.args.found.body.now))
    (refused-within _ _ _ _ c.in_ok-decoded-in-Base64.ensures)

pub returns-in-Encrypted : goal.returns-in-Encrypted
returns-in-Encrypted c =
    pem-encrypted c.args.text.now c.args.here.place c.args.here.line c.args.found.label.now _ c.args.found.body.now
    c.args.found.rest.now _ c.requires.line.line c.label_of-label.ensures c.new.ensures.items c.in-Encrypted.ensures

pub returns-in_ok-decoded-in-Base64 : goal.returns-in_ok-decoded-in-Base64
returns-in_ok-decoded-in-Base64 c =
    pem-decoded c.args.text.now c.args.here.place c.args.here.line c.args.found.label.now _ c.args.found.body.now
    c.args.found.rest.now c.in-Base64.base64.now _ c.in_ok-decoded-in-Base64.decoded.refused _ _
    c.requires.line.line c.label_of-label.ensures c.in-Base64.ensures c.in_ok-decoded-in-Base64.ensures
    c.state_at_place-state.ensures c.state_with_end.ensures
