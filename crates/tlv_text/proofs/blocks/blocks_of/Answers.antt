use Rattle.tlv_text.proofs.BlockLemmas.{too-long}
use Rattle.tlv_text.proofs.blocks.blocks_of.Goals as goal

pub returns-then-are_too_long-clause-fault : goal.returns-then-are_too_long-clause-fault
returns-then-are_too_long-clause-fault c =
    too-long c.args.text.now c.args.form c.in_ok-blocks.blocks.items _ c.in_ok-blocks.ensures.blocks
    c.as_slice.ensures.value c.if-are_too_long.ensures
