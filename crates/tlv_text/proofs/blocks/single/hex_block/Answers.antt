use Rattle.tlv_text.proofs.BlockLemmas.{rest-within}
use Rattle.tlv_text.proofs.blocks.single.hex_block.Goals as goal

pub decoded_block-requires : goal.decoded_block-requires
decoded_block-requires c = rest-within c.args.text.now _ _ c.in_ok-decoded.ensures.refused
