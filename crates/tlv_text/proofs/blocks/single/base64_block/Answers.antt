use Rattle.tlv_text.proofs.BlockLemmas.{base64-found}
use Rattle.tlv_text.proofs.blocks.single.base64_block.Goals as goal

pub returns : goal.returns
returns c =
    base64-found c.args.text.now c.alphabet_of.result c.in_ok-decoded.decoded.octets.items
    c.in_ok-decoded.decoded.refused _ c.alphabet_of.ensures c.in_ok-decoded.ensures c.decoded_block.ensures
