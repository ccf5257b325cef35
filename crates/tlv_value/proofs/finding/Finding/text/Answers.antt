use Rattle.std.proofs.Common.{arith}
use Rattle.tlv_value.proofs.Wordings.{code_size, text_alone}
use Rattle.tlv_value.proofs.finding.Finding.text.Goals as goal

pub returns : goal.returns
returns c =
    let block = c.line_block-count.ensures in
    text_alone _ _ _ _ (code_size c.args.self) block.count.0 block.line (omega (arith, block.count.1))
