use Rattle.tlv_value.proofs.Wordings.{code_size, code_is_prefix}
use Rattle.tlv_value.proofs.finding.Finding.code.Goals as goal

pub returns : goal.returns
returns c =
    code_is_prefix _ _ _ _ (code_size c.args.self) c.line_block.ensures.count.0 c.line_block.ensures.line
