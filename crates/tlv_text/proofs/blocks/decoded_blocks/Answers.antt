use Rattle.tlv_text.proofs.BlockLemmas.{dump-refused}
use Rattle.tlv_text.proofs.blocks.decoded_blocks.Goals as goal

pub returns-in_err-dump_block-in-Dump-clause-fault : goal.returns-in_err-dump_block-in-Dump-clause-fault
returns-in_err-dump_block-in-Dump-clause-fault c =
    dump-refused c.args.text.now c.args.form c.in_err-dump_block-in-Dump.field-0.0
    c.from_residual-in_err-dump_block-in-Dump.result c.in-Dump.is c.from_residual-in_err-dump_block-in-Dump.ensures.1
    c.in_err-dump_block-in-Dump.ensures.fault
