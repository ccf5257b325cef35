use Rattle.tlv_text.proofs.DumpCountLemmas.{dump-ended, dump-not_ended}
use Rattle.tlv_text.specs.Blocks.{block_value}
use Rattle.tlv_text.proofs.counting.dump_counts.Goals as goal

pub returns-in-Ended : goal.returns-in-Ended
returns-in-Ended c =
    dump-ended (block_value c.args.block.now) _ _ _ c.in-Ended.is c.as_slice.ensures.value
    c.are_taken_as_encodings.ensures

pub returns-in_default : goal.returns-in_default
returns-in_default c =
    dump-not_ended (block_value c.args.block.now) _ (λ line is. c.in_default.not-Ended line is) c.is_complete.ensures
