use Rattle.std.proofs.Common.{arith}
use Rattle.tlv_view_program.proofs.FileLemmas.{one_more_name}
use Rattle.tlv_view_program.proofs.matched.file_names.Goals as goal

pub loop-name-preserved : goal.loop-name-preserved
loop-name-preserved c =
    one_more_name c.in-Some.names.now c.loop-name.name-index _ _ _ (omega arith) c.in_ok-push.ensures
    c.loop-name.invariant
