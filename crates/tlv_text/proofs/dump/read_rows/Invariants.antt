use Rattle.std.proofs.Common.{length}
use Rattle.tlv_text.specs.Dump.{rows_read}
use Rattle.tlv_text.specs.DumpLines.{dump_lines}
use Rattle.tlv_text.specs.Private.DumpSteps.{dump_place_of}
use Rattle.tlv_text.proofs.DumpStepLemmas.{IsDumpReadSoFar}
use Rattle.tlv_text.specs.Private.PairSteps.{AreWholePairs}
use Rattle.tlv_text.proofs.dump.read_rows.Given as goal

abbrev pub invariant-loop-rest : goal.invariant-loop-rest
invariant-loop-rest l = record {
  pairs : AreWholePairs l.last.digits.items;
  so_far : IsDumpReadSoFar (rows_read l.radix l.size (dump_place_of l.fn.last) (dump_lines l.text))
      (rows_read l.radix l.size (dump_place_of l.last) (dump_lines l.rest)) l.initial.output l.output;
}

abbrev pub decreases-loop-rest : goal.decreases-loop-rest
decreases-loop-rest l = length l.rest
