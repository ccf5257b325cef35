use Rattle.tlv_text.proofs.DumpStepLemmas.{all-read, line-refused, line-taken}
use Rattle.std.proofs.Common.{ap, refl}
use Rattle.tlv_text.specs.Dump.{rows_read}
use Rattle.tlv_text.specs.DumpLines.{TextLine, dump_lines}
use Rattle.tlv_text.specs.Private.DumpSteps.{dump_place_of}
use Rattle.std.proofs.Common.{List}
use Rattle.tlv_text.proofs.dump.read_rows.Goals as goal

pub returns-then-not-branch-clause-octets : goal.returns-then-not-branch-clause-octets
returns-then-not-branch-clause-octets c =
    all-read _ _ c.args.output.now c.take_line.new.output
    (line-refused _ _ c.args.radix c.args.size _ c.loop-rest.last c.take_line.new.last c.split_line.result.0.now _
    (dump_lines c.split_line.result.1.now)
    c.in_ok-take_line.field-0 c.args.output.now c.loop-rest.output c.take_line.new.output c.loop-rest.invariant.so_far
    (ap (λ (lines : List TextLine). rows_read c.args.radix c.args.size (dump_place_of c.loop-rest.last) lines)
    c.split_line.ensures.lines)
    c.line_of.ensures c.if-not-branch.true c.in_ok-take_line.ensures.taken) refl

pub loop-rest-preserved : goal.loop-rest-preserved
loop-rest-preserved c = record {
  pairs = c.in_ok-take_line.ensures.pairs;
  so_far = line-taken _ _ c.args.radix c.args.size _ c.loop-rest.last c.take_line.new.last c.split_line.result.0.now _
      (dump_lines c.split_line.result.1.now)
      c.in_ok-take_line.field-0 c.args.output.now c.loop-rest.output c.take_line.new.output c.loop-rest.invariant.so_far
      (ap (λ (lines : List TextLine). rows_read c.args.radix c.args.size (dump_place_of c.loop-rest.last) lines)
      c.split_line.ensures.lines)
      c.line_of.ensures c.if-not-branch.false c.in_ok-take_line.ensures.taken;
}
