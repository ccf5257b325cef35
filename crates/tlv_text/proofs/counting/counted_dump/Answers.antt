use Rattle.std.proofs.Common.{arith}
use Rattle.std.proofs.lemmas.List.{length-map}
use Rattle.std.proofs.lemmas.Result.{IfOk-weaker}
use Rattle.tlv_text.proofs.DumpCountLemmas.{dump-kept, dump-passed}
use Rattle.tlv_text.specs.Blocks.{block_value}
use Rattle.tlv_text.proofs.counting.counted_dump.Goals as goal
use Rattle.tlv_text.proofs.counting.counted_dump.Goals.{in_default-via-in-Some+else-dump_counts}
use Rattle.tlv_text.proofs.counting.counted_dump.Goals.{in_default-via-in_default}

pub returns-in-Some-clause-taken : goal.returns-in-Some-clause-taken
returns-in-Some-clause-taken c =
    IfOk-weaker c.one_taken.result _ _
    (λ ts.
    dump-kept c.args.blocks.items c.pop.new.self.items c.in-Some.block c.taken_as.result ts.items _
    c.in-Some.ensures.items c.requires.fitting c.dump_counts.ensures c.if-dump_counts.true c.taken_as.ensures.value)
    c.one_taken.ensures

pub returns-clause-taken : goal.returns-clause-taken
returns-clause-taken c =
    elim c.in_default.branch [
      | in_default-via-in-Some+else-dump_counts w ↦
          dump-passed c.args.blocks.items c.pop.new.self.items w.in-Some.block _ _ w.in-Some.ensures.items
          c.requires.fitting w.dump_counts.ensures w.if-dump_counts.false c.new.ensures.items
      | in_default-via-in_default w ↦
          let none = rw w.in_default.is at c.pop.ensures.cases in
          let size = c.args.blocks.ok.0 in
          let one = c.requires.fitting in
          absurd (omega (arith, none.0, length-map c.args.blocks.items block_value))
    ]
