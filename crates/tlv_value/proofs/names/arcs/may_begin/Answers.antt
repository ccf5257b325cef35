use Rattle.std.proofs.Common.{sym, arith}
use Rattle.tlv_value.proofs.NamesLemmas.Texts.{no_first, ten_of_more, three_of_one}
use Rattle.tlv_value.proofs.names.arcs.may_begin.Goals as goal
use Rattle.tlv_value.proofs.names.arcs.may_begin.Goals.{then-first-gt1-via-then-first-gt1}
use Rattle.tlv_value.proofs.names.arcs.may_begin.Goals.{then-first-gt1-via-else-first-gt1+then-first-gt50}

pub returns-then-first-gt1 : goal.returns-then-first-gt1
returns-then-first-gt1 c =
    elim c.then-first-gt1.branch [
      | then-first-gt1-via-then-first-gt1 w ↦
          sym (no_first c.args.first.now c.args.second.now
          (omega (arith, ten_of_more c.args.first.now c.requires.first w.if-first-gt1.true)))
      | then-first-gt1-via-else-first-gt1+then-first-gt50 w ↦
          sym (no_first c.args.first.now c.args.second.now
          (three_of_one c.args.first.now c.requires.first w.if-first-gt1.false w.if-first-gt50.true))
    ]
