use Rattle.std.proofs.Common.{rules, arith}
use Rattle.tlv_program.proofs.NumberLemmas.{one_digit, digits-below_limit}
use Rattle.tlv_program.proofs.values.bounded_number.Goals as goal

pub overflow_mul-number : goal.overflow_mul-number
overflow_mul-number c =
    let small =
    digits-below_limit c.loop-octet.number c.loop-octet.octet-index c.loop-octet.invariant.small (omega arith) in
    search rules

pub overflow_add-number : goal.overflow_add-number
overflow_add-number c =
    let small =
    digits-below_limit c.loop-octet.number c.loop-octet.octet-index c.loop-octet.invariant.small (omega arith) in
    search rules

pub loop-octet-preserved : goal.loop-octet-preserved
loop-octet-preserved c =
    let all = one_digit c.args.text.now c.loop-octet.octet-index c.loop-octet.number c.from.result (omega arith)
    (search rules) (search rules) (search rules)
    c.loop-octet.invariant.passed c.loop-octet.invariant.value c.loop-octet.invariant.small in
    record { passed = all.0; value = all.1; small = all.2 }
