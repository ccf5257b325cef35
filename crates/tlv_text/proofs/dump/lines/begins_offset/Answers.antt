use Rattle.std.proofs.Common.{◌≡◌, true, nat_lt, slice_index, rules}
use Rattle.tlv_text.proofs.DumpLemmas.{digit-passed}
use Rattle.tlv_text.specs.DumpLines.{is_digit_of}
use Rattle.tlv_text.proofs.dump.lines.begins_offset.Goals as goal

pub loop-rest-preserved : goal.loop-rest-preserved
loop-rest-preserved c =
    let few : nat_lt c.loop-rest.count 16 ≡ true = search rules in
    let digit : is_digit_of c.args.radix (slice_index c.loop-rest.rest.now 0) ≡ true = search rules in
    digit-passed c.args.radix _ c.loop-rest.count c.loop-rest.rest.now c.in-len1-up.len_at_least few digit
    c.loop-rest.invariant
