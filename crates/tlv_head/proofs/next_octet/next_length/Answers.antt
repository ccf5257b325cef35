use Rattle.std.proofs.Common.{arith, ◌<◌, ◌^◌, rules}
use Rattle.tlv_head.proofs.ReaderLemmas.Steps.{length-lt, more_length, ends_length, too_large}
use Rattle.tlv_head.proofs.next_octet.next_length.Goals as goal

pub overflow_mul-length : goal.overflow_mul-length
overflow_mul-length c =
    let b : c.args.length < 2 ^ 32 = length-lt _ _ c.requires.1.prefix.some c.requires.1.small in
    omega arith

pub overflow_add-length : goal.overflow_add-length
overflow_add-length c =
    let b : c.args.length < 2 ^ 32 = length-lt _ _ c.requires.1.prefix.some c.requires.1.small in
    omega (arith, c.from.ensures)

pub returns-then-left-eq0 : goal.returns-then-left-eq0
returns-then-left-eq0 c =
    λ octets h. ends_length _ _ _ _ _ _ h (search rules) (search rules) (grind arith) (search rules)

pub returns-else-left-eq0 : goal.returns-else-left-eq0
returns-else-left-eq0 c =
    λ octets h. more_length _ _ _ _ _ _ h (search rules) (search rules) (grind arith) (search rules)

pub returns-then-left-ge5 : goal.returns-then-left-ge5
returns-then-left-ge5 c = λ octets h. too_large _ _ _ _ _ h (grind arith) (search rules)
