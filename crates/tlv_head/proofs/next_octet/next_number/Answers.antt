use Rattle.std.proofs.Common.{arith, ◌<◌, ◌^◌, rules}
use Rattle.std.proofs.lemmas.Grind.{and_numeral}
use Rattle.tlv_head.proofs.ReaderLemmas.Steps.{number-lt, more_number, ends_number, ninth_number}
use Rattle.tlv_head.proofs.next_octet.next_number.Goals as goal

pub overflow_mul-identifier : goal.overflow_mul-identifier
overflow_mul-identifier c =
    let b : c.args.identifier.number < 2 ^ 56 = number-lt _ _ c.requires.1 in
    omega arith

pub overflow_add-identifier : goal.overflow_add-identifier
overflow_add-identifier c =
    let b : c.args.identifier.number < 2 ^ 56 = number-lt _ _ c.requires.1 in
    grind (arith, and_numeral)

pub returns-then-octet-ge128-2 : goal.returns-then-octet-ge128-2
returns-then-octet-ge128-2 c =
    λ octets h. more_number _ _ _ _ h (grind (arith, and_numeral)) (grind (arith, and_numeral)) (grind arith)

pub returns-else-octet-ge128-2 : goal.returns-else-octet-ge128-2
returns-else-octet-ge128-2 c = λ octets h. ends_number _ _ _ _ h (grind (arith, and_numeral)) (search rules)

pub returns-then-identifier-ge9 : goal.returns-then-identifier-ge9
returns-then-identifier-ge9 c = λ octets h. ninth_number _ _ _ h (search rules) (search rules)
