use Rattle.std.proofs.Common.{arith, rules}
use Rattle.tlv_head.proofs.ReaderLemmas.Steps.{all_ones, begins_length, indefinite-refused}
use Rattle.tlv_head.proofs.next_octet.first_length.Goals as goal

pub returns-then-octet-gt128 : goal.returns-then-octet-gt128
returns-then-octet-gt128 c = λ octets h. begins_length _ _ _ h (omega arith) (omega arith)

pub returns-then-octet-eq255 : goal.returns-then-octet-eq255
returns-then-octet-eq255 c = λ octets h. all_ones _ _ _ h (search rules)

pub returns-else-identifier : goal.returns-else-identifier
returns-else-identifier c = λ octets h. indefinite-refused _ _ _ h (search rules) (omega arith)
