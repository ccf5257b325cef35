use Rattle.std.proofs.Common.{rules}
use Rattle.tlv_value.proofs.units.unescaped_size.Goals as goal

pub returns-then-not-has_ascii_octets-clause-next : goal.returns-then-not-has_ascii_octets-clause-next
returns-then-not-has_ascii_octets-clause-next c = search rules
