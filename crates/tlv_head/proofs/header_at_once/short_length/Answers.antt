use Rattle.std.proofs.Common.{rules}
use Rattle.tlv_head.proofs.header_at_once.short_length.Goals as goal

pub returns-then-octets-ge3 : goal.returns-then-octets-ge3
returns-then-octets-ge3 c = search rules
