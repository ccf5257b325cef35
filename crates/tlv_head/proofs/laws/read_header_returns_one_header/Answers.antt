use Rattle.tlv_head.proofs.ReaderLemmas.OneHeader.{one_header_returned}
use Rattle.tlv_head.proofs.laws.read_header_returns_one_header.Goals as goal

pub returns : goal.returns
returns c = one_header_returned
