use Rattle.tlv_head.proofs.header.Header.second_length_octet.Goals as goal

pub returns : goal.returns
returns c = rw (← c.self.view_is) c.self.invariant.2
