use Rattle.tlv_io.proofs.OffsetTexts.{two_digits-of}
use Rattle.tlv_io.proofs.held_octets.offset_text.two_digits.Goals as goal

pub returns : goal.returns
returns c = two_digits-of c.args.number c.in_two_places.result c.requires c.in_two_places.ensures
