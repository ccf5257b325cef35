use Rattle.std.proofs.Common.{arith, refl, sym}
use Rattle.tlv_io.proofs.OffsetTexts.{columns-first}
use Rattle.tlv_io.proofs.held_octets.offset_text.OffsetText.new.Goals as goal

pub invariant_of-result : goal.invariant_of-result
invariant_of-result c =
    record {
      is = sym columns-first;
      zeros = refl;
      within = omega arith;
      bit = refl;
    }
