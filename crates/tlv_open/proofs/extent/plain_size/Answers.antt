use Rattle.std.proofs.Common.{arith, length-drop, refl, sym, take}
use Rattle.tlv_head.specs.HeaderFields.{new_header}
use Rattle.tlv_open.proofs.FinderLemmas.Plain.{no-inner}
use Rattle.tlv_open.proofs.extent.plain_size.Goals as goal

pub returns : goal.returns
returns c = record {
  unasked = c.if-likely.false;
  primitive = c.if-fields.false;
  announced = c.announced_length-length.result;
  announced_is = c.announced_length-length.ensures;
  within = omega (arith, c.if-length-octets.false, length-drop c.args.count c.args.octets.now);
  size = refl;
  no_string = λ contents.
      no-inner (new_header c.args.fields.now (take c.args.count c.args.octets.now)) contents
      (sym (c.if-is_octet_or_bit_string.ensures (take c.args.count c.args.octets.now)));
}
