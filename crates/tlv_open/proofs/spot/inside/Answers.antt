use Rattle.std.proofs.Common.{◌+◌, false}
use Rattle.tlv_open.proofs.spot.inside.Goals as goal

pub returns-clause-inner : goal.returns-clause-inner
returns-clause-inner c = λ header p f depth rest z r i. record {
  start = c.args.spot.now.start;
  depth = c.args.spot.now.depth + 1;
  may_open = c.may_open_in.ensures header p f depth rest z r i;
  in_extension = c.is_extension.ensures header p f depth c.args.end_octets rest r i;
  likely = false;
  padding = false;
}
