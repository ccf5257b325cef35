use Rattle.std.proofs.Common.{decimal, arith, rules}
use Rattle.std.proofs.lemmas.Fmt.{length-decimal-le}
use Rattle.tlv_value.specs.Layout.{columns}
use Rattle.tlv_value.proofs.TextLemmas.LineLengths.{columns_short}
use Rattle.tlv_value.proofs.TextLemmas.RowTextLengths.{length-grown}
use Rattle.tlv_value.proofs.line_starts.write_sized.Goals as goal

pub returns-then-not-pure : goal.returns-then-not-pure
returns-then-not-pure c =
    let few = length-decimal-le 20 c.args.size (omega arith) (omega arith) c.ranges.size.fits in
    record {
      text = search rules;
      within = length-grown _ _ (columns c.args.offset (decimal c.args.size)) 43 c.columns.ensures
          (columns_short c.args.offset (decimal c.args.size) c.ranges.offset.fits few);
    }
