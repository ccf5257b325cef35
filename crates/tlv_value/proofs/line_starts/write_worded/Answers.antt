use Rattle.std.proofs.Common.{arith, rules}
use Rattle.tlv_value.specs.Layout.{columns}
use Rattle.tlv_value.proofs.TextLemmas.LineLengths.{columns_short}
use Rattle.tlv_value.proofs.TextLemmas.RowTextLengths.{length-grown}
use Rattle.tlv_value.proofs.line_starts.write_worded.Goals as goal

pub returns-then-not-pure : goal.returns-then-not-pure
returns-then-not-pure c =
    record {
      text = search rules;
      within = length-grown _ _ (columns c.args.offset c.args.word.now) 43 c.word_columns.ensures
          (columns_short c.args.offset c.args.word.now c.ranges.offset.fits (omega (arith, c.told-word)));
    }
