use Rattle.std.proofs.Common.{◌∷◌, arith, rules}
use Rattle.tlv_value.specs.TextBeside.{pairs_with_text}
use Rattle.tlv_value.specs.Units.{quoted_text}
use Rattle.tlv_value.proofs.TextLemmas.RowTextLengths.{length-grown, quoted-short, row-pairs-short}
use Rattle.tlv_value.proofs.value.write_row.Goals as goal
use Rattle.tlv_value.specs.Private.Rows.{joined_pairs}

pub returns-in-Text : goal.returns-in-Text
returns-in-Text c =
    record {
      text = search rules;
      within = length-grown c.args.held.now c.write_quoted.new.held (32 ∷ quoted_text c.args.kind c.args.row.now) 323
          c.write_quoted.ensures
          (omega (arith, quoted-short c.args.kind c.args.row.now, c.requires.short));
    }

pub returns-in_default : goal.returns-in_default
returns-in_default c =
    record {
      text = search rules;
      within =
          length-grown c.args.held.now c.write_row_pairs.new.held
          (32 ∷ pairs_with_text c.args.with_text c.args.row.now (joined_pairs c.args.row.now)) 323
          c.write_row_pairs.ensures
          (omega (arith, row-pairs-short c.args.with_text c.args.row.now c.requires.short));
    }
