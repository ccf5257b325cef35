use Rattle.tlv_io.proofs.Puts.{puts_text}
use Rattle.tlv_value.proofs.TextLemmas.Pieces.{new-long}
use Rattle.tlv_value.proofs.whole_lines.put_long_lines.Goals as goal

pub returns-then-has_unlimited_pairs : goal.returns-then-has_unlimited_pairs
returns-then-has_unlimited_pairs g c =
    puts_text g.D.Drain.state
    _ _ _ _ _ (new-long (g.N.NameTable.name_of c.args.names.now) c.args.primitive.now c.args.contents.now
    c.requires.long c.requires.size)
    c.put_pairs.ensures
