use Rattle.std.proofs.Common.{◌≡◌, rules, false, length}
use Rattle.tlv_text.specs.DumpWords.{show_words}
use Rattle.tlv_text.proofs.DumpWordLemmas.{words-differ}
use Rattle.tlv_text.proofs.dump.words.is_text_of_words.Goals as goal

pub returns-then-text-at : goal.returns-then-text-at
returns-then-text-at c =
    let differ : show_words c.args.size c.args.octets.now c.args.text.now (length c.args.octets.now) ≡ false =
    words-differ c.args.size c.args.octets.now c.args.text.now c.loop-at.at (length c.args.octets.now)
    (search rules) (search rules) in
    search rules
