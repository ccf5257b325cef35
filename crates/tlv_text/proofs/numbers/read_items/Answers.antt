use Rattle.std.proofs.Common.{◌≡◌, ◌++◌, ◌∷◌, [], rules}
use Rattle.tlv_text.proofs.NumberLemmas.{number-read}
use Rattle.tlv_text.proofs.numbers.read_items.Goals as goal

pub loop-rest-preserved : goal.loop-rest-preserved
loop-rest-preserved c =
    let pushed : c.push.new.self.items ≡ c.loop-rest.octets.items ++ c.in-Reads.number.octet ∷ [] = search rules in
    rw pushed
    (number-read _ c.args.close c.loop-rest.place c.loop-rest.octets.items c.loop-rest.rest.now c.in-Reads.number
    c.in-len1-up.len_at_least c.in-Reads.ensures.step c.loop-rest.invariant)
