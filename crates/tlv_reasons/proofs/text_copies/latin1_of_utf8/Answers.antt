use Rattle.std.proofs.Common.{◌≡◌, ◌++◌, ◌∷◌, [], rules}
use Rattle.tlv_reasons.proofs.TextLemmas.{character-more}
use Rattle.tlv_reasons.proofs.text_copies.latin1_of_utf8.Goals as goal

pub loop-rest-preserved : goal.loop-rest-preserved
loop-rest-preserved c =
    let pushed : c.push.new.self.items ≡ c.loop-rest.characters.items ++ c.in-Some.character ∷ [] = search rules in
    character-more _ c.loop-rest.characters.items c.loop-rest.rest.now c.in-Some.more.now c.push.new.self.items
    c.in-Some.character pushed c.in-Some.ensures.0 c.loop-rest.invariant
