use Rattle.std.proofs.Common.{◌≡◌, ◌∙◌, ap, arith, length, map, min, take}
use Rattle.std.proofs.lemmas.List.{take_all, take_min}
use Rattle.tlv_text.specs.Taken.{shown_character}
use Rattle.tlv_text.proofs.characters.first_words.Goals as goal

pub returns : goal.returns
returns c =
    let text = c.args.text.now in
    let least : c.min.result ≡ min 32 (length text) = omega (arith, c.min.ensures) in
    c.loop-character.invariant
    ∙ ap (map shown_character)
    (take_all c.loop-character.character-index (take c.min.result text) c.loop-character-test.false
    ∙ ap (λ n. take n text) least
    ∙ take_min 32 text)
