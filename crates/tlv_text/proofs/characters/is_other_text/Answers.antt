use Rattle.std.proofs.Common.{◌∙◌}
use Rattle.tlv_text.proofs.CharacterLemmas.{no_utf8-text, utf8-text}
use Rattle.tlv_text.proofs.characters.is_other_text.Goals as goal

pub returns-then-is_utf8 : goal.returns-then-is_utf8
returns-then-is_utf8 c =
    c.has_seen.ensures ∙ utf8-text c.args.text.now (c.is_utf8.ensures.0 c.if-is_utf8.true) c.requires

pub returns-else-is_utf8 : goal.returns-else-is_utf8
returns-else-is_utf8 c =
    c.if-is_utf8.false
    ∙ no_utf8-text c.args.text.now (λ utf8. absurd (cc (c.is_utf8.ensures.1 utf8, c.if-is_utf8.false)))
