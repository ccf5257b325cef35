use Rattle.std.proofs.Common.{◌∙◌}
use Rattle.tlv_text.proofs.BodyLemmas.{word-anywhere}
use Rattle.tlv_text.proofs.body.is_encrypted.Goals as goal

pub returns : goal.returns
returns c = c.is_some.ensures ∙ word-anywhere 69 _ c.args.headers.now c.find.result c.find.ensures
