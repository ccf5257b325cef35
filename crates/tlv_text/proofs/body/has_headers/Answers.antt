use Rattle.std.proofs.Common.{◌∙◌}
use Rattle.tlv_text.proofs.BodyLemmas.{colon-anywhere}
use Rattle.tlv_text.proofs.body.has_headers.Goals as goal

pub returns : goal.returns
returns c = c.is_some.ensures ∙ colon-anywhere c.args.body.now c.memchr.result c.memchr.ensures
