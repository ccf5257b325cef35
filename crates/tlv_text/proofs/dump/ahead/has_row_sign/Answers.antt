use Rattle.std.proofs.Common.{◌∙◌, sym}
use Rattle.tlv_text.proofs.DumpSignLemmas.{sign-by_asterisk}
use Rattle.tlv_text.proofs.dump.ahead.has_row_sign.Goals as goal

pub returns-else-is_some : goal.returns-else-is_some
returns-else-is_some c =
    c.is_some-else-is_some.ensures
    ∙ sign-by_asterisk c.args.text.now c.memchr3.result c.memchr.result c.memchr3.ensures
    (sym c.is_some.ensures ∙ c.if-is_some.false) c.memchr.ensures
