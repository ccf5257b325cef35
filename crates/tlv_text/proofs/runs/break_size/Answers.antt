use Rattle.std.proofs.Common.{sym, ◌∙◌}
use Rattle.tlv_text.proofs.RunLemmas.{no-break}
use Rattle.tlv_text.proofs.runs.break_size.Goals as goal

pub returns-in-len1-up-clause-size : goal.returns-in-len1-up-clause-size
returns-in-len1-up-clause-size c = sym (no-break c.args.text.now (sym c.is_symbol.ensures ∙ c.if-is_symbol.true))
