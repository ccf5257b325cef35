use Rattle.std.proofs.Common.{arith}
use Rattle.tlv_text.proofs.TokenPlaceLemmas.{from-place}
use Rattle.tlv_text.proofs.tokens.token_from.Goals as goal

pub returns-in_default-clause-token : goal.returns-in_default-clause-token
returns-in_default-clause-token c =
    from-place c.args.place c.args.before c.args.text.now c.token_at-in_default.result
    (omega (arith, c.in_default)) c.requires c.token_at-in_default.ensures.token
