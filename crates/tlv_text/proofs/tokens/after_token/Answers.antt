use Rattle.std.proofs.Common.{arith}
use Rattle.tlv_text.proofs.TokenPlaceLemmas.{NoTokenBefore, no-token, no-token-without_x, none-before, token-first_of}
use Rattle.tlv_text.proofs.tokens.after_token.Goals as goal

pub returns-in_err-memchr2 : goal.returns-in_err-memchr2
returns-in_err-memchr2 c =
    rw c.from_residual.ensures (no-token-without_x c.args.before c.args.text.now c.in_err-memchr2.ensures)

pub returns-in_err-token : goal.returns-in_err-token
returns-in_err-token c =
    let none : NoTokenBefore c.args.before c.args.text.now c.first_marked-place.result =
    none-before c.args.before c.args.text.now c.first_marked-end.result c.first_marked-end-2.result _
    c.first_marked-end-2.ensures.within c.first_marked-place.ensures.within
    c.first_marked-end.ensures.first c.first_marked-end-2.ensures.first c.first_marked-place.ensures.first in
    rw c.from_residual-in_err-token.ensures
    (no-token c.args.before c.args.text.now c.first_marked-place.result none c.first_marked-place.ensures.token
    c.in_err-token.ensures.token)

pub returns : goal.returns
returns c =
    let none : NoTokenBefore c.args.before c.args.text.now c.first_marked-place.result =
    none-before c.args.before c.args.text.now c.first_marked-end.result c.first_marked-end-2.result _
    c.first_marked-end-2.ensures.within c.first_marked-place.ensures.within
    c.first_marked-end.ensures.first c.first_marked-end-2.ensures.first c.first_marked-place.ensures.first in
    token-first_of c.args.before c.args.text.now c.first_marked-place.result c.in_ok-token.token
    (omega (arith, c.in_ok-token.ensures.within)) none c.in_ok-token.ensures.token
