use Rattle.tlv_text.proofs.TextLemmas.{refused-text, whole-text}
use Rattle.tlv_text.proofs.base64_text.finish.Goals as goal

pub returns-then-branch : goal.returns-then-branch
returns-then-branch c =
    whole-text c.args.alphabet c.args.text.now c.args.octets.items c.args.symbols.now c.args.rest.now _ c.requires.end
    (c.in_ok-add_last.ensures.padding c.if-branch.true) (c.in_ok-add_last.ensures.added c.if-branch.true)

pub returns : goal.returns
returns c =
    refused-text c.args.alphabet c.args.text.now c.args.octets.items c.args.symbols.now c.args.rest.now _ c.requires.end
    (c.in_ok-add_last.ensures.refused c.if-branch.false)
    (rw (c.in_ok-add_last.ensures.same c.if-branch.false) at c.in_ok-add_groups.ensures)
