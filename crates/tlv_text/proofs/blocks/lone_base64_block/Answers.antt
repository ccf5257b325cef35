use Rattle.std.proofs.Common.{◌<◌, ◌≤◌, arith, length, rules}
use Rattle.tlv_text.specs.Dump.{text_limit}
use Rattle.tlv_text.specs.Plain.{IsPlainBase64}
use Rattle.tlv_text.proofs.LoneLemmas.{base64-alone, base64-too_long}
use Rattle.tlv_text.proofs.blocks.lone_base64_block.Goals as goal

pub returns-then-len-text_limit : goal.returns-then-len-text_limit
returns-then-len-text_limit c =
    let plain : IsPlainBase64 c.args.text.now c.in-Some.octets.items = search rules in
    let long : text_limit c.args.text.now < length c.in-Some.octets.items = search (rules, arith) in
    base64-too_long c.args.text.now c.in-Some.octets.items plain long

pub returns : goal.returns
returns c =
    let plain : IsPlainBase64 c.args.text.now c.in-Some.octets.items = search rules in
    let short : length c.in-Some.octets.items ≤ text_limit c.args.text.now = search (rules, arith) in
    rw c.only_block.ensures (base64-alone c.args.text.now c.in-Some.octets.items plain short)
