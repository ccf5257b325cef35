use Rattle.std.proofs.Common.{◌<◌, ◌≤◌, arith, length, rules}
use Rattle.tlv_text.specs.Dump.{text_limit}
use Rattle.tlv_text.specs.Plain.{IsLonePairs}
use Rattle.tlv_text.proofs.LoneLemmas.{hex-alone, hex-too_long}
use Rattle.tlv_text.proofs.blocks.lone_hex_block.Goals as goal

pub returns-then-len-text_limit : goal.returns-then-len-text_limit
returns-then-len-text_limit c =
    let lone : IsLonePairs c.args.text.now c.in-Some.octets.items = search rules in
    let long : text_limit c.args.text.now < length c.in-Some.octets.items = search (rules, arith) in
    hex-too_long c.args.text.now c.in-Some.octets.items lone long

pub returns : goal.returns
returns c =
    let lone : IsLonePairs c.args.text.now c.in-Some.octets.items = search rules in
    let short : length c.in-Some.octets.items ≤ text_limit c.args.text.now = search (rules, arith) in
    rw c.only_block.ensures (hex-alone c.args.text.now c.in-Some.octets.items lone short)
