use Rattle.tlv_text.specs.declared.base64_text.Alphabet.TheVariants.{Standard, UrlSafe}
use Rattle.tlv_text.proofs.DecodeLemmas.{on-added, on-failure}
use Rattle.tlv_text.proofs.GroupLemmas.{octets-fit}
use Rattle.tlv_text.proofs.base64_text.decode.Goals as goal

pub returns-in-Standard-clause-added : goal.returns-in-Standard-clause-added
returns-in-Standard-clause-added c =
    let e = c.decode_vec.ensures in
    rw c.in-Standard.is (on-added Standard c.args.symbols.now c.args.octets.now.items
    c.decode_vec.new.buffer.items c.args.octets.now.len c.decode_vec.result
    (octets-fit c.args.symbols.now c.type_inv.symbols) e.ok e.front e.bytes)

pub returns-in-Standard-clause-failure : goal.returns-in-Standard-clause-failure
returns-in-Standard-clause-failure c =
    rw c.in-Standard.is (on-failure Standard c.args.symbols.now c.decode_vec.result
    (octets-fit c.args.symbols.now c.type_inv.symbols) c.decode_vec.ensures.err)

pub returns-in-UrlSafe-clause-added : goal.returns-in-UrlSafe-clause-added
returns-in-UrlSafe-clause-added c =
    let e = c.decode_vec-in-UrlSafe.ensures in
    rw c.in-UrlSafe.is (on-added UrlSafe c.args.symbols.now c.args.octets.now.items
    c.decode_vec-in-UrlSafe.new.buffer.items c.args.octets.now.len c.decode_vec-in-UrlSafe.result
    (octets-fit c.args.symbols.now c.type_inv.symbols) e.ok e.front e.bytes)

pub returns-in-UrlSafe-clause-failure : goal.returns-in-UrlSafe-clause-failure
returns-in-UrlSafe-clause-failure c =
    rw c.in-UrlSafe.is (on-failure UrlSafe c.args.symbols.now c.decode_vec-in-UrlSafe.result
    (octets-fit c.args.symbols.now c.type_inv.symbols) c.decode_vec-in-UrlSafe.ensures.err)
