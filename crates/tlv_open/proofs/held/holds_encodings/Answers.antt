use Rattle.std.proofs.Common.{◌≡◌, Some, rules}
use Rattle.tlv_open.specs.Held.{inner_octets}
use Rattle.tlv_open.proofs.held.holds_encodings.Goals as goal

pub returns-in-Some : goal.returns-in-Some
returns-in-Some c =
    let inner : inner_octets c.args.header.now c.args.contents.now ≡ Some c.in-Some.octets.now = search rules in
    c.are_held.ensures.held c.args.header.now c.args.contents.now inner
