use Rattle.std.proofs.Common.{◌∙◌, ◌-◌, List, ℕ, ap, length}
use Rattle.std.specs.List.{list_all}
use Rattle.tlv_value.specs.Characters.{allows_octet}
use Rattle.tlv_value.proofs.CheckLemmas.Noting.{all-filled}
use Rattle.tlv_value.proofs.value_check.characters.is_each_allowed.Goals as goal

pub returns : goal.returns
returns c =
    let octets : List ℕ = c.args.octets.now in
    c.is_all_allowed-2.ensures
    ∙ ap (list_all (allows_octet c.args.number)) c.block_of.ensures
    ∙ all-filled (allows_octet c.args.number) octets (64 - length octets) c.requires
