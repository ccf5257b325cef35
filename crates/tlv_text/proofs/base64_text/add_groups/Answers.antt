use Rattle.std.proofs.Common.{subst}
use Rattle.tlv_text.specs.Private.SymbolSteps.{IsFailure}
use Rattle.tlv_text.proofs.GroupLemmas.{groups-decode, octets-fit}
use Rattle.tlv_text.proofs.base64_text.add_groups.Goals as goal

pub unreachable-requires : goal.unreachable-requires
unreachable-requires c =
    groups-decode c.args.alphabet c.args.symbols.now (octets-fit c.args.symbols.now c.type_inv.symbols)
    c.requires.symbols c.requires.whole
    (subst (IsFailure c.args.alphabet c.args.symbols.now) c.in-Err-DecodeError.field-0-is
    c.in-Err-DecodeError.ensures.failure)
