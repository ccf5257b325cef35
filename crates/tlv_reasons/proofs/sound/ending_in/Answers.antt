use Rattle.std.proofs.Common.{refl}
use Rattle.std.specs.Prelude.{Ok, Err}
use Rattle.tlv_reasons.proofs.SoundLemmas.{EndsSo, silent-ending}
use Rattle.tlv_reasons.proofs.sound.ending_in.Goals as goal

pub unreachable-requires : goal.unreachable-requires
unreachable-requires c =
    let e = silent-ending c.args.framing.now c.args.octets.now c.requires _ _ _ _ _ _ c.drive.result
    c.new-source.ensures refl refl refl c.drive.ensures in
    let k : EndsSo c.args.framing.now c.args.octets.now (Err c.in-Err.field-0) = rw c.in-Err.is at e in k

pub returns : goal.returns
returns c =
    let e = silent-ending c.args.framing.now c.args.octets.now c.requires _ _ _ _ _ _ c.drive.result
    c.new-source.ensures refl refl refl c.drive.ensures in
    let k : EndsSo c.args.framing.now c.args.octets.now (Ok c.in-Ok.run') = rw c.in-Ok.is at e in k
