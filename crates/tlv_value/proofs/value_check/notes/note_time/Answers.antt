use Rattle.std.proofs.Common.{◌≡◌, ◌++◌, take, ◌∙◌, arith}
use Rattle.std.proofs.lemmas.Grind.{common_steps}
use Rattle.tlv_value.proofs.CheckLemmas.Noting.{take-room}
use Rattle.tlv_value.proofs.value_check.notes.note_time.Goals as goal

pub returns : goal.returns
returns c =
    let t : c.try_extend_from_slice.new.self.items ≡ c.args.time.now.items ++ take c.min-room.result c.args.octets.now =
    grind (arith, common_steps) in
    t
    ∙ take-room c.args.time.now.items c.args.octets.now c.min-room.result c.remaining_capacity.result
    c.remaining_capacity.ensures c.min-room.ensures
