use Rattle.std.proofs.Common.{refl}
use Rattle.tlv_view_program.specs.WritesReasons.{all_sent, few_failed, few_sent}
use Rattle.tlv_view_program.proofs.reasons.send_reasons.Goals as goal

pub returns-in-Ok : goal.returns-in-Ok
returns-in-Ok g c = all_sent c.in-Ok.reasons.items c.send_after.result (rw c.in-Ok.is refl) c.send_after.ensures

pub returns-in-Ok-send_after : goal.returns-in-Ok-send_after
returns-in-Ok-send_after g c =
    few_sent c.in-Err.error c.in-Ok-send_after.field-0 (rw c.in-Err.is refl) c.in-Ok-send_after.ensures

pub returns-in-Err-send_after : goal.returns-in-Err-send_after
returns-in-Err-send_after g c =
    few_failed c.in-Err-send_after.fault (rw c.in-Err.is refl) c.in-Err-send_after.ensures
