use Rattle.std.proofs.Common.{◌≡◌, ℕ, List, false, refl, sym, ◌∙◌}
use Rattle.tlv_value.specs.Private.TimeParts.{utc_minute}
use Rattle.tlv_value.specs.Times.{hour, maybe, minute, month_and_day, second, utc_time_form, utc_zone, year_digits}
use Rattle.tlv_value.specs.Times.{◌followed_by◌}
use Rattle.tlv_value.proofs.CheckLemmas.Forms.{four-apart, maybe-left, maybe-there}
use Rattle.tlv_value.proofs.time.utc_ok.Goals as goal

-- the minute, and what follows it
utc-apart : (c : List ℕ) → (utc_minute followed_by maybe second followed_by utc_zone) c ≡ utc_time_form c
utc-apart c = four-apart year_digits month_and_day hour minute (maybe second followed_by utc_zone) c

pub returns-in_default : goal.returns-in_default
returns-in_default c =
    sym (c.in_default.ensures (maybe second followed_by utc_zone)) ∙ utc-apart c.args.contents.now

pub returns-then-is_utc_zone : goal.returns-then-is_utc_zone
returns-then-is_utc_zone c =
    maybe-there second utc_zone c.in-Some.rest.now c.is_utc_zone.result
    (c.is_utc_zone.ensures ∙ sym (c.in-Some-after_two_digits.ensures utc_zone)) c.if-is_utc_zone.true
    ∙ sym (c.in-Some.ensures (maybe second followed_by utc_zone)) ∙ utc-apart c.args.contents.now

pub returns-else-is_utc_zone : goal.returns-else-is_utc_zone
returns-else-is_utc_zone c =
    maybe-left second utc_zone c.in-Some.rest.now c.is_utc_zone.result c.is_utc_zone-else-is_utc_zone.result
    (c.is_utc_zone.ensures ∙ sym (c.in-Some-after_two_digits.ensures utc_zone)) c.if-is_utc_zone.false
    c.is_utc_zone-else-is_utc_zone.ensures
    ∙ sym (c.in-Some.ensures (maybe second followed_by utc_zone)) ∙ utc-apart c.args.contents.now

pub returns-in-None : goal.returns-in-None
returns-in-None c =
    maybe-left second utc_zone c.in-Some.rest.now false c.is_utc_zone-in-None.result (sym (c.in-None.ensures utc_zone))
    refl c.is_utc_zone-in-None.ensures
    ∙ sym (c.in-Some.ensures (maybe second followed_by utc_zone)) ∙ utc-apart c.args.contents.now
