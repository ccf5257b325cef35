use Rattle.std.proofs.Common.{◌≡◌, List, ℕ, false, refl, sym, ◌∙◌}
use Rattle.std.specs.Prelude.{Bool, Some}
use Rattle.tlv_value.specs.Private.TimeParts.{generalized_hour, generalized_tail, LeavesRest}
use Rattle.tlv_value.specs.Times.{generalized_time_form, hour, maybe, minute, month_and_day, second}
use Rattle.tlv_value.specs.Times.{year_digits, ◌followed_by◌}
use Rattle.tlv_value.proofs.CheckLemmas.Forms.{four-apart, maybe-left, maybe-there, no_rest_then, then-assoc}
use Rattle.tlv_value.proofs.time.general_ok.Goals as goal

-- the minute is there
with_minute : (rest after : List ℕ) (r : Bool) → LeavesRest minute rest (Some after)
    → r ≡ (maybe second followed_by generalized_tail) after
    → r ≡ ((minute followed_by maybe second) followed_by generalized_tail) rest
with_minute rest after r e h =
    h ∙ sym (e (maybe second followed_by generalized_tail)) ∙ sym (then-assoc minute (maybe second) generalized_tail rest)

-- the hour, and what follows it
hour-apart : (c : List ℕ) → (generalized_hour followed_by maybe (minute followed_by maybe second) followed_by generalized_tail) c
    ≡ generalized_time_form c
hour-apart c =
    four-apart year_digits year_digits month_and_day hour (maybe (minute followed_by maybe second) followed_by generalized_tail) c

pub returns-in_default : goal.returns-in_default
returns-in_default c =
    sym (c.in_default.ensures (maybe (minute followed_by maybe second) followed_by generalized_tail)) ∙ hour-apart c.args.contents.now

-- the hour is there
with_hour : (c rest : List ℕ) (r : Bool) → LeavesRest generalized_hour c (Some rest)
    → r ≡ (maybe (minute followed_by maybe second) followed_by generalized_tail) rest
    → r ≡ generalized_time_form c
with_hour c rest r e h =
    h ∙ sym (e (maybe (minute followed_by maybe second) followed_by generalized_tail)) ∙ hour-apart c

pub returns-then-is_second_and_tail : goal.returns-then-is_second_and_tail
returns-then-is_second_and_tail c =
    let rest : List ℕ = c.in-Some.rest.now in
    let r : Bool = c.is_second_and_tail.result in
    with_hour c.args.contents.now rest r c.in-Some.ensures
    (maybe-there (minute followed_by maybe second) generalized_tail rest r
    (with_minute rest c.in-Some-after_two_digits.after.now r c.in-Some-after_two_digits.ensures
    c.is_second_and_tail.ensures)
    c.if-is_second_and_tail.true)

pub returns-else-is_second_and_tail : goal.returns-else-is_second_and_tail
returns-else-is_second_and_tail c =
    let rest : List ℕ = c.in-Some.rest.now in
    let r : Bool = c.is_second_and_tail.result in
    with_hour c.args.contents.now rest c.is_generalized_tail.result c.in-Some.ensures
    (maybe-left (minute followed_by maybe second) generalized_tail rest r c.is_generalized_tail.result
    (with_minute rest c.in-Some-after_two_digits.after.now r c.in-Some-after_two_digits.ensures
    c.is_second_and_tail.ensures)
    c.if-is_second_and_tail.false c.is_generalized_tail.ensures)

pub returns-in-None : goal.returns-in-None
returns-in-None c =
    let rest : List ℕ = c.in-Some.rest.now in
    with_hour c.args.contents.now rest c.is_generalized_tail-in-None.result c.in-Some.ensures
    (maybe-left (minute followed_by maybe second) generalized_tail rest false c.is_generalized_tail-in-None.result
    (sym (no_rest_then minute (maybe second) rest c.in-None.ensures generalized_tail)) refl
    c.is_generalized_tail-in-None.ensures)
