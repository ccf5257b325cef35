use Rattle.std.proofs.Common.{◌≡◌, ℕ, Bool, List, false, refl, sym, ◌∙◌}
use Rattle.std.specs.Prelude.{None, Some}
use Rattle.tlv_value.specs.Private.TimeParts.{canonical_second, LeavesRest}
use Rattle.tlv_value.specs.Times.{canonical_clock, canonical_fraction, canonical_generalized_time_form, digits}
use Rattle.tlv_value.specs.Times.{mark, maybe, month_and_day, octet_between, two_digits, year_digits, ◌followed_by◌}
use Rattle.tlv_value.proofs.CheckLemmas.Forms.{four-apart, maybe-left, maybe-there, no_rest_then, rest_then, then-assoc}
use Rattle.tlv_value.proofs.time.general_canonical.Goals as goal

-- the second, and what follows it
second-apart : (c : List ℕ) → ((year_digits followed_by canonical_second) followed_by maybe canonical_fraction followed_by mark 90) c
    ≡ canonical_generalized_time_form c
second-apart c =
    four-apart year_digits year_digits month_and_day canonical_clock (maybe canonical_fraction followed_by mark 90) c

-- the second is there
with_second : (c rest after : List ℕ) (r : Bool) → LeavesRest (two_digits 0 99) c (Some rest)
    → LeavesRest canonical_second rest (Some after) → r ≡ (maybe canonical_fraction followed_by mark 90) after
    → r ≡ canonical_generalized_time_form c
with_second c rest after r e f h =
    h
    ∙ sym (rest_then year_digits canonical_second c rest (Some after) e f (maybe canonical_fraction followed_by mark 90))
    ∙ second-apart c

-- the mark of a fraction is there
with_mark : (after fraction : List ℕ) (r : Bool) → LeavesRest (mark 46) after (Some fraction)
    → r ≡ ((digits followed_by octet_between 49 57) followed_by mark 90) fraction
    → r ≡ (canonical_fraction followed_by mark 90) after
with_mark after fraction r e h =
    h
    ∙ sym (then-assoc (mark 46) (digits followed_by octet_between 49 57) (mark 90) after
    ∙ e ((digits followed_by octet_between 49 57) followed_by mark 90))

pub returns-in_default : goal.returns-in_default
returns-in_default c =
    sym (no_rest_then year_digits canonical_second c.args.contents.now c.in_default.ensures
    (maybe canonical_fraction followed_by mark 90))
    ∙ second-apart c.args.contents.now

pub returns-in_default-after_canonical_second : goal.returns-in_default-after_canonical_second
returns-in_default-after_canonical_second c =
    sym (rest_then year_digits canonical_second c.args.contents.now c.in-Some.rest.now None c.in-Some.ensures
    c.in_default-after_canonical_second.ensures (maybe canonical_fraction followed_by mark 90))
    ∙ second-apart c.args.contents.now

pub returns-then-is_canonical_fraction_rest : goal.returns-then-is_canonical_fraction_rest
returns-then-is_canonical_fraction_rest c =
    let after : List ℕ = c.in-Some-after_canonical_second.rest.now in
    let r : Bool = c.is_canonical_fraction_rest.result in
    with_second c.args.contents.now c.in-Some.rest.now after r c.in-Some.ensures
    c.in-Some-after_canonical_second.ensures
    (maybe-there canonical_fraction (mark 90) after r
    (with_mark after c.in-Some-after_mark.fraction.now r c.in-Some-after_mark.ensures
    c.is_canonical_fraction_rest.ensures)
    c.if-is_canonical_fraction_rest.true)

pub returns-else-is_canonical_fraction_rest : goal.returns-else-is_canonical_fraction_rest
returns-else-is_canonical_fraction_rest c =
    let after : List ℕ = c.in-Some-after_canonical_second.rest.now in
    let r : Bool = c.is_canonical_fraction_rest.result in
    with_second c.args.contents.now c.in-Some.rest.now after c.is_zulu.result c.in-Some.ensures
    c.in-Some-after_canonical_second.ensures
    (maybe-left canonical_fraction (mark 90) after r c.is_zulu.result
    (with_mark after c.in-Some-after_mark.fraction.now r c.in-Some-after_mark.ensures
    c.is_canonical_fraction_rest.ensures)
    c.if-is_canonical_fraction_rest.false c.is_zulu.ensures)

pub returns-in-None : goal.returns-in-None
returns-in-None c =
    let after : List ℕ = c.in-Some-after_canonical_second.rest.now in
    with_second c.args.contents.now c.in-Some.rest.now after c.is_zulu-in-None.result c.in-Some.ensures
    c.in-Some-after_canonical_second.ensures
    (maybe-left canonical_fraction (mark 90) after false c.is_zulu-in-None.result
    (sym (no_rest_then (mark 46) (digits followed_by octet_between 49 57) after c.in-None.ensures (mark 90))) refl
    c.is_zulu-in-None.ensures)
