use Rattle.std.proofs.Common.{◌≡◌, ℕ, List, sym, ◌∙◌}
use Rattle.tlv_value.specs.Private.TimeParts.{canonical_second}
use Rattle.tlv_value.specs.Times.{canonical_clock, canonical_utc_time_form, mark, month_and_day, year_digits, ◌followed_by◌}
use Rattle.tlv_value.proofs.CheckLemmas.Forms.{three-apart}
use Rattle.tlv_value.proofs.time.utc_canonical.Goals as goal

-- the second, and what follows it
second-apart : (c : List ℕ) → (canonical_second followed_by mark 90) c ≡ canonical_utc_time_form c
second-apart c = three-apart year_digits month_and_day canonical_clock (mark 90) c

pub returns-in-Some : goal.returns-in-Some
returns-in-Some c =
    c.is_zulu.ensures ∙ sym (c.in-Some.ensures (mark 90)) ∙ second-apart c.args.contents.now

pub returns-in-None : goal.returns-in-None
returns-in-None c = sym (c.in-None.ensures (mark 90)) ∙ second-apart c.args.contents.now
