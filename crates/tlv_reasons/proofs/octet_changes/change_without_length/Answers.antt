use Rattle.std.proofs.Common.{true, false, ◌≡◌, ◌∙◌, sym}
use Rattle.tlv_reasons.proofs.OctetLemmas.{if_ok-along}
use Rattle.tlv_reasons.specs.OneOctet.{left_over, not_searched, searched}
use Rattle.tlv_reasons.proofs.octet_changes.change_without_length.Goals as goal

pub returns-then-octets-gt-SEARCH_LIMIT : goal.returns-then-octets-gt-SEARCH_LIMIT
returns-then-octets-gt-SEARCH_LIMIT c = not_searched c.if-octets-gt-SEARCH_LIMIT.true

pub returns-then-is_sound_without_last : goal.returns-then-is_sound_without_last
returns-then-is_sound_without_last c =
    left_over c.if-octets-gt-SEARCH_LIMIT.false (c.is_sound_without_last.ensures.0 c.if-is_sound_without_last.true)

pub returns : goal.returns
returns c = if_ok-along c.first_change.result
    (λ found. searched c.if-octets-gt-SEARCH_LIMIT.false
    (λ s. let e : true ≡ false = sym (c.is_sound_without_last.ensures.1 s) ∙ c.if-is_sound_without_last.false in cc))
    c.first_change.ensures
