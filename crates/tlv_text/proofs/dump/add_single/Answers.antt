use Rattle.std.proofs.Common.{◌≡◌, ◌∙◌, List, ℕ, Option, rules, subst, sym, true}
use Rattle.tlv_text.proofs.DumpPairLemmas.{single-octets}
use Rattle.tlv_text.proofs.DumpStepLemmas.{first-added}
use Rattle.tlv_text.specs.DumpPairs.{has_single_offset}
use Rattle.tlv_text.specs.Private.DumpSteps.{IsFirstRow, row_seen}
use Rattle.tlv_text.proofs.dump.add_single.Goals as goal

pub returns-then-not-begins_digit : goal.returns-then-not-begins_digit
returns-then-not-begins_digit c =
    let found = c.in_ok-octets.ensures in
    let single : has_single_offset (row_seen c.args.row) ≡ true = search rules in
    subst
    (λ (octets : Option (List ℕ)). IsFirstRow octets c.ends_line.result c.args.output.now c.add_pairs.new.output)
    (single-octets (row_seen c.args.row) c.gap_of-gap.result c.before_pairs-text.result.now c.in_ok-octets.rest.now
    c.in_ok-octets.octets c.ends_line.result single c.gap_of-gap.ensures c.before_pairs-text.ensures
    (sym c.begins_pair.ensures.pair ∙ c.if-not-begins_pair.false) found.count found.rest
    (sym c.begins_digit.ensures ∙ c.if-not-begins_digit.true) c.ends_line.ensures)
    (first-added c.ends_line.result _ c.args.output.now c.add_pairs.new.output found.octets)
