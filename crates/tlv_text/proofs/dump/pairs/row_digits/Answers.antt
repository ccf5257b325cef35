use Rattle.std.proofs.Common.{◌≡◌, ◌/◌, ◌==◌, ◌∙◌, ◌&&◌, ◌||◌, List, ℕ, ap, length, not, sym}
use Rattle.tlv_text.proofs.DumpLemmas.{pair_octets-length}
use Rattle.tlv_text.proofs.DumpPairLemmas.{row-octets, row-read}
use Rattle.tlv_text.specs.DumpPairs.{after_few, begins_digit, begins_lone_pair, ends_line, gap_of}
use Rattle.tlv_text.specs.Private.DumpSteps.{row_seen}
use Rattle.tlv_text.specs.Private.PairSteps.{pair_octets}
use Rattle.tlv_text.proofs.dump.pairs.row_digits.Goals as goal

pub returns-clause-octets : goal.returns-clause-octets
returns-clause-octets c =
    let t = c.take_pairs-octets.ensures in
    let digits = c.take_pairs-octets.new.digits.items in
    let rest : List ℕ = c.take_pairs-octets.new.rest.now in
    let begins = sym c.begins_pair.ensures.pair ∙ c.if-not-begins_pair.false in
    let size : c.len-octets.result / 2 ≡ length (pair_octets digits) =
    ap (λ (n : ℕ). n / 2) c.len-octets.ensures.value ∙ sym (pair_octets-length digits) in
    row-octets c.args.size (row_seen c.args.row) c.before_pairs-after.result.now rest (pair_octets digits) _
    c.before_pairs-after.ensures begins
    (row-read c.args.size c.take_pairs-octets.result (gap_of 2 c.args.row.rest.now) c.before_pairs-after.result.now
    c.take_first.new.digits.items rest digits c.requires.some c.requires.few begins
    c.take_first.ensures.pair (rw (c.gap_of-gap.ensures, c.take_first.ensures.rest) at t.read) t.count
    (rw c.gap_of-gap.ensures at t.last))
    (rw c.gap_of-gap.ensures at c.ends_row.ensures
    ∙ ap (λ (n : ℕ). not (begins_digit rest || ((n == c.args.size) && begins_lone_pair (after_few 1 rest)))
    && ends_line (gap_of 2 c.args.row.rest.now).prefixed c.args.row.offset n rest) size)
