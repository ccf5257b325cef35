use Rattle.std.proofs.Common.{◌≡◌, ◌∙◌, Bool, List, ℕ, ap, arith, sym}
use Rattle.tlv_text.proofs.DumpPairLemmas.{row-read}
use Rattle.tlv_text.specs.DumpLines.{after_blanks}
use Rattle.tlv_text.specs.DumpPairs.{gap_of, pairs_at}
use Rattle.tlv_text.specs.DumpWords.{are_other_octets}
use Rattle.tlv_text.specs.Private.PairSteps.{pair_octets}
use Rattle.tlv_text.specs.TextRead.{TextRead}
use Rattle.tlv_text.proofs.dump.words.has_other_octets.Goals as goal

pub returns : goal.returns
returns c =
    let t = c.take_pairs.ensures in
    let digits : List ℕ = c.take_pairs.new.digits.items in
    let rest : List ℕ = c.take_pairs.new.rest.now in
    let line : List ℕ = c.args.row.rest.now in
    let begins = sym c.begins_pair.ensures.pair ∙ c.if-not-begins_pair.false in
    let read : pairs_at 256 (gap_of 1 line) c.before_pairs-rest.result.now
    ≡ record { octets = pair_octets digits; rest = rest } =
    row-read 256 c.take_pairs.result (gap_of 1 line) c.before_pairs-rest.result.now c.take_first.new.digits.items rest
    digits (omega arith) (omega arith) begins c.take_first.ensures.pair
    (rw (c.gap_of.ensures, c.take_first.ensures.rest) at t.read) t.count (rw c.gap_of.ensures at t.last) in
    let found : TextRead → Bool = λ r. are_other_octets r.octets (after_blanks r.rest) in
    c.are_others_shown.ensures
    ∙ rw (c.as_slice.ensures.value, c.after_blanks.ensures) (ap found (sym read))
    ∙ ap (λ (text : List ℕ). found (pairs_at 256 (gap_of 1 line) text)) c.before_pairs-rest.ensures
