use Rattle.std.proofs.Common.{◌≡◌, ◌++◌, ◌∷◌, ◌∙◌, [], slice_index, rules, arith, true, sym}
use Rattle.hex.specs.Hex.{is_hex_digit}
use Rattle.tlv_text.proofs.DumpPairLemmas.{first-is_no_digit, no-pair, pair-counted, pair-more, second-is_no_digit}
use Rattle.tlv_text.proofs.DumpPairLemmas.{short-is_no_pair}
use Rattle.tlv_text.proofs.PairLemmas.{pairs-and_one}
use Rattle.tlv_text.proofs.dump.pairs.take_pairs.Goals as goal

pub loop-left-preserved : goal.loop-left-preserved
loop-left-preserved c =
    let i = c.loop-left.invariant in
    let x : is_hex_digit (slice_index c.after_gap.result.now 0) ≡ true = sym c.is_digit.ensures ∙ c.if-is_digit.true in
    let y : is_hex_digit (slice_index c.after_gap.result.now 1) ≡ true =
    sym c.is_digit-then-is_digit.ensures ∙ c.if-is_digit-2.true in
    let fits = c.try_extend_from_slice.ensures.variant.1
    (omega (arith, i.pairs.even, c.if-len-lt-DIGITS.true, c.len.ensures.value)) in
    let both : c.try_extend_from_slice.new.self.items
    ≡ c.loop-left.digits.items ++ slice_index c.after_gap.result.now 0 ∷ slice_index c.after_gap.result.now 1 ∷ [] =
    search rules in
    record {
      pairs = rw both (pairs-and_one c.loop-left.digits.items _ _ i.pairs x y);
      read = rw both (pair-more _ c.loop-left.left c.args.gap c.loop-left.rest.now c.after_gap.result.now
          c.loop-left.digits.items c.loop-left-test.true c.after_gap.ensures c.in-len2-up.len_at_least x y i.pairs
          i.read);
      count = rw both (pair-counted c.loop-left.digits.items _ _ c.loop-left.left _ c.loop-left-test.true i.pairs
          i.count);
    }

pub returns-in_default-clause-last : goal.returns-in_default-clause-last
returns-in_default-clause-last c = λ less.
    no-pair c.loop-left.left c.args.gap c.loop-left.rest.now c.after_gap.result.now c.loop-left-test.true
    c.after_gap.ensures (short-is_no_pair c.after_gap.result.now c.in_default.len_below)

pub returns-in_default-2-clause-last : goal.returns-in_default-2-clause-last
returns-in_default-2-clause-last c = λ less.
    no-pair c.loop-left.left c.args.gap c.loop-left.rest.now c.after_gap.result.now c.loop-left-test.true
    c.after_gap.ensures
    (second-is_no_digit c.after_gap.result.now (sym c.is_digit.ensures ∙ c.if-is_digit.true)
    (sym c.is_digit-then-is_digit.ensures ∙ c.if-is_digit-2.false))

pub returns-in_default-3-clause-last : goal.returns-in_default-3-clause-last
returns-in_default-3-clause-last c = λ less.
    no-pair c.loop-left.left c.args.gap c.loop-left.rest.now c.after_gap.result.now c.loop-left-test.true
    c.after_gap.ensures
    (first-is_no_digit c.after_gap.result.now (sym c.is_digit.ensures ∙ c.if-is_digit.false))
